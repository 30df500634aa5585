-- The picture and the table of Jp are V.92's Table 22: its sequence is that of the table printed bit by bit. So it is said exactly which
-- sequences are read with 0, whatever stands in their reserved places, and which fields are written with 0. Assumes nothing.
use mathlib.Core.Bool.{true}
use mathlib.Core.List.{List, [], ◌∷◌, ◌++◌, append-nil, append_assoc}
use mathlib.Core.Logic.{◌↔◌}
use mathlib.Core.Path.{◌≡◌, refl, sym, ap, ap₂, ◌∙◌}
use Prim.Native.Nat.{ℕ, ◌≤◌, ◌<◌}
use native.Mathlib.Omega.{arith}
use lib.ListN.{length, get_or, replicate}
use Rattle.laws.proofs.Bools.{and_both}
use Rattle.bits.specs.Digits.{digits}
use Rattle.sequences.specs.Picture.{fixed, places, free, around}
use Rattle.sequences.specs.Register.{crc}
use Rattle.sequences.specs.Table.{up_to, field_bits, in_range, is_laid, bit_count}
use Rattle.sequences.specs.Sequence.{is_whole, sealed, sequence_of, fields_refusal, sequence_refusal}
use Rattle.sequences.proofs.Listed.{one_by_one}
use Rattle.sequences.proofs.Named.{Printed}
use Rattle.sequences.proofs.Named as named
use Rattle.sequences.proofs.Pictures.{around-places}
use Rattle.sequences.proofs.Registers.{length-crc}
use Rattle.sequences.proofs.Tables.{range_at, lies-up_to, bit-is_digit}
use Rattle.jp.specs.Jp.{start_and_sixteen, jp, numbers_of, sent_numbers, fields_of}
use Rattle.jp.specs.Table22.{Sayable, Content, Receivable, sent, first16, second16, sequence22}
use Rattle.jp.specs.declared.sequence.Jp.{Jp}

pub whole22 : is_whole jp ≡ true
unfolding is_whole is_laid free bit_count jp start_and_sixteen fixed places
whole22 = refl

-- what a sequence holds, as numbers in the order of the table, and back
abbrev pub numbers_in22 : Content → List ℕ
numbers_in22 c = numbers_of c.fields c.reserved c.last_reserved

abbrev pub content_of : List ℕ → Content
content_of l = record { fields = fields_of l; reserved = get_or l 1 0; last_reserved = get_or l 5 0 }

-- bit 47 is 1 in what is in range, so nothing is lost
content-back : (l : List ℕ) → length l ≡ 6 → in_range jp.table l ≡ true → numbers_in22 (content_of l) ≡ l
unfolding jp
content-back l e r =
    let both = range_at jp.table l 2 (up_to 0 0 0) r (omega arith) in
    let one : 1 ≡ get_or l 2 0 = omega (arith, both.0, both.1) in
    ap (λ (n : ℕ). get_or l 0 0 ∷ get_or l 1 0 ∷ n ∷ get_or l 3 0 ∷ get_or l 4 0 ∷ get_or l 5 0 ∷ []) one ∙ one_by_one 6 l e

module _ (c : Content) where
  -- the ranges of the table are those of the names
  pub receivable : in_range jp.table (numbers_in22 c) ≡ true → Receivable c
  unfolding jp
  receivable r =
      record {
        fields = record { fraction = at 0 (omega arith); training = at 3 (omega arith); renegotiation = at 4 (omega arith) };
        reserved = at 1 (omega arith);
        last_reserved = at 5 (omega arith);
      }
    where
      at : (k : ℕ) → k < length jp.table → get_or (numbers_in22 c) k 0 ≤ (get_or jp.table k (up_to 0 0 0)).most
      at k h = (range_at jp.table (numbers_in22 c) k (up_to 0 0 0) r h).1

  module _ (h : Receivable c) where
    pub in-range : in_range jp.table (numbers_in22 c) ≡ true
    unfolding in_range jp
    in-range =
        and_both _ _ (lies-up_to 18 16 65535 c.fields.fraction h.fields.fraction)
        (and_both _ _ (lies-up_to 35 12 4095 c.reserved h.reserved)
        (and_both _ _ refl
        (and_both _ _ (lies-up_to 48 1 1 c.fields.training h.fields.training)
        (and_both _ _ (lies-up_to 49 1 1 c.fields.renegotiation h.fields.renegotiation)
        (and_both _ _ (lies-up_to 50 1 1 c.last_reserved h.last_reserved) refl)))))

    -- bits 18 to 33, and 35 to 50
    bits-said : field_bits jp.table (numbers_in22 c) ≡ first16 c ++ second16 c
    unfolding field_bits digits jp
    bits-said =
        ap (λ (l : List ℕ). digits 16 c.fields.fraction ++ (digits 12 c.reserved ++ 1 ∷ l))
        (ap₂ ◌∷◌ (bit-is_digit c.fields.training h.fields.training)
        (ap₂ ◌∷◌ (bit-is_digit c.fields.renegotiation h.fields.renegotiation)
        (ap₂ ◌∷◌ (bit-is_digit c.last_reserved h.last_reserved) refl)))

-- a start bit stands before each sixteen
around-sixteen :
    (picture front body : List ℕ) → length front ≡ 16
    → around (start_and_sixteen ++ picture) (front ++ body) ≡ 0 ∷ (front ++ around picture body)
unfolding start_and_sixteen fixed around
around-sixteen picture front body e = ap (λ (l : List ℕ). 0 ∷ l) (around-places 16 picture front body e)

framed :
    (a b c : List ℕ) → length a ≡ 16 → length b ≡ 16 → length c ≡ 16
    → around jp.picture (a ++ (b ++ c)) ≡ replicate 17 1 ++ (0 ∷ (a ++ (0 ∷ (b ++ (0 ∷ (c ++ replicate 4 0))))))
unfolding jp fixed around
framed a b c l m n =
    let fill = fixed (replicate 4 0) in
    let last : around (start_and_sixteen ++ fill) c ≡ 0 ∷ (c ++ replicate 4 0) =
    ap (around (start_and_sixteen ++ fill)) (sym (append-nil c)) ∙ around-sixteen fill c [] n in
    let middle = around-sixteen (start_and_sixteen ++ fill) b c m in
    ap (λ (x : List ℕ). replicate 17 1 ++ x)
    (around-sixteen (start_and_sixteen ++ (start_and_sixteen ++ fill)) a (b ++ c) l
    ∙ ap (λ (x : List ℕ). 0 ∷ (a ++ x)) (middle ∙ ap (λ (x : List ℕ). 0 ∷ (b ++ x)) last))

pub sequence_is_22 : (c : Content) → Receivable c → sequence_of jp (numbers_in22 c) ≡ sequence22 c
unfolding sequence_of sealed digits
sequence_is_22 c h =
    let a = first16 c in
    let b = second16 c in
    ap (λ (l : List ℕ). around jp.picture (l ++ crc l)) (bits-said c h)
    ∙ (ap (around jp.picture) (append_assoc a b (crc (a ++ b)))
    ∙ framed a b (crc (a ++ b)) refl refl (length-crc (a ++ b)))

-- so Jp is as Table 22 prints it
pub printed22 : Printed jp numbers_in22 content_of Receivable sequence22
unfolding jp
printed22 =
    record {
      whole = whole22;
      count = λ c. refl;
      numbers-back = content-back;
      fields_back = λ c h. refl;
      sayable = receivable;
      ranged = in-range;
      spelt = sequence_is_22;
    }

-- exactly which sequences are read with 0
pub reads_exactly : (bits : List ℕ) → (fields_refusal jp bits ≡ 0) ↔ ((c : Content) × Receivable c × (bits ≡ sequence22 c))
reads_exactly = named.reads_exactly jp numbers_in22 content_of Receivable sequence22 printed22

-- what is sent may be received exactly where the fields may be said
pub sent_exactly : (f : Jp) → Receivable (sent f) ↔ Sayable f
sent_exactly f = (λ h. h.fields, λ h. record { fields = h; reserved = omega arith; last_reserved = omega arith })

-- exactly which fields are written with 0
pub writes_exactly : (f : Jp) (lent : ℕ) → (sequence_refusal jp (sent_numbers f) lent ≡ 0) ↔ (Sayable f × (lent ≡ 72))
unfolding jp start_and_sixteen fixed places
writes_exactly f lent =
    let all = named.writes_exactly jp numbers_in22 content_of Receivable sequence22 printed22 (sent f) lent in (
      λ e. let both = all.0 e in ((sent_exactly f).0 both.0, both.1),
      λ p. all.1 ((sent_exactly f).1 p.0, p.1),
    )
