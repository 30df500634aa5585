-- The picture and the table of INFO1c are V.34's Table 15: its sequence is that of the table printed bit by bit. So it is said exactly
-- which sequences are read with 0, and which fields and counts are written with 0. Assumes nothing.
use mathlib.Core.Bool.{Bool, true, cond}
use mathlib.Core.List.{List, [], ◌∷◌, ◌++◌, append-nil}
use mathlib.Core.Logic.{◌↔◌}
use mathlib.Core.Path.{◌≡◌, refl, sym, ap, ap₂, ◌∙◌}
use Prim.Native.Nat.{ℕ, suc, ◌+◌, ◌*◌, ◌-◌, ◌≤◌, ◌<◌}
use native.Mathlib.Omega.{arith}
use lib.Dec.{leb→le, le→leb}
use lib.IntN.{ℤ, pos, negsuc}
use lib.ListN.{length, get_or}
use lib.Signed.{mag, ◌≤ℤ◌}
use borrow.Author.Tests.{lt-ltb}
use Rattle.laws.proofs.Bools.{and_both}
use Rattle.bits.specs.Digits.{value, digits}
use Rattle.bits.proofs.Digitals.{bits-append, bits-digits, value-append, value-digits, digits_value}
use Rattle.sequences.specs.Picture.{fixed, places, free}
use Rattle.sequences.specs.declared.Field.{Field}
use Rattle.sequences.specs.Table.{up_to, field_bits, in_range, is_laid, bit_count}
use Rattle.sequences.specs.Sequence.{is_whole, fields_refusal, sequence_refusal, sequence_of}
use Rattle.sequences.proofs.Listed.{one_by_one}
use Rattle.sequences.proofs.Named.{Printed}
use Rattle.sequences.proofs.Named as named
use Rattle.sequences.proofs.Tables.{range_at, lies-up_to, bit-is_digit}
use Rattle.offset.specs.Signed.{signed}
use Rattle.offset.proofs.Signs.{unsigned_signed, signed-unsigned, held}
use Rattle.info.specs.Frame.{fill, sync, framed}
use Rattle.info.specs.Info1c.{block, info1c, block_numbers, numbers_of, fields_of, count_of, count_bits}
use Rattle.info.specs.Table15.{SayableBlock, Sayable, said_block, said_count, said, sequence15}
use Rattle.info.specs.declared.info1c.Block.{Block}
use Rattle.info.specs.declared.info1c.Info1c.{Info1c}
use Rattle.info.proofs.Frames.{sent_as_printed}

pub whole1c : is_whole info1c ≡ true
unfolding is_whole is_laid free bit_count block info1c framed fixed places fill sync
whole1c = refl

-- fields and a count, and their numbers, in the order of the table
abbrev pub Said : Type 0
Said = Info1c × ℤ

abbrev pub numbers_said : Said → List ℕ
numbers_said p = numbers_of p.0 (count_bits p.1)

abbrev pub said_by : List ℕ → Said
said_by numbers = (fields_of numbers, count_of numbers)

abbrev pub MaySay : Said → Type 0
MaySay p = Sayable p.0 p.1

abbrev pub sequence_said : Said → List ℕ
sequence_said p = sequence15 p.0 p.1

-- a block, before any further fields
module _ (first : ℕ) (b : Block) (h : SayableBlock b) (table : List Field) (numbers : List ℕ) where
  block-in_range : in_range table numbers ≡ true → in_range (block first ++ table) (block_numbers b ++ numbers) ≡ true
  unfolding in_range block
  block-in_range rest =
      and_both _ _ (lies-up_to first 1 1 b.carrier h.carrier)
      (and_both _ _ (lies-up_to (first + 1) 4 10 b.filter h.filter)
      (and_both _ _ (lies-up_to (first + 5) 4 14 b.rate h.rate) rest))

  block-said :
      (bits : List ℕ) → field_bits table numbers ≡ bits → field_bits (block first ++ table) (block_numbers b ++ numbers) ≡ said_block b ++ bits
  unfolding field_bits digits block
  block-said bits rest =
      ap₂ ◌∷◌ (bit-is_digit b.carrier h.carrier) (ap (λ (l : List ℕ). digits 4 b.filter ++ (digits 4 b.rate ++ l)) rest)

-- the count: −512 to 511, so ten bits hold it
count_held : (count : ℤ) → negsuc 511 ≤ℤ count → count ≤ℤ pos 511 → mag count < 512
count_held (pos n) least most = omega (arith, leb→le n 511 most.le)
count_held (negsuc n) least most = omega (arith, leb→le n 511 least.le)

held-count : (count : ℤ) → mag count < 512 → (negsuc 511 ≤ℤ count) × (count ≤ℤ pos 511)
held-count (pos n) h = (record { le = tt }, record { le = le→leb n 511 (omega arith) })
held-count (negsuc n) h = (record { le = le→leb n 511 (omega arith) }, record { le = tt })

-- each of them comes back from its bits
pub count-comes_back : (count : ℤ) → mag count < 512 → signed 512 (count_bits count) ≡ count
count-comes_back count h = signed-unsigned 512 count ((held 512 count).1 h)

-- nine bits and a sign
nine_and_sign : (n sign : ℕ) → n < 512 → sign ≤ 1 → digits 10 (n + 512 * sign) ≡ digits 9 n ++ sign ∷ []
unfolding digits value
nine_and_sign n sign h s =
    let bits = digits 9 n ++ sign ∷ [] in
    let is : value bits ≡ n + 512 * sign =
    value-append (digits 9 n) (sign ∷ []) ∙ (ap₂ ◌+◌ (value-digits 9 n h) (omega arith)) in
    ap (digits 10) (sym is) ∙ digits_value bits (bits-append (digits 9 n) (sign ∷ []) (bits-digits 9 n) (s, tt))

count-said : (count : ℤ) → mag count < 512 → digits 10 (count_bits count) ≡ said_count count
count-said (pos n) h =
    ap (digits 10) (ap (λ (v : Bool). cond v n 1024) (lt-ltb n 512 h) ∙ omega arith) ∙ nine_and_sign n 0 h (omega arith)
count-said (negsuc n) h =
    ap (digits 10) (ap (λ (v : Bool). cond v (1024 - suc n) 1024) (lt-ltb n 512 h) ∙ omega arith)
    ∙ nine_and_sign (511 - n) 1 (omega arith) (omega arith)

module _ (f : Info1c) (count : ℤ) where
  abbrev numbers : List ℕ
  numbers = numbers_of f (count_bits count)

  -- the ranges of the table are those of the names
  pub sayable : in_range info1c.table numbers ≡ true → Sayable f count
  unfolding info1c block
  sayable r =
      let both = held-count count ((held 512 count).0 (omega (arith, at 21 (omega arith)))) in
      record {
        power = at 0 (omega arith);
        extra = at 1 (omega arith);
        md = at 2 (omega arith);
        at2400 = record { carrier = at 3 (omega arith); filter = at 4 (omega arith); rate = at 5 (omega arith) };
        at2743 = record { carrier = at 6 (omega arith); filter = at 7 (omega arith); rate = at 8 (omega arith) };
        at2800 = record { carrier = at 9 (omega arith); filter = at 10 (omega arith); rate = at 11 (omega arith) };
        at3000 = record { carrier = at 12 (omega arith); filter = at 13 (omega arith); rate = at 14 (omega arith) };
        at3200 = record { carrier = at 15 (omega arith); filter = at 16 (omega arith); rate = at 17 (omega arith) };
        at3429 = record { carrier = at 18 (omega arith); filter = at 19 (omega arith); rate = at 20 (omega arith) };
        least = both.0;
        most = both.1;
      }
    where
      at : (k : ℕ) → k < length info1c.table → get_or numbers k 0 ≤ (get_or info1c.table k (up_to 0 0 0)).most
      at k h = (range_at info1c.table numbers k (up_to 0 0 0) r h).1

  module _ (h : Sayable f count) where
    fits : mag count < 512
    fits = count_held count h.least h.most

    pub in-range : in_range info1c.table numbers ≡ true
    unfolding in_range info1c
    in-range =
        and_both _ _ (lies-up_to 12 3 7 f.power h.power)
        (and_both _ _ (lies-up_to 15 3 7 f.extra h.extra)
        (and_both _ _ (lies-up_to 18 7 127 f.md h.md)
        (block-in_range 25 f.at_2400 h.at2400 _ _
        (block-in_range 34 f.at_2743 h.at2743 _ _
        (block-in_range 43 f.at_2800 h.at2800 _ _
        (block-in_range 52 f.at_3000 h.at3000 _ _
        (block-in_range 61 f.at_3200 h.at3200 _ _
        (block-in_range 70 f.at_3429 h.at3429 _ _
        (and_both _ _ (lies-up_to 79 10 1023 (count_bits count) (omega (arith, (held 512 count).1 fits))) refl)))))))))

    -- bits 12 to 88
    bits-said : field_bits info1c.table numbers ≡ said f count
    unfolding field_bits digits info1c
    bits-said =
        ap (λ (l : List ℕ). digits 3 f.power ++ (digits 3 f.extra ++ (digits 7 f.md ++ l)))
        (block-said 25 f.at_2400 h.at2400 _ _ _
        (block-said 34 f.at_2743 h.at2743 _ _ _
        (block-said 43 f.at_2800 h.at2800 _ _ _
        (block-said 52 f.at_3000 h.at3000 _ _ _
        (block-said 61 f.at_3200 h.at3200 _ _ _
        (block-said 70 f.at_3429 h.at3429 _ _ _ (append-nil (digits 10 (count_bits count)) ∙ count-said count fits)))))))

    pub sequence_is_15 : sequence_of info1c numbers ≡ sequence15 f count
    unfolding info1c block bit_count
    sequence_is_15 = sent_as_printed 77 info1c.table numbers (said f count) refl bits-said

-- the last number is one of ten bits
pub last_held : (numbers : List ℕ) → in_range info1c.table numbers ≡ true → get_or numbers 21 0 < 1024
unfolding info1c block
last_held numbers r = omega (arith, (range_at info1c.table numbers 21 (up_to 0 0 0) r (omega arith)).1)

-- so INFO1c is as Table 15 prints it
pub printed15 : Printed info1c numbers_said said_by MaySay sequence_said
unfolding info1c block
printed15 =
    record {
      whole = whole1c;
      count = λ p. refl;
      numbers-back = λ l e r. ap (numbers_of (fields_of l)) (unsigned_signed 512 (get_or l 21 0) (last_held l r)) ∙ one_by_one 22 l e;
      fields_back = λ p h. ap (λ (z : ℤ). (p.0, z)) (count-comes_back p.1 (fits p.0 p.1 h));
      sayable = λ p. sayable p.0 p.1;
      ranged = λ p. in-range p.0 p.1;
      spelt = λ p. sequence_is_15 p.0 p.1;
    }

-- exactly which sequences are read with 0
pub reads_exactly :
    (bits : List ℕ) → (fields_refusal info1c bits ≡ 0) ↔ ((p : Said) × Sayable p.0 p.1 × (bits ≡ sequence15 p.0 p.1))
reads_exactly = named.reads_exactly info1c numbers_said said_by MaySay sequence_said printed15

-- exactly which fields are written with 0
pub writes_exactly :
    (f : Info1c) (count : ℤ) (lent : ℕ)
    → (sequence_refusal info1c (numbers_of f (count_bits count)) lent ≡ 0) ↔ (Sayable f count × (lent ≡ 109))
unfolding info1c framed fixed places fill sync
writes_exactly f count = named.writes_exactly info1c numbers_said said_by MaySay sequence_said printed15 (f, count)
