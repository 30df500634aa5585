-- The picture and the table of INFO0 are V.34's Table 14: its sequence is that of the table printed bit by bit. So it is said exactly which
-- sequences are read with 0, and which fields are written with 0. Assumes nothing.
use mathlib.Core.Bool.{true}
use mathlib.Core.List.{List, ◌∷◌, ◌++◌}
use mathlib.Core.Logic.{◌↔◌}
use mathlib.Core.Path.{◌≡◌, refl, ap, ap₂}
use Prim.Native.Nat.{ℕ, ◌≤◌, ◌<◌}
use native.Mathlib.Omega.{arith}
use lib.ListN.{length, get_or}
use Rattle.laws.proofs.Bools.{and_both}
use Rattle.bits.specs.Digits.{digits}
use Rattle.sequences.specs.Picture.{fixed, places, free}
use Rattle.sequences.specs.Table.{up_to, fields_in, field_bits, in_range, is_laid, bit_count}
use Rattle.sequences.specs.Sequence.{is_whole, fields_refusal, sequence_refusal, sequence_of}
use Rattle.sequences.proofs.Listed.{one_by_one}
use Rattle.sequences.proofs.Named.{Printed, read_as_printed}
use Rattle.sequences.proofs.Named as named
use Rattle.sequences.proofs.Tables.{range_at, lies-up_to, bit-is_digit}
use Rattle.info.specs.Frame.{fill, sync, framed}
use Rattle.info.specs.Info0.{info0, numbers_of}
use Rattle.info.specs.Table14.{Sayable, said, sequence14}
use Rattle.info.specs.declared.info0.Info0.{Info0}
use Rattle.info.proofs.Frames.{sent_as_printed}

pub whole0 : is_whole info0 ≡ true
unfolding is_whole is_laid free bit_count info0 framed fixed places fill sync
whole0 = refl

-- the fields of fourteen numbers
abbrev pub fields_of : List ℕ → Info0
fields_of l =
    record {
      support_2743 = get_or l 0 0;
      support_2800 = get_or l 1 0;
      support_3429 = get_or l 2 0;
      low_3000 = get_or l 3 0;
      high_3000 = get_or l 4 0;
      low_3200 = get_or l 5 0;
      high_3200 = get_or l 6 0;
      allowed_3429 = get_or l 7 0;
      reduction = get_or l 8 0;
      difference = get_or l 9 0;
      cme = get_or l 10 0;
      mark = get_or l 11 0;
      clock = get_or l 12 0;
      acknowledged = get_or l 13 0;
    }

pub numbers_of-fields_of : (l : List ℕ) → length l ≡ 14 → numbers_of (fields_of l) ≡ l
numbers_of-fields_of l e = one_by_one 14 l e

module _ (f : Info0) where
  -- the ranges of the table are those of the names
  pub sayable : in_range info0.table (numbers_of f) ≡ true → Sayable f
  unfolding info0
  sayable r =
      record {
        support2743 = at 0 (omega arith);
        support2800 = at 1 (omega arith);
        support3429 = at 2 (omega arith);
        low3000 = at 3 (omega arith);
        high3000 = at 4 (omega arith);
        low3200 = at 5 (omega arith);
        high3200 = at 6 (omega arith);
        allowed3429 = at 7 (omega arith);
        reduction = at 8 (omega arith);
        difference = at 9 (omega arith);
        cme = at 10 (omega arith);
        mark = at 11 (omega arith);
        clock = at 12 (omega arith);
        acknowledged = at 13 (omega arith);
      }
    where
      at : (k : ℕ) → k < length info0.table → get_or (numbers_of f) k 0 ≤ (get_or info0.table k (up_to 0 0 0)).most
      at k h = (range_at info0.table (numbers_of f) k (up_to 0 0 0) r h).1

  module _ (h : Sayable f) where
    pub in-range : in_range info0.table (numbers_of f) ≡ true
    unfolding in_range info0
    in-range =
        and_both _ _ (lies-up_to 12 1 1 f.support_2743 h.support2743)
        (and_both _ _ (lies-up_to 13 1 1 f.support_2800 h.support2800)
        (and_both _ _ (lies-up_to 14 1 1 f.support_3429 h.support3429)
        (and_both _ _ (lies-up_to 15 1 1 f.low_3000 h.low3000)
        (and_both _ _ (lies-up_to 16 1 1 f.high_3000 h.high3000)
        (and_both _ _ (lies-up_to 17 1 1 f.low_3200 h.low3200)
        (and_both _ _ (lies-up_to 18 1 1 f.high_3200 h.high3200)
        (and_both _ _ (lies-up_to 19 1 1 f.allowed_3429 h.allowed3429)
        (and_both _ _ (lies-up_to 20 1 1 f.reduction h.reduction)
        (and_both _ _ (lies-up_to 21 3 5 f.difference h.difference)
        (and_both _ _ (lies-up_to 24 1 1 f.cme h.cme)
        (and_both _ _ (lies-up_to 25 1 1 f.mark h.mark)
        (and_both _ _ (lies-up_to 26 2 2 f.clock h.clock)
        (and_both _ _ (lies-up_to 28 1 1 f.acknowledged h.acknowledged) refl)))))))))))))

    -- bits 12 to 28
    bits-said : field_bits info0.table (numbers_of f) ≡ said f
    unfolding field_bits digits info0
    bits-said =
        ap₂ ◌∷◌ (bit-is_digit f.support_2743 h.support2743)
        (ap₂ ◌∷◌ (bit-is_digit f.support_2800 h.support2800)
        (ap₂ ◌∷◌ (bit-is_digit f.support_3429 h.support3429)
        (ap₂ ◌∷◌ (bit-is_digit f.low_3000 h.low3000)
        (ap₂ ◌∷◌ (bit-is_digit f.high_3000 h.high3000)
        (ap₂ ◌∷◌ (bit-is_digit f.low_3200 h.low3200)
        (ap₂ ◌∷◌ (bit-is_digit f.high_3200 h.high3200)
        (ap₂ ◌∷◌ (bit-is_digit f.allowed_3429 h.allowed3429)
        (ap₂ ◌∷◌ (bit-is_digit f.reduction h.reduction)
        (ap (λ (l : List ℕ). digits 3 f.difference ++ l)
        (ap₂ ◌∷◌ (bit-is_digit f.cme h.cme)
        (ap₂ ◌∷◌ (bit-is_digit f.mark h.mark)
        (ap (λ (l : List ℕ). digits 2 f.clock ++ l) (ap₂ ◌∷◌ (bit-is_digit f.acknowledged h.acknowledged) refl)))))))))))))

    pub sequence_is_14 : sequence_of info0 (numbers_of f) ≡ sequence14 f
    unfolding info0 bit_count
    sequence_is_14 = sent_as_printed 17 info0.table (numbers_of f) (said f) refl bits-said

-- so INFO0 is as Table 14 prints it
pub printed14 : Printed info0 numbers_of fields_of Sayable sequence14
unfolding info0
printed14 =
    record {
      whole = whole0;
      count = λ f. refl;
      numbers-back = λ l e r. one_by_one 14 l e;
      fields_back = λ f h. refl;
      sayable = sayable;
      ranged = in-range;
      spelt = sequence_is_14;
    }

pub read_as_14 :
    (bits : List ℕ) (f : Info0) → fields_refusal info0 bits ≡ 0 → numbers_of f ≡ fields_in info0.table bits
    → Sayable f × (bits ≡ sequence14 f)
read_as_14 = read_as_printed info0 numbers_of fields_of Sayable sequence14 printed14

-- exactly which sequences are read with 0
pub reads_exactly : (bits : List ℕ) → (fields_refusal info0 bits ≡ 0) ↔ ((f : Info0) × Sayable f × (bits ≡ sequence14 f))
reads_exactly = named.reads_exactly info0 numbers_of fields_of Sayable sequence14 printed14

-- exactly which fields are written with 0
pub writes_exactly : (f : Info0) (lent : ℕ) → (sequence_refusal info0 (numbers_of f) lent ≡ 0) ↔ (Sayable f × (lent ≡ 49))
unfolding info0 framed fixed places fill sync
writes_exactly = named.writes_exactly info0 numbers_of fields_of Sayable sequence14 printed14
