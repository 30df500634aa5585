-- The mark that a reader's answer carries is bit 25 of the sequence, so it is 0 or 1, and nothing else decides it: the two sequences of the
-- same fields with mark 0 and with mark 1 are both read, and differ in bit 25 and in their check alone. Assumes nothing.
use mathlib.Core.List.{List}
use mathlib.Core.Path.{◌≡◌, refl, sym, ap, ◌∙◌}
use Prim.Native.Nat.{ℕ, ◌≤◌}
use lib.ListN.{get_or, take, drop}
use lib.Seq.{drop_at}
use Rattle.bits.specs.Digits.{digits}
use Rattle.sequences.specs.Register.{crc}
use Rattle.sequences.specs.Sequence.{fields_refusal, FieldsAnswer}
use Rattle.sequences.proofs.Registers.{length-crc}
use Rattle.sequences.proofs.Trips.{fields-accepted}
use Rattle.info.specs.Frame.{fill, sync}
use Rattle.info.specs.Info0.{info0, numbers_of}
use Rattle.info.specs.Table14.{Sayable, said, sequence14}
use Rattle.info.specs.declared.info0.Info0.{Info0}
use Rattle.info.proofs.Rows14.{read_as_14, reads_exactly}

-- what an answer with 0 says: the fields are sayable, and the bits are their sequence
module _ (bits : List ℕ) (r : ℕ) (f : Info0) (answer : FieldsAnswer info0 bits r (numbers_of f)) (zero : r ≡ 0) where
  pub read_is_14 : Sayable f × (bits ≡ sequence14 f)
  read_is_14 = read_as_14 bits f (sym answer.number ∙ zero) (fields-accepted info0 bits r (numbers_of f) answer zero)

  pub mark_is_bit_25 : f.mark ≡ get_or bits 25 0
  unfolding fill sync digits
  mark_is_bit_25 = sym (ap (λ (l : List ℕ). get_or l 25 0) read_is_14.1)

  pub mark_is_stated : f.mark ≤ 1
  mark_is_stated = read_is_14.0.mark

-- the same fields with another mark
abbrev pub with_mark : Info0 → ℕ → Info0
with_mark f mark =
    record {
      support_2743 = f.support_2743;
      support_2800 = f.support_2800;
      support_3429 = f.support_3429;
      low_3000 = f.low_3000;
      high_3000 = f.high_3000;
      low_3200 = f.low_3200;
      high_3200 = f.high_3200;
      allowed_3429 = f.allowed_3429;
      reduction = f.reduction;
      difference = f.difference;
      cme = f.cme;
      mark = mark;
      clock = f.clock;
      acknowledged = f.acknowledged;
    }

-- two sequences that differ in bit 25, where one has 0 and the other 1, and in bits 29 to 44 alone
pub record DifferInMark (one other : List ℕ) : Type 0 where
  pub before : take 25 one ≡ take 25 other
  pub none : get_or one 25 0 ≡ 0
  pub some : get_or other 25 0 ≡ 1
  pub behind : take 3 (drop 26 one) ≡ take 3 (drop 26 other)
  pub last : drop 45 one ≡ drop 45 other

-- behind the check stands the fill
last_fill : (f : Info0) → drop 45 (sequence14 f) ≡ fill
unfolding fill sync digits
last_fill f = drop_at (crc (said f)) fill 16 (length-crc (said f))

module _ (f : Info0) (h : Sayable f) where
  with-mark : (mark : ℕ) → mark ≤ 1 → Sayable (with_mark f mark)
  with-mark mark k =
      record {
        support2743 = h.support2743;
        support2800 = h.support2800;
        support3429 = h.support3429;
        low3000 = h.low3000;
        high3000 = h.high3000;
        low3200 = h.low3200;
        high3200 = h.high3200;
        allowed3429 = h.allowed3429;
        reduction = h.reduction;
        difference = h.difference;
        cme = h.cme;
        mark = k;
        clock = h.clock;
        acknowledged = h.acknowledged;
      }

  pub both-marks-read : (mark : ℕ) → mark ≤ 1 → fields_refusal info0 (sequence14 (with_mark f mark)) ≡ 0
  both-marks-read mark k = (reads_exactly (sequence14 (with_mark f mark))).1 (with_mark f mark, with-mark mark k, refl)

  pub bit_25_alone : DifferInMark (sequence14 (with_mark f 0)) (sequence14 (with_mark f 1))
  unfolding fill sync digits
  bit_25_alone =
      record {
        before = refl;
        none = refl;
        some = refl;
        behind = refl;
        last = last_fill (with_mark f 0) ∙ sym (last_fill (with_mark f 1));
      }
