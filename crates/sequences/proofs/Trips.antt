-- There and back, for the answers of any sequence whose picture and table pass the test: reading what was written and writing what was read
-- are the identity, and at most one answer fits. Assumes nothing.
use mathlib.Core.Bool.{Bool, true, cond}
use mathlib.Core.List.{List}
use mathlib.Core.Path.{◌≡◌, sym, ap, subst, ◌∙◌}
use Prim.Native.Nat.{ℕ}
use lib.ListN.{length, replicate}
use borrow.Author.Tests.{eq-eqb, ne_eqb}
use Rattle.sequences.specs.Sequence.{Sequence, is_whole, fields_refusal, sequence_refusal, sequence_of, FieldsAnswer, SequenceAnswer}
use Rattle.sequences.specs.Table.{fields_in, in_range}
use Rattle.sequences.proofs.Sequences.{reads, writes, written_by, written_is_read, fields_of-written, written_of-read}

module _ (s : Sequence) where
  -- what reader and writer give, where the answer is 0 and where not
  abbrev numbers_by : List ℕ → Bool → List ℕ
  numbers_by bits v = cond v (fields_in s.table bits) (replicate (length s.table) 0)

  abbrev bits_by : List ℕ → List ℕ → Bool → List ℕ
  bits_by numbers lent v = cond v (sequence_of s numbers) lent

  -- what the answers carry
  pub fields-accepted :
      (bits : List ℕ) (r : ℕ) (numbers : List ℕ) → FieldsAnswer s bits r numbers → r ≡ 0 → numbers ≡ fields_in s.table bits
  fields-accepted bits r numbers a z = a.fields ∙ ap (numbers_by bits) (eq-eqb (fields_refusal s bits) 0 (sym a.number ∙ z))

  pub sequence-accepted :
      (numbers lent : List ℕ) (r : ℕ) (after : List ℕ) → SequenceAnswer s numbers lent r after → r ≡ 0 → after ≡ sequence_of s numbers
  sequence-accepted numbers lent r after w z =
      w.sequence ∙ ap (bits_by numbers lent) (eq-eqb (sequence_refusal s numbers (length lent)) 0 (sym w.number ∙ z))

  -- and what makes one
  pub answer-fields : (bits : List ℕ) → fields_refusal s bits ≡ 0 → FieldsAnswer s bits 0 (fields_in s.table bits)
  answer-fields bits e = record { number = sym e; fields = sym (ap (numbers_by bits) (eq-eqb (fields_refusal s bits) 0 e)) }

  pub answer-zeros :
      (bits : List ℕ) (r : ℕ) → r ≡ fields_refusal s bits → (r ≡ 0 → ⊥) → FieldsAnswer s bits r (replicate (length s.table) 0)
  answer-zeros bits r n h =
      record { number = n; fields = sym (ap (numbers_by bits) (ne_eqb (fields_refusal s bits) 0 (λ e. h (n ∙ e)))) }

  pub answer_same :
      (numbers numbers' lent : List ℕ) (r : ℕ) (after : List ℕ) → numbers ≡ numbers'
      → SequenceAnswer s numbers lent r after → SequenceAnswer s numbers' lent r after
  answer_same numbers numbers' lent r after e a = subst (λ (l : List ℕ). SequenceAnswer s l lent r after) e a

  -- at most one answer fits
  pub fields-once :
      (bits : List ℕ) (r r' : ℕ) (numbers numbers' : List ℕ)
      → FieldsAnswer s bits r numbers → FieldsAnswer s bits r' numbers' → (r ≡ r') × (numbers ≡ numbers')
  fields-once bits r r' numbers numbers' a b = (a.number ∙ sym b.number, a.fields ∙ sym b.fields)

  pub sequence-once :
      (numbers lent : List ℕ) (r r' : ℕ) (after after' : List ℕ)
      → SequenceAnswer s numbers lent r after → SequenceAnswer s numbers lent r' after' → (r ≡ r') × (after ≡ after')
  sequence-once numbers lent r r' after after' a b = (a.number ∙ sym b.number, a.sequence ∙ sym b.sequence)

  module _ (test : is_whole s ≡ true) where
    pub read_what_was_written :
        (numbers lent : List ℕ) (r : ℕ) (after : List ℕ) (r' : ℕ) (numbers' : List ℕ) → length numbers ≡ length s.table
        → SequenceAnswer s numbers lent r after → r ≡ 0 → FieldsAnswer s after r' numbers' → (r' ≡ 0) × (numbers' ≡ numbers)
    read_what_was_written numbers lent r after r' numbers' count w z a =
        let ranges = (writes s numbers (length lent) (sym w.number ∙ z)).1 in
        let same = sequence-accepted numbers lent r after w z in
        let read : r' ≡ 0 = a.number ∙ (ap (fields_refusal s) same ∙ written_is_read s test numbers count ranges) in (
          read,
          fields-accepted after r' numbers' a read
              ∙ (ap (fields_in s.table) same ∙ fields_of-written s test numbers count ranges),
        )

    pub write_what_was_read :
        (bits : List ℕ) (r : ℕ) (numbers lent : List ℕ) (r' : ℕ) (after : List ℕ) → length lent ≡ length s.picture
        → FieldsAnswer s bits r numbers → r ≡ 0 → SequenceAnswer s numbers lent r' after → (r' ≡ 0) × (after ≡ bits)
    write_what_was_read bits r numbers lent r' after long a z w =
        let read = reads s bits (sym a.number ∙ z) in
        let same = fields-accepted bits r numbers a z in
        let ranges = ap (in_range s.table) same ∙ read.1.ranges in
        let none : r' ≡ 0 = w.number ∙ written_by s numbers (length lent) long ranges in
        (none, sequence-accepted numbers lent r' after w none ∙ (ap (sequence_of s) same ∙ written_of-read s test bits read.0 read.1))
