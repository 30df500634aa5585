-- The calls of any sequence of bits that carries fields, and the reader and the writer below them. A call tests the bytes of the fields
-- itself and leaves the other tests to these, so that its number is theirs, or 8: said by its ways out, and by which calls get 0.
-- Assumes nothing.
use mathlib.Core.Bool.{Bool, not, ◌&&◌, and-true, and-false}
use mathlib.Core.List.{List}
use mathlib.Core.Logic.{◌↔◌}
use mathlib.Core.Path.{◌≡◌, sym, ap, ◌∙◌}
use Prim.Native.Nat.{ℕ}
use native.Mathlib.Omega.{arith}
use lib.Dec.{eqb}
use lib.ListN.{length}
use borrow.Author.Tests.{eq-eqb, ne_eqb, eqb-true}
use Rattle.laws.specs.Choice.{refusal}
use Rattle.laws.proofs.Bools.{and_left, and_right}
use Rattle.laws.proofs.Choices.{given}
use Rattle.sequences.specs.Table.{fields_in}
use Rattle.sequences.specs.Sequence.{Sequence, fields_tests, sequence_tests, fields_refusal, sequence_refusal, is_long}
use Rattle.sequences.specs.Sequence.{FieldsAnswer, SequenceAnswer}
use Rattle.sequences.proofs.Sequences.{tests-read, tests-written}
use Rattle.sequences.proofs.Trips.{fields-accepted}
use Rattle.workerwax.specs.Info.{sequence_read_number, SequenceReadCall, sequence_write_number, SequenceWriteCall}
use Rattle.workerwax.specs.Layout.{numbers_in}
use Rattle.workerwax.proofs.Ways.{as_it_was, filled_up}

-- A call that reads.
module _ (s : Sequence) (bytes : ℕ) where
  module _ (bits : List ℕ) (lent : ℕ) where
    read-other : (lent ≡ bytes → ⊥) → sequence_read_number s bytes bits lent ≡ 8
    unfolding fields_tests
    read-other wrong =
        let test = is_long s (length bits) in
        given _ 8 _ (ap not (ap (λ (v : Bool). test && v) (ne_eqb lent bytes wrong) ∙ and-false test))

    read_same : lent ≡ bytes → sequence_read_number s bytes bits lent ≡ fields_refusal s bits
    read_same e =
        let test = is_long s (length bits) in
        ap (λ (v : Bool). refusal (fields_tests s bits v)) (ap (λ (v : Bool). test && v) (eq-eqb lent bytes e) ∙ and-true test)

  module _ (shown : List ℕ → List ℕ) (bits lent : List ℕ) where
    -- its ways out
    pub read_unlent : (length lent ≡ bytes → ⊥) → SequenceReadCall s bytes shown bits lent 8 lent
    read_unlent wrong =
        let n = sequence_read_number s bytes bits (length lent) in
        let eight = read-other bits (length lent) wrong in
        record { number = sym eight; answer = as_it_was n _ lent (λ z. omega (arith, eight, z)) }

    pub read_done :
        (numbers after : List ℕ) (r : ℕ) → length lent ≡ bytes → FieldsAnswer s bits r numbers → r ≡ 0 → after ≡ shown numbers
        → SequenceReadCall s bytes shown bits lent 0 after
    read_done numbers after r exact below zero is =
        let none = read_same bits (length lent) exact ∙ (sym below.number ∙ zero) in
        record {
          number = sym none;
          answer = is ∙ (ap shown (fields-accepted s bits r numbers below zero) ∙ filled_up _ _ lent none);
        }

    module _ (r : ℕ) (after : List ℕ) (call : SequenceReadCall s bytes shown bits lent r after) where
      -- exactly which calls get 0, by the refusal below
      pub read-zero : (r ≡ 0) ↔ ((length lent ≡ bytes) × (fields_refusal s bits ≡ 0))
      read-zero = (there, back)
        where
          there : r ≡ 0 → (length lent ≡ bytes) × (fields_refusal s bits ≡ 0)
          there zero =
              let none = sym call.number ∙ zero in
              let both = (tests-read s bits _ none).0 in
              let same = eqb-true (length lent) bytes (and_right (is_long s (length bits)) (eqb (length lent) bytes) both) in
              (same, sym (read_same bits (length lent) same) ∙ none)

          back : (length lent ≡ bytes) × (fields_refusal s bits ≡ 0) → r ≡ 0
          back p = call.number ∙ (read_same bits (length lent) p.0 ∙ p.1)

      -- and what these answer
      pub read-shown : r ≡ 0 → after ≡ shown (fields_in s.table bits)
      read-shown zero = call.answer ∙ sym (filled_up _ _ lent (sym call.number ∙ zero))

-- One that writes.
module _ (s : Sequence) (bytes : ℕ) (meant : List ℕ → List ℕ) (fields lent : List ℕ) where
  write-other : (length fields ≡ bytes → ⊥) → sequence_write_number s bytes meant fields (length lent) ≡ 8
  unfolding sequence_tests
  write-other wrong = given _ 8 _ (ap not (ap (λ (v : Bool). v && is_long s (length lent)) (ne_eqb (length fields) bytes wrong)))

  write_same :
      length fields ≡ bytes
      → sequence_write_number s bytes meant fields (length lent) ≡ sequence_refusal s (meant (numbers_in fields)) (length lent)
  write_same e =
      ap (λ (v : Bool). refusal (sequence_tests s (meant (numbers_in fields)) (v && is_long s (length lent))))
      (eq-eqb (length fields) bytes e)

  -- its ways out
  pub write_unhanded : (length fields ≡ bytes → ⊥) → SequenceWriteCall s bytes meant fields lent 8 lent
  write_unhanded wrong =
      let n = sequence_write_number s bytes meant fields (length lent) in
      let eight = write-other wrong in
      record { number = sym eight; sequence = as_it_was n _ lent (λ z. omega (arith, eight, z)) }

  module _ (r : ℕ) (after : List ℕ) where
    pub write_done :
        length fields ≡ bytes → SequenceAnswer s (meant (numbers_in fields)) lent r after
        → SequenceWriteCall s bytes meant fields lent r after
    write_done exact below =
        record { number = below.number ∙ sym (write_same exact); sequence = rw (write_same exact) below.sequence }

    module _ (call : SequenceWriteCall s bytes meant fields lent r after) where
      -- and back: what the writer below answered
      pub write-below : length fields ≡ bytes → SequenceAnswer s (meant (numbers_in fields)) lent r after
      write-below exact =
          record { number = call.number ∙ write_same exact; sequence = rw (write_same exact) at call.sequence }

      -- exactly which calls get 0, by the refusal below
      pub write-zero :
          (r ≡ 0) ↔ ((length fields ≡ bytes) × (sequence_refusal s (meant (numbers_in fields)) (length lent) ≡ 0))
      write-zero = (there, back)
        where
          there : r ≡ 0 → (length fields ≡ bytes) × (sequence_refusal s (meant (numbers_in fields)) (length lent) ≡ 0)
          there zero =
              let none = sym call.number ∙ zero in
              let both = (tests-written s (meant (numbers_in fields)) _ none).0 in
              let same = eqb-true (length fields) bytes (and_left (eqb (length fields) bytes) (is_long s (length lent)) both) in
              (same, sym (write_same same) ∙ none)

          back : (length fields ≡ bytes) × (sequence_refusal s (meant (numbers_in fields)) (length lent) ≡ 0) → r ≡ 0
          back p = call.number ∙ (write_same p.0 ∙ p.1)
