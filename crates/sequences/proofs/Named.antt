-- A sequence whose fields go by names, as a table of the standard prints it: the table says what the fields may be, and what the whole
-- sequence then is. Where that agrees with picture and table of the sequence, field by field, the printed sequences are exactly the ones
-- that are read and written, go there and back by their names, and no two are printed alike. Assumes nothing.
use mathlib.Core.Bool.{true}
use mathlib.Core.List.{List}
use mathlib.Core.Logic.{◌↔◌}
use mathlib.Core.Path.{◌≡◌, refl, sym, ap, ◌∙◌}
use Prim.Native.Nat.{ℕ}
use lib.ListN.{length}
use Rattle.sequences.specs.Sequence.{Sequence, is_whole, fields_refusal, sequence_refusal, sequence_of, fields_read}
use Rattle.sequences.specs.Sequence.{FieldsAnswer, SequenceAnswer}
use Rattle.sequences.specs.Table.{fields_in, in_range}
use Rattle.sequences.proofs.Sequences.{reads, writes, written_by, written_is_read, written_of-read, fields_of-written}
use Rattle.sequences.proofs.Tables.{length-fields_in}
use Rattle.sequences.proofs.Trips.{fields-accepted, answer_same, read_what_was_written, write_what_was_read}

-- names F with the numbers of each, in the order of the table, and back; what they may be; and the sequence of each as it is printed
pub record Printed {F : Type 0} (s : Sequence) (numbers_of : F → List ℕ) (fields_of : List ℕ → F) (Sayable : F → Type 0)
    (printed : F → List ℕ) : Type 0 where
  pub whole : is_whole s ≡ true
  pub count : (f : F) → length (numbers_of f) ≡ length s.table
  pub numbers-back :
      (numbers : List ℕ) → length numbers ≡ length s.table → in_range s.table numbers ≡ true → numbers_of (fields_of numbers) ≡ numbers
  pub fields_back : (f : F) → Sayable f → fields_of (numbers_of f) ≡ f
  pub sayable : (f : F) → in_range s.table (numbers_of f) ≡ true → Sayable f
  pub ranged : (f : F) → Sayable f → in_range s.table (numbers_of f) ≡ true
  pub spelt : (f : F) → Sayable f → sequence_of s (numbers_of f) ≡ printed f

module _ {F : Type 0} (s : Sequence) (numbers_of : F → List ℕ) (fields_of : List ℕ → F) (Sayable : F → Type 0) (printed : F → List ℕ)
    (p : Printed s numbers_of fields_of Sayable printed) where
  -- what is read with 0 are fields that may be, in their sequence
  pub read_as_printed :
      (bits : List ℕ) (f : F) → fields_refusal s bits ≡ 0 → numbers_of f ≡ fields_in s.table bits → Sayable f × (bits ≡ printed f)
  read_as_printed bits f e same =
      let r = reads s bits e in
      let h = p.sayable f (ap (in_range s.table) same ∙ r.1.ranges) in
      (h, sym (written_of-read s p.whole bits r.0 r.1) ∙ (ap (sequence_of s) (sym same) ∙ p.spelt f h))

  -- exactly which sequences are read with 0
  pub reads_exactly : (bits : List ℕ) → (fields_refusal s bits ≡ 0) ↔ ((f : F) × Sayable f × (bits ≡ printed f))
  reads_exactly bits = (there, back)
    where
      there : fields_refusal s bits ≡ 0 → (f : F) × Sayable f × (bits ≡ printed f)
      there e =
          let numbers = fields_in s.table bits in
          let same = p.numbers-back numbers (length-fields_in s.table bits) (reads s bits e).1.ranges in
          let read = read_as_printed bits (fields_of numbers) e same in
          (fields_of numbers, read.0, read.1)

      back : (f : F) × Sayable f × (bits ≡ printed f) → fields_refusal s bits ≡ 0
      back q =
          let f = q.0 in
          let h = q.1 in
          ap (fields_refusal s) (q.2 ∙ sym (p.spelt f h)) ∙ written_is_read s p.whole (numbers_of f) (p.count f) (p.ranged f h)

  -- exactly which fields are written with 0
  pub writes_exactly : (f : F) (lent : ℕ) → (sequence_refusal s (numbers_of f) lent ≡ 0) ↔ (Sayable f × (lent ≡ length s.picture))
  writes_exactly f lent = (
    λ e. let w = writes s (numbers_of f) lent e in (p.sayable f w.1, w.0),
    λ q. written_by s (numbers_of f) lent q.1 (p.ranged f q.0),
  )

  -- and which numbers are
  pub numbers_exactly :
      (numbers : List ℕ) (lent : ℕ) → length numbers ≡ length s.table
      → (sequence_refusal s numbers lent ≡ 0) ↔ (((f : F) × Sayable f × (numbers_of f ≡ numbers)) × (lent ≡ length s.picture))
  numbers_exactly numbers lent size = (there, back)
    where
      there : sequence_refusal s numbers lent ≡ 0 → ((f : F) × Sayable f × (numbers_of f ≡ numbers)) × (lent ≡ length s.picture)
      there e =
          let w = writes s numbers lent e in
          let same = p.numbers-back numbers size w.1 in
          ((fields_of numbers, p.sayable (fields_of numbers) (ap (in_range s.table) same ∙ w.1), same), w.0)

      back : ((f : F) × Sayable f × (numbers_of f ≡ numbers)) × (lent ≡ length s.picture) → sequence_refusal s numbers lent ≡ 0
      back q =
          ap (λ (l : List ℕ). sequence_refusal s l lent) (sym q.0.2) ∙ (writes_exactly q.0.0 lent).1 (q.0.1, q.1)

  -- what is printed is read, by its names
  pub printed-back : (f : F) → Sayable f → (fields_refusal s (printed f) ≡ 0) × (fields_of (fields_read s (printed f)) ≡ f)
  printed-back f h =
      let bits = printed f in
      let same = p.spelt f h in
      let read = (reads_exactly bits).1 (f, h, refl) in
      let found = fields-accepted s bits (fields_refusal s bits) (fields_read s bits) (record { number = refl; fields = refl }) read in
      let numbers = ap (fields_in s.table) (sym same) ∙ fields_of-written s p.whole (numbers_of f) (p.count f) (p.ranged f h) in
      (read, ap fields_of (found ∙ numbers) ∙ p.fields_back f h)

  -- so no two that may be said are printed alike
  pub printed-once : (f g : F) → Sayable f → Sayable g → printed f ≡ printed g → f ≡ g
  printed-once f g h k e =
      sym (printed-back f h).1 ∙ (ap (λ (bits : List ℕ). fields_of (fields_read s bits)) e ∙ (printed-back g k).1)

  -- there and back
  module _ (bits : List ℕ) where
    reader : FieldsAnswer s bits (fields_refusal s bits) (fields_read s bits)
    reader = record { number = refl; fields = refl }

    pub read_back :
        (f : F) (lent : List ℕ) (r : ℕ) → SequenceAnswer s (numbers_of f) lent r bits → r ≡ 0
        → (fields_refusal s bits ≡ 0) × (fields_of (fields_read s bits) ≡ f)
    read_back f lent r w z =
        let both = read_what_was_written s p.whole (numbers_of f) lent r bits _ _ (p.count f) w z reader in
        let h = p.sayable f (writes s (numbers_of f) (length lent) (sym w.number ∙ z)).1 in
        (both.0, ap fields_of both.1 ∙ p.fields_back f h)

    pub written_back :
        (lent : List ℕ) (r : ℕ) (after : List ℕ) → length lent ≡ length s.picture → fields_refusal s bits ≡ 0
        → SequenceAnswer s (numbers_of (fields_of (fields_read s bits))) lent r after → (r ≡ 0) × (after ≡ bits)
    written_back lent r after long e w =
        let found = fields-accepted s bits (fields_refusal s bits) (fields_read s bits) reader e in
        let numbers = fields_in s.table bits in
        let same =
        ap (λ (l : List ℕ). numbers_of (fields_of l)) found
        ∙ (p.numbers-back numbers (length-fields_in s.table bits) (reads s bits e).1.ranges ∙ sym found) in
        write_what_was_read s p.whole bits (fields_refusal s bits) (fields_read s bits) lent r after long reader e
        (answer_same s _ _ lent r after same w)
