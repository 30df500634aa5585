-- The ways out of reader and writer: what the check of a body says, where the fields stand, and what a refusal or an answer makes.
-- Assumes nothing.
use mathlib.Core.Bool.{true, false, cond}
use mathlib.Core.List.{List, [], ◌∷◌}
use mathlib.Core.Path.{◌≡◌, sym, ap, ap₂, subst, ◌∙◌}
use Prim.Native.Nat.{ℕ, ◌+◌, ◌-◌, ◌≤◌}
use native.Mathlib.Omega.{arith}
use borrow.Author.Tests.{leb-true}
use lib.Dec.{leb, eqb}
use lib.ListN.{length, take, replicate, length-replicate}
use Rattle.std.proofs.lemmas.Bool.Decides.{nat_tests}
use Rattle.laws.specs.Put.{put}
use Rattle.laws.proofs.Puts.{length-put, take_put}
use Rattle.laws.proofs.Bools.{and_parts}
use Rattle.bits.specs.Digits.{Bits, all_bits}
use Rattle.bits.proofs.Tested.{all-bits}
use Rattle.sequences.specs.declared.Field.{Field}
use Rattle.sequences.specs.Register.{crc}
use Rattle.sequences.specs.Picture.{free, inside}
use Rattle.sequences.specs.Table.{field_bits, bit_count, is_laid}
use Rattle.sequences.specs.Sequence.{Sequence, is_whole, is_sealed, fields_refusal, sequence_refusal, sequence_of, FieldsAnswer, SequenceAnswer}
use Rattle.sequences.proofs.Adds.{zeros, bits-replicate}
use Rattle.sequences.proofs.Pictures.{bits_inside, length-inside}
use Rattle.sequences.proofs.Registers.{length-crc, bits-crc}
use Rattle.sequences.proofs.Sequences.{whole, unsealed, sealed-leaves-zero, only-sealed-leaves-zero}
use Rattle.sequences.proofs.Tables.{laid, length-field_bits, bits-field_bits}
use Rattle.sequences.proofs.Trips.{answer-zeros}
use Rattle.fields.specs.Requires.{is_narrow, Within, ReadBy}
use Rattle.fields.specs.Weights.{high_value}
use Rattle.fields.proofs.Weights.{high_value_one, high_value-zeros}

-- the fields of a table that is laid stand within the picture
pub within-laid :
    (at : ℕ) (picture : List ℕ) (table : List Field)
    → is_laid at picture table ≡ true → is_narrow table ≡ true → Within (length picture) table
unfolding is_narrow
within-laid at picture [] t n = tt
within-laid at picture (field ∷ table) t n =
    let l = laid at picture field table t in
    let both = and_parts (leb field.width 31) (is_narrow table) n in
    ((l.within, leb-true field.width 31 both.0), within-laid (field.first + field.width) picture table l.rest both.1)

-- A sequence that passes its test, and bits of its length.
module _ (s : Sequence) (test : is_whole s ≡ true) (bits : List ℕ) (long : length bits ≡ length s.picture) where
  pub within-whole : is_narrow s.table ≡ true → Within (length bits) s.table
  within-whole narrow = rw long (within-laid 0 s.picture s.table (whole s test).laid narrow)

  -- the check of what stands in the free places is the number 0 exactly where its fields are followed by their check
  module _ (binary : all_bits bits ≡ true) where
    abbrev body : List ℕ
    body = inside s.picture bits

    body-bits : Bits body
    body-bits = bits_inside s.picture bits (all-bits bits binary)

    body-length : length body ≡ bit_count s.table + 16
    body-length = length-inside s.picture bits long ∙ (whole s test).room

    pub sealed_by_zero : high_value (crc body) ≡ 0 → is_sealed (bit_count s.table) body ≡ true
    unfolding crc
    sealed_by_zero e =
        let same = e ∙ sym (high_value-zeros 16) in
        let none = high_value_one (crc body) (zeros 16) (bits-crc body) (bits-replicate 16 0 (omega arith)) (length-crc body) same in
        only-sealed-leaves-zero (bit_count s.table) body body-bits body-length none

    pub unsealed_by_other : (high_value (crc body) ≡ 0 → ⊥) → is_sealed (bit_count s.table) body ≡ false
    unfolding crc
    unsealed_by_other h =
        unsealed (bit_count s.table) body
        (λ e. h (ap high_value (sealed-leaves-zero (bit_count s.table) body e) ∙ high_value-zeros 16))

-- a refused reader over slices says nothing of the numbers
pub unread :
    (s : Sequence) (bits : List ℕ) (r : ℕ) (numbers : List ℕ) → 1 ≤ r → fields_refusal s bits ≡ r → ReadBy s.picture s.table bits r numbers
unread s bits r numbers some e = record { number = sym e; fields = λ z. absurd (omega arith) }

-- and that of a layout tells zeros, one for each of the n fields
pub refused :
    (s : Sequence) (n : ℕ) (bits : List ℕ) (r : ℕ)
    → length s.table ≡ n → 1 ≤ r → fields_refusal s bits ≡ r → FieldsAnswer s bits r (replicate n 0)
refused s n bits r count some e =
    subst (λ (k : ℕ). FieldsAnswer s bits r (replicate k 0)) count (answer-zeros s bits r (sym e) (λ z. absurd (omega arith)))

-- the writer, by its refusal number
pub answered :
    (s : Sequence) (numbers lent : List ℕ) (r : ℕ) (after : List ℕ)
    → sequence_refusal s numbers (length lent) ≡ r → after ≡ cond (eqb r 0) (sequence_of s numbers) lent
    → SequenceAnswer s numbers lent r after
answered s numbers lent r after e w =
    record { number = sym e; sequence = w ∙ sym (ap (λ (n : ℕ). cond (eqb n 0) (sequence_of s numbers) lent) e) }

-- as many places are free as there are at most
pub free-within : (picture : List ℕ) → free picture ≤ length picture
unfolding free
free-within [] = omega arith
free-within (place ∷ picture) = let rest = free-within picture in grind (arith, nat_tests)

-- and a body has room for them
pub room-is :
    (s : Sequence) → is_whole s ≡ true → (n : ℕ) → free s.picture ≡ n → length (replicate {A = ℕ} n 0) ≡ bit_count s.table + 16
room-is s test n e = length-replicate n 0 ∙ (sym e ∙ (whole s test).room)

-- the bits of the numbers put at the front of a body that has room for them and their check
module _ (table : List Field) (numbers body₀ body : List ℕ)
    (spelt : body ≡ put body₀ 0 (field_bits table numbers))
    (room : length body₀ ≡ bit_count table + 16) where
  abbrev said : List ℕ
  said = field_bits table numbers

  size : length said ≡ bit_count table
  size = length-field_bits table numbers

  pub spelt-length : length body ≡ bit_count table + 16
  spelt-length = ap length spelt ∙ (length-put body₀ 0 said (omega arith) (omega (arith, size, room)) ∙ room)

  pub spelt_front : take (length body - 16) body ≡ said
  spelt_front =
      let end : length body - 16 ≡ 0 + length said = omega (arith, spelt-length, size) in
      ap₂ take end spelt ∙ take_put body₀ 0 said (omega arith)

  pub spelt-bits : Bits (take (length body - 16) body)
  spelt-bits = rw spelt_front (bits-field_bits table numbers)
