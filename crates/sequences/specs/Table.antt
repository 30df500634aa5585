-- A table of fields. A field is a run of bits, lowest weight first: the place of its first bit in the sequence, its width, and the least
-- and the most that it may be.
--
--     first  width  least  most
--        21      3      0     5      bits 21 to 23 are a number of 0 to 5; 0, 1, 1 are 6, which is out of range
use Rattle.std.specs.Prelude.{Bool, true, ◌&&◌, List, [], ◌∷◌, ◌++◌, ℕ, ◌+◌, ◌^◌, leb, ltb, eqb, length, get_or, take, drop}
use Rattle.std.proofs.Math.Seq.{slice}
use Rattle.bits.specs.Digits.{value, digits}
use Rattle.sequences.specs.Picture.{free}
use Rattle.sequences.specs.declared.Field.{Field}

-- a field from 0 on
abbrev pub up_to : ℕ → ℕ → ℕ → Field
up_to first width most = record { first = first; width = width; least = 0; most = most }

-- the numbers that the fields are in a sequence
unfoldable pub fields_in : List Field → List ℕ → List ℕ
fields_in [] bits = []
fields_in (field ∷ table) bits = value (take field.width (drop field.first bits)) ∷ fields_in table bits

-- the bits of numbers, field after field
unfoldable pub field_bits : List Field → List ℕ → List ℕ
field_bits [] numbers = []
field_bits (field ∷ table) numbers = digits field.width (get_or numbers 0 0) ++ field_bits table (drop 1 numbers)

-- whether a number lies in its field's range
abbrev pub lies : Field → ℕ → Bool
lies field number = leb field.least number && leb number field.most

-- every number does
unfoldable pub in_range : List Field → List ℕ → Bool
in_range [] numbers = true
in_range (field ∷ table) numbers = lies field (get_or numbers 0 0) && in_range table (drop 1 numbers)

-- how many bits the fields have
unfoldable pub bit_count : List Field → ℕ
bit_count [] = 0
bit_count (field ∷ table) = field.width + bit_count table

-- The test of a table against a picture, from a place on: the fields stand in order, each on free places, no free place between them, and
-- the most that a field may be is held by its bits.
unfoldable pub is_laid : ℕ → List ℕ → List Field → Bool
is_laid at picture [] = true
is_laid at picture (field ∷ table) =
    let end = field.first + field.width in
    (leb at field.first && leb end (length picture))
    && ((eqb (free (slice at field.first picture)) 0 && eqb (free (slice field.first end picture)) field.width)
    && (ltb field.most (2 ^ field.width) && is_laid end picture table))
