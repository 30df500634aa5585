-- Any sequence: a picture of its places and a table of its fields. In the free places stand the bits of the fields and then their check.
--
--     the reader refuses     8 a wrong length; 9 a byte above 1; 16 a fixed place wrong; 17 the check wrong; 18 a field out of its range
--     the writer refuses     8 a wrong length; 18 a field out of its range
--
-- Of several that hold the first is given. A refused reader answers zeros, and a refused writer leaves what it was lent.
use Rattle.std.specs.Prelude.{Bool, true, false, not, ◌&&◌, cond, List, [], ◌∷◌, ◌++◌, ◌≡◌, ℕ, ◌+◌, eqb, length, take, drop, replicate}
use Rattle.laws.specs.Choice.{refusal}
use Rattle.bits.specs.Digits.{all_bits}
use Rattle.sequences.specs.Register.{crc}
use Rattle.sequences.specs.Picture.{free, inside, around, all_hold}
use Rattle.sequences.specs.declared.Field.{Field}
use Rattle.sequences.specs.Table.{fields_in, field_bits, in_range, bit_count, is_laid}

pub record Sequence : Type 0 where
  pub picture : List ℕ
  pub table : List Field

-- whether two lists are the same
unfoldable pub is_same : List ℕ → List ℕ → Bool
is_same [] [] = true
is_same [] (y ∷ ys) = false
is_same (x ∷ xs) [] = false
is_same (x ∷ xs) (y ∷ ys) = eqb x y && is_same xs ys

-- the test of a sequence: the table fills the picture, but for the sixteen places of the check
unfoldable pub is_whole : Sequence → Bool
is_whole s = is_laid 0 s.picture s.table && eqb (free s.picture) (bit_count s.table + 16)

-- bits followed by their check
unfoldable pub sealed : List ℕ → List ℕ
sealed bits = bits ++ crc bits

-- whether the first n bits are followed by their check
unfoldable pub is_sealed : ℕ → List ℕ → Bool
is_sealed n bits = is_same (drop n bits) (crc (take n bits))

-- the reader's tests, where `exact` says that the lengths are right
unfoldable pub fields_tests : Sequence → List ℕ → Bool → List (Bool × ℕ)
fields_tests s bits exact =
    (not exact, 8)
    ∷ (not (all_bits bits), 9)
    ∷ (not (all_hold s.picture bits), 16)
    ∷ (not (is_sealed (bit_count s.table) (inside s.picture bits)), 17)
    ∷ (not (in_range s.table (fields_in s.table bits)), 18)
    ∷ []

-- the writer's
unfoldable pub sequence_tests : Sequence → List ℕ → Bool → List (Bool × ℕ)
sequence_tests s numbers exact = (not exact, 8) ∷ (not (in_range s.table numbers), 18) ∷ []

-- a sequence has a bit for each place of its picture
abbrev pub is_long : Sequence → ℕ → Bool
is_long s lent = eqb lent (length s.picture)

abbrev pub fields_refusal : Sequence → List ℕ → ℕ
fields_refusal s bits = refusal (fields_tests s bits (is_long s (length bits)))

abbrev pub sequence_refusal : Sequence → List ℕ → ℕ → ℕ
sequence_refusal s numbers lent = refusal (sequence_tests s numbers (is_long s lent))

-- the sequence of some fields
unfoldable pub sequence_of : Sequence → List ℕ → List ℕ
sequence_of s numbers = around s.picture (sealed (field_bits s.table numbers))

-- the fields that the reader answers: zeros after a refusal
abbrev pub fields_read : Sequence → List ℕ → List ℕ
fields_read s bits = cond (eqb (fields_refusal s bits) 0) (fields_in s.table bits) (replicate (length s.table) 0)

-- what the reader answers: a number, and the fields
pub record FieldsAnswer (s : Sequence) (bits : List ℕ) (r : ℕ) (numbers : List ℕ) : Type 0 where
  pub number : r ≡ fields_refusal s bits
  pub fields : numbers ≡ fields_read s bits

-- what the writer answers: a number, and what it was lent
pub record SequenceAnswer (s : Sequence) (numbers lent : List ℕ) (r : ℕ) (after : List ℕ) : Type 0 where
  pub number : r ≡ sequence_refusal s numbers (length lent)
  pub sequence : after ≡ cond (eqb (sequence_refusal s numbers (length lent)) 0) (sequence_of s numbers) lent
