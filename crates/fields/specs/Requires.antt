-- What the workers are told and ask: what picture, table and lent slices must be. No promise rests on this page.
use Rattle.std.specs.Prelude.{Bool, true, ◌&&◌, List, [], ◌∷◌, ◌≡◌, ℕ, ◌+◌, ◌≤◌, leb, length}
use Rattle.laws.specs.Lists.{Every}
use Rattle.sequences.specs.declared.Field.{Field}
use Rattle.sequences.specs.Picture.{free}
use Rattle.sequences.specs.Table.{fields_in}
use Rattle.sequences.specs.Sequence.{Sequence, is_whole, fields_refusal, SequenceAnswer}

-- the sequence that a picture and a table say
abbrev pub sequence : List ℕ → List Field → Sequence
sequence picture table = record { picture = picture; table = table }

-- no field has more than 31 bits
unfoldable pub is_narrow : List Field → Bool
is_narrow [] = true
is_narrow (field ∷ table) = leb field.width 31 && is_narrow table

-- fields that stand within n bits
abbrev pub Within : ℕ → List Field → Type 0
Within n = Every (λ field. (field.first + field.width ≤ n) × (field.width ≤ 31))

-- a picture and a table that pass their test, with room for what is in the free places and for the numbers
pub record Ready (picture : List ℕ) (table : List Field) (body numbers : List ℕ) : Type 0 where
  pub whole : is_whole (sequence picture table) ≡ true
  pub narrow : is_narrow table ≡ true
  pub count : length table ≡ length numbers
  pub room : length body ≡ free picture

-- what the reader answers; what stands in `numbers` after a refusal is not said
pub record ReadBy (picture : List ℕ) (table : List Field) (bits : List ℕ) (r : ℕ) (numbers : List ℕ) : Type 0 where
  pub number : r ≡ fields_refusal (sequence picture table) bits
  pub fields : r ≡ 0 → numbers ≡ fields_in table bits

-- and the writer
abbrev pub WrittenBy : List ℕ → List Field → List ℕ → List ℕ → ℕ → List ℕ → Type 0
WrittenBy picture table = SequenceAnswer (sequence picture table)
