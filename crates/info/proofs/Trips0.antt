-- INFO0 there and back, by its names: reading what was written and writing what was read are the identity, and at most one answer fits.
-- Assumes nothing.
use mathlib.Core.List.{List}
use mathlib.Core.Path.{◌≡◌, ap, ◌∙◌}
use Prim.Native.Nat.{ℕ}
use lib.ListN.{length}
use Rattle.sequences.specs.Picture.{fixed, places}
use Rattle.sequences.specs.Sequence.{FieldsAnswer, SequenceAnswer}
use Rattle.sequences.proofs.Named.{read_back}
use Rattle.sequences.proofs.Trips.{fields-once, sequence-once, write_what_was_read}
use Rattle.info.specs.Frame.{fill, sync, framed}
use Rattle.info.specs.Info0.{info0, numbers_of}
use Rattle.info.specs.declared.info0.Info0.{Info0}
use Rattle.info.specs.Table14.{Sayable, sequence14}
use Rattle.info.proofs.Rows14.{whole0, fields_of, printed14}

-- fields of the same numbers are the same
same_fields : (f g : Info0) → numbers_of f ≡ numbers_of g → f ≡ g
same_fields f g e = ap fields_of e

pub info0-read_back :
    (f : Info0) (lent : List ℕ) (r : ℕ) (bits : List ℕ) (r' : ℕ) (g : Info0)
    → SequenceAnswer info0 (numbers_of f) lent r bits → r ≡ 0 → FieldsAnswer info0 bits r' (numbers_of g) → (r' ≡ 0) × (g ≡ f)
info0-read_back f lent r bits r' g w z a =
    let both = read_back info0 numbers_of fields_of Sayable sequence14 printed14 bits f lent r w z in
    (a.number ∙ both.0, ap fields_of a.fields ∙ both.1)

pub info0-written-back :
    (bits : List ℕ) (r : ℕ) (f : Info0) (lent : List ℕ) (r' : ℕ) (after : List ℕ) → length lent ≡ 49
    → FieldsAnswer info0 bits r (numbers_of f) → r ≡ 0 → SequenceAnswer info0 (numbers_of f) lent r' after → (r' ≡ 0) × (after ≡ bits)
unfolding info0 framed fixed places fill sync
info0-written-back bits r f lent r' after long a z w = write_what_was_read info0 whole0 bits r (numbers_of f) lent r' after long a z w

pub one_info0-read :
    (bits : List ℕ) (r r' : ℕ) (f g : Info0)
    → FieldsAnswer info0 bits r (numbers_of f) → FieldsAnswer info0 bits r' (numbers_of g) → (r ≡ r') × (f ≡ g)
one_info0-read bits r r' f g a b =
    let both = fields-once info0 bits r r' (numbers_of f) (numbers_of g) a b in
    (both.0, same_fields f g both.1)

pub one_info0-written :
    (f : Info0) (lent : List ℕ) (r r' : ℕ) (after after' : List ℕ)
    → SequenceAnswer info0 (numbers_of f) lent r after → SequenceAnswer info0 (numbers_of f) lent r' after' → (r ≡ r') × (after ≡ after')
one_info0-written f lent r r' after after' a b = sequence-once info0 (numbers_of f) lent r r' after after' a b
