-- INFO1c there and back, by its names: the report of what was written has the fields and the count that were given, each count from −512 to
-- 511 too, and writing what a report says gives back the bits. At most one sequence fits. Assumes nothing.
use mathlib.Core.List.{List}
use mathlib.Core.Path.{◌≡◌, ap}
use Prim.Native.Nat.{ℕ}
use lib.IntN.{ℤ}
use lib.ListN.{length}
use Rattle.sequences.specs.Picture.{fixed, places}
use Rattle.sequences.specs.Sequence.{SequenceAnswer}
use Rattle.sequences.proofs.Named.{printed-back, read_back, written_back}
use Rattle.sequences.proofs.Trips.{sequence-once}
use Rattle.info.specs.Frame.{fill, sync, framed}
use Rattle.info.specs.Info1c.{info1c, numbers_of, count_bits, report, Report}
use Rattle.info.specs.Table15.{Sayable, sequence15}
use Rattle.info.specs.declared.info1c.Info1c.{Info1c}
use Rattle.info.proofs.Rows15.{Said, numbers_said, said_by, MaySay, sequence_said, printed15}

-- a report without a refusal, that says this
abbrev pub Says : Report → Info1c → ℤ → Type 0
Says r f count = (r.refusal ≡ 0) × (r.fields ≡ f) × (r.count ≡ count)

pub info1c-read_back :
    (f : Info1c) (count : ℤ) (lent : List ℕ) (r : ℕ) (bits : List ℕ)
    → SequenceAnswer info1c (numbers_of f (count_bits count)) lent r bits → r ≡ 0 → Says (report bits) f count
info1c-read_back f count lent r bits w z =
    let both = read_back info1c numbers_said said_by MaySay sequence_said printed15 bits (f, count) lent r w z in
    (both.0, ap (λ (p : Said). p.0) both.1, ap (λ (p : Said). p.1) both.1)

-- so whatever Table 15 lets an end say is heard, with its count
pub said_is_heard : (f : Info1c) (count : ℤ) → Sayable f count → Says (report (sequence15 f count)) f count
said_is_heard f count h =
    let both = printed-back info1c numbers_said said_by MaySay sequence_said printed15 (f, count) h in
    (both.0, ap (λ (p : Said). p.0) both.1, ap (λ (p : Said). p.1) both.1)

pub info1c-written-back :
    (bits lent : List ℕ) (r : ℕ) (after : List ℕ) → length lent ≡ 109 → (report bits).refusal ≡ 0
    → SequenceAnswer info1c (numbers_of (report bits).fields (count_bits (report bits).count)) lent r after → (r ≡ 0) × (after ≡ bits)
unfolding info1c framed fixed places fill sync
info1c-written-back bits lent r after long e w =
    written_back info1c numbers_said said_by MaySay sequence_said printed15 bits lent r after long e w

pub one_info1c-written :
    (f : Info1c) (count : ℤ) (lent : List ℕ) (r r' : ℕ) (after after' : List ℕ)
    → SequenceAnswer info1c (numbers_of f (count_bits count)) lent r after
    → SequenceAnswer info1c (numbers_of f (count_bits count)) lent r' after' → (r ≡ r') × (after ≡ after')
one_info1c-written f count lent r r' after after' a b = sequence-once info1c (numbers_of f (count_bits count)) lent r r' after after' a b
