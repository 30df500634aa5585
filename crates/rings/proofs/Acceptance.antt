-- Which calls the two entries answer with 0, in both directions (document 01, "What comes back"):
--     mapper_accepts    a permitted K and M, a slice of eight bytes, and a number below 2^K
--     ranker_accepts    a permitted K and M, and eight rings below M before which fewer than 2^K sets stand
-- Assumes nothing.
use mathlib.Core.List.{List}
use mathlib.Core.Logic.{◌↔◌}
use mathlib.Core.Path.{◌≡◌}
use Prim.Native.Nat.{ℕ, ◌^◌}
use lib.ListN.{length}
use borrow.Author.Tests.{lt-leb, eq-eqb}
use Rattle.laws.specs.Choice.{refusal}
use Rattle.listing.specs.Sets.{of_list}
use Rattle.listing.specs.Number.{number}
use Rattle.listing.proofs.Agree.{standing-is_number}
use Rattle.rings.specs.Mapping.{Mappable, map_refusal, Rankable, rank_refusal, ranked_of}
use Rattle.rings.proofs.Answering.{map-accepted, rank-accepted}
use Rattle.rings.proofs.Tests.{is_permitted, below_all, as_list-of_list}

pub mapper_accepts : (K M S lent : ℕ) → (map_refusal K M S lent ≡ 0) ↔ Mappable K M S lent
unfolding map_refusal refusal
mapper_accepts K M S lent = (map-accepted K M S lent, back)
  where
    back : Mappable K M S lent → map_refusal K M S lent ≡ 0
    back a = rw (is_permitted K M a.allowed, eq-eqb lent 8 a.eight, lt-leb (2 ^ K) S a.low)

pub ranker_accepts : (K M : ℕ) (rings : List ℕ) → ((ranked_of K M rings).refusal ≡ 0) ↔ Rankable K M rings
unfolding ranked_of rank_refusal refusal
ranker_accepts K M rings = (rank-accepted K M rings, back)
  where
    back : Rankable K M rings → (ranked_of K M rings).refusal ≡ 0
    back a =
        let x = of_list rings in
        let low = rw (standing-is_number M x a.below) at a.low in
        let below = rw (as_list-of_list rings a.eight) at (below_all M x a.below) in
        rw (is_permitted K M a.allowed, eq-eqb (length rings) 8 a.eight, below, lt-leb (2 ^ K) (number M x) low)
