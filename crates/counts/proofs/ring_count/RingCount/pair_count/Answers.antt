-- `counts::ring_count::RingCount::pair_count` meets its contract: it is the formula (9-3). Assumes nothing.
use native.Mathlib.Omega.{arith}
use Rattle.listing.specs.Counts.{g2}
use Rattle.counts.proofs.ring_count.RingCount.pair_count.Goals as goal

pub returns : goal.returns
unfolding g2
returns c = omega arith
