-- The loop of `counts::ring_count::RingCount::pair_row`: the row has g2 below p, and zeros from there on.
use Rattle.listing.specs.Counts.{g2}
use Rattle.counts.proofs.Filled.{Filled}
use Rattle.counts.proofs.ring_count.RingCount.pair_row.Given as goal

abbrev pub invariant-loop-p : goal.invariant-loop-p
invariant-loop-p l = Filled (g2 l.self.m) 69 l.row l.p
