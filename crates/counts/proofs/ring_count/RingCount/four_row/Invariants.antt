-- The loop of `counts::ring_count::RingCount::four_row`: the row has g4 below p, and zeros from there on.
use Rattle.listing.specs.Counts.{g4}
use Rattle.counts.proofs.Filled.{Filled}
use Rattle.counts.proofs.ring_count.RingCount.four_row.Given as goal

abbrev pub invariant-loop-p : goal.invariant-loop-p
invariant-loop-p l = Filled (g4 l.self.m) 137 l.row l.p
