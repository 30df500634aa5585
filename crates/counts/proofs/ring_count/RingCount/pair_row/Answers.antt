-- `counts::ring_count::RingCount::pair_row` meets its contract: a store more is the next count, and g2 is 0 from 2m − 1 on. Assumes nothing.
use native.Mathlib.Omega.{arith}
use Rattle.listing.specs.Counts.{g2}
use Rattle.listing.proofs.CountLaws.{g2-ends}
use Rattle.counts.proofs.Filled.{filled_none, filled_more, filled-whole}
use Rattle.counts.proofs.ring_count.RingCount.pair_row.Goals as goal

pub loop-p-init : goal.loop-p-init
loop-p-init c = filled_none (g2 c.args.self.m) 69

pub loop-p-preserved : goal.loop-p-preserved
loop-p-preserved c = filled_more c.pair_count.result c.loop-p.invariant (omega arith) c.pair_count.ensures

pub returns : goal.returns
returns c = filled-whole c.loop-p.invariant (λ k l. g2-ends c.args.self.m k (omega arith))
