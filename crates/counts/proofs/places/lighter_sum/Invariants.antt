-- The loop of `counts::places::lighter_sum`: the sum is that of the products before p.
use Rattle.std.proofs.Common.{◌≡◌}
use Rattle.listing.specs.Counts.{lighter}
use Rattle.counts.specs.Rows.{at}
use Rattle.counts.proofs.places.lighter_sum.Given as goal

abbrev pub invariant-loop-p : goal.invariant-loop-p
invariant-loop-p l = l.sum ≡ lighter (at l.row) l.t l.p
