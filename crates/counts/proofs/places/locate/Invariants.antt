-- The loop of `counts::places::locate`: the sum of the products before b, and the rest, are r.
use Rattle.std.proofs.Common.{◌≡◌, ◌+◌}
use Rattle.listing.specs.Counts.{lighter}
use Rattle.counts.specs.Rows.{at}
use Rattle.counts.proofs.places.locate.Given as goal

abbrev pub invariant-loop-b : goal.invariant-loop-b
invariant-loop-b l = lighter (at l.row) l.t l.b + l.rest ≡ l.fn.r
