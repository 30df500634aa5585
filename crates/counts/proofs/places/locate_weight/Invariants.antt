-- The loop of `counts::places::locate_weight`: the row is at most s at the candidate.
use Rattle.std.proofs.Common.{◌≤◌}
use Rattle.counts.specs.Rows.{at}
use Rattle.counts.proofs.places.locate_weight.Given as goal

abbrev pub invariant-loop-a : goal.invariant-loop-a
invariant-loop-a l = at l.row l.a ≤ l.s
