-- The counter stays below P.
use Rattle.std.proofs.Common.{◌<◌}
use Rattle.tables.proofs.row.switching.Given as goal

abbrev pub invariant-loop-frame : goal.invariant-loop-frame
invariant-loop-frame l = l.counter < l.frames
