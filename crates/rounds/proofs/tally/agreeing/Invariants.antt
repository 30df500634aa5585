-- At most three of a setting are counted.
use Rattle.std.proofs.Common.{◌≤◌, ◌*◌}
use Rattle.rounds.proofs.tally.agreeing.Given as goal

abbrev pub invariant-loop-i : goal.invariant-loop-i
invariant-loop-i l = l.agreed ≤ 3 * l.i
