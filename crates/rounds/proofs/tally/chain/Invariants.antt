-- No more agreed than were sent.
use Rattle.std.proofs.Common.{◌≤◌}
use Rattle.rounds.proofs.tally.chain.Given as goal

abbrev pub invariant-loop-seed : goal.invariant-loop-seed
invariant-loop-seed l = l.agreed ≤ l.seed-index
