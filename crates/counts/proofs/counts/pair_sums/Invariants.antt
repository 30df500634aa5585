-- The loop of `counts::counts::pair_sums`: the row has the sums up to n, and zeros from there on.
use Rattle.std.proofs.Common.{◌+◌}
use Rattle.laws.specs.Sum.{sum}
use Rattle.counts.specs.Rows.{at}
use Rattle.counts.proofs.Filled.{Filled}
use Rattle.counts.proofs.counts.pair_sums.Given as goal

abbrev pub invariant-loop-n : goal.invariant-loop-n
invariant-loop-n l = Filled (sum (at l.pairs)) 70 l.sums (l.n + 1)
