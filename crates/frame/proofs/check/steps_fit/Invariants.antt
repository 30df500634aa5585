-- The loop of `check::steps_fit`: the steps that are left pass the test where all do.
use Rattle.std.proofs.Common.{◌≡◌, ◌*◌, ◌-◌, ◌≤◌, drop}
use Rattle.std.specs.Iterator.Adapters.{enumerate_count}
use Rattle.frame.specs.Reading.{steps_fit}
use Rattle.frame.proofs.Fours.{FoursLeft}
use Rattle.frame.proofs.check.steps_fit.Given as goal

abbrev pub invariant-loop-j : goal.invariant-loop-j
invariant-loop-j l =
    record {
      going : (goal.iterator-loop-j).can_next l.j-iterator;
      ends : (goal.iterator-loop-j).is_finite l.j-iterator;
      left : FoursLeft l.labels l.j-iterator;
      turn : l.turned ≤ 3;
      passes :
          let j = enumerate_count l.j-iterator in
          steps_fit (l.threes - j) l.turned (4 - j) (drop (4 * j) l.labels) ≡ steps_fit l.threes l.z 4 l.labels;
    }
