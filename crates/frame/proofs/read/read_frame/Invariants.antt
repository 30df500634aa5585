-- The loop of `read::read_frame`: the bits of S and of j symbols are put, and the labels of the others are left.
use Rattle.std.specs.Iterator.Adapters.{enumerate_count}
use Rattle.frame.proofs.Fours.{FoursLeft}
use Rattle.frame.proofs.ReadLoop.{ReadUpTo}
use Rattle.frame.proofs.read.read_frame.Given as goal

abbrev pub invariant-loop-j : goal.invariant-loop-j
invariant-loop-j l =
    record {
      going : (goal.iterator-loop-j).can_next l.j-iterator;
      ends : (goal.iterator-loop-j).is_finite l.j-iterator;
      left : FoursLeft l.labels l.j-iterator;
      read : ReadUpTo l.q l.threes l.fn.shape.shell l.number l.labels l.z l.bits l.at l.turned (enumerate_count l.j-iterator);
    }
