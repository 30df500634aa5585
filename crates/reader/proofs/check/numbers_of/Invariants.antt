-- The loop of `reader::check::numbers_of`: what is left of the frames passes the test where all do, and the numbers of the frames before are
-- kept.
use mathlib.Core.Path.{◌≡◌}
use Prim.Native.Nat.{◌-◌}
use Rattle.std.specs.Iterator.Adapters.{zip_first, zip_second}
use Rattle.coder.specs.Receiving.{receiving_of, numbers_fit}
use Rattle.reader.proofs.Passes.{Paired, left_at}
use Rattle.reader.proofs.Ranking.{FirstRanked}
use Rattle.reader.proofs.check.numbers_of.Given as goal

abbrev pub invariant-loop-frame : goal.invariant-loop-frame
invariant-loop-frame l =
    record {
      going : (goal.iterator-loop-frame).can_next l.frame-iterator;
      ends : (goal.iterator-loop-frame).is_finite l.frame-iterator;
      left : Paired l.fn.c l.labels (zip_first l.frame-iterator) (zip_second l.frame-iterator);
      kept : FirstRanked l.fn.c l.labels l.numbers (zip_first l.frame-iterator).index;
      passes :
          let frames = zip_first l.frame-iterator in
          numbers_fit l.fn.c (l.fn.c.frames - frames.index) (left_at l.labels frames.index frames.counter 0)
          ≡ numbers_fit l.fn.c l.fn.c.frames (receiving_of 0 l.labels);
    }
