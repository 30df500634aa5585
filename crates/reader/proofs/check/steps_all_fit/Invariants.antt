-- The loop of `reader::check::steps_all_fit`: what is left of the frames passes the test where all do, and Z and the counter are those of
-- the frames before.
use mathlib.Core.Path.{◌≡◌}
use Prim.Native.Nat.{◌-◌, ◌≤◌}
use Rattle.std.specs.Iterator.Adapters.{zip_first, zip_second}
use Rattle.coder.specs.Receiving.{receiving_of, all_steps_fit}
use Rattle.reader.proofs.Passes.{Paired, left_at}
use Rattle.reader.proofs.check.steps_all_fit.Given as goal

abbrev pub invariant-loop-frame : goal.invariant-loop-frame
invariant-loop-frame l =
    record {
      going : (goal.iterator-loop-frame).can_next l.frame-iterator;
      ends : (goal.iterator-loop-frame).is_finite l.frame-iterator;
      left : Paired l.fn.c l.labels (zip_first l.frame-iterator) (zip_second l.frame-iterator);
      turn : l.turned ≤ 3;
      passes :
          let frames = zip_first l.frame-iterator in
          all_steps_fit l.fn.c (l.fn.c.frames - frames.index) (left_at l.labels frames.index frames.counter l.turned)
          ≡ all_steps_fit l.fn.c l.fn.c.frames (receiving_of l.z l.labels);
    }
