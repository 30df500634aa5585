-- The loop of `reader::frames::receive`: the bits of the frames that are done and those of the frames that are left make the whole.
use Rattle.std.specs.Iterator.Adapters.{zip_first, zip_second}
use Rattle.reader.proofs.Passes.{Paired}
use Rattle.reader.proofs.Incoming.{PartRead}
use Rattle.reader.proofs.frames.receive.Given as goal

abbrev pub invariant-loop-frame : goal.invariant-loop-frame
invariant-loop-frame l =
    record {
      going : (goal.iterator-loop-frame).can_next l.frame-iterator;
      ends : (goal.iterator-loop-frame).is_finite l.frame-iterator;
      left : Paired l.c l.labels (zip_first l.frame-iterator) (zip_second l.frame-iterator);
      read :
          let frames = zip_first l.frame-iterator in
          PartRead l.c l.labels l.initial.moved.z l.initial.moved.register frames.index l.moved frames.counter frames.start l.bits;
    }
