-- The loop of `writer::frames::send`: the frames before this one are written, and the register, Z, and the bits that are left are those
-- that the specs say.
use mathlib.Core.Path.{◌≡◌}
use Rattle.writer.proofs.Sends.{PartSent}
use Rattle.writer.proofs.frames.send.Given as goal

abbrev pub invariant-loop-frame : goal.invariant-loop-frame
invariant-loop-frame l =
    record {
      going : (goal.iterator-loop-frame).can_next l.frame-iterator;
      ends : (goal.iterator-loop-frame).is_finite l.frame-iterator;
      same : l.frame-iterator.settings ≡ l.c;
      sent : PartSent l.c l.initial.moved l.bits l.out l.moved l.frame-iterator.counter l.frame-iterator.start l.frame-iterator.index;
    }
