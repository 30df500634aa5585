-- `writer::frames::send` meets its contract: each step gives the next mapping frame, and its labels are put behind those of the others.
use mathlib.Core.Path.{refl, ◌∙◌}
use Prim.Native.Nat.{◌≤◌}
use native.Mathlib.Omega.{arith}
use Rattle.line.proofs.Soundness.{accepted-sound}
use Rattle.mapping_frames.proofs.Goes.{going_none}
use Rattle.writer.proofs.Sends.{part-sent_none, step-there, step-sendable, step-sent}
use Rattle.writer.proofs.Sends.{part-sent-labels, part-sent-register, part-sent-turned}
use Rattle.writer.proofs.frames.send.Goals as goal

pub counts_of-counts-requires : goal.counts_of-counts-requires
counts_of-counts-requires c =
    let sound = accepted-sound c.args.st.asked c.args.c c.requires.worked in
    rw c.rings.ensures (record { low = sound.rings.some; high = sound.rings.most })

pub loop-frame-init : goal.loop-frame-init
loop-frame-init c =
    let a = c.args in
    let sound = accepted-sound a.st.asked a.c c.requires.worked in
    let start = c.into_iter-frame-iterator.ensures.into_iter_gives ∙ c.of-frame-items.ensures in
    rw (start, c.from-moved.ensures)
    (record {
      going = going_none a.c sound;
      ends = tt;
      same = refl;
      sent =
          part-sent_none a.c _ a.bits.now a.out.now sound (c.requires.size ∙ sound.user_is) c.requires.labels c.requires.held c.requires.turn;
    })

pub slice_bounds-send_frame-end : goal.slice_bounds-send_frame-end
slice_bounds-send_frame-end c = step-there c.loop-frame.invariant.same c.loop-frame.invariant.sent c.in-Some.ensures.steps

pub send_frame-moved-requires : goal.send_frame-moved-requires
send_frame-moved-requires c =
    let sound = accepted-sound c.args.st.asked c.args.c c.requires.worked in
    let counted = rw c.rings.ensures at c.counts_of-counts.ensures.of in
    step-sendable c.loop-frame.invariant.same c.loop-frame.invariant.sent c.in-Some.ensures.steps _ sound counted c.requires.binary

pub loop-frame-preserved : goal.loop-frame-preserved
loop-frame-preserved c =
    let i = c.loop-frame.invariant in
    let step = c.in-Some.ensures.steps in
    let sound = accepted-sound c.args.st.asked c.args.c c.requires.worked in
    let counted = rw c.rings.ensures at c.counts_of-counts.ensures.of in
    record {
      going = c.in-Some.ensures.goes.keeps;
      ends = tt;
      same = step.settings ∙ i.same;
      sent = step-sent i.same i.sent step _ _ _ sound counted c.send_frame-moved.ensures;
    }

pub returns : goal.returns
returns c =
    let i = c.loop-frame.invariant in
    let all : c.args.c.frames ≤ c.loop-frame.frame-iterator.index = omega (arith, rw i.same at c.in-None.ensures.steps.0) in
    let sent = rw c.from-moved.ensures at i.sent in
    record {
      out_after = part-sent-labels sent all;
      register_value = part-sent-register sent all;
      z_value = part-sent-turned sent all;
    }
