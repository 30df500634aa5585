-- `reader::frames::receive` meets its contract: each frame comes with its sixteen labels, and its bits are put behind those of the others.
use mathlib.Core.Path.{◌∙◌}
use native.Mathlib.Omega.{arith}
use Rattle.std.specs.Iterator.Adapters.{zip_first, zip_second}
use Rattle.reader.proofs.Passes.{sound_of, settled_in, paired_none, paired-more, paired-next, paired_end}
use Rattle.reader.proofs.Incoming.{part-read_first, step-room, step-receivable, step-read}
use Rattle.reader.proofs.Incoming.{part-read_all, part-read-register, part-read-turned}
use Rattle.reader.proofs.frames.receive.Goals as goal

pub loop-frame-init : goal.loop-frame-init
loop-frame-init c =
    let zip = c.zip-frame-items.ensures in
    let chunks = c.chunks_exact.ensures in
    let all = zip.first ∙ c.of.ensures in
    let sixteens = zip.second in
    let left =
    paired_none c.args.c c.args.labels.now (zip_first c.zip-frame-items.result) (zip_second c.zip-frame-items.result)
    (sound_of (settled_in c.args.st _ c.requires.receivable.worked)) all
    (rw sixteens chunks.size) (rw sixteens chunks.rest) in
    rw c.into_iter-frame-iterator.ensures.into_iter_gives
    (record {
      going = (left.going, omega (arith, left.sixteens.size));
      ends = tt;
      left = left;
      read = rw (all, c.from-moved.ensures) (part-read_first c.args.st c.args.c _ _ c.requires.receivable);
    })

pub slice_bounds-receive_frame-end : goal.slice_bounds-receive_frame-end
slice_bounds-receive_frame-end c =
    let i = c.loop-frame.invariant in
    let sound = sound_of (settled_in c.args.st _ c.requires.receivable.worked) in
    step-room sound i.left i.read c.in-Some.ensures.steps.0

pub receive_frame-moved-requires : goal.receive_frame-moved-requires
receive_frame-moved-requires c =
    let i = c.loop-frame.invariant in
    let sound = sound_of (settled_in c.args.st _ c.requires.receivable.worked) in
    let step = c.in-Some.ensures.steps in
    step-receivable sound i.left i.read step.0 c.in-Some.sixteen (zip_second c.next.new.self) step.1 _ c.requires.ranked c.requires.receivable.count

pub loop-frame-preserved : goal.loop-frame-preserved
loop-frame-preserved c =
    let i = c.loop-frame.invariant in
    let sound = sound_of (settled_in c.args.st _ c.requires.receivable.worked) in
    let step = c.in-Some.ensures.steps in
    let going = c.in-Some.ensures.goes.keeps in
    record {
      going = going;
      ends = tt;
      left = paired-next i.left step.0 c.in-Some.sixteen (zip_second c.next.new.self) step.1 going.0;
      read = step-read sound i.left i.read step.0 c.in-Some.sixteen (zip_second c.next.new.self) step.1 _ c.requires.ranked _ _ c.receive_frame-moved.ensures;
    }

pub returns : goal.returns
returns c =
    let i = c.loop-frame.invariant in
    let all = paired_end i.left c.requires.receivable.count c.in-None.ensures.steps in
    let read = rw c.from-moved.ensures at i.read in
    record {
      bits_after = part-read_all read all;
      register_value = part-read-register read all;
      z_value = part-read-turned read all;
    }

pub bounds-numbers-frame : goal.bounds-numbers-frame
bounds-numbers-frame c =
    let more = paired-more c.loop-frame.invariant.left c.in-Some.ensures.steps.0 in
    omega (arith, more, c.requires.ranked.room, c.in-Some.ensures.steps.0.index)
