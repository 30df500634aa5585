-- `reader::check::steps_all_fit` meets its contract: each frame comes with its sixteen labels, and the last Z of these is the next one's.
use mathlib.Core.Path.{refl, sym, ◌∙◌}
use native.Mathlib.Nat.{sub-zero}
use native.Mathlib.Omega.{arith}
use Rattle.std.specs.Iterator.Adapters.{zip_first, zip_second}
use Rattle.reader.proofs.Passes.{sound_of, sixteen_is, paired_none, paired-more, paired-next, paired_end}
use Rattle.reader.proofs.Passes.{stepped_at, turned-next, turned_is, paired-steps, steps_none}
use Rattle.reader.proofs.check.steps_all_fit.Goals as goal

pub loop-frame-init : goal.loop-frame-init
loop-frame-init c =
    let zip = c.zip-frame-items.ensures in
    let chunks = c.chunks_exact.ensures in
    let all = zip.first ∙ c.of.ensures in
    let sixteens = zip.second in
    let left =
    paired_none c.args.c c.args.labels.now (zip_first c.zip-frame-items.result) (zip_second c.zip-frame-items.result)
    (sound_of c.requires.ranging.settled) all
    (rw sixteens chunks.size) (rw sixteens chunks.rest) in
    rw c.into_iter-frame-iterator.ensures.into_iter_gives
    (record {
      going = (left.going, omega (arith, left.sixteens.size));
      ends = tt;
      left = left;
      turn = c.requires.z_bound;
      passes = rw (all, sub-zero);
    })

pub steps_fit-requires : goal.steps_fit-requires
steps_fit-requires c =
    let i = c.loop-frame.invariant in
    let step = c.in-Some.ensures.steps in
    rw (sixteen_is i.left.sixteens c.in-Some.sixteen (zip_second c.next.new.self) step.1)
    (stepped_at c.requires.ranging _ (paired-more i.left step.0) _ i.turn)

pub returns-then-not-steps_fit : goal.returns-then-not-steps_fit
returns-then-not-steps_fit c =
    let i = c.loop-frame.invariant in
    let step = c.in-Some.ensures.steps in
    let here = sixteen_is i.left.sixteens c.in-Some.sixteen (zip_second c.next.new.self) step.1 in
    let turn = paired-steps i.left step.0 c.loop-frame.turned _ _ (rw here at c.steps_fit.ensures) refl in
    sym (rw c.if-not-steps_fit.true at (sym i.passes ∙ turn))

pub loop-frame-preserved : goal.loop-frame-preserved
loop-frame-preserved c =
    let i = c.loop-frame.invariant in
    let step = c.in-Some.ensures.steps in
    let going = c.in-Some.ensures.goes.keeps in
    let here = sixteen_is i.left.sixteens c.in-Some.sixteen (zip_second c.next.new.self) step.1 in
    let turned = rw here at (c.label_at-turned.ensures ∙ sym (turned_is c.in-Some.sixteen.now)) in
    let turn = paired-steps i.left step.0 c.loop-frame.turned _ _ (rw here at c.steps_fit.ensures) turned in
    record {
      going = going;
      ends = tt;
      left = paired-next i.left step.0 c.in-Some.sixteen (zip_second c.next.new.self) step.1 going.0;
      turn = rw turned (turned-next c.requires.ranging _ (paired-more i.left step.0));
      passes = sym (rw c.if-not-steps_fit.false at (sym i.passes ∙ turn));
    }

pub returns : goal.returns
returns c =
    let i = c.loop-frame.invariant in
    let all = paired_end i.left c.requires.ranging.count c.in-None.ensures.steps in
    sym (steps_none c.args.c c.args.labels.now _ _ _ all) ∙ i.passes
