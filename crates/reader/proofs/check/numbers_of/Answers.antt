-- `reader::check::numbers_of` meets its contract: each frame comes with its sixteen labels, and its rings are ranked once.
use mathlib.Core.Path.{refl, sym, ◌∙◌}
use native.Mathlib.Nat.{sub-zero}
use native.Mathlib.Omega.{arith}
use Rattle.std.specs.Iterator.Adapters.{zip_first, zip_second}
use Rattle.reader.proofs.Passes.{sound_of, sixteen_is, paired_none, paired-more, paired-shape, paired-next, paired_end}
use Rattle.reader.proofs.Passes.{ranging_frame, rings-taken, paired-number, number_none, number-any}
use Rattle.reader.proofs.Ranking.{ranked_none, ranked-more, ranked-all, taken-below, taken-number, number-fits_is}
use Rattle.reader.proofs.check.numbers_of.Goals as goal

pub loop-frame-init : goal.loop-frame-init
loop-frame-init c =
    let zip = c.zip-frame-items.ensures in
    let chunks = c.chunks_exact.ensures in
    let all = zip.first ∙ c.of.ensures in
    let sixteens = zip.second in
    let left =
    paired_none c.args.c c.args.labels.now (zip_first c.zip-frame-items.result) (zip_second c.zip-frame-items.result)
    (sound_of c.requires.ranging.settled) all
    (rw sixteens chunks.size) (rw sixteens chunks.rest) in
    rw c.into_iter-frame-iterator.ensures.into_iter_gives
    (record {
      going = (left.going, omega (arith, left.sixteens.size));
      ends = tt;
      left = left;
      kept = rw all (ranked_none c.args.c _ _ refl);
      passes = rw (all, sub-zero);
    })

pub rings_read-requires : goal.rings_read-requires
rings_read-requires c =
    let i = c.loop-frame.invariant in
    let step = c.in-Some.ensures.steps in
    rw (sixteen_is i.left.sixteens c.in-Some.sixteen (zip_second c.next.new.self) step.1)
    (rings-taken c.requires.ranging _ (paired-more i.left step.0))

pub number_of-number-requires : goal.number_of-number-requires
number_of-number-requires c =
    let i = c.loop-frame.invariant in
    let step = c.in-Some.ensures.steps in
    let here = sixteen_is i.left.sixteens c.in-Some.sixteen (zip_second c.next.new.self) step.1 in
    taken-below c.args.c c.args.labels.now _ _ _ c.requires.counted (rw here at c.rings_read.ensures)
    (ranging_frame c.requires.ranging _ (paired-more i.left step.0))

pub returns-then-not-number_fits : goal.returns-then-not-number_fits
returns-then-not-number_fits c =
    let a = c.args in
    let i = c.loop-frame.invariant in
    let step = c.in-Some.ensures.steps in
    let here = sixteen_is i.left.sixteens c.in-Some.sixteen (zip_second c.next.new.self) step.1 in
    let number = c.number_of-number.ensures ∙ taken-number a.c a.labels.now _ _ _ c.requires.counted (rw here at c.rings_read.ensures) in
    let fits =
    number-fits_is a.c (sound_of c.requires.ranging.settled) a.labels.now _ _ _ _ _ (paired-shape i.left step.0) number
    c.number_fits.ensures in
    let turn = paired-number i.left step.0 _ fits in
    λ z. number-any a.c a.c.frames a.labels.now 0 z 0 ∙ (rw c.if-not-number_fits.true at (sym i.passes ∙ turn))

pub loop-frame-preserved : goal.loop-frame-preserved
loop-frame-preserved c =
    let a = c.args in
    let i = c.loop-frame.invariant in
    let sound = sound_of c.requires.ranging.settled in
    let step = c.in-Some.ensures.steps in
    let going = c.in-Some.ensures.goes.keeps in
    let here = sixteen_is i.left.sixteens c.in-Some.sixteen (zip_second c.next.new.self) step.1 in
    let number = c.number_of-number.ensures ∙ taken-number a.c a.labels.now _ _ _ c.requires.counted (rw here at c.rings_read.ensures) in
    let fits = number-fits_is a.c sound a.labels.now _ _ _ _ _ (paired-shape i.left step.0) number c.number_fits.ensures in
    let turn = paired-number i.left step.0 _ fits in
    record {
      going = going;
      ends = tt;
      left = paired-next i.left step.0 c.in-Some.sixteen (zip_second c.next.new.self) step.1 going.0;
      kept =
          rw (step.0.next, step.0.index)
          (ranked-more a.c a.labels.now c.loop-frame.numbers _ _ i.kept
          (omega (arith, paired-more i.left step.0, sound.frames-most)) number);
      passes = sym (rw c.if-not-number_fits.false at (sym i.passes ∙ turn));
    }

pub returns : goal.returns
returns c =
    let a = c.args in
    let i = c.loop-frame.invariant in
    let all = paired_end i.left c.requires.ranging.count c.in-None.ensures.steps in (
      λ z. number-any a.c a.c.frames a.labels.now 0 z 0 ∙ (sym i.passes ∙ number_none a.c a.labels.now _ _ 0 all),
      ranked-all a.c (sound_of c.requires.ranging.settled) a.labels.now _ _ i.kept all,
    )
