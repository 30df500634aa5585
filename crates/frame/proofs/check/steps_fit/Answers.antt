-- `check::steps_fit` meets its contract: the labels come four by four.
use borrow.Author.Rules.{rules}
use mathlib.Core.Bool.{Bool, ◌&&◌, ◌||◌}
use mathlib.Core.List.{List}
use mathlib.Core.Path.{◌≡◌, sym, ◌∙◌}
use Prim.Native.Nat.{ℕ, ◌+◌, ◌*◌, ◌-◌, ◌%◌, ◌<◌}
use native.Mathlib.Nat.{sub-zero}
use lib.Dec.{ltb}
use lib.ListN.{get_or, drop}
use Rattle.frame.specs.Reading.{steps_fit}
use Rattle.frame.proofs.Fours.{turn_is, fours-next, four-more, fours_end}
use Rattle.frame.proofs.Sixteen.{step-next, step_none}
use Rattle.frame.proofs.check.steps_fit.Goals as goal

-- the test of one symbol, and what is left
here :
    (threes z₀ : ℕ) (labels : List ℕ) (j z next step : ℕ) (fits : Bool)
    → j < 4
    → steps_fit (threes - j) z (4 - j) (drop (4 * j) labels) ≡ steps_fit threes z₀ 4 labels
    → next ≡ get_or labels (4 * j + 2) 0
    → step ≡ (next + 4 - z) % 4
    → fits ≡ (ltb j threes || ltb step 2)
    → steps_fit threes z₀ 4 labels ≡ (fits && steps_fit (threes - (j + 1)) next (4 - (j + 1)) (drop (4 * (j + 1)) labels))
here threes z₀ labels j z next step fits more left is-next is_step is_fits =
    sym left ∙ (step-next threes labels j z more ∙ rw (is_fits, is_step, is-next))

pub loop-j-init : goal.loop-j-init
loop-j-init c =
    let all = c.enumerate-j-items.ensures in
    let chunks = c.chunks_exact.ensures in
    rw c.into_iter-j-iterator.ensures.into_iter_gives
    (record {
      going = search rules;
      ends = tt;
      left = record { size = rw all.source chunks.size; rest = rw (all.source, all.count) chunks.rest };
      turn = c.requires.turn;
      passes = rw (all.count, sub-zero);
    })

pub z_step-requires : goal.z_step-requires
z_step-requires c =
    let i = c.loop-j.invariant in
    let step = c.in-Some.ensures.steps in
    let more = four-more i.left _ c.in-Some.four c.next.new.self step 4 c.requires.sixteen in
    let next = c.from-next.ensures ∙ turn_is i.left _ c.in-Some.four c.next.new.self step in
    (i.turn, rw next (c.requires.turns _ more))

pub returns-then-not-step_fits : goal.returns-then-not-step_fits
returns-then-not-step_fits c =
    let i = c.loop-j.invariant in
    let step = c.in-Some.ensures.steps in
    let more = four-more i.left _ c.in-Some.four c.next.new.self step 4 c.requires.sixteen in
    let next = c.from-next.ensures ∙ turn_is i.left _ c.in-Some.four c.next.new.self step in
    sym (here c.args.threes c.args.z c.args.labels.now _ c.loop-j.turned _ _ _ more i.passes next c.z_step.ensures
    (rw step.1 at c.step_fits.ensures) ∙ rw c.if-not-step_fits.true)

pub loop-j-preserved : goal.loop-j-preserved
loop-j-preserved c =
    let i = c.loop-j.invariant in
    let step = c.in-Some.ensures.steps in
    let more = four-more i.left _ c.in-Some.four c.next.new.self step 4 c.requires.sixteen in
    let next = c.from-next.ensures ∙ turn_is i.left _ c.in-Some.four c.next.new.self step in
    record {
      going = c.in-Some.ensures.goes.keeps;
      ends = tt;
      left = fours-next i.left _ c.in-Some.four c.next.new.self step;
      turn = rw next (c.requires.turns _ more);
      passes =
          rw step.2
          (sym (here c.args.threes c.args.z c.args.labels.now _ c.loop-j.turned _ _ _ more i.passes next c.z_step.ensures
          (rw step.1 at c.step_fits.ensures) ∙ rw c.if-not-step_fits.false));
    }

pub returns : goal.returns
returns c =
    let i = c.loop-j.invariant in
    let all = fours_end i.left 4 c.requires.sixteen c.next.new.self c.in-None.ensures.steps in
    sym (step_none c.args.threes c.args.labels.now _ c.loop-j.turned all) ∙ i.passes
