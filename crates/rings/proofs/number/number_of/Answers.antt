-- `rings::number::number_of` meets its contract: what it adds up is the number by its definition, and no part of that is larger
-- than the whole, which is below 18^8. Assumes nothing.
use mathlib.Core.Path.{◌≡◌, sym, subst, ap, ◌∙◌}
use Prim.Native.Nat.{ℕ, ◌+◌, ◌*◌, ◌<◌}
use native.Mathlib.Omega.{arith}
use Rattle.listing.specs.Counts.{lighter}
use Rattle.listing.specs.Number.{place_of_four, number}
use Rattle.listing.specs.Sets.{Four, Eight, Below4, Below8, of_list, weight4}
use Rattle.counts.specs.Rows.{at}
use Rattle.counts.specs.declared.rows.Counts.{Counts}
use Rattle.rings.proofs.Eights.{weights_inside, parts-fit, number_fits_lem, number-whole, summable8}
use Rattle.rings.proofs.number.number_of.Goals as goal

pub place_of_four-first-requires-clause-below4 : goal.place_of_four-first-requires-clause-below4
unfolding of_list
place_of_four-first-requires-clause-below4 c = subst (Below4 c.args.counts.now.m) (sym c.from-front.ensures) c.requires.0

pub place_of_four-second-requires-clause-below4 : goal.place_of_four-second-requires-clause-below4
unfolding of_list
place_of_four-second-requires-clause-below4 c = subst (Below4 c.args.counts.now.m) (sym c.from-back.ensures) c.requires.1

pub bounds-counts-a : goal.bounds-counts-a
unfolding of_list
bounds-counts-a c =
    let k = c.args.counts.now in
    omega (arith, weights_inside k.m k.fours k.lighter (of_list c.args.rings.now) k.rows.eights c.requires, c.weight-b.ensures ∙ ap weight4 c.from-front.ensures, c.weight.ensures ∙ ap weight4 c.from-back.ensures)

pub lighter_sum-requires : goal.lighter_sum-requires
unfolding of_list
lighter_sum-requires c =
    let k = c.args.counts.now in
    summable8 _ _ k.lighter (of_list c.args.rings.now) k.rows.eights c.requires _ _ (c.weight-b.ensures ∙ ap weight4 c.from-front.ensures) (c.weight.ensures ∙ ap weight4 c.from-back.ensures) (omega arith)

pub bounds-counts-b : goal.bounds-counts-b
unfolding of_list
bounds-counts-b c =
    let k = c.args.counts.now in
    omega (arith, weights_inside k.m k.fours k.lighter (of_list c.args.rings.now) k.rows.eights c.requires, c.weight-b.ensures ∙ ap weight4 c.from-front.ensures, c.weight.ensures ∙ ap weight4 c.from-back.ensures)

-- what is added up is the number, and small
record Whole (c : Counts) (x : Eight) (total : ℕ) : Type 0 where
  is : total ≡ number c.m x
  small : total < 11019960576

whole :
    (c : Counts) (x : Eight) (y z : Four) (front back passed first second : ℕ)
    → Below8 c.m x
    → y ≡ x.0
    → z ≡ x.1
    → front ≡ weight4 y
    → back ≡ weight4 z
    → passed ≡ lighter (at c.fours) (front + back) front
    → first ≡ place_of_four c.m y
    → second ≡ place_of_four c.m z
    → Whole c x (at c.lighter (front + back) + (passed + (second * at c.fours front + first)))
whole c x y z front back passed first second below ey ez e1 e2 es ef eg =
    let k = c.rows.eights in
    let e1' = e1 ∙ ap weight4 ey in
    let e2' = e2 ∙ ap weight4 ez in
    let ef' = ef ∙ ap (place_of_four c.m) ey in
    let eg' = eg ∙ ap (place_of_four c.m) ez in
    let e = number-whole c.m c.fours c.lighter x k below front back passed first second e1' e2' es ef' eg' in
    record {
      is = e;
      small = subst (λ (n : ℕ). n < 11019960576) (sym e) (number_fits_lem c.m c.fours c.lighter x k below);
    }

pub overflow_mul-result : goal.overflow_mul-result
unfolding of_list
overflow_mul-result c =
    (parts-fit _ _ _ _
    (whole c.args.counts.now (of_list c.args.rings.now) _ _ _ _ _ _ _ c.requires c.from-front.ensures c.from-back.ensures c.weight-b.ensures c.weight.ensures
    c.lighter_sum.ensures c.place_of_four-first.ensures c.place_of_four-second.ensures).small).0

pub overflow_add-result : goal.overflow_add-result
unfolding of_list
overflow_add-result c =
    (parts-fit _ _ _ _
    (whole c.args.counts.now (of_list c.args.rings.now) _ _ _ _ _ _ _ c.requires c.from-front.ensures c.from-back.ensures c.weight-b.ensures c.weight.ensures
    c.lighter_sum.ensures c.place_of_four-first.ensures c.place_of_four-second.ensures).small).1

pub overflow_add-result-2 : goal.overflow_add-result-2
unfolding of_list
overflow_add-result-2 c =
    (parts-fit _ _ _ _
    (whole c.args.counts.now (of_list c.args.rings.now) _ _ _ _ _ _ _ c.requires c.from-front.ensures c.from-back.ensures c.weight-b.ensures c.weight.ensures
    c.lighter_sum.ensures c.place_of_four-first.ensures c.place_of_four-second.ensures).small).2

pub overflow_add-result-3 : goal.overflow_add-result-3
unfolding of_list
overflow_add-result-3 c =
    (parts-fit _ _ _ _
    (whole c.args.counts.now (of_list c.args.rings.now) _ _ _ _ _ _ _ c.requires c.from-front.ensures c.from-back.ensures c.weight-b.ensures c.weight.ensures
    c.lighter_sum.ensures c.place_of_four-first.ensures c.place_of_four-second.ensures).small).3

pub returns : goal.returns
unfolding of_list
returns c =
    (whole c.args.counts.now (of_list c.args.rings.now) _ _ _ _ _ _ _ c.requires c.from-front.ensures c.from-back.ensures c.weight-b.ensures c.weight.ensures
    c.lighter_sum.ensures c.place_of_four-first.ensures c.place_of_four-second.ensures).is
