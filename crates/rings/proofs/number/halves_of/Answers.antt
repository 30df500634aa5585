-- `rings::number::halves_of` meets its contract: the weight found in the row of running sums is A with R0 left, and what `locate` finds
-- among the eights of that weight is B with R1 left. Assumes nothing.
use mathlib.Core.Path.{◌≡◌}
use Prim.Native.Nat.{ℕ, ◌*◌, ◌-◌, ◌^◌, ◌<◌}
use native.Mathlib.Omega.{arith}
use Rattle.listing.specs.Counts.{lighter}
use Rattle.counts.specs.Rows.{at}
use Rattle.counts.specs.Located.{located_of}
use Rattle.counts.specs.declared.places.Located.{Located}
use Rattle.counts.specs.declared.rows.Counts.{Counts}
use Rattle.rings.proofs.Eights.{ascending, weighed, locatable8, Split8, split8}
use Rattle.rings.proofs.number.halves_of.Goals as goal

pub locate_weight-whole-requires : goal.locate_weight-whole-requires
locate_weight-whole-requires c = ascending _ _ _ _ c.args.counts.now.rows.eights (omega arith)

pub locate-found-requires : goal.locate-found-requires
locate-found-requires c =
    let k = c.args.counts.now.rows.eights in
    locatable8 _ _ c.requires _ _ _ k (weighed _ _ c.requires _ _ _ k c.locate_weight-whole.ensures) (omega arith)

-- what is known once both places are located
parts :
    (c : Counts) (s : ℕ) (below : s < c.m ^ 8) (x y : Located)
    → x ≡ located_of (at c.lighter) s (8 * (c.m - 1))
    → y ≡ located_of (lighter (at c.fours) x.at) x.rest x.at
    → Split8 c.m s below x y (at c.fours y.at)
parts c s below x y weight place =
    let k = c.rows.eights in
    split8 c.m s below (at c.fours) x y k.known k.fours (weighed c.m s below c.fours c.lighter x k weight) place

pub offset_bounds-counts-b : goal.offset_bounds-counts-b
offset_bounds-counts-b c =
    omega (arith, (parts c.args.counts.now _ c.requires _ _ c.locate_weight-whole.ensures c.locate-found.ensures).inside)

pub bounds-counts-b : goal.bounds-counts-b
bounds-counts-b c = (parts c.args.counts.now _ c.requires _ _ c.locate_weight-whole.ensures c.locate-found.ensures).inside

pub nonzero_rem-result : goal.nonzero_rem-result
nonzero_rem-result c = (parts c.args.counts.now _ c.requires _ _ c.locate_weight-whole.ensures c.locate-found.ensures).some

pub nonzero_div-result : goal.nonzero_div-result
nonzero_div-result c = (parts c.args.counts.now _ c.requires _ _ c.locate_weight-whole.ensures c.locate-found.ensures).some

pub returns : goal.returns
returns c = (parts c.args.counts.now _ c.requires _ _ c.locate_weight-whole.ensures c.locate-found.ensures).whole
