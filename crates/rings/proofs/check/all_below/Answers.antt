-- `rings::check::all_below` meets its contract: the library's test of all rings is the definition's. Assumes nothing.
use mathlib.Core.Path.{refl, ◌∙◌}
use lib.Dec.{ltb}
use Rattle.std.proofs.Common.{◌&&◌, rules, tests}
use Rattle.std.specs.List.{list_all}
use Rattle.std.proofs.lemmas.Iterator.{YieldsList-from_slice}
use Rattle.std.proofs.lemmas.Iterator.Search.{all_from_yields_List}
use Rattle.std.proofs.lemmas.List.Recursion.{same_from_clauses}
use Rattle.rings.specs.Mapping.{all_below}
use Rattle.rings.proofs.check.all_below.Goals as goal

pub returns : goal.returns
unfolding all_below
returns c =
    let m = c.args.m in
    let rings = c.args.rings.now in
    all_from_yields_List (λ ring. ltb ring m) _ _ c.all.result c.all.ensures.ran (YieldsList-from_slice rings cc)
    (λ x b q k. search (rules, tests))
    ∙ same_from_clauses (list_all (λ ring. ltb ring m)) (all_below m) (λ ring b. ltb ring m && b) refl (λ _ _. refl) (λ _ _. refl) rings
