-- `rings::four::place_of_four` meets its contract: it puts together what `place_of_four` does, and with rings below 18 no part is
-- large. Assumes nothing.
use mathlib.Core.Path.{◌≡◌}
use mathlib.Core.List.{List}
use Prim.Native.Nat.{ℕ, ◌*◌}
use native.Mathlib.Omega.{arith}
use Rattle.listing.specs.Counts.{g2, lighter}
use Rattle.listing.specs.Number.{place_of_pair}
use Rattle.listing.specs.Sets.{Four, Below4, weight2, weight4}
use Rattle.counts.specs.Rows.{at, Known}
use Rattle.rings.specs.Parts.{four_of}
use Rattle.rings.proofs.Fours.{PlaceParts, place-parts, summable}
use Rattle.rings.proofs.four.place_of_four.Goals as goal

-- the parts that are put together, where the weights are t and w
parts :
    (m : ℕ) (row : List ℕ) (x : Four) (t w sum e f : ℕ)
    → Known m
    → at row ≡ g2 m
    → Below4 m x
    → t ≡ weight4 x
    → w ≡ weight2 x.0
    → sum ≡ lighter (at row) t w
    → e ≡ place_of_pair m x.0
    → f ≡ place_of_pair m x.1
    → PlaceParts m x sum (f * at row w) e
parts m row x t w sum e f rings pairs below whole first hs he hf =
    rw first (place-parts m (at row) x sum e f rings pairs below (rw (whole, first) at hs) he hf)

pub lighter_sum-requires : goal.lighter_sum-requires
lighter_sum-requires c =
    rw (c.weight.ensures, c.weight-c.ensures)
    (summable _ (four_of c.args.four) _ c.requires.known c.requires.pairs_value (omega arith) c.requires.below4)

pub overflow_mul-result : goal.overflow_mul-result
overflow_mul-result c =
    let p = parts _ _ (four_of c.args.four) _ _ _ _ _ c.requires.known c.requires.pairs_value c.requires.below4 c.weight.ensures c.weight-c.ensures c.lighter_sum.ensures c.place_of_pair-first.ensures c.place_of_pair-second.ensures in
    omega (arith, p.product_small)

pub overflow_add-result : goal.overflow_add-result
overflow_add-result c =
    let p = parts _ _ (four_of c.args.four) _ _ _ _ _ c.requires.known c.requires.pairs_value c.requires.below4 c.weight.ensures c.weight-c.ensures c.lighter_sum.ensures c.place_of_pair-first.ensures c.place_of_pair-second.ensures in
    omega (arith, p.product_small, p.first_small)

pub overflow_add-result-2 : goal.overflow_add-result-2
overflow_add-result-2 c =
    let p = parts _ _ (four_of c.args.four) _ _ _ _ _ c.requires.known c.requires.pairs_value c.requires.below4 c.weight.ensures c.weight-c.ensures c.lighter_sum.ensures c.place_of_pair-first.ensures c.place_of_pair-second.ensures in
    omega (arith, p.sum-small, p.product_small, p.first_small)

pub returns : goal.returns
returns c =
    (parts _ _ (four_of c.args.four) _ _ _ _ _ c.requires.known c.requires.pairs_value c.requires.below4 c.weight.ensures c.weight-c.ensures c.lighter_sum.ensures c.place_of_pair-first.ensures c.place_of_pair-second.ensures).whole
