-- `rings::four::four_at` meets its contract: what `locate` finds is how `four_at` splits a place, and the two digits of the rest are
-- below the counts of the two pairs. Assumes nothing.
use mathlib.Core.Path.{◌≡◌, sym, ap₂, ◌∙◌}
use mathlib.Core.List.{List}
use Prim.Native.Nat.{ℕ, ◌≤◌, ◌<◌}
use native.Mathlib.Omega.{arith}
use Rattle.listing.specs.Counts.{g2, g4, lighter}
use Rattle.counts.specs.Rows.{at, Known}
use Rattle.counts.specs.Located.{located_of}
use Rattle.counts.specs.declared.places.Located.{Located}
use Rattle.rings.proofs.Eights.{four-weight}
use Rattle.rings.proofs.Fours.{Split, split, locatable}
use Rattle.rings.proofs.four.four_at.Goals as goal

-- what is known once a place is located
known :
    (m : ℕ) (row : List ℕ) (t i : ℕ) (x : Located)
    → Known m
    → at row ≡ g2 m
    → x ≡ located_of (lighter (at row) t) i t
    → i < g4 m t
    → Split m t i x.at x.rest (at row x.at) × (t ≤ 68)
known m row t i x rings pairs found low = (split m t i (at row) x pairs found low, four-weight m t i rings low)

pub locate-found-requires : goal.locate-found-requires
locate-found-requires c =
    locatable _ _ _ _ c.requires.known c.requires.pairs_value (omega arith) (four-weight _ _ _ c.requires.known c.requires.i_bound) c.requires.i_bound

pub offset_bounds-pairs-c : goal.offset_bounds-pairs-c
offset_bounds-pairs-c c =
    let k = known _ _ _ _ _ c.requires.known c.requires.pairs_value c.locate-found.ensures c.requires.i_bound in omega (arith, k.0.within, k.1)

pub bounds-pairs-c : goal.bounds-pairs-c
bounds-pairs-c c =
    let k = known _ _ _ _ _ c.requires.known c.requires.pairs_value c.locate-found.ensures c.requires.i_bound in omega (arith, k.0.within, k.1)

pub nonzero_rem-found : goal.nonzero_rem-found
nonzero_rem-found c = (known _ _ _ _ _ c.requires.known c.requires.pairs_value c.locate-found.ensures c.requires.i_bound).0.some

pub pair_at-first-requires-clause-e_bound : goal.pair_at-first-requires-clause-e_bound
pair_at-first-requires-clause-e_bound c = (known _ _ _ _ _ c.requires.known c.requires.pairs_value c.locate-found.ensures c.requires.i_bound).0.first

pub overflow_sub-t : goal.overflow_sub-t
overflow_sub-t c = (known _ _ _ _ _ c.requires.known c.requires.pairs_value c.locate-found.ensures c.requires.i_bound).0.within

pub nonzero_div-found : goal.nonzero_div-found
nonzero_div-found c = (known _ _ _ _ _ c.requires.known c.requires.pairs_value c.locate-found.ensures c.requires.i_bound).0.some

pub pair_at-second-requires-clause-e_bound : goal.pair_at-second-requires-clause-e_bound
pair_at-second-requires-clause-e_bound c = (known _ _ _ _ _ c.requires.known c.requires.pairs_value c.locate-found.ensures c.requires.i_bound).0.second

pub returns : goal.returns
returns c =
    ap₂ (λ x y. (x, y)) c.pair_at-first.ensures c.pair_at-second.ensures
    ∙ sym (known _ _ _ _ _ c.requires.known c.requires.pairs_value c.locate-found.ensures c.requires.i_bound).0.whole
