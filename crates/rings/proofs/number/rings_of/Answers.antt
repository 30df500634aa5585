-- `rings::number::rings_of` meets its contract: the two fours at their places are the eight rings. Assumes nothing.
use mathlib.Core.Path.{◌≡◌, sym, subst, ap, ap₂, ◌∙◌}
use Prim.Native.Nat.{ℕ, ◌^◌, ◌<◌}
use Rattle.listing.specs.Sets.{as_list}
use Rattle.rings.specs.Parts.{halves_of}
use Rattle.rings.specs.declared.number.Halves.{Halves}
use Rattle.rings.proofs.Eights.{Halfway, halfway}
use Rattle.rings.proofs.number.rings_of.Goals as goal

-- what is known of the halves
known : (m s : ℕ) (below : s < m ^ 8) (h : Halves) → h ≡ halves_of m s → Halfway m s below h
known m s below h found = subst (Halfway m s below) (sym found) (halfway m s below)

pub four_at-front-requires-clause-i_bound : goal.four_at-front-requires-clause-i_bound
four_at-front-requires-clause-i_bound c = (known _ _ c.requires _ c.halves_of-halves.ensures).first

pub overflow_sub-halves : goal.overflow_sub-halves
overflow_sub-halves c = (known _ _ c.requires _ c.halves_of-halves.ensures).within

pub four_at-back-requires-clause-i_bound : goal.four_at-back-requires-clause-i_bound
four_at-back-requires-clause-i_bound c = (known _ _ c.requires _ c.halves_of-halves.ensures).second

pub returns : goal.returns
returns c =
    let whole = known _ _ c.requires _ c.halves_of-halves.ensures in
    rw (c.from.ensures, c.from-2.ensures) (
    ap as_list
    (ap₂ (λ x y. (x, y)) c.four_at-front.ensures c.four_at-back.ensures ∙ sym whole.whole))
