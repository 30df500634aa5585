-- `counts::places::locate_weight` meets its contract. Assumes nothing.
use mathlib.Core.Path.{◌≡◌, subst}
use Prim.Native.Nat.{ℕ, ◌≤◌}
use native.Mathlib.Omega.{arith}
use Rattle.counts.specs.Rows.{at}
use Rattle.counts.proofs.Placed.{located-rising, located-top}
use Rattle.counts.proofs.places.locate_weight.Goals as goal

pub returns-then-s-row : goal.returns-then-s-row
returns-then-s-row c = located-rising _ _ _ _ c.requires.rises (omega arith) c.loop-a.invariant c.if-s-row.true

pub returns : goal.returns
returns c =
    let done : c.loop-a.a ≡ c.args.top = omega arith in
    located-top _ _ _ _ (omega arith) (omega arith) (subst (λ (a : ℕ). at c.args.row.now a ≤ c.args.s) done c.loop-a.invariant)
