-- `counts::places::locate` meets its contract. One product is part of the whole sum, which fits. Assumes nothing.
use mathlib.Core.Path.{◌≡◌, subst}
use Prim.Native.Nat.{ℕ, suc, ◌+◌}
use native.Mathlib.Omega.{arith}
use Rattle.listing.specs.Counts.{lighter}
use Rattle.listing.proofs.Bounds.{lighter-zero, lighter-more, lighter-rises}
use Rattle.counts.specs.Rows.{at}
use Rattle.counts.proofs.Placed.{located-within, located_last}
use Rattle.counts.proofs.places.locate.Goals as goal

pub loop-b-init : goal.loop-b-init
loop-b-init c = omega (arith, lighter-zero (at c.args.row.now) c.args.t)

pub overflow_mul-product : goal.overflow_mul-product
overflow_mul-product c = omega (arith, lighter-rises (at c.args.row.now) c.args.t c.loop-b.b (suc c.args.t) (omega arith))

pub returns-then-rest-product : goal.returns-then-rest-product
returns-then-rest-product c = located-within _ _ _ _ _ (omega arith) c.loop-b.invariant c.if-rest-product.true

pub loop-b-preserved : goal.loop-b-preserved
loop-b-preserved c = omega (arith, lighter-more (at c.args.row.now) c.args.t c.loop-b.b)

pub returns : goal.returns
returns c =
    let row = at c.args.row.now in
    let done : c.loop-b.b ≡ c.args.t = omega arith in
    let whole = subst (λ (b : ℕ). lighter row c.args.t b + c.loop-b.rest ≡ c.args.r) done c.loop-b.invariant in
    located_last row _ _ _ _ (omega arith) (omega arith) whole c.requires.below
