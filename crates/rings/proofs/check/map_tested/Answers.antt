-- `rings::check::map_tested` meets its contract: each test of the code is one of `map_refusal`, in its order. Assumes nothing.
use mathlib.Core.Path.{sym}
use Prim.Native.Nat.{◌^◌, ◌≤◌, ◌<◌}
use native.Mathlib.Omega.{arith}
use borrow.Author.Tests.{lt-leb, le-leb, eq-eqb, ne_eqb}
use Rattle.laws.specs.Choice.{refusal}
use Rattle.laws.proofs.Powers.{shifted_one}
use Rattle.rings.specs.Mapping.{map_refusal}
use Rattle.rings.proofs.Tests.{permitted_is}
use Rattle.rings.proofs.check.map_tested.Goals as goal

pub returns-then-not-is_permitted : goal.returns-then-not-is_permitted
unfolding map_refusal refusal
returns-then-not-is_permitted c = rw (← c.if-not-is_permitted.ensures)

pub returns-then-lent-ne8 : goal.returns-then-lent-ne8
unfolding map_refusal refusal
returns-then-lent-ne8 c = rw (← c.if-not-is_permitted.ensures, ne_eqb _ _ c.if-lent-ne8.true)

pub overflow_shl-k : goal.overflow_shl-k
overflow_shl-k c = omega (arith, (permitted_is c.args.k c.args.m (sym c.if-not-is_permitted.ensures)).bits)

pub returns-then-s-k : goal.returns-then-s-k
unfolding map_refusal refusal
returns-then-s-k c =
    let few : c.args.k < 64 = omega (arith, (permitted_is c.args.k c.args.m (sym c.if-not-is_permitted.ensures)).bits) in
    let high : 2 ^ c.args.k ≤ c.args.s = omega (arith, shifted_one c.args.k few) in
    rw (← c.if-not-is_permitted.ensures, eq-eqb _ _ c.if-lent-ne8.false, le-leb _ _ high)

pub returns : goal.returns
unfolding map_refusal refusal
returns c =
    let few : c.args.k < 64 = omega (arith, (permitted_is c.args.k c.args.m (sym c.if-not-is_permitted.ensures)).bits) in
    let low : c.args.s < 2 ^ c.args.k = omega (arith, shifted_one c.args.k few) in
    rw (← c.if-not-is_permitted.ensures, eq-eqb _ _ c.if-lent-ne8.false, lt-leb _ _ low)
