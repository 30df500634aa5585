-- `rings::check::is_permitted` meets its contract. Assumes nothing.
use native.Mathlib.Nat.{pow-le-pow_left}
use native.Mathlib.Omega.{arith}
use borrow.Author.Tests.{le-leb}
use Rattle.laws.proofs.Powers.{shifted_one}
use Rattle.std.proofs.lemmas.Bool.Decides.{nat_tests}
use Rattle.rings.specs.Mapping.{permitted}
use Rattle.rings.proofs.check.is_permitted.Goals as goal

pub pow-requires : goal.pow-requires
pow-requires c = omega (arith, pow-le-pow_left {m = 18} c.if-m-le18.true.2 8)

pub returns-then-m-le18 : goal.returns-then-m-le18
unfolding permitted
returns-then-m-le18 c =
    let t = c.if-m-le18.true in
    rw (le-leb _ _ t.0, le-leb _ _ t.1, le-leb _ _ t.2) (rw (c.pow.ensures, shifted_one c.args.k (omega arith)))

pub returns-else-m-le18 : goal.returns-else-m-le18
unfolding permitted
returns-else-m-le18 c = grind (arith, nat_tests)
