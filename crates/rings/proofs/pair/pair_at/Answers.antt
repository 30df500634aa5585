-- `rings::pair::pair_at` meets its contract: the two cases of the code are those of `pair_at`, and a place below the count leaves
-- room for both rings. Assumes nothing.
use native.Mathlib.Omega.{arith}
use borrow.Author.Tests.{lt-ltb, le-ltb}
use Rattle.listing.specs.Counts.{g2}
use Rattle.listing.specs.Number.{pair_at}
use Rattle.rings.proofs.pair.pair_at.Goals as goal

pub overflow_cast-result : goal.overflow_cast-result
unfolding g2
overflow_cast-result c = omega arith

pub overflow_sub-result : goal.overflow_sub-result
unfolding g2
overflow_sub-result c = omega arith

pub returns-then-t-m : goal.returns-then-t-m
unfolding pair_at
returns-then-t-m c = rw (lt-ltb _ _ c.if-t-m.true)

pub overflow_sub-second-2 : goal.overflow_sub-second-2
unfolding g2
overflow_sub-second-2 c = omega arith

pub overflow_cast-result-2 : goal.overflow_cast-result-2
unfolding g2
overflow_cast-result-2 c = omega arith

pub returns : goal.returns
unfolding pair_at
returns c = rw (le-ltb _ _ c.if-t-m.false)
