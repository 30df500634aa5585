-- `rings::pair::place_of_pair` meets its contract: the two cases of the code are those of `place_of_pair`. Assumes nothing.
use Prim.Native.Nat.{◌+◌, ◌≤◌, ◌<◌}
use native.Mathlib.Omega.{arith}
use borrow.Author.Tests.{lt-ltb, le-ltb}
use Rattle.listing.specs.Number.{place_of_pair}
use Rattle.rings.proofs.pair.place_of_pair.Goals as goal

pub returns-then-first-second : goal.returns-then-first-second
unfolding place_of_pair
returns-then-first-second c =
    let low : c.args.pair.first + c.args.pair.second < c.args.m = omega arith in
    rw (lt-ltb _ _ low) (omega arith)

pub returns-else-first-second : goal.returns-else-first-second
unfolding place_of_pair
returns-else-first-second c =
    let high : c.args.m ≤ c.args.pair.first + c.args.pair.second = omega arith in
    rw (le-ltb _ _ high) (omega arith)
