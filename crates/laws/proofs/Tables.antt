-- A rule at every number below a limit, proved by one test that is computed at all of them, as what every row of a table of ranges
-- has. Assumes nothing.
use mathlib.Core.Bool.{Bool, true, ◌&&◌}
use mathlib.Core.Path.{◌≡◌}
use Prim.Native.Nat.{ℕ, zero, suc, ◌<◌}
use native.Mathlib.Omega.{arith}

-- the test passes at each number below n
unfoldable pub passes_below : (ℕ → Bool) → ℕ → Bool
passes_below test zero = true
passes_below test (suc n) = test n && passes_below test n

pub at_each : (test : ℕ → Bool) (n : ℕ) → passes_below test n ≡ true → (k : ℕ) → k < n → test k ≡ true
unfolding passes_below
at_each test zero passes k h = absurd (omega arith)
at_each test (suc n) passes k h = let before = at_each test n in grind arith
