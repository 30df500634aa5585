-- Sums of the counts of pairs stay small: a count is at most 18. Assumes nothing.
use Prim.Native.Nat.{ℕ, ◌≤◌}
use native.Mathlib.Omega.{arith}
use Rattle.laws.specs.Sum.{sum}
use Rattle.laws.proofs.Sums.{sum_bound}
use Rattle.listing.specs.Counts.{g2}
use Rattle.listing.proofs.Bounds.{g2-bound}

pub few-pairs : (m n : ℕ) → m ≤ 18 → n ≤ 70 → sum (g2 m) n ≤ 1260
few-pairs m n few l = omega (arith, sum_bound (g2 m) 18 n (λ p k. omega (arith, g2-bound m p)))
