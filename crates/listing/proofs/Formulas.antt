-- Clause 9.4's formulas (9-3) to (9-6), as the clause prints them, hold of g2, g4, g8 and z8. Assumes nothing.
use mathlib.Core.Path.{◌≡◌, refl}
use Prim.Native.Nat.{ℕ, suc, ◌+◌, ◌*◌, ◌-◌, ◌≤◌, ◌<◌}
use native.Mathlib.Omega.{arith}
use Rattle.laws.specs.Sum.{sum}
use Rattle.listing.specs.Counts.{distance, g2, g4, g8, z8, lighter}
use Rattle.listing.proofs.CountLaws.{g2-ends, g4-ends}

-- (9-3): g2(p) is M − abs[p − M + 1], with nothing cut off by the difference, for p up to 2(M − 1)
pub «9-3» : (M p : ℕ) → 1 ≤ M → p ≤ 2 * (M - 1) → g2 M p + distance p (M - 1) ≡ M
unfolding g2
«9-3» M p m h = omega arith

-- and 0 otherwise
pub «9-3-otherwise» : (M p : ℕ) → 1 ≤ M → 2 * (M - 1) < p → g2 M p ≡ 0
«9-3-otherwise» M p m h = g2-ends M p (omega arith)

-- (9-4): g4(p) is g2(0)·g2(p) + g2(1)·g2(p − 1) + .. + g2(p)·g2(0)
pub «9-4» : (M p : ℕ) → g4 M p ≡ sum (λ k. g2 M k * g2 M (p - k)) (suc p)
unfolding g4 lighter
«9-4» M p = refl

-- and 0 otherwise
pub «9-4-otherwise» : (M p : ℕ) → 1 ≤ M → 4 * (M - 1) < p → g4 M p ≡ 0
«9-4-otherwise» M p m h = g4-ends M p (omega arith)

-- (9-5): g8(p) is g4(0)·g4(p) + g4(1)·g4(p − 1) + .. + g4(p)·g4(0)
pub «9-5» : (M p : ℕ) → g8 M p ≡ sum (λ k. g4 M k * g4 M (p - k)) (suc p)
unfolding g8 lighter
«9-5» M p = refl

-- (9-6): z8(p) is g8(0) + g8(1) + .. + g8(p − 1)
pub «9-6» : (M p : ℕ) → z8 M p ≡ sum (g8 M) p
unfolding z8
«9-6» M p = refl
