-- Laws of `smallest`: nothing below it passes, it passes where the limit does, and a number that passes with none below it that
-- does is the smallest. Assumes nothing.
use mathlib.Core.Bool.{Bool, true, false}
use mathlib.Core.Logic.{◌⊎◌, inr}
use mathlib.Core.Path.{◌≡◌, refl}
use Prim.Native.Nat.{ℕ, zero, suc, ◌≤◌, ◌<◌}
use native.Mathlib.Omega.{arith}
use Rattle.laws.specs.Smallest.{smallest}

module _ (test : ℕ → Bool) where
  -- it passes, or the search has run to its limit
  passes-or-limit : (n : ℕ) → (test (smallest test n) ≡ true) ⊎ (smallest test n ≡ n)
  unfolding smallest
  passes-or-limit zero = inr refl
  passes-or-limit (suc n) = grind arith

  pub smallest-passes : (n : ℕ) → test n ≡ true → test (smallest test n) ≡ true
  smallest-passes n h = let end = passes-or-limit n in grind arith

  pub smallest-le : (n : ℕ) → smallest test n ≤ n
  unfolding smallest
  smallest-le zero = omega arith
  smallest-le (suc n) = let before = smallest-le n in grind arith

  -- what is below it fails: it was passed by, or it is the one that was tried last
  pub below-smallest : (n k : ℕ) → k < smallest test n → test k ≡ false
  unfolding smallest
  below-smallest zero k h = absurd (omega arith)
  below-smallest (suc n) k h =
      let before = below-smallest n k in
      let end = passes-or-limit n in
      grind arith

  pub smallest_is :
      (n k : ℕ) → k ≤ n → test k ≡ true → ((j : ℕ) → j < k → test j ≡ false) → smallest test n ≡ k
  smallest_is n k h passes first =
      let end = passes-or-limit n in
      let below = below-smallest n k in
      let before = first (smallest test n) in
      grind arith
