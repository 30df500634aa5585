-- Laws of `sum`: its clauses, that a sum of more numbers is not less, a bound, and equal sums of equal numbers. Assumes nothing.
use mathlib.Core.Path.{◌≡◌, refl, ap₂}
use Prim.Native.Nat.{ℕ, zero, suc, ◌+◌, ◌*◌, ◌≤◌, ◌<◌}
use native.Mathlib.Nat.{not-suc-le-zero, suc-mul}
use native.Mathlib.Omega.{arith}
use Rattle.laws.specs.Sum.{sum}

pub sum-zero : (f : ℕ → ℕ) → sum f 0 ≡ 0
unfolding sum
sum-zero f = refl

pub sum-suc : (f : ℕ → ℕ) (n : ℕ) → sum f (suc n) ≡ sum f n + f n
unfolding sum
sum-suc f n = refl

-- the number at a, and all before it, are part of a longer sum
pub sum-rises : (f : ℕ → ℕ) (a b : ℕ) → a < b → sum f a + f a ≤ sum f b
unfolding sum
sum-rises f a zero h = absurd (not-suc-le-zero h)
sum-rises f a (suc b) h =
    let before = sum-rises f a b in
    grind arith

pub sum_mono : (f : ℕ → ℕ) (a b : ℕ) → a ≤ b → sum f a ≤ sum f b
sum_mono f a b h =
    let rises = sum-rises f a b in
    grind arith

-- n numbers of at most c
pub sum_bound : (f : ℕ → ℕ) (c n : ℕ) → ((p : ℕ) → p < n → f p ≤ c) → sum f n ≤ n * c
unfolding sum
sum_bound f c zero h = omega arith
sum_bound f c (suc n) h = omega (arith, sum_bound f c n (λ p l. h p (omega arith)), h n (omega arith), suc-mul n c)

pub sum_same : (f g : ℕ → ℕ) (n : ℕ) → ((p : ℕ) → p < n → f p ≡ g p) → sum f n ≡ sum g n
unfolding sum
sum_same f g zero h = refl
sum_same f g (suc n) h = ap₂ (λ (a b : ℕ). a + b) (sum_same f g n (λ p l. h p (omega arith))) (h n (omega arith))
