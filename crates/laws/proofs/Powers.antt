-- Powers as code computes them: by squaring, and 2^k by a shift. Assumes nothing.
use mathlib.Core.Path.{◌≡◌, sym, ◌∙◌}
use Prim.Native.Nat.{ℕ, ◌+◌, ◌*◌, ◌%◌, ◌^◌, ◌<◌}
use native.Mathlib.Nat.{pow-zero, pow-suc, one-mul, mod-eq_of_lt}
use lib.Pow.{pow-add, pow-lt}

-- squaring doubles the exponent
squared : (n i x : ℕ) → n ^ i ≡ x → n ^ (i + i) ≡ x * x
squared n i x e = pow-add n i i ∙ rw e

pub three_squarings : (n : ℕ) → n * n * (n * n) * (n * n * (n * n)) ≡ n ^ 8
three_squarings n = sym (squared n 4 _ (squared n 2 _ (squared n 1 n first)))
  where
    first : n ^ 1 ≡ n
    first = pow-suc n 0 ∙ rw pow-zero (one-mul n)

-- 1 << k of 64 bits
pub shifted_one : (k : ℕ) → k < 64 → (1 * 2 ^ k) % 2 ^ 64 ≡ 2 ^ k
shifted_one k h = rw one-mul (mod-eq_of_lt (pow-lt h))
