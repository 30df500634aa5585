-- What the counts of one half and the sums over two halves can be at most, for every M. Assumes nothing.
use mathlib.Core.Path.{◌≡◌}
use Prim.Native.Nat.{ℕ, ◌+◌, ◌*◌, ◌-◌, ◌≤◌, ◌<◌}
use native.Mathlib.Nat.{mul-le-mul}
use native.Mathlib.Numerals.{add-one}
use native.Mathlib.Omega.{arith}
use Rattle.laws.proofs.Sums.{sum-zero, sum-suc, sum-rises, sum_bound}
use Rattle.listing.specs.Counts.{g2, lighter}
use Rattle.listing.specs.Number.{place_of_pair}
use Rattle.listing.specs.Sets.{Pair, Below2}

module _ (g : ℕ → ℕ) (t : ℕ) where
  pub lighter-zero : lighter g t 0 ≡ 0
  unfolding lighter
  lighter-zero = sum-zero _

  -- one first weight more
  pub lighter-more : (p : ℕ) → lighter g t (p + 1) ≡ lighter g t p + g p * g (t - p)
  unfolding lighter
  lighter-more p = rw add-one (sum-suc _ p)

  -- one product, and all before it, are part of a longer sum
  pub lighter-rises : (a b : ℕ) → a < b → lighter g t a + g a * g (t - a) ≤ lighter g t b
  unfolding lighter
  lighter-rises a b h = sum-rises _ a b h

  -- b products of counts of at most c
  pub lighter-bound : (c b : ℕ) → ((p : ℕ) → g p ≤ c) → lighter g t b ≤ b * (c * c)
  unfolding lighter
  lighter-bound c b h = sum_bound _ (c * c) b (λ p l. mul-le-mul (h p) (h (t - p)))

-- no sum is that of more than M pairs
pub g2-bound : (M p : ℕ) → g2 M p ≤ M
unfolding g2
g2-bound M p = omega arith

-- a place is below M, since a sum has at most M pairs
pub place_of_pair-bound : (M : ℕ) (x : Pair) → Below2 M x → place_of_pair M x < M
unfolding place_of_pair
place_of_pair-bound M x h = grind arith
