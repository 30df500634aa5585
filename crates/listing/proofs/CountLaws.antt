-- The counts of clause 9.4 for every M: where they are 0, how large they get, and a list of z8 that computes in few steps.
-- Assumes nothing.
use mathlib.Core.List.{List}
use mathlib.Core.Path.{◌≡◌, ◌∙◌, ap, subst, fun_ext}
use Prim.Native.Nat.{ℕ, suc, ◌+◌, ◌*◌, ◌-◌, ◌≤◌, ◌<◌}
use native.Mathlib.Nat.{zero-add, zero-mul, mul-zero, mul-le-mul}
use native.Mathlib.Decide.{dec_le}
use native.Mathlib.Omega.{arith}
use lib.ListN.{get_or, length}
use Rattle.laws.specs.Sum.{sum}
use Rattle.laws.proofs.Sums.{sum_bound}
use Rattle.laws.proofs.Convolution.{sum_none, values, values_at, times, times_at, running, length_running, running_at}
use Rattle.listing.specs.Counts.{g2, g4, g8, z8, lighter}
use Rattle.listing.proofs.Bounds.{g2-bound}

-- no pair of rings below M weighs more than 2(M − 1)
pub g2-ends : (M p : ℕ) → 2 * M ≤ p + 1 → g2 M p ≡ 0
unfolding g2
g2-ends M p h = omega arith

-- no four of rings below M weighs more than 4(M − 1): of its two pairs one would weigh more than 2(M − 1)
pub g4-ends : (M p : ℕ) → 4 * M ≤ p + 3 → g4 M p ≡ 0
unfolding g4 lighter
g4-ends M p h = sum_none (λ q. g2 M q * g2 M (p - q)) (suc p) none
  where
    none : (q : ℕ) → q < suc p → g2 M q * g2 M (p - q) ≡ 0
    none q l =
        elim (dec_le (2 * M) (q + 1)) [
          | yes k ↦ rw (g2-ends M q k) (zero-mul (g2 M (p - q)))
          | no k ↦ rw (g2-ends M (p - q) (omega arith)) (mul-zero (g2 M q))
        ]

-- p + 1 products of two counts of pairs
pub g4-within : (M p : ℕ) → g4 M p ≤ suc p * (M * M)
unfolding g4 lighter
g4-within M p =
    sum_bound
    (λ q. g2 M q * g2 M (p - q))
    (M * M)
    (suc p)
    (λ q l. mul-le-mul (g2-bound M q) (g2-bound M (p - q)))

-- a list as a function, 0 beyond the end
abbrev entry : List ℕ → ℕ → ℕ
entry xs p = get_or xs p 0

-- of halves that the list counts, the counts of the sets that two of them make
unfoldable pub squared : List ℕ → List ℕ
squared xs = times xs xs

-- where the list is g, that is the sum of (9-4) and (9-5)
squared_at : (g : ℕ → ℕ) (xs : List ℕ) → entry xs ≡ g → (t : ℕ) → entry (squared xs) t ≡ lighter g t (suc t)
unfolding squared lighter
squared_at g xs e t =
    subst (λ (f : ℕ → ℕ). entry (times xs xs) t ≡ sum (λ p. f p * f (t - p)) (suc t)) e (times_at xs xs t)

-- z8 M at 0 to n − 1: pairs, squared to fours and to eights, and these run up
unfoldable pub z8_list : ℕ → ℕ → List ℕ
z8_list M n = running n 0 (squared (squared (values (g2 M) (2 * M))))

pub length_z8_list : (M n : ℕ) → length (z8_list M n) ≡ n
unfolding z8_list
length_z8_list M n = length_running n 0 (squared (squared (values (g2 M) (2 * M))))

-- each level is the definition's: the list of pairs is g2, so its square is g4, and the square of that g8
pub z8_list_at : (M n p : ℕ) → p < n → get_or (z8_list M n) p 0 ≡ z8 M p
unfolding z8_list z8 g8 g4
z8_list_at M n p h =
    running_at n 0 (squared (squared pairs)) p h
    ∙ (zero-add (sum (entry (squared (squared pairs))) p) ∙ ap (λ (f : ℕ → ℕ). sum f p) eights_at)
  where
    pairs : List ℕ
    pairs = values (g2 M) (2 * M)

    pairs_at : entry pairs ≡ g2 M
    pairs_at = fun_ext (values_at (g2 M) (2 * M) (λ p l. g2-ends M p (omega arith)))

    fours_at : entry (squared pairs) ≡ g4 M
    fours_at = fun_ext (squared_at (g2 M) pairs pairs_at)

    eights_at : entry (squared (squared pairs)) ≡ g8 M
    eights_at = fun_ext (squared_at (g4 M) (squared pairs) fours_at)
