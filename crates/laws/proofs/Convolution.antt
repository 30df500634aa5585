-- More laws of `sum`, and sums computed on lists: a list is read as a function that is 0 beyond its end, two lists are multiplied as
-- polynomials are, and the sums of a list are run up. The lists compute in few steps, and a law for each says what it holds.
--
--     values f 3                  f 0, f 1, f 2
--     times (1, 2) (5, 7)         5, 17, 14
--     running 4 0 (5, 17, 14)     0, 5, 22, 36
--
-- Assumes nothing.
use mathlib.Core.List.{List, [], ◌∷◌}
use mathlib.Core.Path.{◌≡◌, refl, sym, ap}
use Prim.Native.Nat.{ℕ, zero, suc, ◌+◌, ◌*◌, ◌-◌, ◌≤◌, ◌<◌, zero-le, suc-le-suc}
use native.Mathlib.Nat.{zero-mul, mul-zero, sub-zero, suc-sub-suc, not-suc-le-zero, le_of_suc-le-suc}
use native.Mathlib.Omega.{arith}
use lib.ListN.{get_or, length}
use Rattle.laws.specs.Sum.{sum}
use Rattle.laws.proofs.Sums.{sum_same}

-- the first number taken off instead of the last
pub sum-front : (f : ℕ → ℕ) (n : ℕ) → sum f (suc n) ≡ f 0 + sum (λ k. f (suc k)) n
unfolding sum
sum-front f zero = omega arith
sum-front f (suc n) = omega (arith, sum-front f n)

-- numbers that are all 0
pub sum_none : (f : ℕ → ℕ) (n : ℕ) → ((p : ℕ) → p < n → f p ≡ 0) → sum f n ≡ 0
unfolding sum
sum_none f zero h = refl
sum_none f (suc n) h = omega (arith, sum_none f n (λ p l. h p (omega arith)), h n (omega arith))

-- f 0, f 1, .., f (n − 1)
unfoldable pub values : (ℕ → ℕ) → ℕ → List ℕ
values f zero = []
values f (suc n) = f 0 ∷ values (λ k. f (suc k)) n

-- the whole of a function that is 0 from n on
pub values_at : (f : ℕ → ℕ) (n : ℕ) → ((p : ℕ) → n ≤ p → f p ≡ 0) → (p : ℕ) → get_or (values f n) p 0 ≡ f p
unfolding values
values_at f zero h p = sym (h p zero-le)
values_at f (suc n) h zero = refl
values_at f (suc n) h (suc p) = values_at (λ k. f (suc k)) n (λ q l. h (suc q) (suc-le-suc l)) p

-- at each place below n, whatever f is beyond
pub values-below : (f : ℕ → ℕ) (n p : ℕ) → p < n → get_or (values f n) p 0 ≡ f p
unfolding values
values-below f zero p h = absurd (not-suc-le-zero h)
values-below f (suc n) zero h = refl
values-below f (suc n) (suc p) h = values-below (λ k. f (suc k)) n p (le_of_suc-le-suc h)

-- x times the first list, added to the second
unfoldable pub times_plus : ℕ → List ℕ → List ℕ → List ℕ
times_plus x [] zs = zs
times_plus x (y ∷ ys) [] = (x * y) ∷ times_plus x ys []
times_plus x (y ∷ ys) (z ∷ zs) = (x * y + z) ∷ times_plus x ys zs

-- at each place the two are added; beyond the end of a list stands 0
times_plus_at : (x : ℕ) (ys zs : List ℕ) (p : ℕ) → get_or (times_plus x ys zs) p 0 ≡ x * get_or ys p 0 + get_or zs p 0
unfolding times_plus
times_plus_at x [] zs p = omega (arith, mul-zero x)
times_plus_at x (y ∷ ys) [] zero = omega arith
times_plus_at x (y ∷ ys) [] (suc p) = times_plus_at x ys [] p
times_plus_at x (y ∷ ys) (z ∷ zs) zero = refl
times_plus_at x (y ∷ ys) (z ∷ zs) (suc p) = times_plus_at x ys zs p

-- the product of two lists as polynomials
unfoldable pub times : List ℕ → List ℕ → List ℕ
times [] ys = []
times (x ∷ xs) ys = times_plus x ys (0 ∷ times xs ys)

-- at t it has the sum of the products of two places that make t
pub times_at :
    (xs ys : List ℕ) (t : ℕ)
    → get_or (times xs ys) t 0 ≡ sum (λ p. get_or xs p 0 * get_or ys (t - p) 0) (suc t)
unfolding times sum
times_at [] ys t = sym (sum_none (λ p. 0 * get_or ys (t - p) 0) (suc t) (λ p l. zero-mul (get_or ys (t - p) 0)))
times_at (x ∷ xs) ys zero = omega (arith, times_plus_at x ys (0 ∷ times xs ys) 0)
times_at (x ∷ xs) ys (suc t) =
    omega (
      arith,
      times_plus_at x ys (0 ∷ times xs ys) (suc t),
      times_at xs ys t,
      ap (λ (q : ℕ). x * get_or ys q 0) (sub-zero (suc t)),
      sum-front (λ p. get_or (x ∷ xs) p 0 * get_or ys (suc t - p) 0) (suc t),
      rest,
    )
  where
    rest :
        sum (λ p. get_or xs p 0 * get_or ys (suc t - suc p) 0) (suc t) ≡ sum (λ p. get_or xs p 0 * get_or ys (t - p) 0) (suc t)
    rest =
        sum_same
        (λ p. get_or xs p 0 * get_or ys (suc t - suc p) 0)
        (λ p. get_or xs p 0 * get_or ys (t - p) 0)
        (suc t)
        (λ p l. rw suc-sub-suc)

-- the first n sums of a list, with s before them
unfoldable pub running : ℕ → ℕ → List ℕ → List ℕ
running zero s xs = []
running (suc n) s [] = s ∷ running n s []
running (suc n) s (x ∷ xs) = s ∷ running n (s + x) xs

-- n of them, whatever the list's length
pub length_running : (n s : ℕ) (xs : List ℕ) → length (running n s xs) ≡ n
unfolding running
length_running zero s xs = refl
length_running (suc n) s [] = ap suc (length_running n s [])
length_running (suc n) s (x ∷ xs) = ap suc (length_running n (s + x) xs)

-- at p stands s and the sum of the numbers before p
pub running_at : (n s : ℕ) (xs : List ℕ) (p : ℕ) → p < n → get_or (running n s xs) p 0 ≡ s + sum (λ k. get_or xs k 0) p
unfolding running sum
running_at zero s xs p h = absurd (not-suc-le-zero h)
running_at (suc n) s [] zero h = omega arith
running_at (suc n) s (x ∷ xs) zero h = omega arith
running_at (suc n) s [] (suc p) h = omega (arith, running_at n s [] p (le_of_suc-le-suc h))
running_at (suc n) s (x ∷ xs) (suc p) h =
    omega (arith, running_at n (s + x) xs p (le_of_suc-le-suc h), sum-front (λ k. get_or (x ∷ xs) k 0) p)
