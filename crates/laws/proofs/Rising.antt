-- `largest` over a function that rises up to the limit: a place where the function is still small enough, and which is the limit
-- or is followed by one where it is not, is the largest. Assumes nothing.
use mathlib.Core.Path.{◌≡◌, refl}
use Prim.Native.Nat.{ℕ, zero, suc, ◌≤◌, ◌<◌}
use native.Mathlib.Omega.{arith}
use borrow.Author.Tests.{le-leb, lt-leb}
use Rattle.laws.specs.Largest.{largest}

-- f does not fall between 0 and n
abbrev pub RisesTo : (ℕ → ℕ) → ℕ → Type 0
RisesTo f n = (p q : ℕ) → p ≤ q → q ≤ n → f p ≤ f q

-- the limit itself, where f is small enough there
pub largest-top : (f : ℕ → ℕ) (r n : ℕ) → f n ≤ r → largest f r n ≡ n
unfolding largest
largest-top f r zero h = refl
largest-top f r (suc n) h = rw (le-leb (f (suc n)) r h)

-- a limit at which f is too large is passed over
pub largest-down : (f : ℕ → ℕ) (r n : ℕ) → r < f (suc n) → largest f r (suc n) ≡ largest f r n
unfolding largest
largest-down f r n h = rw (lt-leb (f (suc n)) r h)

-- a place that is small enough, followed by one that is not
pub largest-below : (f : ℕ → ℕ) (r n b : ℕ) → RisesTo f n → b < n → f b ≤ r → r < f (suc b) → largest f r n ≡ b
largest-below f r zero b rises l h k = absurd (omega arith)
largest-below f r (suc n) b rises l h k =
    let large = rises (suc b) (suc n) l in
    let down = largest-down f r n in
    let top = largest-top f r n in
    let below = largest-below f r n b (λ p q x y. rises p q x (omega arith)) in
    grind arith

-- functions that agree up to the limit have the same largest place
pub largest_same : (f g : ℕ → ℕ) (r n : ℕ) → ((p : ℕ) → p ≤ n → f p ≡ g p) → largest f r n ≡ largest g r n
unfolding largest
largest_same f g r zero h = refl
largest_same f g r (suc n) h =
    rw (h (suc n) (omega arith), largest_same f g r n (λ p l. h p (omega arith)))
