-- Laws of `largest` over running sums: where the limit's own sum is above r, the largest b whose sum is at most r is the block
-- that r lies in, and there is only one such block. Assumes nothing.
use mathlib.Core.Bool.{Bool, true, false, cond}
use mathlib.Core.Logic.{◌⊎◌}
use mathlib.Core.Path.{◌≡◌, refl}
use Prim.Native.Nat.{ℕ, zero, suc, ◌+◌, ◌≤◌, ◌<◌}
use native.Mathlib.Omega.{arith}
use borrow.Author.Tests.{leb-true, leb-false}
use lib.Dec.{leb}
use Rattle.laws.specs.Sum.{sum}
use Rattle.laws.specs.Largest.{largest}
use Rattle.laws.proofs.Sums.{sum-zero, sum-suc, sum-rises}

-- r lies in block b of the sums of f: what comes before it is at most r, and with the block itself above r
pub record Within (f : ℕ → ℕ) (r b : ℕ) : Type 0 where
  pub from : sum f b ≤ r
  pub to : r < sum f b + f b

-- three ways for two numbers to lie
pub tri : (a b : ℕ) → (a < b) ⊎ ((a ≡ b) ⊎ (b < a))
tri a b = grind arith

pub within-once : (f : ℕ → ℕ) (r a b : ℕ) → Within f r a → Within f r b → a ≡ b
within-once f r a b p q =
    let first = sum-rises f a b in
    let last = sum-rises f b a in
    grind arith

pub largest-le : (f : ℕ → ℕ) (r n : ℕ) → largest f r n ≤ n
unfolding largest
largest-le f r zero = omega arith
largest-le f r (suc n) = let before = largest-le f r n in grind arith

pub largest-within : (f : ℕ → ℕ) (r n : ℕ) → r < sum f (suc n) → Within f r (largest (sum f) r n)
unfolding largest
largest-within f r zero h = let a = sum-zero f in let b = sum-suc f 0 in record { from = omega arith; to = omega arith }
largest-within f r (suc n) h = go (leb (sum f (suc n)) r) refl (largest-within f r n)
  where
    go :
        (v : Bool)
        → leb (sum f (suc n)) r ≡ v
        → (r < sum f (suc n) → Within f r (largest (sum f) r n))
        → Within f r (cond v (suc n) (largest (sum f) r n))
    go true e k = let u = sum-suc f (suc n) in record { from = leb-true (sum f (suc n)) r e; to = omega arith }
    go false e k = k (leb-false (sum f (suc n)) r e)

-- the block that r lies in is the one that is found
pub largest_is : (f : ℕ → ℕ) (r n b : ℕ) → b ≤ n → Within f r b → largest (sum f) r n ≡ b
largest_is f r n b h w = within-once f r (largest (sum f) r n) b (largest-within f r n below) w
  where
    below : r < sum f (suc n)
    below = let z = sum-rises f b (suc n) (omega arith) in let u = w.to in omega arith
