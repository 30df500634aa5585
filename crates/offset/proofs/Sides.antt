-- Whole numbers on either side of 0, and what their bits are there. Assumes nothing.
use mathlib.Core.Bool.{true, false}
use mathlib.Core.Path.{◌≡◌, refl, ap}
use Prim.Native.Nat.{ℕ, zero, suc, ◌-◌, ◌<◌}
use native.Mathlib.Omega.{arith}
use lib.IntN.{ℤ, pos, negsuc, ◌-ℤ◌}
use lib.Signed.{mag, lt_z}
use borrow.Author.Tests.{lt-ltb, le-ltb, ltb-true}

-- −1 − n is −(n + 1)
pub one_below : (n : ℕ) → negsuc 0 -ℤ pos n ≡ negsuc n
one_below zero = refl
one_below (suc n) = ap negsuc (omega arith)

-- n − m where n is below m
pub short_of : (n m : ℕ) → n < m → pos n -ℤ pos m ≡ negsuc (m - suc n)
short_of n zero h = absurd (omega arith)
short_of n (suc m) h = simp (lt-ltb n (suc m) h)

-- −1 − z is `mag z` below 0, and z is from 0 on
pub turned : (z : ℤ) → lt_z z (pos 0) ≡ true → negsuc 0 -ℤ z ≡ pos (mag z)
turned (pos n) e = absurd (omega (arith, ltb-true n 0 e))
turned (negsuc n) e = simp (le-ltb (suc n) 1 (omega arith)) (ap pos (omega arith))

pub unturned : (z : ℤ) → lt_z z (pos 0) ≡ false → z ≡ pos (mag z)
unturned (pos n) e = refl
unturned (negsuc n) e = cc e
