-- Which counts have a reading, and what it is: −512 alone has none, every other one is divided once by 50. The quotient is always a number,
-- never a NaN, and its bit pattern has 64 bits. Assumes nothing.
use mathlib.Core.Bool.{Bool, true, false, cond}
use mathlib.Core.Logic.{◌↔◌}
use mathlib.Core.Path.{◌≡◌, refl, ap}
use Prim.Native.Nat.{◌^◌, ◌≤◌, ◌<◌}
use native.Mathlib.Omega.{arith}
use lib.Dec.{eqb}
use lib.IntN.{ℤ, pos, negsuc}
use lib.Signed.{mag}
use lib.Ieee.{Float, binary64, div, of_int, is_nan}
use borrow.Author.Tests.{ne_eqb, eqb-true, eqb-false}
use Rattle.std.specs.Prelude.{Option, Some, None}
use Rattle.laws.proofs.Floats.{never-nan, quotient_fits}
use Rattle.offset.specs.Hertz.{hertz_of, reading_of, is_reading, pattern_of}
use Rattle.offset.specs.Requires.{NoNan}

-- ---- −512 alone has no reading

pub hertz_unless : (z : ℤ) → (z ≡ negsuc 511 → ⊥) → reading_of z ≡ Some (hertz_of z)
hertz_unless (pos n) other = refl
hertz_unless (negsuc n) other = simp (ne_eqb n 511 (λ e. other (ap negsuc e)))

pub reading_exactly :
    (z : ℤ) → (z ≡ negsuc 511 → ⊥) → reading_of z ≡ Some (div binary64 (of_int binary64 z) (of_int binary64 (pos 50)))
unfolding hertz_of
reading_exactly z other = hertz_unless z other

blank-only : (z : ℤ) → is_reading (reading_of z) ≡ 0 → z ≡ negsuc 511
blank-only (pos n) read = absurd (omega arith)
blank-only (negsuc n) read = by (eqb n 511) refl
  where
    by : (v : Bool) → eqb n 511 ≡ v → negsuc n ≡ negsuc 511
    by true e = ap negsuc (eqb-true n 511 e)
    by false e =
        let hertz = hertz_unless (negsuc n) (λ same. eqb-false n 511 e (ap mag same)) in
        absurd (omega (arith, ap is_reading hertz))

pub blank_exactly : (z : ℤ) → (reading_of z ≡ None) ↔ (z ≡ negsuc 511)
blank_exactly z = (λ e. blank-only z (ap is_reading e), λ e. ap reading_of e)

-- the same as a number, which is 0 or 1
pub is_reading_exactly : (z : ℤ) → (is_reading (reading_of z) ≡ 0) ↔ (z ≡ negsuc 511)
is_reading_exactly z = (blank-only z, λ e. ap is_reading ((blank_exactly z).1 e))

pub is_reading-bit : (r : Option Float) → is_reading r ≤ 1
is_reading-bit (Some hertz) = omega arith
is_reading-bit None = omega arith

-- ---- the quotient is a number

hertz_number : (z : ℤ) → is_nan (hertz_of z) ≡ false
unfolding hertz_of
hertz_number z = never-nan 50 (omega arith) (omega arith) z

-- what holds of a blank and of the quotient holds of the reading
whichever : (P : Option Float → Type 0) (z : ℤ) → P None → P (Some (hertz_of z)) → P (reading_of z)
whichever P (pos n) blank hertz = hertz
whichever P (negsuc n) blank hertz = by (eqb n 511)
  where
    by : (v : Bool) → P (cond v None (Some (hertz_of (negsuc n))))
    by true = blank
    by false = hertz

pub no_nan : (z : ℤ) → NoNan (reading_of z)
no_nan z = whichever NoNan z tt (rw (hertz_number z) tt)

pub pattern-fits : (z : ℤ) → pattern_of (reading_of z) < 2 ^ 64
pattern-fits z = whichever (λ r. pattern_of r < 2 ^ 64) z (omega arith) (unfold hertz_of in quotient_fits _ _)
