-- The fraction as a float is the fraction over 65,536 exactly, for all 65,536 of them: nothing is rounded. It is never a NaN, and its bit
-- pattern has 64 bits. Assumes nothing.
use mathlib.Core.Bool.{false}
use mathlib.Core.Path.{◌≡◌, sym, subst}
use Prim.Native.Nat.{ℕ, ◌^◌, ◌<◌}
use native.Mathlib.Omega.{arith}
use lib.Ieee.{Float, binary64, is_nan, to_bits}
use lib.Ieee.Exact.{HasValue}
use lib.IntN.{pos}
use Rattle.laws.proofs.Floats.{rounded-once, never-nan, quotient_fits, binary-exact}
use Rattle.jp.specs.Part.{part_of}

-- `HasValue x false n 65536` says that x is finite, not negative, and n / 65536 in size
pub part-exact : (n : ℕ) → n < 65536 → HasValue (part_of n) false n 65536
unfolding part_of
part-exact n h =
    subst (λ (x : Float). HasValue x false n 65536) (sym (rounded-once 65536 (omega arith) (omega arith) (pos n) (omega arith)))
    (binary-exact false n 16 (omega arith) (omega arith))

pub part-number : (n : ℕ) → is_nan (part_of n) ≡ false
unfolding part_of
part-number n = never-nan 65536 (omega arith) (omega arith) (pos n)

pub part-fits : (n : ℕ) → to_bits binary64 (part_of n) < 2 ^ 64
unfolding part_of
part-fits n = quotient_fits _ _
