-- Every count of ten bits is rounded once: its hertz are the float nearest to the count over 50. Where the count is a multiple of 25,
-- that is a number of halves and so a float, and the hertz are exact. Assumes nothing.
use mathlib.Core.Bool.{true, false, not}
use mathlib.Core.Path.{◌≡◌, refl, sym, ◌∙◌, subst}
use Prim.Native.Nat.{ℕ, suc, ◌+◌, ◌*◌, ◌≤◌, ◌<◌}
use native.Mathlib.Omega.{arith}
use lib.IntN.{ℤ, pos, negsuc, nat_abs}
use lib.Signed.{mag, non_neg, nat_abs-le}
use lib.Ieee.{Float, binary64, round}
use lib.Ieee.Exact.{HasValue}
use lib.Ieee.Scale.{round_same}
use Rattle.laws.proofs.Floats.{binary-exact}
use Rattle.laws.proofs.Floats as floats
use Rattle.offset.specs.Hertz.{hertz_of}

-- the one rounding
pub rounded-once : (z : ℤ) → mag z < 512 → hertz_of z ≡ round binary64 (not (non_neg z)) (nat_abs z) 50
unfolding hertz_of
rounded-once z h = floats.rounded-once 50 (omega arith) (omega arith) z (omega (arith, nat_abs-le z h))

-- a count of 25·k steps is k halves of a hertz, and halves are floats
exact_at : (z : ℤ) (k : ℕ) → mag z < 512 → nat_abs z ≡ 25 * k → HasValue (hertz_of z) (not (non_neg z)) k 2
exact_at z k h e =
    let s = not (non_neg z) in
    subst (λ (x : Float). HasValue x s k 2)
    (sym (rounded-once z h ∙ round_same binary64 s (nat_abs z) 50 k 2 (omega arith) (omega arith) (omega arith)))
    (binary-exact s k 1 (omega (arith, nat_abs-le z h)) (omega arith))

-- the count 25 k, and the count −25 (k + 1)
pub exact_above : (k : ℕ) → k ≤ 20 → HasValue (hertz_of (pos (25 * k))) false k 2
exact_above k h = exact_at (pos (25 * k)) k (omega arith) refl

pub exact_below : (k : ℕ) → k < 20 → HasValue (hertz_of (negsuc (25 * k + 24))) true (suc k) 2
exact_below k h = exact_at (negsuc (25 * k + 24)) (suc k) (omega arith) (omega arith)
