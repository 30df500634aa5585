-- Two's complement, for every weight `half` of the highest bit and so for every number of bits: bits and numbers undo each other, and the
-- highest bit, the last of them, counts negative. Of bits 79 to 88 that is bit 88 (V.34, Table 15). Assumes nothing.
use mathlib.Core.List.{List, [], ◌∷◌, ◌++◌}
use mathlib.Core.Logic.{◌↔◌}
use mathlib.Core.Path.{◌≡◌, ap, ◌∙◌}
use Prim.Native.Nat.{ℕ, zero, suc, ◌+◌, ◌*◌, ◌^◌, ◌≤◌, ◌<◌}
use native.Mathlib.Omega.{arith}
use lib.IntN.{ℤ, pos, negsuc, ◌-ℤ◌}
use lib.ListN.{length}
use lib.Signed.{mag}
use Rattle.std.proofs.lemmas.Int.{ints}
use Rattle.bits.specs.Digits.{value, Bits}
use Rattle.bits.proofs.Digitals.{value_below, value-append}
use Rattle.offset.specs.Signed.{signed, unsigned}

-- the last bit counts negative, and the bits before it as ever
pub sign_bit :
    (bits : List ℕ) (sign : ℕ) → Bits bits → sign ≤ 1
    → signed (2 ^ length bits) (value (bits ++ sign ∷ [])) ≡ pos (value bits) -ℤ pos (sign * 2 ^ length bits)
unfolding value
sign_bit bits sign h s =
    let half = 2 ^ length bits in
    let one : sign + 2 * 0 ≡ sign = omega arith in
    ap (signed half) (value-append bits (sign ∷ []) ∙ ap (λ (n : ℕ). value bits + half * n) one)
    ∙ highest half (value bits) sign (value_below bits h) s
  where
    highest : (half low sign : ℕ) → low < half → sign ≤ 1 → signed half (low + half * sign) ≡ pos low -ℤ pos (sign * half)
    highest half low zero h s = grind (arith, ints)
    highest half low (suc zero) h s = grind (arith, ints)
    highest half low (suc (suc more)) h s = absurd (omega arith)

-- exactly the numbers from −half up to half − 1 have bits
pub held : (half : ℕ) (z : ℤ) → (unsigned half z < half + half) ↔ (mag z < half)
held half (pos n) = grind arith
held half (negsuc n) = grind arith

pub unsigned-held : (half : ℕ) (z : ℤ) → mag z < half → unsigned half z < half + half
unsigned-held half z = (held half z).1

-- bits to a number, which they hold, and back
module _ (half n : ℕ) (h : n < half + half) where
  pub unsigned_signed : unsigned half (signed half n) ≡ n
  unsigned_signed = grind arith

  pub signed-held : mag (signed half n) < half
  signed-held = grind arith

-- a number that has bits to them and back
pub signed-unsigned : (half : ℕ) (z : ℤ) → unsigned half z < half + half → signed half (unsigned half z) ≡ z
signed-unsigned half (pos n) h = grind arith
signed-unsigned half (negsuc n) h = grind arith

-- few bits as more of them, and back; and many bits as fewer, where those hold the number, and back
module _ (few many : ℕ) (fits : few ≤ many) (n : ℕ) where
  pub more_and_back : n < few + few → unsigned few (signed many (unsigned many (signed few n))) ≡ n
  more_and_back h =
      let z = signed few n in
      let held : mag z < many = omega (arith, signed-held few n h) in
      ap (unsigned few) (signed-unsigned many z (unsigned-held many z held)) ∙ unsigned_signed few n h

  pub back_and_more :
      n < many + many → unsigned few (signed many n) < few + few → unsigned many (signed few (unsigned few (signed many n))) ≡ n
  back_and_more h held = ap (unsigned many) (signed-unsigned few (signed many n) held) ∙ unsigned_signed many n h
