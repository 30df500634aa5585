-- Whole numbers and their bits: digits and value undo each other, n bits make a number below 2^n, and parts of lists of bits are
-- lists of bits. Assumes nothing.
use mathlib.Core.List.{List, [], ◌∷◌, ◌++◌}
use mathlib.Core.Path.{◌≡◌, refl, subst, ap, ap₂, ◌∙◌}
use Prim.Native.Nat.{ℕ, zero, suc, ◌+◌, ◌*◌, ◌/◌, ◌^◌, ◌≤◌, ◌<◌}
use native.Mathlib.Nat.{pow-suc, lt_of_lt_of_le}
use native.Mathlib.Omega.{arith}
use lib.ListN.{length, get_or, take, drop, length-take}
use lib.Pow.{pow_mono}
use lib.Seq.{length-take-le}
use Rattle.laws.proofs.Counting.{every_append, every_at}
use Rattle.bits.specs.Digits.{value, digits, Bits}

pub length_digits : (n x : ℕ) → length (digits n x) ≡ n
unfolding digits
length_digits zero x = refl
length_digits (suc n) x = ap suc (length_digits n (x / 2))

pub bits-digits : (n x : ℕ) → Bits (digits n x)
unfolding digits
bits-digits zero x = tt
bits-digits (suc n) x = (omega arith, bits-digits n (x / 2))

-- lists of bits, put together and taken apart
pub bits-append : (a b : List ℕ) → Bits a → Bits b → Bits (a ++ b)
bits-append a b h k = every_append (λ bit. bit ≤ 1) a b h k

pub bits-take : (n : ℕ) (bits : List ℕ) → Bits bits → Bits (take n bits)
bits-take zero bits h = tt
bits-take (suc n) [] h = tt
bits-take (suc n) (bit ∷ bits) h = (h.0, bits-take n bits h.1)

pub bits-drop : (n : ℕ) (bits : List ℕ) → Bits bits → Bits (drop n bits)
bits-drop zero bits h = h
bits-drop (suc n) [] h = tt
bits-drop (suc n) (bit ∷ bits) h = bits-drop n bits h.1

pub bits_at : (bits : List ℕ) (i : ℕ) → Bits bits → get_or bits i 0 ≤ 1
bits_at bits i h = every_at (λ bit. bit ≤ 1) 0 (omega arith) bits h i

-- n bits make a number below 2^n
pub value_below : (bits : List ℕ) → Bits bits → value bits < 2 ^ length bits
unfolding value
value_below [] h = omega arith
value_below (bit ∷ bits) h =
    let rest = value_below bits h.1 in
    rw pow-suc (omega arith)

pub value-take-below : (n : ℕ) (bits : List ℕ) → Bits bits → value (take n bits) < 2 ^ n
value-take-below n bits h =
    lt_of_lt_of_le (value_below (take n bits) (bits-take n bits h)) (pow_mono (omega (arith, length-take n bits)))

-- bits put behind others weigh 2^n, where those are n
pub value-append : (a b : List ℕ) → value (a ++ b) ≡ value a + 2 ^ length a * value b
unfolding value
value-append [] b = omega arith
value-append (bit ∷ a) b =
    let rest = value-append a b in
    rw pow-suc (omega arith)

-- a number is its n lowest bits where it is below 2^n
pub value-digits : (n x : ℕ) → x < 2 ^ n → value (digits n x) ≡ x
unfolding value digits
value-digits zero x h = omega arith
value-digits (suc n) x h =
    let doubled : x < 2 ^ n * 2 = rw pow-suc at h in
    let rest = value-digits n (x / 2) (omega arith) in
    omega arith

-- bits are the digits of their number
pub digits_value : (bits : List ℕ) → Bits bits → digits (length bits) (value bits) ≡ bits
unfolding value digits
digits_value [] h = refl
digits_value (bit ∷ bits) h =
    ap₂ ◌∷◌ (omega arith) (ap (digits (length bits)) half ∙ digits_value bits h.1)
  where
    half : (bit + 2 * value bits) / 2 ≡ value bits
    half = omega arith

pub digits_value-take : (n : ℕ) (bits : List ℕ) → n ≤ length bits → Bits bits → digits n (value (take n bits)) ≡ take n bits
digits_value-take n bits l h =
    subst (λ (k : ℕ). digits k (value (take n bits)) ≡ take n bits) (length-take-le n bits l)
    (digits_value (take n bits) (bits-take n bits h))
