-- One whole number divided by another, in the arithmetic of IEEE 754's binary64. Both are floats as they are, up to 2^53; the quotient is
-- rounded once, and is never a NaN. Over a power of two nothing is rounded. Assumes nothing.
use mathlib.Core.Bool.{Bool, true, false, not, cond}
use mathlib.Core.Path.{◌≡◌, refl, sym, ap, subst, ◌∙◌}
use Prim.Native.Nat.{ℕ, zero, suc, ◌+◌, ◌-◌, ◌*◌, ◌^◌, ◌≤◌, ◌<◌}
use native.Mathlib.Nat.{lt_of_lt_of_le, mul_assoc, mul_comm, mul_left_comm, mul-pos}
use native.Mathlib.Omega.{arith}
use borrow.Author.Tests.{ne_eqb}
use lib.Dec.{eqb, ltb}
use lib.Ieee.{Float, nan, inf, fin, Format, binary64, low, emax, prec, up, down, unlike, div, of_int, is_nan, to_bits, odd, units, round}
use lib.Ieee.Back.{round_whole}
use lib.Ieee.Bits.{to_bits-lt}
use lib.Ieee.Exact.{HasValue, round_exact}
use lib.Ieee.Fits.{div-fits, down_pos}
use lib.Ieee.Positive.{first_pos}
use lib.Ieee.Scale.{round_same}
use lib.IntN.{ℤ, pos, negsuc, nat_abs}
use lib.Pow.{pow-add, pow_mono, pow_pos, shl_lt}
use lib.Signed.{non_neg}

-- a whole number as a float
pub cast-exact : (z : ℤ) → nat_abs z ≤ 2 ^ 53 → HasValue (of_int binary64 z) (not (non_neg z)) (nat_abs z) 1
unfolding of_int
cast-exact (pos n) h = round_whole binary64 false n h
cast-exact (negsuc n) h = round_whole binary64 true (suc n) h

-- ---- what is rounded is a number

units_number : (f : Format) (s : Bool) (q k : ℕ) → is_nan (units f s q k) ≡ false
unfolding units
units_number f s q k = by (ltb (q * 2 ^ k) (2 ^ (low f + suc (emax f)))) q
  where
    by : (v : Bool) (q : ℕ) → is_nan (cond v (odd (suc (prec f)) s q k (low f)) (inf s)) ≡ false
    by true zero = unfold odd is_nan in refl
    by true (suc q) = unfold odd is_nan in refl
    by false q = unfold is_nan in refl

round_number : (f : Format) (s : Bool) (num den : ℕ) → is_nan (round f s num den) ≡ false
unfolding round
round_number f s num den = units_number f s _ _

cast-number : (z : ℤ) → is_nan (of_int binary64 z) ≡ false
unfolding of_int
cast-number (pos n) = round_number binary64 false n 1
cast-number (negsuc n) = round_number binary64 true (suc n) 1

-- ---- a float over one that is a whole number d above 0

sign_kept : (t u s : Bool) → t ≡ s → u ≡ false → unlike t u ≡ s
sign_kept true true s p q = sym q ∙ p
sign_kept true false s p q = p
sign_kept false true s p q = absurd (subst (λ (v : Bool). cond v (Unit {0}) ⊥) q tt)
sign_kept false false s p q = p

-- its significand is not 0, by which the division goes
raised : (k d : ℕ) (g : ℤ) → 0 < d → k * up g * 1 ≡ d * down g → 0 < k * up g
raised k d g some e = first_pos (k * up g) 1 (subst (λ (n : ℕ). 0 < n) (sym e) (mul-pos some (down_pos g)))

filled : (k d : ℕ) (g : ℤ) → 0 < d → k * up g * 1 ≡ d * down g → 0 < k
filled k d g some e = first_pos k (up g) (raised k d g some e)

abbrev quotient : Bool → Bool → ℕ → ℤ → ℕ → ℤ → Float
quotient v s m e k g =
    cond v (cond (eqb m 0) nan (inf s)) (round binary64 s (m * up e * down g) (k * up g * down e))

cross : (a b n d p q : ℕ) → a * 1 ≡ n * p → b * 1 ≡ d * q → a * q * d ≡ n * (b * p)
cross a b n d p q v w =
    let first : a ≡ n * p = omega (arith, v) in
    let second : b ≡ d * q = omega (arith, w) in
    let sorted : n * p * q * d ≡ n * (d * q * p) = simp (mul_assoc, mul_comm, mul_left_comm) in
    ap (λ (x : ℕ). x * q * d) first ∙ (sorted ∙ ap (λ (x : ℕ). n * (x * p)) (sym second))

over-whole :
    (x y : Float) (s : Bool) (n d : ℕ) → HasValue x s n 1 → HasValue y false d 1 → 0 < d → div binary64 x y ≡ round binary64 s n d
unfolding div
over-whole nan y s n d v w some = absurd v
over-whole (inf t) y s n d v w some = absurd v
over-whole (fin t m e) nan s n d v w some = absurd w
over-whole (fin t m e) (inf u) s n d v w some = absurd w
over-whole (fin t m e) (fin u k g) s n d v w some =
    let above = filled k d g some w.1 in
    let high = raised k d g some w.1 in
    ap (λ (b : Bool). quotient b (unlike t u) m e k g) (ne_eqb k 0 (λ z. omega (arith, above, z)))
    ∙ (ap (λ (b : Bool). quotient false b m e k g) (sign_kept t u s v.0 w.0)
    ∙ round_same binary64 s (m * up e * down g) (k * up g * down e) n d (mul-pos high (down_pos e)) some
    (cross (m * up e) (k * up g) n d (down e) (down g) v.1 w.1))

number-over : (x y : Float) (d : ℕ) → is_nan x ≡ false → HasValue y false d 1 → 0 < d → is_nan (div binary64 x y) ≡ false
unfolding div is_nan
number-over nan y d h w some = h
number-over (inf t) nan d h w some = absurd w
number-over (inf t) (inf u) d h w some = absurd w
number-over (inf t) (fin u k g) d h w some = refl
number-over (fin t m e) nan d h w some = absurd w
number-over (fin t m e) (inf u) d h w some = absurd w
number-over (fin t m e) (fin u k g) d h w some =
    let above = filled k d g some w.1 in
    ap (λ (b : Bool). is_nan (quotient b (unlike t u) m e k g)) (ne_eqb k 0 (λ z. omega (arith, above, z)))
    ∙ round_number binary64 (unlike t u) (m * up e * down g) (k * up g * down e)

-- ---- the quotient of two whole numbers

module _ (d : ℕ) (some : 0 < d) (held : d ≤ 2 ^ 53) (z : ℤ) where
  pub rounded-once :
      nat_abs z ≤ 2 ^ 53
      → div binary64 (of_int binary64 z) (of_int binary64 (pos d)) ≡ round binary64 (not (non_neg z)) (nat_abs z) d
  rounded-once h = over-whole _ _ (not (non_neg z)) (nat_abs z) d (cast-exact z h) (cast-exact (pos d) held) some

  pub never-nan : is_nan (div binary64 (of_int binary64 z) (of_int binary64 (pos d))) ≡ false
  never-nan = number-over (of_int binary64 z) _ d (cast-number z) (cast-exact (pos d) held) some

-- its bit pattern has 64 bits
pub quotient_fits : (x y : Float) → to_bits binary64 (div binary64 x y) < 2 ^ 64
quotient_fits x y = to_bits-lt binary64 (div binary64 x y) (div-fits binary64 x y)

-- a whole number over 2^k is a float
pub binary-exact : (s : Bool) (n k : ℕ) → n < 2 ^ 53 → k ≤ 1074 → HasValue (round binary64 s n (2 ^ k)) s n (2 ^ k)
binary-exact s n k digits h =
    let j = 1074 - k in
    let room : 53 + j ≤ 1074 + 1024 = omega arith in
    let all : j + k ≡ 1074 = omega arith in
    let whole : 2 ^ j * 2 ^ k ≡ 2 ^ 1074 = sym (pow-add 2 j k) ∙ ap (λ (i : ℕ). 2 ^ i) all in
    round_exact binary64 s n (2 ^ k) n j (pow_pos k) digits
    (lt_of_lt_of_le (shl_lt 53 j digits) (pow_mono room))
    (ap (λ (i : ℕ). n * i) (sym whole) ∙ sym (mul_assoc n (2 ^ j) (2 ^ k)))
