-- Numbers and their bits, highest weight first, undo each other; a sum of bits is the exclusive or of their numbers, and so a step of the
-- register is worked out on its number. Assumes nothing.
use mathlib.Core.List.{List, [], ◌∷◌, ◌++◌}
use mathlib.Core.Path.{◌≡◌, refl, sym, subst, ap, ap₂, ◌∙◌}
use Prim.Native.Nat.{ℕ, zero, suc, ◌+◌, ◌*◌, ◌-◌, ◌/◌, ◌%◌, ◌^◌, ◌≤◌, ◌<◌}
use native.Mathlib.Nat.{pow-suc, mod-eq_of_lt, mul_assoc}
use native.Mathlib.Omega.{arith}
use lib.Bits.{bit_xor, xor_block}
use lib.ListN.{length, replicate, length-append}
use lib.Pow.{high, low, mod-pow-add}
use Rattle.bits.specs.Digits.{Bits}
use Rattle.sequences.specs.Register.{add, times, polynomial, step}
use Rattle.sequences.proofs.Adds.{length-add}
use Rattle.sequences.proofs.Registers.{length-added, bits-added, length_up, bits_up}
use Rattle.fields.specs.Weights.{high_value, high_digits}

pub high_value-below : (bits : List ℕ) → Bits bits → high_value bits < 2 ^ length bits
unfolding high_value
high_value-below [] h = omega arith
high_value-below (zero ∷ bits) h = rw pow-suc (omega (arith, high_value-below bits h.1))
high_value-below (suc zero ∷ bits) h = rw pow-suc (omega (arith, high_value-below bits h.1))
high_value-below (suc (suc b) ∷ bits) h = absurd (omega (arith, h.0))

-- the top bit and what is under it
module _ (t : ℕ) (r : List ℕ) (binary : Bits (t ∷ r)) where
  high_value-top : high_value (t ∷ r) / 2 ^ length r ≡ t
  unfolding high_value
  high_value-top = high t (length r) (high_value-below r binary.1)

  high_value-under : high_value (t ∷ r) % 2 ^ length r ≡ high_value r
  unfolding high_value
  high_value-under = low t (length r) (high_value-below r binary.1)

pub length-high_digits : (n x : ℕ) → length (high_digits n x) ≡ n
unfolding high_digits
length-high_digits zero x = refl
length-high_digits (suc n) x = ap suc (length-high_digits n x)

pub bits-high_digits : (n x : ℕ) → Bits (high_digits n x)
unfolding high_digits
bits-high_digits zero x = tt
bits-high_digits (suc n) x = (omega arith, bits-high_digits n x)

pub high_value-high_digits : (n x : ℕ) → high_value (high_digits n x) ≡ x % 2 ^ n
unfolding high_value high_digits
high_value-high_digits zero x = omega arith
high_value-high_digits (suc n) x =
    ap₂ (λ (k m : ℕ). x / 2 ^ n % 2 * 2 ^ k + m) (length-high_digits n x) (high_value-high_digits n x)
    ∙ (sym (mod-pow-add x 1 n) ∙ ap (λ (k : ℕ). x % 2 ^ k) (omega arith))

-- two lists of one length that are one number are one list
pub high_value_one : (xs ys : List ℕ) → Bits xs → Bits ys → length xs ≡ length ys → high_value xs ≡ high_value ys → xs ≡ ys
high_value_one [] [] h k e n = refl
high_value_one [] (y ∷ ys) h k e n = absurd (omega arith)
high_value_one (x ∷ xs) [] h k e n = absurd (omega arith)
high_value_one (x ∷ xs) (y ∷ ys) h k e n =
    let same : length xs ≡ length ys = omega arith in
    let top = sym (high_value-top x xs h) ∙ (ap₂ (λ (a l : ℕ). a / 2 ^ l) n same ∙ high_value-top y ys k) in
    let under = sym (high_value-under x xs h) ∙ (ap₂ (λ (a l : ℕ). a % 2 ^ l) n same ∙ high_value-under y ys k) in
    ap₂ ◌∷◌ top (high_value_one xs ys h.1 k.1 same under)

-- and the bits of the number of bits are these
pub high_digits-high_value : (n : ℕ) (bits : List ℕ) → length bits ≡ n → Bits bits → high_digits n (high_value bits) ≡ bits
high_digits-high_value n bits e h =
    let below : high_value bits < 2 ^ n = subst (λ (k : ℕ). high_value bits < 2 ^ k) e (high_value-below bits h) in
    high_value_one (high_digits n (high_value bits)) bits (bits-high_digits n (high_value bits)) h (length-high_digits n (high_value bits) ∙ sym e)
    (high_value-high_digits n (high_value bits) ∙ mod-eq_of_lt below)

pub high_value-zeros : (n : ℕ) → high_value (replicate n 0) ≡ 0
unfolding high_value
high_value-zeros zero = refl
high_value-zeros (suc n) = omega (arith, high_value-zeros n)

-- a 0 behind them doubles the number
high_value_up : (r : List ℕ) → high_value (r ++ 0 ∷ []) ≡ high_value r * 2
unfolding high_value
high_value_up [] = refl
high_value_up (t ∷ r) =
    let rest = high_value_up r in
    let more : length (r ++ 0 ∷ []) ≡ suc (length r) = length-append r (0 ∷ []) ∙ omega arith in
    ap₂ (λ (l n : ℕ). t * 2 ^ l + n) more rest ∙ doubled
  where
    doubled : t * 2 ^ suc (length r) + high_value r * 2 ≡ (t * 2 ^ length r + high_value r) * 2
    doubled = rw (pow-suc, ← mul_assoc t (2 ^ length r) 2) (omega arith)

differ-bits : (x y : ℕ) → x ≤ 1 → y ≤ 1 → (x + y) % 2 ≡ bit_xor x y
differ-bits zero zero h k = refl
differ-bits zero (suc zero) h k = refl
differ-bits (suc zero) zero h k = refl
differ-bits (suc zero) (suc zero) h k = refl
differ-bits zero (suc (suc y)) h k = absurd (omega arith)
differ-bits (suc zero) (suc (suc y)) h k = absurd (omega arith)
differ-bits (suc (suc x)) y h k = absurd (omega arith)

-- the number of a sum
high_value-add :
    (xs ys : List ℕ) → Bits xs → Bits ys → length xs ≡ length ys → high_value (add xs ys) ≡ bit_xor (high_value xs) (high_value ys)
unfolding high_value add
high_value-add [] [] h k e = refl
high_value-add [] (y ∷ ys) h k e = absurd (omega arith)
high_value-add (x ∷ xs) [] h k e = absurd (omega arith)
high_value-add (x ∷ xs) (y ∷ ys) h k e =
    let same : length xs ≡ length ys = omega arith in
    let rest = high_value-add xs ys h.1 k.1 same in
    let long : length (add xs ys) ≡ length xs = length-add xs ys same in
    let below : high_value ys < 2 ^ length xs = subst (λ (l : ℕ). high_value ys < 2 ^ l) (sym same) (high_value-below ys k.1) in
    ap₂ (λ (b m : ℕ). b * 2 ^ length (add xs ys) + m) (differ-bits x y h.0 k.0) rest
    ∙ (ap (λ (l : ℕ). bit_xor x y * 2 ^ l + bit_xor (high_value xs) (high_value ys)) long
    ∙ (sym (xor_block (length xs) x y (high_value xs) (high_value ys) (high_value-below xs h.1) below)
    ∙ ap (λ (l : ℕ). bit_xor (x * 2 ^ length xs + high_value xs) (y * 2 ^ l + high_value ys)) same))

high_value-times : (f : ℕ) → f ≤ 1 → high_value (times f polynomial) ≡ f * 4129
unfolding high_value times polynomial
high_value-times zero h = refl
high_value-times (suc zero) h = refl
high_value-times (suc (suc f)) h = absurd (omega arith)

-- the register after one bit, on its number: 4129 is x^12 + x^5 + 1
pub high_value-step :
    (x b : ℕ) → high_value (step (high_digits 16 x) b) ≡ bit_xor (x % 32768 * 2) ((x / 32768 + b) % 2 * 4129)
unfolding step high_digits
high_value-step x b =
    let f = (x / 2 ^ 15 % 2 + b) % 2 in
    let same : f ≡ (x / 32768 + b) % 2 = omega arith in
    let up = high_digits 15 x ++ 0 ∷ [] in
    let long : length up ≡ length (times f polynomial) = length_up (high_digits 15 x) (length-high_digits 15 x) ∙ sym (length-added f) in
    let moved : high_value up ≡ x % 32768 * 2 = high_value_up (high_digits 15 x) ∙ ap (λ (n : ℕ). n * 2) (high_value-high_digits 15 x) in
    high_value-add up (times f polynomial) (bits_up (high_digits 15 x) (bits-high_digits 15 x)) (bits-added f) long
    ∙ ap₂ bit_xor moved (high_value-times f (omega arith) ∙ ap (λ (g : ℕ). g * 4129) same)

-- the bits from the i-th on
pub high_digits-next : (n i x : ℕ) → i < n → high_digits (n - i) x ≡ x / 2 ^ (n - (i + 1)) % 2 ∷ high_digits (n - (i + 1)) x
unfolding high_digits
high_digits-next n i x h = let e : n - i ≡ suc (n - (i + 1)) = omega arith in ap (λ (k : ℕ). high_digits k x) e

pub high_digits_none : (n i x : ℕ) → n ≤ i → high_digits (n - i) x ≡ []
unfolding high_digits
high_digits_none n i x h = let e : n - i ≡ 0 = omega arith in ap (λ (k : ℕ). high_digits k x) e
