-- Long division divides: the bits are the quotient times the polynomial, plus the remainder, and no other quotient and remainder of sixteen
-- bits are. Assumes nothing.
use mathlib.Core.List.{List, [], ◌∷◌, ◌++◌}
use mathlib.Core.Path.{◌≡◌, refl, sym, ap, ap₂, ◌∙◌}
use Prim.Native.Nat.{ℕ, zero, suc, ◌+◌, ◌%◌, ◌≤◌}
use native.Mathlib.Omega.{arith}
use lib.ListN.{length, get_or, drop, length-append, length-replicate}
use Rattle.bits.specs.Digits.{Bits}
use Rattle.bits.proofs.Digitals.{bits-append}
use Rattle.sequences.specs.Division.{remainder, quotient, multiplied}
use Rattle.sequences.specs.Register.{add, times, polynomial}
use Rattle.sequences.proofs.Adds.{zeros, length-add-long, bits-add, length-times, bits-times, bits-replicate}
use Rattle.sequences.proofs.Adds.{add_comm, add_assoc, zeros-add, add_twice}
use Rattle.sequences.proofs.Registers.{length-polynomial, bits-polynomial, length-added, bits-added}

length-multiplied : (q : List ℕ) → length (multiplied q) ≡ length q + 16
unfolding multiplied
length-multiplied [] = refl
length-multiplied (b ∷ q) =
    let top = times b (1 ∷ polynomial) in
    let rest = length-multiplied q in
    let short : length top ≤ length (0 ∷ multiplied q) = omega (arith, length-times b (1 ∷ polynomial), length-polynomial) in
    ap length (add_comm top (0 ∷ multiplied q)) ∙ (length-add-long (0 ∷ multiplied q) top short ∙ omega arith)

bits-multiplied : (q : List ℕ) → Bits q → Bits (multiplied q)
unfolding multiplied
bits-multiplied [] h = bits-replicate 16 0 (omega arith)
bits-multiplied (b ∷ q) h =
    let top = bits-times b (1 ∷ polynomial) (omega arith, bits-polynomial) in
    bits-add (times b (1 ∷ polynomial)) (0 ∷ multiplied q) top (omega arith, bits-multiplied q h.1)

-- a bit times the polynomial: the bit, and under it the lower powers
times-top : (b : ℕ) → b ≤ 1 → times b (1 ∷ polynomial) ≡ b ∷ times b polynomial
unfolding times
times-top zero h = refl
times-top (suc zero) h = refl
times-top (suc (suc b)) h = absurd (omega arith)

-- the first bit of a product, and what stands behind it
first_bit :
    (b : ℕ) (q z : List ℕ) → b ≤ 1 → add (multiplied (b ∷ q)) (0 ∷ z) ≡ b ∷ add (times b polynomial) (add (multiplied q) z)
unfolding multiplied add
first_bit b q z h =
    let bit : ((b + 0) % 2 + 0) % 2 ≡ b = omega arith in
    ap (λ (t : List ℕ). add (add t (0 ∷ multiplied q)) (0 ∷ z)) (times-top b h)
    ∙ ap₂ ◌∷◌ bit (add_assoc (times b polynomial) (multiplied q) z)

-- the bits are the quotient times the polynomial, plus the remainder
abbrev Divided : ℕ → List ℕ → List ℕ → List ℕ → Type 0
Divided n bits q r = (bits ≡ add (multiplied q) (zeros n ++ r)) × (length q ≡ n) × (length r ≡ 16)

-- one step: where the first bit is 1 the polynomial was added
divided_next :
    (n b : ℕ) (bits q r : List ℕ) → b ≤ 1 → Bits bits → 16 ≤ length bits
    → Divided n (add bits (times b polynomial)) q r → Divided (suc n) (b ∷ bits) (b ∷ q) r
divided_next n b bits q r h binary long d =
    let t = times b polynomial in
    let z = zeros n ++ r in
    let tail : add t (add (multiplied q) z) ≡ bits =
    ap (add t) (sym d.0 ∙ add_comm bits t) ∙ add_twice t bits binary (omega (arith, length-added b)) in
    (sym (first_bit b q z h ∙ ap (λ (l : List ℕ). b ∷ l) tail), ap suc d.1, d.2)

pub divides :
    (n : ℕ) (bits : List ℕ) → Bits bits → length bits ≡ n + 16
    → (bits ≡ add (multiplied (quotient n bits)) (zeros n ++ remainder n bits))
    × (length (quotient n bits) ≡ n) × (length (remainder n bits) ≡ 16)
unfolding quotient remainder multiplied
divides zero bits h l = (sym (zeros-add 16 bits h (omega arith)), refl, omega arith)
divides (suc n) [] h l = absurd (omega arith)
divides (suc n) (b ∷ bits) h l =
    let t = times b polynomial in
    let long : length (add bits t) ≡ n + 16 = length-add-long bits t (omega (arith, length-added b)) ∙ omega arith in
    let rest = divides n (add bits t) (bits-add bits t h.1 (bits-added b)) long in
    divided_next n b bits (quotient n (add bits t)) (remainder n (add bits t)) h.0 h.1 (omega arith) rest

-- what is left once the polynomial is taken off
taken-off :
    (x : ℕ) (u v : List ℕ) → Bits u → Bits v → length v ≡ 16
    → add (times x polynomial) (add (times x polynomial) (add (multiplied u) (zeros (length u) ++ v)))
    ≡ add (multiplied u) (zeros (length u) ++ v)
taken-off x u v hu hv lv =
    let z = zeros (length u) ++ v in
    let binary : Bits z = bits-append (zeros (length u)) v (bits-replicate (length u) 0 (omega arith)) hv in
    let lz : length z ≡ length u + 16 = length-append (zeros (length u)) v ∙ ap₂ ◌+◌ (length-replicate {A = ℕ} (length u) 0) lv in
    let lp = length-multiplied u in
    let long = length-add-long (multiplied u) z (omega arith) in
    add_twice (times x polynomial) (add (multiplied u) z) (bits-add (multiplied u) z (bits-multiplied u hu) binary)
    (omega (arith, length-added x))

-- no other quotient and remainder are
pub divides-once :
    (q p r s : List ℕ) → Bits q → Bits p → Bits r → Bits s → length q ≡ length p → length r ≡ 16 → length s ≡ 16
    → add (multiplied q) (zeros (length q) ++ r) ≡ add (multiplied p) (zeros (length p) ++ s) → (q ≡ p) × (r ≡ s)
unfolding multiplied
divides-once [] [] r s hq hp hr hs l k m e = (refl, sym (zeros-add 16 r hr (omega arith)) ∙ (e ∙ zeros-add 16 s hs (omega arith)))
divides-once [] (c ∷ p) r s hq hp hr hs l k m e = absurd (omega arith)
divides-once (b ∷ q) [] r s hq hp hr hs l k m e = absurd (omega arith)
divides-once (b ∷ q) (c ∷ p) r s hq hp hr hs l k m e =
    let both = sym (first_bit b q (zeros (length q) ++ r) hq.0) ∙ (e ∙ first_bit c p (zeros (length p) ++ s) hp.0) in
    let same : b ≡ c = ap (λ (x : List ℕ). get_or x 0 0) both in
    let tails = ap₂ (λ (x : ℕ) (y : List ℕ). add (times x polynomial) y) same (ap (drop 1) both) in
    let rest = sym (taken-off b q r hq.1 hr k) ∙ (tails ∙ taken-off c p s hp.1 hs m) in
    let again = divides-once q p r s hq.1 hp.1 hr hs (omega arith) k m rest in
    (ap₂ ◌∷◌ same again.0, again.1)
