-- The register is a remainder: of n bits and then sixteen zeros, with the register added to the first sixteen, divided by the polynomial.
-- So the check, which starts from ones, is that of the bits with their first sixteen turned. Assumes nothing.
use mathlib.Core.List.{List, [], ◌∷◌, ◌++◌}
use mathlib.Core.Path.{◌≡◌, refl, sym, ap, ap₂, ◌∙◌}
use Prim.Native.Nat.{ℕ, ◌+◌, ◌%◌, ◌≤◌}
use native.Mathlib.Omega.{arith}
use lib.ListN.{length, replicate, length-append}
use Rattle.bits.specs.Digits.{Bits}
use Rattle.bits.proofs.Digitals.{bits-append}
use Rattle.sequences.specs.Division.{remainder}
use Rattle.sequences.specs.Register.{add, times, polynomial, step, feed, crc}
use Rattle.sequences.proofs.Adds.{zeros, add-nil, add_assoc, zeros-add, bits-replicate}
use Rattle.sequences.proofs.Registers.{bits-step, length-step, ones, bits-ones}

-- a 0 at the end of what is added
add-end : (m r : List ℕ) → Bits m → length r + 1 ≤ length m → add m r ≡ add m (r ++ 0 ∷ [])
unfolding add
add-end [] r h l = absurd (omega arith)
add-end (z ∷ m) [] h l = ap₂ ◌∷◌ (omega (arith, h.0)) (sym (add-nil m))
add-end (z ∷ m) (x ∷ r) h l = ap (λ (q : List ℕ). (z + x) % 2 ∷ q) (add-end m r h.1 (omega arith))

pub feed-divides :
    (r xs : List ℕ) → Bits r → Bits xs → length r ≡ 16 → feed r xs ≡ remainder (length xs) (add (xs ++ zeros 16) r)
unfolding feed remainder add step
feed-divides r [] h k l = sym (zeros-add 16 r h (omega arith))
feed-divides [] (x ∷ xs) h k l = absurd (omega arith)
feed-divides (t ∷ r) (x ∷ xs) h k l =
    let m = xs ++ zeros 16 in
    let binary : Bits m = bits-append xs (zeros 16) k.1 (bits-replicate 16 0 (omega arith)) in
    let added = times ((t + x) % 2) polynomial in
    let swap : (x + t) % 2 ≡ (t + x) % 2 = omega arith in
    let same : add (add m r) (times ((x + t) % 2) polynomial) ≡ add m (add (r ++ 0 ∷ []) added) =
    ap₂ (λ (q : List ℕ) (f : ℕ). add q (times f polynomial)) (add-end m r binary (omega (arith, length-append xs (zeros 16)))) swap
    ∙ add_assoc m (r ++ 0 ∷ []) added in
    feed-divides (step (t ∷ r) x) xs (bits-step (t ∷ r) x h) k.1 (length-step (t ∷ r) x l)
    ∙ ap (remainder (length xs)) (sym same)

-- the check is the remainder of the bits times x^16, their first sixteen turned
pub crc-divides : (bits : List ℕ) → Bits bits → crc bits ≡ remainder (length bits) (add (bits ++ zeros 16) (replicate 16 1))
unfolding crc
crc-divides bits h = feed-divides ones bits bits-ones h refl
