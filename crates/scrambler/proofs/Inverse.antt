-- The scrambler and its inverse undo each other, bit by bit and over lists, and both leave the register that holds the outputs.
-- Assumes nothing.
use mathlib.Core.List.{List, [], ◌∷◌}
use mathlib.Core.Path.{◌≡◌, refl, ap, ap₂, ◌∙◌}
use Prim.Native.Nat.{ℕ, suc, ◌^◌, ◌≤◌, ◌<◌}
use native.Mathlib.Omega.{arith}
use lib.ListN.{length}
use Rattle.bits.specs.Digits.{Bits}
use Rattle.scrambler.specs.Scrambler.{scrambled_bit, push, push_all, scramble, descramble}

-- a sum modulo 2 is a bit
pub bit-out : (role register bit : ℕ) → scrambled_bit role register bit ≤ 1
unfolding scrambled_bit
bit-out role register bit = omega arith

-- the same two bits added twice are gone
pub bit-back : (role register bit : ℕ) → bit ≤ 1 → scrambled_bit role register (scrambled_bit role register bit) ≡ bit
unfolding scrambled_bit
bit-back role register bit h = omega arith

-- the register stays below 2^23
pub push-below : (register bit : ℕ) → push register bit < 2 ^ 23
unfolding push
push-below register bit = omega arith

pub push_all-below : (register : ℕ) (bits : List ℕ) → register < 2 ^ 23 → push_all register bits < 2 ^ 23
unfolding push_all
push_all-below register [] h = h
push_all-below register (bit ∷ bits) h = push_all-below (push register bit) bits (push-below register bit)

pub length-scramble : (role register : ℕ) (bits : List ℕ) → length (scramble role register bits) ≡ length bits
unfolding scramble
length-scramble role register [] = refl
length-scramble role register (bit ∷ bits) = ap suc (length-scramble role (push register (scrambled_bit role register bit)) bits)

pub length-descramble : (role register : ℕ) (outs : List ℕ) → length (descramble role register outs) ≡ length outs
unfolding descramble
length-descramble role register [] = refl
length-descramble role register (out ∷ outs) = ap suc (length-descramble role (push register out) outs)

pub bits-scramble : (role register : ℕ) (bits : List ℕ) → Bits (scramble role register bits)
unfolding scramble
bits-scramble role register [] = tt
bits-scramble role register (bit ∷ bits) = (bit-out role register bit, bits-scramble role (push register (scrambled_bit role register bit)) bits)

pub bits-descramble : (role register : ℕ) (outs : List ℕ) → Bits (descramble role register outs)
unfolding descramble
bits-descramble role register [] = tt
bits-descramble role register (out ∷ outs) = (bit-out role register out, bits-descramble role (push register out) outs)

-- reading what was scrambled gives the bits back
pub descramble-scramble : (role register : ℕ) (bits : List ℕ) → Bits bits → descramble role register (scramble role register bits) ≡ bits
unfolding scramble descramble
descramble-scramble role register [] h = refl
descramble-scramble role register (bit ∷ bits) h =
    ap₂ ◌∷◌ (bit-back role register bit h.0) (descramble-scramble role (push register (scrambled_bit role register bit)) bits h.1)

-- scrambling what was read gives the outputs back
pub scramble-descramble : (role register : ℕ) (outs : List ℕ) → Bits outs → scramble role register (descramble role register outs) ≡ outs
unfolding scramble descramble
scramble-descramble role register [] h = refl
scramble-descramble role register (out ∷ outs) h =
    ap₂ (λ (o : ℕ) (r : List ℕ). o ∷ r) (bit-back role register out h.0)
    (ap (λ (o : ℕ). scramble role (push register o) (descramble role (push register out) outs)) (bit-back role register out h.0)
    ∙ scramble-descramble role (push register out) outs h.1)
