-- The register has sixteen bits, whatever it is fed with; and it may be fed with a list of bits part by part. Assumes nothing.
use mathlib.Core.List.{List, [], ◌∷◌, ◌++◌}
use mathlib.Core.Path.{◌≡◌, refl, sym, ◌∙◌}
use Prim.Native.Nat.{ℕ, ◌+◌, ◌%◌}
use native.Mathlib.Omega.{arith}
use lib.ListN.{length, replicate, length-append}
use Rattle.bits.specs.Digits.{Bits, all_bits}
use Rattle.bits.proofs.Digitals.{bits-append}
use Rattle.bits.proofs.Tested.{all-bits}
use Rattle.sequences.specs.Register.{times, polynomial, step, feed, crc}
use Rattle.sequences.proofs.Adds.{length-add, bits-add, length-times, bits-times, bits-replicate}

pub length-polynomial : length polynomial ≡ 16
unfolding polynomial
length-polynomial = refl

pub bits-polynomial : Bits polynomial
unfolding polynomial all_bits
bits-polynomial = all-bits polynomial refl

-- what a step adds: the polynomial, or sixteen zeros
pub length-added : (b : ℕ) → length (times b polynomial) ≡ 16
length-added b = length-times b polynomial ∙ length-polynomial

pub bits-added : (b : ℕ) → Bits (times b polynomial)
bits-added b = bits-times b polynomial bits-polynomial

-- and to what: the fifteen bits that stay, moved up
pub length_up : (r : List ℕ) → length r ≡ 15 → length (r ++ 0 ∷ []) ≡ 16
length_up r e = length-append r (0 ∷ []) ∙ omega arith

pub bits_up : (r : List ℕ) → Bits r → Bits (r ++ 0 ∷ [])
bits_up r h = bits-append r (0 ∷ []) h (omega arith, tt)

-- after one bit
pub length-step : (r : List ℕ) (b : ℕ) → length r ≡ 16 → length (step r b) ≡ 16
unfolding step
length-step [] b e = e
length-step (t ∷ r) b e =
    let f = (t + b) % 2 in
    let up = length_up r (omega arith) in
    length-add (r ++ 0 ∷ []) (times f polynomial) (up ∙ sym (length-added f)) ∙ up

pub bits-step : (r : List ℕ) (b : ℕ) → Bits r → Bits (step r b)
unfolding step
bits-step [] b h = tt
bits-step (t ∷ r) b h =
    let f = (t + b) % 2 in
    bits-add (r ++ 0 ∷ []) (times f polynomial) (bits_up r h.1) (bits-added f)

-- after a list of bits
pub feed-nil : (r : List ℕ) → feed r [] ≡ r
unfolding feed
feed-nil r = refl

pub feed-cons : (r : List ℕ) (b : ℕ) (bits : List ℕ) → feed r (b ∷ bits) ≡ feed (step r b) bits
unfolding feed
feed-cons r b bits = refl

pub feed-append : (r a b : List ℕ) → feed r (a ++ b) ≡ feed (feed r a) b
unfolding feed
feed-append r [] b = refl
feed-append r (x ∷ a) b = feed-append (step r x) a b

pub length-feed : (r bits : List ℕ) → length r ≡ 16 → length (feed r bits) ≡ 16
unfolding feed
length-feed r [] e = e
length-feed r (b ∷ bits) e = length-feed (step r b) bits (length-step r b e)

pub bits-feed : (r bits : List ℕ) → Bits r → Bits (feed r bits)
unfolding feed
bits-feed r [] h = h
bits-feed r (b ∷ bits) h = bits-feed (step r b) bits (bits-step r b h)

-- what the register starts from, and the check that it leaves
abbrev pub ones : List ℕ
ones = replicate 16 1

pub bits-ones : Bits ones
bits-ones = bits-replicate 16 1 (omega arith)

pub length-crc : (bits : List ℕ) → length (crc bits) ≡ 16
unfolding crc
length-crc bits = length-feed ones bits refl

pub bits-crc : (bits : List ℕ) → Bits (crc bits)
unfolding crc
bits-crc bits = bits-feed ones bits bits-ones
