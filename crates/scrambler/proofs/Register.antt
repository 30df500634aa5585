-- The register holds the last 23 outputs: after a list of outputs the one k places back is the k-th from the end, as long as k is at
-- most 23 and the list has that many. Assumes nothing.
use mathlib.Core.List.{List, [], ◌∷◌}
use mathlib.Core.Path.{◌≡◌, sym, subst, ap, ◌∙◌}
use Prim.Native.Nat.{ℕ, suc, ◌+◌, ◌*◌, ◌-◌, ◌%◌, ◌/◌, ◌^◌, ◌≤◌, ◌<◌}
use native.Mathlib.Decide.{dec_le}
use native.Mathlib.Omega.{arith}
use lib.ListN.{length, get_or}
use lib.Pow.{field, mod-mod-pow, shr-shr}
use Rattle.bits.specs.Digits.{Bits}
use Rattle.scrambler.specs.Scrambler.{place_back, push, push_all}

-- one place back is the bit pushed last
pub place_last : (register bit : ℕ) → bit ≤ 1 → place_back (push register bit) 1 ≡ bit
unfolding place_back push
place_last register bit h = omega arith

-- bit j of x is the same in the lowest n bits of x
low_bit : (x j n : ℕ) → j < n → x % 2 ^ n / 2 ^ j % 2 ≡ x / 2 ^ j % 2
low_bit x j n h =
    let i = n - j - 1 in
    let e : n ≡ i + 1 + j = omega arith in
    subst (λ (m : ℕ). x % 2 ^ m / 2 ^ j % 2 ≡ x / 2 ^ j % 2) (sym e)
    (ap (λ (y : ℕ). y % 2) (field x (i + 1) j) ∙ mod-mod-pow (x / 2 ^ j) i 1)

-- and every other place moves on by one, up to 23
pub place_on : (register bit k : ℕ) → bit ≤ 1 → 1 ≤ k → k ≤ 22 → place_back (push register bit) (k + 1) ≡ place_back register k
unfolding place_back push
place_on register bit k h l m =
    let j = k - 1 in
    let e : k + 1 - 1 ≡ 1 + j = omega arith in
    let half : (2 * register + bit) / 2 ≡ register = omega arith in
    ap (λ (i : ℕ). (2 * register + bit) % 2 ^ 23 / 2 ^ i % 2) e
    ∙ (low_bit (2 * register + bit) (1 + j) 23 (omega arith)
    ∙ (ap (λ (y : ℕ). y % 2) (sym (shr-shr (2 * register + bit) 1 j)) ∙ ap (λ (y : ℕ). y / 2 ^ j % 2) half))

-- a place beyond the outputs is one that the register held before them
pub holds-before :
    (register : ℕ) (outs : List ℕ) (k : ℕ) → Bits outs → length outs < k → k ≤ 23
    → place_back (push_all register outs) k ≡ place_back register (k - length outs)
unfolding push_all
holds-before register [] k b l m = ap (place_back register) (omega arith)
holds-before register (out ∷ outs) k b l m =
    let j = k - suc (length outs) in
    let e : k - length outs ≡ j + 1 = omega arith in
    holds-before (push register out) outs k b.1 (omega arith) m
    ∙ (ap (place_back (push register out)) e ∙ place_on register out j b.0 (omega arith) (omega arith))

-- the place k back is the k-th output from the end
pub holds_last :
    (register : ℕ) (outs : List ℕ) (k : ℕ) → Bits outs → 1 ≤ k → k ≤ 23 → k ≤ length outs
    → place_back (push_all register outs) k ≡ get_or outs (length outs - k) 0
unfolding push_all
holds_last register [] k b l m h = absurd (omega arith)
holds_last register (out ∷ outs) k b l m h =
    elim (dec_le k (length outs)) [
      | yes n ↦ later (holds_last (push register out) outs k b.1 l m n) n
      | no n ↦ here n
    ]
  where
    later :
        place_back (push_all (push register out) outs) k ≡ get_or outs (length outs - k) 0
        → k ≤ length outs
        → place_back (push_all (push register out) outs) k ≡ get_or (out ∷ outs) (suc (length outs) - k) 0
    later e n =
        let one : suc (length outs) - k ≡ suc (length outs - k) = omega arith in
        e ∙ sym (ap (λ (i : ℕ). get_or (out ∷ outs) i 0) one)

    here :
        ¬ (k ≤ length outs)
        → place_back (push_all (push register out) outs) k ≡ get_or (out ∷ outs) (suc (length outs) - k) 0
    here n =
        let first : suc (length outs) - k ≡ 0 = omega arith in
        let one : k - length outs ≡ 1 = omega arith in
        holds-before (push register out) outs k b.1 (omega arith) m
        ∙ (ap (place_back (push register out)) one
        ∙ (place_last register out b.0 ∙ sym (ap (λ (i : ℕ). get_or (out ∷ outs) i 0) first)))
