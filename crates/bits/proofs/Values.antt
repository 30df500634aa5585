-- Numbers taken out of bits and put into them, one bit after the other. Assumes nothing.
use mathlib.Core.List.{List, [], ◌∷◌, ◌++◌, append_assoc}
use mathlib.Core.Path.{◌≡◌, sym, ap, ◌∙◌}
use Prim.Native.Nat.{ℕ, suc, ◌+◌, ◌*◌, ◌-◌, ◌/◌, ◌%◌, ◌^◌, ◌≤◌, ◌<◌}
use native.Mathlib.Nat.{pow-suc}
use native.Mathlib.Numerals.{add-one}
use native.Mathlib.Omega.{arith}
use lib.ListN.{length, take, drop, set, take-append-drop, drop_of_length-le}
use lib.Pow.{pow_mono}
use lib.Seq.{take-suc-set}
use Rattle.std.proofs.lemmas.List.{length_push}
use Rattle.std.proofs.Math.Nat.{le-mul_of_pos_right}
use Rattle.bits.specs.Digits.{value, digits, Bits}
use Rattle.bits.proofs.Digitals.{value-append, value-take-below, bits-drop}

-- Taken from the last bit on: what was taken stands above the bits that are left.
module _ (bits left : List ℕ) (bit sum whole : ℕ) (last : bits ≡ left ++ bit ∷ []) (kept : value bits + 2 ^ length bits * sum ≡ whole) where
  pub one_taken : value left + 2 ^ length left * (2 * sum + bit) ≡ whole
  unfolding value
  one_taken =
      let all : value (left ++ bit ∷ []) + 2 ^ length (left ++ bit ∷ []) * sum ≡ whole = rw last at kept in
      omega (arith, rw (value-append left (bit ∷ []), length_push left bit, add-one, pow-suc) at all)

  -- so that what was taken is no more than the whole
  pub taken-below : 2 * sum + bit ≤ whole
  taken-below = omega (arith, one_taken, le-mul_of_pos_right {m = 2 ^ length left} (2 * sum + bit) (pow_mono {i = 0} {j = length left} (omega arith)))

pub all_taken : (bits : List ℕ) (sum whole : ℕ) → length bits ≡ 0 → value bits + 2 ^ length bits * sum ≡ whole → sum ≡ whole
unfolding value
all_taken [] sum whole none kept = omega (arith, kept)
all_taken (bit ∷ bits) sum whole none kept = absurd (omega arith)

-- how large a number of few bits can be
pub small_value : (bits : List ℕ) (at n : ℕ) → Bits bits → n ≤ 31 → value (take n (drop at bits)) < 2 ^ 31
small_value bits at n binary few = omega (arith, value-take-below n (drop at bits) (bits-drop at bits binary), pow_mono {j = 31} few)

-- Put from the first digit on: the digits of what is left of the number stand behind those that are put.
pub one_put :
    (n i x : ℕ) (digits-so-far whole : List ℕ)
    → i < n
    → n ≤ length digits-so-far
    → take i digits-so-far ++ digits (n - i) x ≡ whole
    → take (i + 1) (set digits-so-far i (x % 2)) ++ digits (n - (i + 1)) (x / 2) ≡ whole
unfolding digits
one_put n i x put whole h room kept =
    let e : n - i ≡ suc (n - (i + 1)) = omega arith in
    ap (λ (k : ℕ). take k (set put i (x % 2)) ++ digits (n - (i + 1)) (x / 2)) (add-one i)
    ∙ (ap (λ (l : List ℕ). l ++ digits (n - (i + 1)) (x / 2)) (take-suc-set put i (x % 2) (omega arith))
    ∙ (append_assoc (take i put) (x % 2 ∷ []) (digits (n - (i + 1)) (x / 2))
    ∙ (ap (λ (k : ℕ). take i put ++ digits k x) (sym e) ∙ kept)))

pub all_put : (n i x : ℕ) (put whole : List ℕ) → n ≤ i → length put ≤ i → take i put ++ digits (n - i) x ≡ whole → put ≡ whole
unfolding digits
all_put n i x put whole h full kept =
    let e : n - i ≡ 0 = omega arith in
    sym (take-append-drop i put)
    ∙ (ap (λ (l : List ℕ). take i put ++ l) (drop_of_length-le put full) ∙ (ap (λ (k : ℕ). take i put ++ digits k x) (sym e) ∙ kept))
