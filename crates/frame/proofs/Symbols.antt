-- One 4D symbol: its bits and the symbol out of its bits undo each other, and so do its four labels and the symbol out of four labels.
-- Assumes nothing.
use mathlib.Core.Bool.{Bool, true, false, cond, ◌||◌}
use mathlib.Core.List.{List, [], ◌∷◌, ◌++◌, append_assoc}
use mathlib.Core.Path.{◌≡◌, refl, sym, ap, ◌∙◌}
use Prim.Native.Nat.{ℕ, ◌+◌, ◌*◌, ◌-◌, ◌/◌, ◌%◌, ◌^◌, ◌≤◌, ◌<◌}
use native.Mathlib.Nat.{mod-lt, mod-eq_of_lt, mul-add-mod_self_left, mul-add-div, div-eq_of_lt, add-zero, div-add-mod, mul_comm}
use native.Mathlib.Omega.{arith}
use lib.Arith.{digits_lt}
use lib.Dec.{ltb}
use lib.ListN.{length, get_or, take, drop, length-append, length-drop}
use lib.Pow.{pow_pos}
use lib.Seq.{take-add, take_at, drop_at}
use borrow.Author.Tests.{ltb-true, lt-ltb}
use Rattle.bits.specs.Digits.{value, digits, Bits}
use Rattle.bits.proofs.Digitals.{length_digits, bits-digits, bits-append, bits-drop, bits_at}
use Rattle.bits.proofs.Digitals.{value-take-below, value-digits, digits_value-take}
use Rattle.frame.specs.declared.symbol.Symbol.{Symbol}
use Rattle.frame.specs.Shape.{symbol_length, SymbolFits}
use Rattle.frame.specs.Writing.{symbol_of, turned}
use Rattle.frame.specs.Reading.{symbol_read, symbol_bits}

-- I3 is a bit at any rate
pub third-bit : {q : ℕ} {three : Bool} {s : Symbol} → SymbolFits q three s → s.i3 ≤ 1
third-bit {q} {three} {s} r = go three r.i3
  where
    go : (v : Bool) → s.i3 ≤ cond v 1 0 → s.i3 ≤ 1
    go true h = h
    go false h = omega arith

-- The symbol out of bits.

pub of_fits : (q : ℕ) (three : Bool) (bits : List ℕ) → Bits bits → SymbolFits q three (symbol_of q three bits)
unfolding symbol_of
of_fits q three bits binary =
    record {
      i1 = bits_at bits 0 binary;
      i2 = bits_at bits 1 binary;
      i3 = third three;
      first = value-take-below q rest tail;
      second = value-take-below q (drop q rest) (bits-drop q rest tail);
    }
  where
    rest : List ℕ
    rest = drop (cond three 3 2) bits

    tail : Bits rest
    tail = bits-drop (cond three 3 2) bits binary

    third : (v : Bool) → cond v (get_or bits 2 0) 0 ≤ cond v 1 0
    third true = bits_at bits 2 binary
    third false = omega arith

-- the bits of a symbol, cut where its parts begin
cut : (n q : ℕ) (bits : List ℕ) → take (n + 2 * q) bits ≡ take n bits ++ (take q (drop n bits) ++ take q (drop q (drop n bits)))
cut n q bits =
    let twice : 2 * q ≡ q + q = omega arith in
    take-add n (2 * q) bits ∙ rw (twice, take-add q q (drop n bits))

-- its first two or three bits
heads :
    (three : Bool) (bits : List ℕ) → cond three 3 2 ≤ length bits
    → get_or bits 0 0 ∷ get_or bits 1 0 ∷ cond three (get_or bits 2 0 ∷ []) [] ≡ take (cond three 3 2) bits
heads true [] h = absurd (omega arith)
heads true (a ∷ []) h = absurd (omega arith)
heads true (a ∷ b ∷ []) h = absurd (omega arith)
heads true (a ∷ b ∷ c ∷ bits) h = refl
heads false [] h = absurd (omega arith)
heads false (a ∷ []) h = absurd (omega arith)
heads false (a ∷ b ∷ bits) h = refl

-- I3 as it is carried
carried : (three : Bool) (x : ℕ) → cond three (cond three x 0 ∷ []) [] ≡ cond three (x ∷ []) []
carried true x = refl
carried false x = refl

-- the bits of the symbol out of bits are those bits
pub bits_of :
    (q : ℕ) (three : Bool) (bits : List ℕ) → Bits bits → symbol_length q three ≤ length bits
    → symbol_bits q three (symbol_of q three bits) ≡ take (symbol_length q three) bits
unfolding symbol_bits symbol_of
bits_of q three bits binary l =
    rw (carried three (get_or bits 2 0), first, second)
    (ap (λ (l : List ℕ). l ++ (take q rest ++ take q (drop q rest))) (heads three bits (omega arith)) ∙ sym (cut n q bits))
  where
    n : ℕ
    n = cond three 3 2

    rest : List ℕ
    rest = drop n bits

    tail : Bits rest
    tail = bits-drop n bits binary

    first : digits q (value (take q rest)) ≡ take q rest
    first = digits_value-take q rest (omega (arith, length-drop n bits)) tail

    second : digits q (value (take q (drop q rest))) ≡ take q (drop q rest)
    second = digits_value-take q (drop q rest) (omega (arith, length-drop n bits, length-drop q rest)) (bits-drop q rest tail)

-- The bits of a symbol.
module _ (q : ℕ) (three : Bool) (s : Symbol) where
  pub length-symbol_bits : length (symbol_bits q three s) ≡ symbol_length q three
  unfolding symbol_bits
  length-symbol_bits = go three
    where
      go : (v : Bool) → length (symbol_bits q v s) ≡ symbol_length q v
      go true = simp (length-append, length_digits) (omega arith)
      go false = simp (length-append, length_digits) (omega arith)

  pub bits-symbol_bits : SymbolFits q three s → Bits (symbol_bits q three s)
  unfolding symbol_bits
  bits-symbol_bits r = (r.i1, (r.i2, bits-append (cond three (s.i3 ∷ []) []) _ (third three r.i3) both))
    where
      both : Bits (digits q s.first ++ digits q s.second)
      both = bits-append (digits q s.first) (digits q s.second) (bits-digits q s.first) (bits-digits q s.second)

      third : (v : Bool) → s.i3 ≤ cond v 1 0 → Bits (cond v (s.i3 ∷ []) [])
      third true h = (h, tt)
      third false h = tt

  -- the symbol out of its bits is that symbol, whatever comes after them
  pub of_bits : SymbolFits q three s → (rest : List ℕ) → symbol_of q three (symbol_bits q three s ++ rest) ≡ s
  unfolding symbol_bits symbol_of
  of_bits r rest = go three r.i3
    where
      both : List ℕ
      both = digits q s.first ++ digits q s.second ++ rest

      first : value (take q both) ≡ s.first
      first =
          rw (append_assoc, take_at _ _ q (length_digits q s.first))
          (value-digits q s.first r.first)

      second : value (take q (drop q both)) ≡ s.second
      second =
          rw (append_assoc, drop_at _ _ q (length_digits q s.first), take_at _ _ q (length_digits q s.second))
          (value-digits q s.second r.second)

      go : (v : Bool) → s.i3 ≤ cond v 1 0 → symbol_of q v (symbol_bits q v s ++ rest) ≡ s
      go true h = λ i. record { i1 = s.i1; i2 = s.i2; i3 = s.i3; first = first i; second = second i }
      go false h =
          let none : 0 ≡ s.i3 = omega arith in
          λ i. record { i1 = s.i1; i2 = s.i2; i3 = none i; first = first i; second = second i }

-- The four labels of a symbol, and the symbol out of four labels.

-- the labels, before others
abbrev pub four_labels : ℕ → ℕ → ℕ → ℕ → Symbol → List ℕ → List ℕ
four_labels q ring₁ ring₂ z s rest = (2 ^ q * ring₁ + s.first) ∷ (2 ^ q * ring₂ + s.second) ∷ turned z s ∷ s.i1 ∷ rest

-- a ring and q bits, apart again
pub ring_of : (q ring : ℕ) {x : ℕ} → x < 2 ^ q → (2 ^ q * ring + x) / 2 ^ q ≡ ring
ring_of q ring h = mul-add-div (pow_pos q) ring _ ∙ rw (div-eq_of_lt h) (add-zero ring)

rest_of : (q ring : ℕ) {x : ℕ} → x < 2 ^ q → (2 ^ q * ring + x) % 2 ^ q ≡ x
rest_of q ring h = mul-add-mod_self_left (2 ^ q) ring _ ∙ mod-eq_of_lt h

-- Z stays below 4
pub turned-most : (z : ℕ) (s : Symbol) → turned z s ≤ 3
unfolding turned
turned-most z s = omega arith

-- from Z to Z the step of a symbol is I2 + 2·I3
step_of :
    (q : ℕ) (three : Bool) (z : ℕ) (s : Symbol) → SymbolFits q three s → z ≤ 3
    → (turned z s + 4 - z) % 4 ≡ s.i2 + 2 * s.i3
unfolding turned
step_of q three z s r turn = omega (arith, r.i2, third-bit r)

-- and by its step Z turns to Z
turned-back :
    (z next : ℕ) → z ≤ 3 → next ≤ 3
    → (z + (next + 4 - z) % 4 % 2 + 2 * ((next + 4 - z) % 4 / 2)) % 4 ≡ next
turned-back z next hz hn = omega arith

-- the symbol out of the labels of a symbol is that symbol
pub read-labels :
    (q : ℕ) (three : Bool) (ring₁ ring₂ z : ℕ) (s : Symbol) (rest : List ℕ) → SymbolFits q three s → z ≤ 3
    → symbol_read q z (four_labels q ring₁ ring₂ z s rest) ≡ s
unfolding symbol_read
read-labels q three ring₁ ring₂ z s rest r turn =
    λ i. record {
      i1 = s.i1;
      i2 = second i;
      i3 = third i;
      first = rest_of q ring₁ r.first i;
      second = rest_of q ring₂ r.second i;
    }
  where
    second : (turned z s + 4 - z) % 4 % 2 ≡ s.i2
    second = rw (step_of q three z s r turn) (omega (arith, r.i2))

    third : (turned z s + 4 - z) % 4 / 2 ≡ s.i3
    third = rw (step_of q three z s r turn) (omega (arith, r.i2))

-- the labels are in their ranges, for rings below M
pub label-below : (M q ring x : ℕ) → ring < M → x < 2 ^ q → 2 ^ q * ring + x < M * 2 ^ q
label-below M q ring x h l = rw (mul_comm (2 ^ q) ring) (digits_lt h l)

-- and the Z step has no I3 where the symbol carries none
pub step_fits :
    (q : ℕ) (three : Bool) (z : ℕ) (s : Symbol) → SymbolFits q three s → z ≤ 3 → (three || ltb ((turned z s + 4 - z) % 4) 2) ≡ true
step_fits q true z s r turn = refl
step_fits q false z s r turn =
    rw (step_of q false z s r turn) (lt-ltb (s.i2 + 2 * s.i3) 2 (omega (arith, r.i2, r.i3)))

-- Labels a, b, Z and I1, in their ranges.
module _ (q a b next one z : ℕ) (rest : List ℕ) where
  pub read_fits :
      (three : Bool) → one ≤ 1 → (three || ltb ((next + 4 - z) % 4) 2) ≡ true
      → SymbolFits q three (symbol_read q z (a ∷ b ∷ next ∷ one ∷ rest))
  unfolding symbol_read
  read_fits three bit fits =
      record {
        i1 = bit;
        i2 = omega arith;
        i3 = third three fits;
        first = mod-lt a (pow_pos q);
        second = mod-lt b (pow_pos q);
      }
    where
      third : (v : Bool) → (v || ltb ((next + 4 - z) % 4) 2) ≡ true → (next + 4 - z) % 4 / 2 ≤ cond v 1 0
      third true e = omega arith
      third false e = omega (arith, ltb-true ((next + 4 - z) % 4) 2 e)

  -- the Z that the symbol turns to
  pub turned-read : z ≤ 3 → next ≤ 3 → turned z (symbol_read q z (a ∷ b ∷ next ∷ one ∷ rest)) ≡ next
  unfolding symbol_read turned
  turned-read hz hn = turned-back z next hz hn

  -- the labels of the symbol out of labels are those labels
  pub labels-read :
      z ≤ 3 → next ≤ 3 → (more : List ℕ)
      → four_labels q (a / 2 ^ q) (b / 2 ^ q) z (symbol_read q z (a ∷ b ∷ next ∷ one ∷ rest)) more ≡ a ∷ b ∷ next ∷ one ∷ more
  unfolding symbol_read
  labels-read hz hn more = λ i. div-add-mod a (2 ^ q) i ∷ div-add-mod b (2 ^ q) i ∷ turned-read hz hn i ∷ one ∷ more
