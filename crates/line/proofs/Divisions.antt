-- The numbers of document 01 as the code computes them, by divisions: b is N over P rounded up, q is what b has above 36, in
-- eights, and K is what is left. With them the two bounds of b. Assumes nothing.
use mathlib.Core.Bool.{Bool, true, false, cond}
use mathlib.Core.Path.{◌≡◌, refl, sym, ap, ◌∙◌}
use Prim.Native.Nat.{ℕ, zero, suc, ◌+◌, ◌*◌, ◌-◌, ◌/◌, ◌%◌, ◌≤◌, ◌<◌}
use native.Mathlib.Nat.{div-eq_of_lt-le, mul-le-mul_left, mul-one, suc-mul, add-mul, one-mul, zero-mul}
use native.Mathlib.Omega.{arith}
use lib.Dec.{leb, ltb}
use Rattle.std.proofs.lemmas.Bool.Decides.{nat_tests}
use Rattle.std.specs.Prelude.{min}
use Rattle.std.proofs.lemmas.Grind.{div_ceil_times}
use borrow.Author.Tests.{leb-true, leb-false, le-leb, lt-ltb, le-ltb}
use Rattle.laws.specs.Smallest.{smallest}
use Rattle.laws.proofs.Smallests.{smallest-passes, below-smallest, smallest_is}
use Rattle.line.specs.Numbers.{bits_of, high_of, step_of, uncoded_of, shell_of}

-- b frames hold the N bits
pub high-holds : (N P : ℕ) → 0 < P → N ≤ high_of N P * P
unfolding high_of
high-holds N P h =
    leb-true N _ (smallest-passes (λ b. leb N (b * P)) N (le-leb N (N * P) (rw mul-one at (mul-le-mul_left N h))))

-- and no fewer do
pub below-high : (N P b : ℕ) → b < high_of N P → b * P < N
unfolding high_of
below-high N P b h = leb-false N (b * P) (below-smallest (λ b. leb N (b * P)) N b h)

-- b is at least 1, and one frame fewer does not hold them
pub high-some : (N P : ℕ) → 1 ≤ N → 1 ≤ P → 1 ≤ high_of N P
high-some N P h p = grind (arith, high-holds N P p)

pub high-fewer : (N P : ℕ) → 1 ≤ N → 1 ≤ P → (high_of N P - 1) * P < N
high-fewer N P h p = below-high N P (high_of N P - 1) (omega (arith, high-some N P h p))

pub ruleset steps = (high-some, high-fewer)

-- so b is N over P, rounded up
pub high_is : (N P : ℕ) → 0 < P → (N + P - 1) / P ≡ high_of N P
high_is N P h = div-eq_of_lt-le P (fits (high_of N P) (below-high N P)) above
  where
    fits : (b : ℕ) → ((j : ℕ) → j < b → j * P < N) → b * P ≤ N + P - 1
    fits zero least = omega (arith, zero-mul P)
    fits (suc j) least = omega (arith, least j (omega arith), suc-mul j P)

    above : N + P - 1 < (high_of N P + 1) * P
    above = omega (arith, high-holds N P h, add-mul (high_of N P) 1 P, one-mul P)

-- as the code divides
pub high_ceiled : (N P : ℕ) → 0 < P → N / P + min 1 (N % P) ≡ high_of N P
high_ceiled N P h = sym (div-eq_of_lt-le P (omega (arith, bounds.1, bounds.0)) above) ∙ high_is N P h
  where
    bounds : (N ≤ (N / P + min 1 (N % P)) * P) × ((N / P + min 1 (N % P)) * P < N + P)
    bounds = div_ceil_times N P h

    above : N + P - 1 < (N / P + min 1 (N % P) + 1) * P
    above = omega (arith, bounds.0, add-mul (N / P + min 1 (N % P)) 1 P, one-mul P)

pub uncoded_is : (b : ℕ) → uncoded_of b ≡ (b - 36) / 8
unfolding uncoded_of
uncoded_is b = go (leb b 12) refl
  where
    go : (v : Bool) → leb b 12 ≡ v → cond v 0 (smallest (λ q. ltb (b - 12 - 8 * q) 32) b) ≡ (b - 36) / 8
    go true e = omega (arith, leb-true b 12 e)
    go false e =
        smallest_is (λ q. ltb (b - 12 - 8 * q) 32) b ((b - 36) / 8) (omega arith)
        (lt-ltb (b - 12 - 8 * ((b - 36) / 8)) 32 (omega (arith, leb-false b 12 e)))
        (λ j l. le-ltb (b - 12 - 8 * j) 32 (omega arith))

pub shell_is : (b : ℕ) → shell_of b ≡ b - 12 - 8 * ((b - 36) / 8)
unfolding shell_of
shell_is b = grind (arith, nat_tests, uncoded_is b)

pub shell_below : (b : ℕ) → shell_of b < 32
shell_below b = omega (arith, shell_is b)

-- N of a rate from 1 to 14
pub bits-least : (J n : ℕ) → 1 ≤ n → 1 ≤ bits_of J n
unfolding bits_of
bits-least J n h = grind (arith, nat_tests)

pub bits_most : (J n : ℕ) → n ≤ 14 → bits_of J n ≤ 1344
unfolding bits_of
bits_most J n h = grind (arith, nat_tests)

-- b of at most 1,344 bits in at least 12 frames, and q
pub high-most : (N P : ℕ) → N ≤ 1344 → 12 ≤ P → high_of N P ≤ 112
high-most N P h p = grind (arith, below-high N P 112)

pub uncoded-most : (b : ℕ) → b ≤ 112 → uncoded_of b ≤ 9
uncoded-most b h = omega (arith, uncoded_is b)

-- N bits in P frames: b holds them, b − 1 does not, and r is what b − 1 leaves
pub record Divided (N P b r : ℕ) : Type 0 where
  pub holds : N ≤ b * P
  pub fewer : (b - 1) * P < N
  pub some : 1 ≤ r
  pub most : r ≤ P
  pub whole : r + (b - 1) * P ≡ N

pub divided : (N P : ℕ) → 1 ≤ N → 1 ≤ P → Divided N P (high_of N P) (step_of N P (high_of N P))
unfolding step_of
divided N P h p = go (high_of N P) (high-holds N P p) (high-fewer N P h p)
  where
    go : (b : ℕ) → N ≤ b * P → (b - 1) * P < N → Divided N P b (N - (b - 1) * P)
    go zero holds fewer = absurd (omega (arith, zero-mul P))
    go (suc b) holds fewer = record { holds = holds; fewer = fewer; some = omega arith; most = most; whole = omega arith }
      where
        most : N - (suc b - 1) * P ≤ P
        most = omega (arith, suc-mul b P, ap (λ (k : ℕ). k * P) less)
          where
            less : suc b - 1 ≡ b
            less = omega arith
