-- The ring counts: the minimum M is the smallest with M^8 at least 2^K; the nearest M lies between its two bounds and is the only one
-- that does; the expanded M is the nearest, or the minimum where that is larger. For both shapings K and M are then permitted:
-- 2^K is at most M^8, and M is 1 to 18. Assumes nothing.
use mathlib.Core.Bool.{Bool, true, false, cond}
use mathlib.Core.Logic.{◌⊎◌}
use mathlib.Core.Path.{◌≡◌}
use Prim.Native.Nat.{ℕ, zero, suc, ◌+◌, ◌*◌, ◌-◌, ◌^◌, ◌≤◌, ◌<◌}
use native.Mathlib.Nat.{pow-le-pow_left, max-eq_left, max-eq_right, le-max_right, max-le, le_trans}
use native.Mathlib.Omega.{arith}
use lib.Dec.{leb, ltb, eqb}
use lib.Pow.{pow_mono, pow_pos}
use borrow.Author.Tests.{leb-true, leb-false, ltb-true, ltb-false, le-leb, lt-ltb}
use Rattle.laws.specs.Smallest.{smallest}
use Rattle.laws.proofs.Smallests.{smallest-le, smallest-passes, below-smallest}
use Rattle.line.proofs.Divisions.{bits-least, bits_most, high-most, uncoded-most, shell_below}
use Rattle.line.specs.Numbers.{minimum_of, nearest_of, expanded_of}
use Rattle.line.specs.Settings.{shaping_of, rings_of_shaping}
use Rattle.line.specs.declared.settings.Shaping.TheVariants as shapings

-- M is the smallest with M^8 at least 2^K
pub record Minimum (K M : ℕ) : Type 0 where
  pub enough : 2 ^ K ≤ M ^ 8
  pub least : (m : ℕ) → m < M → m ^ 8 < 2 ^ K

pub minimum_is : (K : ℕ) → K < 32 → Minimum K (minimum_of K)
unfolding minimum_of
minimum_is K h =
    record {
      enough = leb-true (2 ^ K) _ (smallest-passes test 18 (le-leb (2 ^ K) (18 ^ 8) below));
      least = λ m l. leb-false (2 ^ K) (m ^ 8) (below-smallest test 18 m l);
    }
  where
    test : ℕ → Bool
    test M = leb (2 ^ K) (M ^ 8)

    below : 2 ^ K ≤ 18 ^ 8
    below = omega (arith, pow_mono {i = K} {j = 31} (omega arith))

minimum_most : (K : ℕ) → minimum_of K ≤ 18
unfolding minimum_of
minimum_most K = smallest-le (λ M. leb (2 ^ K) (M ^ 8)) 18

-- M is nearest to 1.25·2^(K/8), a half going up
pub record Nearest (K M : ℕ) : Type 0 where
  pub some : 1 ≤ M
  pub from : (4 * M - 2) ^ 8 ≤ 5 ^ 8 * 2 ^ K
  pub to : 5 ^ 8 * 2 ^ K < (4 * M + 2) ^ 8

-- the smallest M of which the upper bound holds is at least 1, since 2^8 is no upper bound, and then its lower bound is the upper
-- bound of the M before it
pub nearest_is : (K : ℕ) → K < 32 → Nearest K (nearest_of K)
unfolding nearest_of
nearest_is K h = go (smallest test 18) upper (λ m l. ltb-false (5 ^ 8 * 2 ^ K) ((4 * m + 2) ^ 8) (below-smallest test 18 m l))
  where
    test : ℕ → Bool
    test M = ltb (5 ^ 8 * 2 ^ K) ((4 * M + 2) ^ 8)

    upper : 5 ^ 8 * 2 ^ K < (4 * smallest test 18 + 2) ^ 8
    upper =
        ltb-true (5 ^ 8 * 2 ^ K) _
        (smallest-passes test 18 (lt-ltb (5 ^ 8 * 2 ^ K) (74 ^ 8) (omega (arith, pow_mono {i = K} {j = 31} (omega arith)))))

    go : (M : ℕ) → 5 ^ 8 * 2 ^ K < (4 * M + 2) ^ 8 → ((m : ℕ) → m < M → (4 * m + 2) ^ 8 ≤ 5 ^ 8 * 2 ^ K) → Nearest K M
    go zero u l = absurd (omega (arith, pow_pos K))
    go (suc M) u l = record { some = omega arith; from = rw shifted (l M (omega arith)); to = u }
      where
        shifted : 4 * suc M - 2 ≡ 4 * M + 2
        shifted = omega arith

-- of two, the smaller's upper bound is at most the larger's lower bound
apart : (K M m : ℕ) → Nearest K M → Nearest K m → M < m → ⊥
apart K M m p q l = omega (arith, p.to, q.from, pow-le-pow_left {n = 4 * M + 2} {m = 4 * m - 2} (omega arith) 8)

pub nearest-once : (K M m : ℕ) → Nearest K M → Nearest K m → M ≡ m
nearest-once K M m p q = grind (arith, apart K M m p q, apart K m M q p)

pub only-nearest : (K M : ℕ) → K < 32 → Nearest K M → M ≡ nearest_of K
only-nearest K M h p = nearest-once K M (nearest_of K) p (nearest_is K h)

-- the expanded M: the nearest or the minimum, whichever is larger
pub record Expanded (K M : ℕ) : Type 0 where
  pub nearest : minimum_of K ≤ nearest_of K → M ≡ nearest_of K
  pub minimum : nearest_of K ≤ minimum_of K → M ≡ minimum_of K
  pub least : minimum_of K ≤ M

pub expanded_is : (K : ℕ) → Expanded K (expanded_of K)
unfolding expanded_of
expanded_is K = record { nearest = max-eq_left; minimum = max-eq_right; least = le-max_right (nearest_of K) (minimum_of K) }

pub expanded_choice : (K : ℕ) → (expanded_of K ≡ nearest_of K) ⊎ (expanded_of K ≡ minimum_of K)
expanded_choice K = grind (arith, expanded_is K)

expanded_most : (K : ℕ) → expanded_of K ≤ 18
unfolding expanded_of nearest_of
expanded_most K = max-le (smallest-le (λ M. ltb (5 ^ 8 * 2 ^ K) ((4 * M + 2) ^ 8)) 18) (minimum_most K)

-- K and M as the eight rings ask them
pub record Permitted (K M : ℕ) : Type 0 where
  pub some : 1 ≤ M
  pub most : M ≤ 18
  pub enough : 2 ^ K ≤ M ^ 8

-- a ring count from the minimum to 18
permitted-from : (K M : ℕ) → K < 32 → minimum_of K ≤ M → M ≤ 18 → Permitted K M
permitted-from K M h from to = record { some = some M enough; most = to; enough = enough }
  where
    enough : 2 ^ K ≤ M ^ 8
    enough = le_trans (minimum_is K h).enough (pow-le-pow_left from 8)

    some : (M : ℕ) → 2 ^ K ≤ M ^ 8 → 1 ≤ M
    some zero e = absurd (omega (arith, pow_pos K))
    some (suc M) e = omega arith

pub rings-permitted : (shaping K : ℕ) → K < 32 → Permitted K (rings_of_shaping (shaping_of shaping K))
unfolding shaping_of
rings-permitted shaping K h = go (eqb shaping 0)
  where
    go : (v : Bool) → Permitted K (rings_of_shaping (cond v (shapings.Minimum (minimum_of K)) (shapings.Expanded (expanded_of K))))
    go true = permitted-from K (minimum_of K) h (omega arith) (minimum_most K)
    go false = permitted-from K (expanded_of K) h (expanded_is K).least (expanded_most K)

pub rings-most : (shaping K : ℕ) → K < 32 → rings_of_shaping (shaping_of shaping K) ≤ 18
rings-most shaping K h = (rings-permitted shaping K h).most

-- what the numbers of a rate in range ask of each other
pub ruleset bounds = (bits-least, bits_most, high-most, uncoded-most, shell_below, rings-most)
