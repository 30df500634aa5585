-- A place among the sets of weight t that are made of two halves, counted by g: the weight p of the first half is the largest
-- whose lighter sets are not too many, and what is left is a number of two digits, the second half's place and the first's.
-- Assumes nothing.
use mathlib.Core.Logic.{⊎_elim}
use mathlib.Core.Path.{◌≡◌, subst}
use Prim.Native.Nat.{ℕ, suc, ◌*◌, ◌-◌, ◌/◌, ◌%◌, ◌≤◌, ◌<◌}
use native.Mathlib.Nat.{eq-zero-or-pos, zero-mul, mod-lt, div-lt_iff_lt-mul, mul_comm}
use native.Mathlib.Omega.{arith}
use Rattle.laws.specs.Largest.{largest}
use Rattle.laws.specs.Sum.{sum}
use Rattle.laws.proofs.Largests.{Within, largest-le, largest-within}
use Rattle.listing.specs.Counts.{lighter}

-- the weight of the first half at place i among the sets of weight t, and what is left
abbrev pub first_weight : (ℕ → ℕ) → ℕ → ℕ → ℕ
first_weight g t i = largest (lighter g t) i t

abbrev pub rest_of : (ℕ → ℕ) → ℕ → ℕ → ℕ
rest_of g t i = i - lighter g t (first_weight g t i)

-- what holds of them where i is below the count of the sets of weight t
pub record Halved (g : ℕ → ℕ) (t i : ℕ) : Type 0 where
  pub least : first_weight g t i ≤ t
  pub from : lighter g t (first_weight g t i) ≤ i
  pub below : rest_of g t i < g (first_weight g t i) * g (t - first_weight g t i)
  pub first : rest_of g t i % g (first_weight g t i) < g (first_weight g t i)
  pub second : rest_of g t i / g (first_weight g t i) < g (t - first_weight g t i)

pub halved : (g : ℕ → ℕ) (t i : ℕ) → i < lighter g t (suc t) → Halved g t i
unfolding lighter
halved g t i h = go (largest-within f i t h)
  where
    f : ℕ → ℕ
    f p = g p * g (t - p)

    p : ℕ
    p = largest (sum f) i t

    go : Within f i p → Halved g t i
    go w = record {
      least = largest-le (sum f) i t;
      from = w.from;
      below = room;
      first = mod-lt rest some;
      second = (div-lt_iff_lt-mul some).1 (subst (λ (k : ℕ). rest < k) (mul_comm (g p) (g (t - p))) room);
    }
      where
        rest : ℕ
        rest = i - sum f p

        room : rest < g p * g (t - p)
        room = let u = w.from in let v = w.to in omega arith

        some : 0 < g p
        some = ⊎_elim (λ e. absurd (none e)) (λ l. l) (eq-zero-or-pos (g p))
          where
            none : g p ≡ 0 → ⊥
            none e = omega (arith, subst (λ (k : ℕ). rest < k * g (t - p)) e room, zero-mul (g (t - p)))
