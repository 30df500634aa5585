-- A row of n zeros that is filled from the front with f 0, f 1 and on. Assumes nothing.
use mathlib.Core.List.{List}
use mathlib.Core.Path.{◌≡◌, sym, fun_ext, ◌∙◌}
use Prim.Native.Nat.{ℕ, ◌+◌, ◌≤◌, ◌<◌}
use native.Mathlib.Decide.{dec_lt}
use native.Mathlib.Omega.{arith}
use lib.ListN.{length, set, replicate, length-set, length-replicate, get_or-replicate, get_or-eq_default}
use lib.Seq.{get_or-set_same, get_or-set_other}
use Rattle.counts.specs.Rows.{at}

-- below p the row says what f does, and from there on 0
pub record Filled (f : ℕ → ℕ) (n : ℕ) (row : List ℕ) (p : ℕ) : Type 0 where
  pub size : length row ≡ n
  pub done : (k : ℕ) → k < p → at row k ≡ f k
  pub blank : (k : ℕ) → p ≤ k → at row k ≡ 0

-- zeros, and zeros beyond the end
pub filled_none : (f : ℕ → ℕ) (n : ℕ) → Filled f n (replicate n 0) 0
filled_none f n = record {
  size = length-replicate n 0;
  done = λ k l. absurd (omega arith);
  blank = λ k l. zeros k;
}
  where
    zeros : (k : ℕ) → at (replicate n 0) k ≡ 0
    zeros k =
        elim (dec_lt k n) [
          | yes l ↦ get_or-replicate n k 0 0 l
          | no l ↦ get_or-eq_default (replicate n 0) 0 (omega (arith, length-replicate {A = ℕ} n 0))
        ]

-- one store more, of the next value of f
pub filled_more :
    {f : ℕ → ℕ} {n : ℕ} {row : List ℕ} {p : ℕ} (v : ℕ)
    → Filled f n row p
    → p < n
    → v ≡ f p
    → Filled f n (set row p v) (p + 1)
filled_more {f} {n} {row} {p} v h l e = record {
  size = length-set row p v ∙ h.size;
  done = done;
  blank = blank;
}
  where
    there : at (set row p v) p ≡ v
    there = get_or-set_same row p v 0 (omega (arith, h.size))

    done : (k : ℕ) → k < p + 1 → at (set row p v) k ≡ f k
    done k m =
        elim (dec_lt k p) [
          | yes q ↦ get_or-set_other row p k v 0 (omega arith) ∙ h.done k q
          | no q ↦ (let same : k ≡ p = omega arith in rw same (there ∙ e))
        ]

    blank : (k : ℕ) → p + 1 ≤ k → at (set row p v) k ≡ 0
    blank k m = get_or-set_other row p k v 0 (omega arith) ∙ h.blank k (omega arith)

-- where f is 0 from p on, the row is f
pub filled-whole :
    {f : ℕ → ℕ} {n : ℕ} {row : List ℕ} {p : ℕ}
    → Filled f n row p
    → ((k : ℕ) → p ≤ k → f k ≡ 0)
    → at row ≡ f
filled-whole {f} {n} {row} {p} h ends = fun_ext all
  where
    all : (k : ℕ) → at row k ≡ f k
    all k =
        elim (dec_lt k p) [
          | yes l ↦ h.done k l
          | no l ↦ (let m : p ≤ k = omega arith in h.blank k m ∙ sym (ends k m))
        ]
