-- `counts::counts::pair_sums` meets its contract: a store more is the next sum. Assumes nothing.
use mathlib.Core.List.{List}
use mathlib.Core.Path.{◌≡◌, sym, ap, ◌∙◌}
use Prim.Native.Nat.{ℕ, ◌+◌, ◌≤◌, ◌<◌}
use native.Mathlib.Numerals.{add-one}
use native.Mathlib.Omega.{arith}
use lib.ListN.{replicate}
use Rattle.laws.specs.Sum.{sum}
use Rattle.laws.proofs.Sums.{sum-zero, sum-suc, sum_bound}
use Rattle.counts.specs.Rows.{at}
use Rattle.counts.proofs.Filled.{Filled, filled_none, filled_more}
use Rattle.counts.proofs.counts.pair_sums.Goals as goal

-- before the loop the sum of none is there
none_summed : (g : ℕ → ℕ) → Filled (sum g) 70 (replicate 70 0) (0 + 1)
none_summed g =
    let h = filled_none (sum g) 70 in
    record {
      size = h.size;
      done = λ k l. (let first : k ≡ 0 = omega (arith, l) in h.blank k (omega arith) ∙ sym (ap (sum g) first ∙ sum-zero g));
      blank = λ k l. h.blank k (omega arith);
    }

-- one number more in the sum, which stays small
record More (g : ℕ → ℕ) (sums : List ℕ) (n : ℕ) : Type 0 where
  is : at sums n + g n ≡ sum g (n + 1)
  small : at sums n + g n ≤ 1260

one_more : (g : ℕ → ℕ) (sums : List ℕ) (n : ℕ) → ((p : ℕ) → g p ≤ 18) → Filled (sum g) 70 sums (n + 1) → n < 69 → More g sums n
one_more g sums n few h l =
    let e : at sums n + g n ≡ sum g (n + 1) = rw add-one (omega (arith, h.done n (omega arith), sum-suc g n)) in
    record { is = e; small = omega (arith, e, sum_bound g 18 (n + 1) (λ p k. few p)) }

pub loop-n-init : goal.loop-n-init
loop-n-init c = none_summed (at c.args.pairs.now)

pub overflow_add-sums : goal.overflow_add-sums
overflow_add-sums c = omega (arith, (one_more (at c.args.pairs.now) c.loop-n.sums c.loop-n.n c.requires c.loop-n.invariant (omega arith)).small)

pub loop-n-preserved : goal.loop-n-preserved
loop-n-preserved c =
    filled_more _ c.loop-n.invariant (omega arith)
    (one_more (at c.args.pairs.now) c.loop-n.sums c.loop-n.n c.requires c.loop-n.invariant (omega arith)).is
