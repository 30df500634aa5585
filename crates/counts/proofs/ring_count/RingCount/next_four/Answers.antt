-- `counts::ring_count::RingCount::next_four` meets its contract: the step of g4. Assumes nothing.
use mathlib.Core.List.{List}
use mathlib.Core.Path.{◌≡◌, ◌∙◌}
use Prim.Native.Nat.{ℕ, suc, ◌+◌, ◌*◌, ◌-◌, ◌≤◌}
use native.Mathlib.Nat.{mul-le-mul}
use native.Mathlib.Omega.{arith}
use Rattle.laws.specs.Sum.{sum}
use Rattle.laws.proofs.Sums.{sum-zero}
use Rattle.listing.specs.Counts.{g2, g4}
use Rattle.listing.proofs.CountLaws.{g4-within}
use Rattle.listing.proofs.Steps.{g4-step}
use Rattle.counts.specs.Rows.{at, Known}
use Rattle.counts.proofs.FewPairs.{few-pairs}
use Rattle.counts.proofs.ring_count.RingCount.next_four.Goals as goal

-- the step to p, and how large its parts are
record Step (m p before all fallen gone : ℕ) : Type 0 where
  step : g4 m p + 2 * fallen ≡ before + all + gone
  small : before + all + gone ≤ 100000
  few : fallen ≤ 1260

step_to :
    (m p before : ℕ) (sums : List ℕ) (fallen gone : ℕ)
    → Known m
    → ((n : ℕ) → n ≤ 69 → at sums n ≡ sum (g2 m) n)
    → (1 ≤ p) × (p ≤ 68) × (before ≡ g4 m (p - 1))
    → fallen ≡ at sums (p + 1 - m)
    → gone ≡ at sums (p + 1 - 2 * m)
    → Step m p before (at sums (p + 1)) fallen gone
step_to m p before sums fallen gone known summed place is-fallen is-gone =
    let t = p - 1 in
    let next : suc t ≡ p = omega arith in
    let here : t + 2 ≡ p + 1 = omega arith in
    let law : g4 m p + 2 * sum (g2 m) (p + 1 - m) ≡ g4 m t + sum (g2 m) (p + 1) + sum (g2 m) (p + 1 - 2 * m) =
    rw (next, here) at (g4-step m t known.low) in
    let all = summed (p + 1) (omega arith) in
    let fell = is-fallen ∙ summed (p + 1 - m) (omega arith) in
    let went = is-gone ∙ summed (p + 1 - 2 * m) (omega arith) in
    let square = mul-le-mul known.high known.high in
    let fours : g4 m t ≤ 69 * 324 = omega (arith, g4-within m t, mul-le-mul {n₁ = suc t} {n₂ = 69} (omega arith) square) in
    record {
      step = omega (arith, law, all, fell, went, place.2);
      small =
          omega (
            arith,
            fours,
            all,
            went,
            place.2,
            few-pairs m (p + 1) known.high (omega arith),
            few-pairs m (p + 1 - 2 * m) known.high (omega arith),
          );
      few = omega (arith, fell, few-pairs m (p + 1 - m) known.high (omega arith));
    }

pub lighter_pairs-fallen-requires-clause-none : goal.lighter_pairs-fallen-requires-clause-none
lighter_pairs-fallen-requires-clause-none c = c.requires.by_index 0 (omega arith) ∙ sum-zero (g2 c.args.self.m)

pub lighter_pairs-gone-requires-clause-none : goal.lighter_pairs-gone-requires-clause-none
lighter_pairs-gone-requires-clause-none c = c.requires.by_index 0 (omega arith) ∙ sum-zero (g2 c.args.self.m)

pub overflow_add-result : goal.overflow_add-result
overflow_add-result c =
    let r = c.requires in
    omega (arith, (step_to _ _ _ c.args.sums.now _ _ c.args.self.known r.by_index r.le_p c.lighter_pairs-fallen.ensures c.lighter_pairs-gone.ensures).small)

pub overflow_add-result-2 : goal.overflow_add-result-2
overflow_add-result-2 c =
    let r = c.requires in
    omega (arith, (step_to _ _ _ c.args.sums.now _ _ c.args.self.known r.by_index r.le_p c.lighter_pairs-fallen.ensures c.lighter_pairs-gone.ensures).small)

pub overflow_mul-result : goal.overflow_mul-result
overflow_mul-result c =
    let r = c.requires in
    omega (arith, (step_to _ _ _ c.args.sums.now _ _ c.args.self.known r.by_index r.le_p c.lighter_pairs-fallen.ensures c.lighter_pairs-gone.ensures).few)

pub overflow_sub-result : goal.overflow_sub-result
overflow_sub-result c =
    let r = c.requires in
    omega (arith, (step_to _ _ _ c.args.sums.now _ _ c.args.self.known r.by_index r.le_p c.lighter_pairs-fallen.ensures c.lighter_pairs-gone.ensures).step)

pub returns : goal.returns
returns c =
    let r = c.requires in
    omega (arith, (step_to _ _ _ c.args.sums.now _ _ c.args.self.known r.by_index r.le_p c.lighter_pairs-fallen.ensures c.lighter_pairs-gone.ensures).step)
