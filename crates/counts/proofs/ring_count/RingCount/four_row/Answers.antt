-- `counts::ring_count::RingCount::four_row` meets its contract: a store more is the next count, and g4 is 0 from 4m − 3 on. Assumes nothing.
use mathlib.Core.Path.{◌≡◌, ap, ◌∙◌}
use Prim.Native.Nat.{ℕ, ◌*◌, ◌-◌, ◌≤◌}
use native.Mathlib.Omega.{arith}
use Rattle.laws.specs.Sum.{sum}
use Rattle.laws.proofs.Sums.{sum-zero, sum-suc}
use Rattle.listing.specs.Counts.{g2, g4, lighter}
use Rattle.listing.proofs.Bounds.{g2-bound}
use Rattle.listing.proofs.CountLaws.{g4-ends}
use Rattle.listing.proofs.Pairs.{g2-low}
use Rattle.counts.proofs.Filled.{filled_none, filled_more, filled-whole}
use Rattle.counts.proofs.ring_count.RingCount.four_row.Goals as goal

-- one four weighs nothing
first : (m : ℕ) → 1 ≤ m → 1 ≡ g4 m 0
unfolding g4 lighter
first m some =
    let one = g2-low m 0 some in
    let none : 0 - 0 ≡ 0 = omega arith in
    let product : g2 m 0 * g2 m (0 - 0) ≡ 1 = rw none (ap (λ (x : ℕ). x * x) one) in
    omega (arith, product, sum-suc (λ p. g2 m p * g2 m (0 - p)) 0, sum-zero (λ p. g2 m p * g2 m (0 - p)))

pub pair_sums-sums-requires : goal.pair_sums-sums-requires
pair_sums-sums-requires c = λ p.
    let same = ap (λ (g : ℕ → ℕ). g p) c.requires in omega (arith, same, g2-bound c.args.self.m p)

pub loop-p-init : goal.loop-p-init
loop-p-init c = filled_more 1 (filled_none (g4 c.args.self.m) 137) (omega arith) (first c.args.self.m c.args.self.known.low)

pub next_four-requires-clause-by_index : goal.next_four-requires-clause-by_index
next_four-requires-clause-by_index c = λ n l. c.pair_sums-sums.ensures n l ∙ ap (λ (f : ℕ → ℕ). sum f n) c.requires

pub next_four-requires-clause-le_p : goal.next_four-requires-clause-le_p
next_four-requires-clause-le_p c = (omega arith, omega arith, c.loop-p.invariant.done (c.loop-p.p - 1) (omega arith))

pub loop-p-preserved : goal.loop-p-preserved
loop-p-preserved c = filled_more c.next_four.result c.loop-p.invariant (omega arith) c.next_four.ensures

pub returns : goal.returns
returns c = filled-whole c.loop-p.invariant (λ k l. g4-ends c.args.self.m k (omega arith))
