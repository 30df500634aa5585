-- `counts::ring_count::RingCount::lighter_row` meets its contract: the table is the rows of z8 for M = 1 to 18, one after the other, by one
-- computation, and the part taken is the row of m. Assumes nothing.
use mathlib.Core.Path.{◌≡◌, ap, ◌∙◌}
use Prim.Native.Nat.{ℕ, suc, ◌+◌, ◌*◌, ◌-◌, ◌≤◌}
use native.Mathlib.Nat.{mul-le-mul}
use native.Mathlib.Omega.{arith}
use Rattle.laws.proofs.Convolution.{values, times, times_plus, running}
use Rattle.listing.specs.Counts.{g2, z8}
use Rattle.listing.proofs.CountLaws.{squared, z8_list}
use Rattle.counts.specs.Rows.{Known, at}
use Rattle.counts.proofs.Lighters.{rows, start, length-rows, stands}
use Rattle.counts.proofs.ring_count.RingCount.lighter_row.Goals as goal

-- where the row of m stands among the 18, and what it says
record RowOf (m : ℕ) : Type 0 where
  square : (m - 1) * (m - 1) ≤ 17 * 17
  low : 3 * (m - 1) ≤ 4 * ((m - 1) * (m - 1))
  inside : start (m - 1) + (8 * (m - 1) + 1) ≤ 1242
  says : (p : ℕ) → p ≤ 8 * (m - 1) → at (rows 18) (start (m - 1) + p) ≡ z8 m p

-- from the rows of all 18, with m − 1 rows before it
row_of : (m : ℕ) → Known m → RowOf m
row_of m known = record {
  square = mul-le-mul small small;
  low = omega (arith, length-rows (m - 1));
  inside = omega (arith, length-rows 18, (stands 18 (m - 1) (8 * (m - 1)) (omega arith) (omega arith)).inside);
  says = λ p h. (stands 18 (m - 1) p (omega arith) h).says ∙ ap (λ (k : ℕ). z8 k p) next;
}
  where
    small : m - 1 ≤ 17
    small = omega arith

    next : suc (m - 1) ≡ m
    next = omega arith

-- the table is computed here: what `part_of` ensures speaks of its 1,242 numbers, and what the row says of those of `rows 18`
pub returns : goal.returns
unfolding rows z8_list squared values times times_plus running g2
returns c = λ p l. c.part_of.ensures p (omega arith) ∙ (row_of c.args.self.m c.args.self.known).says p l
