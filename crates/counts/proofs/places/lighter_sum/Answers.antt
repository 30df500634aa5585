-- `counts::places::lighter_sum` meets its contract. One product, with what stands before it, is part of the whole sum, which fits.
-- Assumes nothing.
use native.Mathlib.Omega.{arith}
use Rattle.listing.proofs.Bounds.{lighter-zero, lighter-more, lighter-rises}
use Rattle.counts.specs.Rows.{at}
use Rattle.counts.proofs.places.lighter_sum.Goals as goal

pub loop-p-init : goal.loop-p-init
loop-p-init c = omega (arith, lighter-zero (at c.args.row.now) c.args.t)

pub overflow_mul-sum : goal.overflow_mul-sum
overflow_mul-sum c = omega (arith, lighter-rises (at c.args.row.now) c.args.t c.loop-p.p c.args.b (omega arith))

pub overflow_add-sum : goal.overflow_add-sum
overflow_add-sum c = omega (arith, lighter-rises (at c.args.row.now) c.args.t c.loop-p.p c.args.b (omega arith))

pub loop-p-preserved : goal.loop-p-preserved
loop-p-preserved c = omega (arith, lighter-more (at c.args.row.now) c.args.t c.loop-p.p)
