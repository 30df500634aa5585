-- `bits::value_at` meets its contract: a sum that is no more than the number that all bits are fits.
use Rattle.std.proofs.Common.{arith}
use Rattle.bits.proofs.Values.{one_taken, taken-below, all_taken, small_value}
use Rattle.bits.proofs.value_at.Goals as goal

pub overflow_mul-sum : goal.overflow_mul-sum
overflow_mul-sum c =
    omega
    (arith, taken-below _ _ _ _ _ c.in-Some.ensures.steps c.loop-bit.invariant.2, small_value _ c.args.at _ c.requires.2 c.requires.1)

pub overflow_add-sum : goal.overflow_add-sum
overflow_add-sum c =
    omega
    (arith, c.from.ensures, taken-below _ _ _ _ _ c.in-Some.ensures.steps c.loop-bit.invariant.2, small_value _ c.args.at _ c.requires.2 c.requires.1)

pub loop-bit-preserved : goal.loop-bit-preserved
loop-bit-preserved c = (_, _, rw c.from.ensures (one_taken _ _ _ _ _ c.in-Some.ensures.steps c.loop-bit.invariant.2))

pub returns : goal.returns
returns c = all_taken _ _ _ c.in-None.ensures.steps.0 c.loop-bit.invariant.2
