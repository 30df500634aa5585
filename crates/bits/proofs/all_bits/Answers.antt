-- `bits::all_bits` meets its contract. No answer names the test of the code, so that a wrong one is refused for what it tests.
use mathlib.Core.Bool.{and-true}
use mathlib.Core.Path.{sym, ◌∙◌}
use native.Mathlib.Omega.{arith}
use Rattle.std.proofs.lemmas.Grind.{common_steps}
use Rattle.bits.proofs.Tested.{next-byte, no_byte}
use Rattle.bits.proofs.all_bits.Goals as goal

pub loop-bit-preserved : goal.loop-bit-preserved
loop-bit-preserved c =
    next-byte c.args.bits.now c.loop-bit.bit-index c.loop-bit.good _ c.loop-bit-test.true
    (λ large. grind (arith, common_steps))
    (λ small. grind (arith, common_steps))
    ∙ c.loop-bit.invariant

pub returns : goal.returns
returns c = sym (sym c.loop-bit.invariant ∙ rw (no_byte _ c.loop-bit.bit-index c.loop-bit-test.false, and-true c.loop-bit.good))
