-- The loop of `fields::check::check_over`: the register is the check of the bits that came.
use Rattle.fields.proofs.Checks.{Fed}
use Rattle.fields.proofs.check.check_over.Given as goal

abbrev pub invariant-loop-bit : goal.invariant-loop-bit
invariant-loop-bit g l = Fed l.register l.yielded
