-- `fields::check::check_over` meets its contract.
use Rattle.std.proofs.Common.{rules}
use Rattle.fields.proofs.Checks.{fed_none, fed-more, fed_all}
use Rattle.fields.proofs.check.check_over.Goals as goal

pub loop-bit-init : goal.loop-bit-init
loop-bit-init g c = fed_none

pub loop-bit-preserved : goal.loop-bit-preserved
loop-bit-preserved g c = fed-more _ _ _ _ c.loop-bit.invariant c.stepped-register.ensures

pub returns : goal.returns
returns g c = (
  c.loop-bit.yielded,
  (_, (c.loop-bit.bit-iterator, search (rules, c.loop-bit.yielded_by), c.in-None.ensures.steps)),
  fed_all _ _ c.loop-bit.invariant,
)
