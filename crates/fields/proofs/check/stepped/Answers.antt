-- `fields::check::stepped` meets its contract.
use Rattle.std.proofs.Common.{sym}
use Rattle.fields.proofs.Weights.{high_value-step}
use Rattle.fields.proofs.check.stepped.Goals as goal

pub returns : goal.returns
returns c = rw c.from.ensures (sym (high_value-step c.args.register c.args.bit))
