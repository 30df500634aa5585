-- `line::settings::shaping_of` meets its contract: each kind has its ring count. Assumes nothing.
use native.Mathlib.Omega.{arith}
use mathlib.Core.Path.{ap}
use borrow.Author.Tests.{ne_eqb}
use Rattle.line.specs.Settings.{shaping_of}
use Rattle.line.specs.declared.settings.Shaping.TheVariants.{Minimum, Expanded}
use Rattle.line.proofs.settings.shaping_of.Goals as goal

pub returns-in-0 : goal.returns-in-0
unfolding shaping_of
returns-in-0 c = rw c.in-0.is (ap Minimum c.minimum_rings.ensures)

pub returns-in_default : goal.returns-in_default
unfolding shaping_of
returns-in_default c = rw (ne_eqb c.args.shaping 0 (λ e. omega arith)) (ap Expanded c.expanded_rings.ensures)
