-- `starts::start` meets its contract.
use borrow.Author.Rules.{rules}
use mathlib.Core.Path.{sym, ◌∙◌}
use Rattle.coder.proofs.WaysOut.{start-refused, start-unfit, start-done}
use Rattle.coder.specs.State.{state_of}
use Rattle.coder.proofs.starts.start.Goals as goal

pub returns-in_err-work_out : goal.returns-in_err-work_out
returns-in_err-work_out c =
    let told = start-refused (state_of c.args.asked c.args.register c.args.z) _ c.in_err-work_out.ensures in
    search rules

pub returns-then-is_unfit : goal.returns-then-is_unfit
returns-then-is_unfit c = start-unfit _ _ c.in_ok-work_out.ensures (sym c.is_unfit.ensures ∙ c.if-is_unfit.true)

pub returns : goal.returns
returns c = start-done _ _ c.in_ok-work_out.ensures (sym c.is_unfit.ensures ∙ c.if-is_unfit.false)
