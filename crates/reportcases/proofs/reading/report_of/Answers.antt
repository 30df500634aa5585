-- The reading of a report is a number, or there is none.
use Rattle.std.proofs.Common.{◌≡◌, List, ℕ, sym, subst}
use Rattle.std.specs.Prelude.{Result, Ok, Err, IfOk}
use Rattle.refusals.specs.declared.Refusal.{Refusal}
use Rattle.offset.specs.Requires.{NoNan}
use Rattle.info.specs.Info1c.{Report, report, told}
use Rattle.info.specs.declared.info1c.Report.{Report as Heard}
use Rattle.info.proofs.Reports.{report_no_nan}
use Rattle.reportcases.proofs.reading.report_of.Goals as goal

no_nan_told : (bits : List ℕ) (heard : Result Heard Refusal) → told heard ≡ report bits → IfOk heard (λ r. NoNan r.reading)
no_nan_told bits (Ok r) e = subst (λ (r : Report). NoNan r.reading) (sym e) (report_no_nan bits)
no_nan_told bits (Err refusal) e = tt

pub returns : goal.returns
returns c = no_nan_told c.args.bits.now c.read.result c.read.ensures
