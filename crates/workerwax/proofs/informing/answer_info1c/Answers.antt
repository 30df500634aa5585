-- `workerwax::informing::answer_info1c` meets its contract: the report has another length, the reader refuses the bits, or what it reports
-- is laid out in two parts. Assumes nothing.
use mathlib.Core.List.{◌++◌}
use mathlib.Core.Path.{◌≡◌, refl, sym, ap, ap₂, subst, ◌∙◌}
use borrow.Author.Rules.{rules}
use mir.ValLaws.{to_z-of_z}
use Rattle.sequences.proofs.Trips.{answer-fields}
use Rattle.offset.specs.Requires.{NoNan}
use Rattle.info.specs.Info1c.{Report, info1c, numbers_of}
use Rattle.info.proofs.Reports.{report_no_nan}
use Rattle.workerwax.specs.Info.{in32, reported}
use Rattle.workerwax.specs.Layout.{words, report_bytes}
use Rattle.workerwax.proofs.Infos.{read_unlent, read_done}
use Rattle.workerwax.proofs.Reported.{report-bytes}
use Rattle.workerwax.proofs.informing.answer_info1c.Goals as goal

pub returns-then-report-ne100 : goal.returns-then-report-ne100
returns-then-report-ne100 c = let a = c.args in read_unlent info1c report_bytes reported a.bits.now a.report.now c.if-report-ne100.true

pub reading_numbers-requires : goal.reading_numbers-requires
reading_numbers-requires c = subst (λ (r : Report). NoNan r.reading) (sym c.in_ok-found.ensures) (report_no_nan c.args.bits.now)

pub returns : goal.returns
returns c =
    let a = c.args in
    let r = c.in_ok-found.found in
    let count : c.unsigned-count.result ≡ in32 r.count = search (rules, to_z-of_z) in
    let first = c.put_numbers.ensures ∙ ap words (c.numbers.ensures ∙ ap (numbers_of r.fields) count) in
    let second = c.put_numbers-2.ensures ∙ ap words c.reading_numbers.ensures in
    let accepted = sym (ap (λ (r : Report). r.refusal) c.in_ok-found.ensures) in
    read_done info1c report_bytes reported a.bits.now a.report.now _ _ 0 c.if-report-ne100.false (answer-fields info1c a.bits.now accepted) refl
    (ap₂ ◌++◌ first second ∙ report-bytes a.bits.now _ c.in_ok-found.ensures accepted)
