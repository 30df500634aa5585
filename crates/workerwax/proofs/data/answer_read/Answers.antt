-- `workerwax::data::answer_read` meets its contract: the coder refuses, or what it read is in the lent bits. Assumes nothing.
use mathlib.Core.Path.{ap, ◌∙◌}
use native.Mathlib.Omega.{arith}
use borrow.Author.Rules.{rules}
use lib.ListN.{length}
use Rattle.workerwax.specs.Layout.{words}
use Rattle.workerwax.proofs.Coding.{read_told, read_told-lent, read_told-done}
use Rattle.workerwax.proofs.data.answer_read.Goals as goal

pub returns-in_err-coded : goal.returns-in_err-coded
returns-in_err-coded c =
    let a = c.args in
    let told =
    read_told a.st a.labels.now a.bits.now a.answer.now _ c.read.new.bits c.in_err-coded.field-0.0 c.in_err-coded.ensures (rw (← c.lent_labels-lent.ensures.value) c.take_numbers.ensures) in
    search rules

pub put_numbers-requires : goal.put_numbers-requires
put_numbers-requires c =
    let a = c.args in
    let lent = read_told-lent a.st a.labels.now a.bits.now a.answer.now _ c.read.new.bits c.in_ok-coded.coded c.in_ok-coded.ensures (rw (← c.lent_labels-lent.ensures.value) c.take_numbers.ensures) in
    omega (arith, lent.answered, ap length c.coded_numbers.ensures)

pub returns : goal.returns
returns c =
    let a = c.args in
    read_told-done a.st a.labels.now a.bits.now a.answer.now _ c.read.new.bits c.in_ok-coded.coded c.in_ok-coded.ensures (rw (← c.lent_labels-lent.ensures.value) c.take_numbers.ensures)
    c.put_numbers.new.out (c.put_numbers.ensures ∙ ap words c.coded_numbers.ensures)
