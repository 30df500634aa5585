-- `workerwax::data::answer_write` meets its contract: the coder refuses, or what it wrote is laid out. Assumes nothing.
use mathlib.Core.Path.{ap, ◌∙◌}
use native.Mathlib.Omega.{arith}
use borrow.Author.Rules.{rules}
use lib.ListN.{length}
use Rattle.workerwax.specs.Layout.{words}
use Rattle.workerwax.proofs.Coding.{write_told, write_told-lent, write_told-done}
use Rattle.workerwax.proofs.data.answer_write.Goals as goal

pub returns-in_err-coded : goal.returns-in_err-coded
returns-in_err-coded c =
    let a = c.args in
    let told =
    write_told a.st a.bits.now a.labels.now a.answer.now _ c.write.new.out c.in_err-coded.field-0.0 c.in_err-coded.ensures (search rules) in
    search rules

pub put_numbers-requires : goal.put_numbers-requires
put_numbers-requires c =
    let a = c.args in
    let lent = write_told-lent a.st a.bits.now a.labels.now a.answer.now _ c.write.new.out c.in_ok-coded.coded c.in_ok-coded.ensures (search rules) in
    omega (arith, lent.half, c.write.auto.out)

pub put_numbers-requires-2 : goal.put_numbers-requires-2
put_numbers-requires-2 c =
    let a = c.args in
    let lent = write_told-lent a.st a.bits.now a.labels.now a.answer.now _ c.write.new.out c.in_ok-coded.coded c.in_ok-coded.ensures (search rules) in
    omega (arith, lent.answered, ap length c.coded_numbers.ensures)

pub returns : goal.returns
returns c =
    let a = c.args in
    write_told-done a.st a.bits.now a.labels.now a.answer.now _ c.write.new.out c.in_ok-coded.coded c.in_ok-coded.ensures (search rules)
    c.put_numbers.new.out c.put_numbers-2.new.out c.put_numbers.ensures (c.put_numbers-2.ensures ∙ ap words c.coded_numbers.ensures)
