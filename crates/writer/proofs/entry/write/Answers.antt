-- `writer::entry::write` meets its contract, by each of its ways out.
use borrow.Author.Rules.{rules}
use mathlib.Core.Path.{sym, ap₂, ◌∙◌}
use Rattle.line.proofs.Soundness.{accepted-sound}
use Rattle.coder.specs.Answers.{coded}
use Rattle.coder.proofs.Acceptance.{unrefused_sendable}
use Rattle.coder.proofs.WaysOut.{write-unsettled, write-refused, write-done}
use Rattle.writer.proofs.entry.write.Goals as goal

pub returns-in_err-c : goal.returns-in_err-c
returns-in_err-c c =
    let told = write-unsettled c.args.st c.args.bits.now c.args.out.now _ c.in_err-c.ensures in
    search rules

pub test-requires : goal.test-requires
test-requires c = (accepted-sound c.args.st.asked _ (sym c.in_ok-c.ensures)).frames-most

pub returns-in_err-test : goal.returns-in_err-test
returns-in_err-test c =
    let told = write-refused c.args.st c.args.bits.now c.args.out.now _ c.in_ok-c.ensures _ c.in_err-test.ensures in
    search rules

pub send-moved-requires : goal.send-moved-requires
send-moved-requires c =
    unrefused_sendable c.args.st c.args.bits.now c.args.out.now _ (sym c.in_ok-c.ensures) (sym c.in_ok-test.ensures)

pub returns : goal.returns
returns c =
    let sent = c.send-moved.ensures in
    let next = ap₂ (coded c.in_ok-c.c c.args.st) sent.register_value sent.z_value in
    write-done c.args.st c.args.bits.now c.args.out.now _ c.in_ok-c.ensures _ _ (sym c.in_ok-test.ensures) (c.done.ensures ∙ next)
    sent.out_after
