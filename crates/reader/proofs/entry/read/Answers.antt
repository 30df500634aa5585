-- `reader::entry::read` meets its contract, by each of its ways out.
use borrow.Author.Rules.{rules}
use mathlib.Core.Path.{sym, ap₂, ◌∙◌}
use Rattle.coder.specs.Answers.{coded}
use Rattle.coder.specs.Receiving.{data_read_register}
use Rattle.coder.proofs.Acceptance.{unrefused_receivable}
use Rattle.coder.proofs.WaysOut.{read-unsettled, read-refused, read-done}
use Rattle.reader.proofs.Passes.{settled_in, sound_of}
use Rattle.reader.proofs.entry.read.Goals as goal

pub returns-in_err-c : goal.returns-in_err-c
returns-in_err-c c =
    let told = read-unsettled c.args.st c.args.labels.now c.args.bits.now _ c.in_err-c.ensures in
    search rules

pub counts_of-counts-requires : goal.counts_of-counts-requires
counts_of-counts-requires c =
    let sound = sound_of (settled_in c.args.st _ (sym c.in_ok-c.ensures)) in
    rw c.rings.ensures (record { low = sound.rings.some; high = sound.rings.most })

pub returns-in_err-numbers : goal.returns-in_err-numbers
returns-in_err-numbers c =
    let told = read-refused c.args.st c.args.labels.now c.args.bits.now _ c.in_ok-c.ensures _ c.in_err-numbers.ensures.refusal in
    search rules

pub receive-moved-requires-clause-receivable : goal.receive-moved-requires-clause-receivable
receive-moved-requires-clause-receivable c =
    unrefused_receivable c.args.st c.args.labels.now c.args.bits.now _ (sym c.in_ok-c.ensures) (sym c.in_ok-numbers.ensures.refusal)

pub returns : goal.returns
returns c =
    let a = c.args in
    let got = c.receive-moved.ensures in
    let settings = c.in_ok-c.c in
    let register = data_read_register settings a.st.register a.st.z a.labels.now in
    let next = ap₂ (coded settings a.st) {y = register} got.register_value got.z_value in
    read-done a.st a.labels.now a.bits.now _ c.in_ok-c.ensures _ _ (sym c.in_ok-numbers.ensures.refusal) (c.done.ensures ∙ next)
    got.bits_after
