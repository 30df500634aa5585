-- `workerwax::informing::send_info0` meets its contract: the fields have another length, or the writer answers to the numbers that they
-- hold. Assumes nothing.
use mathlib.Core.Path.{◌∙◌}
use Rattle.sequences.proofs.Trips.{answer_same}
use Rattle.info.specs.Info0.{info0}
use Rattle.workerwax.specs.Info.{as_they_are}
use Rattle.workerwax.specs.Layout.{info0_bytes}
use Rattle.workerwax.proofs.Infos.{write_unhanded, write_done}
use Rattle.workerwax.proofs.informing.send_info0.Goals as goal

pub returns-then-fields-ne56 : goal.returns-then-fields-ne56
returns-then-fields-ne56 c = let a = c.args in write_unhanded info0 info0_bytes as_they_are a.fields.now a.bits.now c.if-fields-ne56.true

pub returns : goal.returns
returns c =
    let a = c.args in
    let below = answer_same info0 _ _ _ _ _ (c.from.ensures ∙ c.take_numbers.ensures) c.write.ensures in
    write_done info0 info0_bytes as_they_are a.fields.now a.bits.now _ _ c.if-fields-ne56.false below
