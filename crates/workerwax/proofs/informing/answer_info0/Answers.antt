-- `workerwax::informing::answer_info0` meets its contract: the fields have another length, the reader refuses the bits, or its fields are
-- laid out. Assumes nothing.
use Rattle.info.specs.Info0.{info0}
use Rattle.workerwax.specs.Layout.{words, info0_bytes}
use Rattle.workerwax.proofs.Infos.{read_unlent}
use Rattle.workerwax.proofs.informing.answer_info0.Goals as goal

pub returns-then-fields-ne56 : goal.returns-then-fields-ne56
returns-then-fields-ne56 c = let a = c.args in read_unlent info0 info0_bytes words a.bits.now a.fields.now c.if-fields-ne56.true
