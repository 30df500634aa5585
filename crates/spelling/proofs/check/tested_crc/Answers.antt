-- The test is what `crc_of` asks.
use Rattle.std.proofs.Common.{sym, ◌∙◌}
use Rattle.bits.proofs.Tested.{all-bits}
use Rattle.spelling.proofs.check.tested_crc.Goals as goal

pub crc_of-requires : goal.crc_of-requires
crc_of-requires c = all-bits c.args.bytes.now (sym c.all_bits.ensures ∙ c.if-not-all_bits.false)
