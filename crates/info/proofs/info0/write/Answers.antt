-- `info::info0::write` meets its contract: the constants pass the test of a sequence, and are the picture and the table of INFO0.
use Rattle.std.proofs.Common.{refl}
use Rattle.sequences.specs.Picture.{fixed, places, free}
use Rattle.sequences.specs.Sequence.{is_whole}
use Rattle.sequences.specs.Table.{is_laid, bit_count}
use Rattle.sequences.proofs.Trips.{answer_same}
use Rattle.fields.specs.Requires.{is_narrow}
use Rattle.info.specs.Frame.{fill, sync, framed}
use Rattle.info.specs.Info0.{info0}
use Rattle.info.proofs.info0.write.Goals as goal

pub invariant_of-write_sequence : goal.invariant_of-write_sequence
unfolding is_whole is_narrow is_laid free bit_count
invariant_of-write_sequence c = record { places = refl; fields = refl; whole = refl; narrow = refl; room = refl }

pub returns : goal.returns
unfolding info0 framed fixed places fill sync
returns c = answer_same info0 _ _ _ _ _ c.into.ensures c.write_sequence.ensures
