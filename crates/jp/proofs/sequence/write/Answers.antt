-- `jp::sequence::write` meets its contract: the constants pass the test of a sequence, and are the picture and the table of Jp.
use Rattle.std.proofs.Common.{refl}
use Rattle.sequences.specs.Picture.{fixed, places, free}
use Rattle.sequences.specs.Sequence.{is_whole}
use Rattle.sequences.specs.Table.{is_laid, bit_count}
use Rattle.sequences.proofs.Trips.{answer_same}
use Rattle.fields.specs.Requires.{is_narrow}
use Rattle.jp.specs.Jp.{start_and_sixteen, jp}
use Rattle.jp.proofs.sequence.write.Goals as goal

pub invariant_of-write_sequence : goal.invariant_of-write_sequence
unfolding is_whole is_narrow is_laid free bit_count
invariant_of-write_sequence c = record { places = refl; fields = refl; whole = refl; narrow = refl; room = refl }

pub returns : goal.returns
unfolding jp start_and_sixteen fixed places
returns c = answer_same jp _ _ _ _ _ c.numbers.ensures c.write_sequence.ensures
