-- `info::info1c::write` meets its contract: the constants pass the test of a sequence, and are the picture and the table of INFO1c.
use Rattle.std.proofs.Common.{refl, ap, ◌∙◌}
use mir.Syntax.{w32}
use mir.ValLaws.{to_z-of_z}
use Rattle.offset.specs.Signed.{unsigned}
use Rattle.sequences.specs.Picture.{fixed, places, free}
use Rattle.sequences.specs.Sequence.{is_whole}
use Rattle.sequences.specs.Table.{is_laid, bit_count}
use Rattle.sequences.proofs.Trips.{answer_same}
use Rattle.fields.specs.Requires.{is_narrow}
use Rattle.info.specs.Frame.{fill, sync, framed}
use Rattle.info.specs.Info1c.{block, info1c, numbers_of}
use Rattle.info.proofs.info1c.write.Goals as goal

pub invariant_of-write_sequence : goal.invariant_of-write_sequence
unfolding is_whole is_narrow is_laid free bit_count
invariant_of-write_sequence c = record { places = refl; fields = refl; whole = refl; narrow = refl; room = refl }

pub returns : goal.returns
unfolding info1c block framed fixed places fill sync
returns c =
    -- the count, which the machine holds in 32 bits
    let same = to_z-of_z w32 c.args.count c.ranges.count in
    let is = ap (numbers_of c.args.fields) (c.unsigned.ensures ∙ ap (unsigned 512) same) in
    answer_same info1c _ _ _ _ _ (c.numbers-numbers.ensures ∙ is) c.write_sequence.ensures
