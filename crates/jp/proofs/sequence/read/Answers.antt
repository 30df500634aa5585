-- `jp::sequence::read` meets its contract: the constants pass the test of a sequence, and are the picture and the table of Jp.
use Rattle.std.proofs.Common.{refl}
use Rattle.std.proofs.lemmas.Result.{err_from_is_err_and}
use Rattle.sequences.specs.Picture.{fixed, places, free}
use Rattle.sequences.specs.Sequence.{is_whole}
use Rattle.sequences.specs.Table.{is_laid, bit_count}
use Rattle.fields.specs.Requires.{is_narrow}
use Rattle.jp.specs.Jp.{start_and_sixteen, jp}
use Rattle.jp.proofs.Answers.{answer-told, fraction-answered}
use Rattle.jp.proofs.sequence.read.Goals as goal

pub invariant_of-read_sequence : goal.invariant_of-read_sequence
unfolding is_whole is_narrow is_laid free bit_count
invariant_of-read_sequence c = record { places = refl; fields = refl; whole = refl; narrow = refl; room = refl }

pub returns-in_err-numbers : goal.returns-in_err-numbers
unfolding jp start_and_sixteen fixed places
returns-in_err-numbers c =
    let told = err_from_is_err_and c.from_residual.result c.from_residual.ensures.1 in
    rw (told.1, told.2) (answer-told _ _ _ c.in_err-numbers.ensures)

pub part_of-part-requires : goal.part_of-part-requires
unfolding jp start_and_sixteen fixed places
part_of-part-requires c = rw c.from_numbers-fields.ensures (fraction-answered _ _ c.in_ok-numbers.ensures)

pub returns : goal.returns
unfolding jp start_and_sixteen fixed places
returns c = rw (c.part_of-part.ensures, c.from_numbers-fields.ensures) (answer-told _ _ _ c.in_ok-numbers.ensures)
