-- `info::info0::read` meets its contract: the constants pass the test of a sequence, and are the picture and the table of INFO0.
use Rattle.std.proofs.Common.{refl}
use Rattle.std.proofs.lemmas.Result.{err_from_is_err_and}
use Rattle.sequences.specs.Picture.{fixed, places, free}
use Rattle.sequences.specs.Sequence.{is_whole}
use Rattle.sequences.specs.Table.{is_laid, bit_count}
use Rattle.fields.specs.Requires.{is_narrow}
use Rattle.info.specs.Frame.{fill, sync, framed}
use Rattle.info.specs.Info0.{info0}
use Rattle.info.proofs.info0.read.Goals as goal

pub invariant_of-read_sequence : goal.invariant_of-read_sequence
unfolding is_whole is_narrow is_laid free bit_count
invariant_of-read_sequence c = record { places = refl; fields = refl; whole = refl; narrow = refl; room = refl }

pub returns-in_err-numbers : goal.returns-in_err-numbers
unfolding info0 framed fixed places fill sync
returns-in_err-numbers c =
    let told = err_from_is_err_and c.from_residual.result c.from_residual.ensures.1 in rw (told.1, told.2) c.in_err-numbers.ensures

pub returns : goal.returns
unfolding info0 framed fixed places fill sync
returns c = rw c.from.ensures c.in_ok-numbers.ensures
