-- `info::info1c::read` meets its contract: the constants pass the test of a sequence, and are the picture and the table of INFO1c.
use Rattle.std.proofs.Common.{refl, ◌∙◌, arith}
use mir.Syntax.{w32}
use mir.ValLaws.{to_z-of_z}
use Rattle.std.proofs.lemmas.Result.{err_from_is_err_and}
use Rattle.sequences.specs.Picture.{fixed, places, free}
use Rattle.sequences.specs.Sequence.{is_whole}
use Rattle.sequences.specs.Table.{is_laid, bit_count}
use Rattle.fields.specs.Requires.{is_narrow}
use Rattle.info.specs.Frame.{fill, sync, framed}
use Rattle.info.specs.Info1c.{block, info1c}
use Rattle.info.proofs.Reports.{answer-refused, answer-read, count-answered}
use Rattle.refusals.proofs.Once.{some_number}
use Rattle.info.proofs.info1c.read.Goals as goal

pub invariant_of-read_sequence : goal.invariant_of-read_sequence
unfolding is_whole is_narrow is_laid free bit_count
invariant_of-read_sequence c = record { places = refl; fields = refl; whole = refl; narrow = refl; room = refl }

pub returns-in_err-numbers : goal.returns-in_err-numbers
unfolding info1c block framed fixed places fill sync
returns-in_err-numbers c =
    let told = err_from_is_err_and c.from_residual.result c.from_residual.ensures.1 in
    rw (told.1, told.2) (answer-refused _ _ (some_number _) c.in_err-numbers.ensures)

pub signed-count-requires : goal.signed-count-requires
unfolding info1c block framed fixed places fill sync
signed-count-requires c = (omega arith, count-answered _ _ c.in_ok-numbers.ensures)

pub returns : goal.returns
unfolding info1c block framed fixed places fill sync
returns c =
    -- the count, which the machine holds in 32 bits
    let same = to_z-of_z w32 c.signed-count.result (record { sfits = c.signed-count.type_inv }) in
    let count = same ∙ c.signed-count.ensures in
    rw (c.reading_of-reading.ensures, c.from_numbers-fields.ensures, count) (answer-read _ _ c.in_ok-numbers.ensures)
