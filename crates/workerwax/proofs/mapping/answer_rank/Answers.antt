-- `workerwax::mapping::answer_rank` meets its contract: the ranker refuses what it is shown, or its number is laid out. Assumes nothing.
use borrow.Author.Rules.{rules}
use Rattle.workerwax.proofs.Ways.{rank-told, rank_told-four, rank_told-done}
use Rattle.workerwax.proofs.mapping.answer_rank.Goals as goal

pub returns-in_err-number : goal.returns-in_err-number
returns-in_err-number c =
    let a = c.args in
    let told = rank-told a.k a.m a.rings.now a.answer.now c.shown_rings-shown.result c.shown_rings-shown.ensures.value c.in_err-number.field-0.0 c.in_err-number.ensures in
    search rules

pub put_numbers-requires : goal.put_numbers-requires
put_numbers-requires c =
    let a = c.args in
    rank_told-four a.k a.m a.rings.now a.answer.now c.shown_rings-shown.result c.shown_rings-shown.ensures.value c.in_ok-number.number c.in_ok-number.ensures

pub returns : goal.returns
returns c =
    let a = c.args in
    rank_told-done a.k a.m a.rings.now a.answer.now c.shown_rings-shown.result c.shown_rings-shown.ensures.value c.in_ok-number.number c.in_ok-number.ensures
    c.put_numbers.new.out c.put_numbers.ensures
