-- `fields::table::put_fields` meets its contract.
use Rattle.std.proofs.Common.{◌≡◌, arith}
use Rattle.std.proofs.lemmas.Iterator.{empty_from_Zip}
use Rattle.fields.proofs.Rows.{spelt_none, spelt_room, spelt_more, spelt_all}
use Rattle.fields.proofs.table.put_fields.Goals as goal

pub loop-field-init : goal.loop-field-init
loop-field-init c =
    let table : c.into_iter-field-iterator.result.a.rest.now ≡ c.args.table.now = cc in
    let numbers : c.into_iter-field-iterator.result.b.rest.now ≡ c.args.numbers.now = cc in
    rw (table, numbers) (spelt_none c.args.table.now c.args.numbers.now c.args.body.now c.requires.0 c.requires.1)

pub put_digits-requires : goal.put_digits-requires
put_digits-requires c =
    let next = c.in-Some.ensures.steps in
    spelt_room _ _ _ _ _ _ _ _ _ (rw (next.0, next.1) at c.loop-field.invariant)

pub overflow_add-at : goal.overflow_add-at
overflow_add-at c =
    let next = c.in-Some.ensures.steps in
    let room = spelt_room _ _ _ _ _ _ _ _ _ (rw (next.0, next.1) at c.loop-field.invariant) in
    omega arith

pub loop-field-preserved : goal.loop-field-preserved
loop-field-preserved c =
    let next = c.in-Some.ensures.steps in
    spelt_more _ _ _ _ _ _ _ _ _ (rw (next.0, next.1) at c.loop-field.invariant) _ c.put_digits.ensures

pub returns : goal.returns
returns c =
    let none = empty_from_Zip c.loop-field.field-iterator c.next.new.self _ c.in-None.is c.next.ensures.steps c.loop-field.invariant.count in
    spelt_all _ _ _ _ _ _ (rw none.0 at c.loop-field.invariant)
