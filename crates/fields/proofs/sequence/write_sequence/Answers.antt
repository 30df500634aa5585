-- `fields::sequence::write_sequence` meets its contract: the body is the bits of the fields and then their check.
use Rattle.std.proofs.Common.{sym, ap, refl, ◌∙◌, length, arith}
use Rattle.sequences.specs.Picture.{around}
use Rattle.sequences.specs.Sequence.{sealed, sequence_of}
use Rattle.sequences.proofs.Given.{lent_is_8, number_is_18}
use Rattle.sequences.proofs.Sequences.{whole, written_by}
use Rattle.fields.specs.Requires.{sequence}
use Rattle.fields.proofs.Ways.{answered, spelt-length, spelt_front, spelt-bits}
use Rattle.fields.proofs.sequence.write_sequence.Goals as goal

pub returns-then-lent-picture : goal.returns-then-lent-picture
returns-then-lent-picture c =
    let a = c.args in
    let s = sequence a.picture.now a.table.now in
    answered s a.numbers.now a.lent.now 8 a.lent.now (lent_is_8 s a.numbers.now (length a.lent.now) c.if-lent-picture.true) refl

pub returns-then-not-in_range : goal.returns-then-not-in_range
returns-then-not-in_range c =
    let a = c.args in
    let s = sequence a.picture.now a.table.now in
    answered s a.numbers.now a.lent.now 18 a.lent.now
    (number_is_18 s a.numbers.now (length a.lent.now) c.if-lent-picture.false (sym c.if-not-in_range.ensures)) refl

pub put_fields-requires : goal.put_fields-requires
put_fields-requires c =
    let s = sequence c.args.picture.now c.args.table.now in
    (c.requires.count, omega (arith, c.requires.room, (whole s c.requires.whole).room))

pub seal-requires : goal.seal-requires
seal-requires c =
    let a = c.args in
    let s = sequence a.picture.now a.table.now in
    let room = c.requires.room ∙ (whole s c.requires.whole).room in
    let long = spelt-length a.table.now a.numbers.now a.body.now c.put_fields.new.body c.put_fields.ensures room in
    (omega (arith, long), spelt-bits a.table.now a.numbers.now a.body.now c.put_fields.new.body c.put_fields.ensures room)

pub returns : goal.returns
unfolding sequence_of
returns c =
    let a = c.args in
    let s = sequence a.picture.now a.table.now in
    let room = c.requires.room ∙ (whole s c.requires.whole).room in
    let front = spelt_front a.table.now a.numbers.now a.body.now c.put_fields.new.body c.put_fields.ensures room in
    answered s a.numbers.now a.lent.now 0 _
    (written_by s a.numbers.now (length a.lent.now) c.if-lent-picture.false (sym c.if-not-in_range.ensures))
    (c.put_around.ensures ∙ ap (around a.picture.now) (c.seal.ensures ∙ ap sealed front))
