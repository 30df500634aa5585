-- `fields::sequence::Layout::write_sequence` meets its contract: the body is the bits of the fields and then their check.
use Rattle.std.proofs.Common.{◌≡◌, sym, ap, refl, ◌∙◌, length, arith, rules}
use Rattle.sequences.specs.Picture.{free, around}
use Rattle.sequences.specs.Sequence.{sealed, sequence_of}
use Rattle.sequences.proofs.Given.{lent_is_8, number_is_18}
use Rattle.sequences.proofs.Sequences.{written_by}
use Rattle.fields.specs.Requires.{sequence}
use Rattle.fields.proofs.Ways.{answered, free-within, room-is, spelt-length, spelt_front, spelt-bits}
use Rattle.fields.proofs.sequence.Layout.write_sequence.Goals as goal

pub returns-then-lent : goal.returns-then-lent
returns-then-lent g c =
    let l = c.args.self.now in
    let s = sequence l.picture.now l.table.now in
    let lent = c.args.lent.now in
    let places : length l.picture.now ≡ g.row.PLACES = search rules in
    let other : length lent ≡ length l.picture.now → ⊥ = λ e. c.if-lent.true (e ∙ places) in
    answered s c.args.numbers.now lent 8 lent (lent_is_8 s c.args.numbers.now (length lent) other) refl

pub returns-then-not-in_range : goal.returns-then-not-in_range
returns-then-not-in_range g c =
    let l = c.args.self.now in
    let s = sequence l.picture.now l.table.now in
    let lent = c.args.lent.now in
    answered s c.args.numbers.now lent 18 lent
    (number_is_18 s c.args.numbers.now (length lent) (search rules) (sym c.if-not-in_range.ensures)) refl

pub whole_as_slice-body : goal.whole_as_slice-body
whole_as_slice-body g c =
    let l = c.args.self.now in
    let room : free l.picture.now ≡ g.row.FREE = l.room in
    let long : length c.args.lent.now ≡ length l.picture.now = search rules in
    let within = free-within l.picture.now in
    omega arith

pub put_fields-requires : goal.put_fields-requires
put_fields-requires g c =
    let l = c.args.self.now in
    let room = room-is (sequence l.picture.now l.table.now) l.whole g.row.FREE l.room in
    (search rules, omega (arith, room))

pub seal-requires : goal.seal-requires
seal-requires g c =
    let l = c.args.self.now in
    let room = room-is (sequence l.picture.now l.table.now) l.whole g.row.FREE l.room in
    let long = spelt-length l.table.now c.args.numbers.now _ c.put_fields.new.body c.put_fields.ensures room in
    (omega (arith, long), spelt-bits l.table.now c.args.numbers.now _ c.put_fields.new.body c.put_fields.ensures room)

pub put_around-requires : goal.put_around-requires
put_around-requires g c =
    let l = c.args.self.now in
    let free-are : free l.picture.now ≡ g.row.FREE = l.room in
    let kept : length c.seal.new.body ≡ g.row.FREE = search rules in
    (search rules, kept ∙ sym free-are)

pub returns : goal.returns
unfolding sequence_of
returns g c =
    let l = c.args.self.now in
    let s = sequence l.picture.now l.table.now in
    let lent = c.args.lent.now in
    let numbers = c.args.numbers.now in
    let room = room-is s l.whole g.row.FREE l.room in
    let front = spelt_front l.table.now numbers _ c.put_fields.new.body c.put_fields.ensures room in
    answered s numbers lent 0 _ (written_by s numbers (length lent) (search rules) (sym c.if-not-in_range.ensures))
    (c.put_around.ensures ∙ ap (around l.picture.now) (c.seal.ensures ∙ ap sealed front))
