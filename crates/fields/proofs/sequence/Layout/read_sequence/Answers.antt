-- `fields::sequence::Layout::read_sequence` meets its contract: the tests stand in the order of their numbers, and what stands in the free
-- places leaves 0 exactly where its fields are followed by their check.
use Rattle.std.proofs.Common.{◌≡◌, sym, ap, ◌∙◌, length, arith, rules}
use Rattle.bits.proofs.Tested.{all-bits}
use Rattle.sequences.specs.Table.{in_range}
use Rattle.sequences.proofs.Given.{length_is_8, byte_is_9, place_is_16, check_is_17, field_is_18, read_is_0}
use Rattle.sequences.proofs.Trips.{answer-fields}
use Rattle.fields.specs.Requires.{sequence}
use Rattle.fields.proofs.Ways.{within-whole, sealed_by_zero, unsealed_by_other, refused}
use Rattle.fields.proofs.sequence.Layout.read_sequence.Goals as goal

pub returns-then-bits : goal.returns-then-bits
returns-then-bits g c =
    let l = c.args.self.now in
    let s = sequence l.picture.now l.table.now in
    let bits = c.args.bits.now in
    let places : length l.picture.now ≡ g.row.PLACES = search rules in
    let other : length bits ≡ length l.picture.now → ⊥ = λ e. c.if-bits.true (e ∙ places) in
    refused s g.row.FIELDS bits 8 (search rules) (omega arith) (length_is_8 s bits other)

pub returns-then-not-all_bits : goal.returns-then-not-all_bits
returns-then-not-all_bits g c =
    let l = c.args.self.now in
    let s = sequence l.picture.now l.table.now in
    refused s g.row.FIELDS c.args.bits.now 9 (search rules) (omega arith)
    (byte_is_9 s c.args.bits.now (search rules) (sym c.if-not-all_bits.ensures))

pub returns-then-not-all_hold : goal.returns-then-not-all_hold
returns-then-not-all_hold g c =
    let l = c.args.self.now in
    let s = sequence l.picture.now l.table.now in
    refused s g.row.FIELDS c.args.bits.now 16 (search rules) (omega arith)
    (place_is_16 s c.args.bits.now (search rules) (sym c.if-not-all_bits.ensures) (sym c.if-not-all_hold.ensures))

pub crc_inside-requires : goal.crc_inside-requires
crc_inside-requires g c = (search rules, all-bits _ (sym c.if-not-all_bits.ensures))

pub returns-then-crc_inside-ne0 : goal.returns-then-crc_inside-ne0
returns-then-crc_inside-ne0 g c =
    let l = c.args.self.now in
    let s = sequence l.picture.now l.table.now in
    let bits = c.args.bits.now in
    let long : length bits ≡ length l.picture.now = search rules in
    let binary = sym c.if-not-all_bits.ensures in
    refused s g.row.FIELDS bits 17 (search rules) (omega arith)
    (check_is_17 s bits long binary (sym c.if-not-all_hold.ensures)
    (unsealed_by_other s l.whole bits long binary (λ e. c.if-crc_inside-ne0.true (c.crc_inside.ensures ∙ e))))

pub fields_in-requires : goal.fields_in-requires
fields_in-requires g c =
    let l = c.args.self.now in (
      search rules,
      within-whole (sequence l.picture.now l.table.now) l.whole c.args.bits.now (search rules) l.narrow,
      all-bits _ (sym c.if-not-all_bits.ensures),
    )

pub returns-then-not-in_range : goal.returns-then-not-in_range
returns-then-not-in_range g c =
    let l = c.args.self.now in
    let s = sequence l.picture.now l.table.now in
    let bits = c.args.bits.now in
    let long : length bits ≡ length l.picture.now = search rules in
    let binary = sym c.if-not-all_bits.ensures in
    refused s g.row.FIELDS bits 18 (search rules) (omega arith)
    (field_is_18 s bits long binary (sym c.if-not-all_hold.ensures)
    (sealed_by_zero s l.whole bits long binary (sym c.crc_inside.ensures ∙ c.if-crc_inside-ne0.false))
    (ap (in_range l.table.now) (sym c.fields_in.ensures) ∙ sym c.if-not-in_range.ensures))

pub returns : goal.returns
returns g c =
    let l = c.args.self.now in
    let s = sequence l.picture.now l.table.now in
    let bits = c.args.bits.now in
    let long : length bits ≡ length l.picture.now = search rules in
    let binary = sym c.if-not-all_bits.ensures in
    let read =
    read_is_0 s bits long binary (sym c.if-not-all_hold.ensures)
    (sealed_by_zero s l.whole bits long binary (sym c.crc_inside.ensures ∙ c.if-crc_inside-ne0.false))
    (ap (in_range l.table.now) (sym c.fields_in.ensures) ∙ sym c.if-not-in_range.ensures) in
    rw c.fields_in.ensures (answer-fields s bits read)
