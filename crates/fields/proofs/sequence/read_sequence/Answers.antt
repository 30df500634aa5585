-- `fields::sequence::read_sequence` meets its contract: the tests stand in the order of their numbers, and the body leaves 0 exactly where its
-- fields are followed by their check.
use Rattle.std.proofs.Common.{List, ℕ, sym, ap, ◌∙◌, arith}
use Rattle.bits.proofs.Tested.{all-bits}
use Rattle.sequences.specs.Register.{crc}
use Rattle.sequences.specs.Table.{in_range}
use Rattle.sequences.proofs.Given.{length_is_8, byte_is_9, place_is_16, check_is_17, field_is_18, read_is_0}
use Rattle.sequences.proofs.Pictures.{bits_inside}
use Rattle.fields.specs.Requires.{sequence}
use Rattle.fields.specs.Weights.{high_value}
use Rattle.fields.proofs.Ways.{within-whole, sealed_by_zero, unsealed_by_other, unread}
use Rattle.fields.proofs.sequence.read_sequence.Goals as goal

pub returns-then-bits-picture : goal.returns-then-bits-picture
returns-then-bits-picture c =
    let s = sequence c.args.picture.now c.args.table.now in
    unread s c.args.bits.now 8 _ (omega arith) (length_is_8 s c.args.bits.now c.if-bits-picture.true)

pub returns-then-not-all_bits : goal.returns-then-not-all_bits
returns-then-not-all_bits c =
    let s = sequence c.args.picture.now c.args.table.now in
    unread s c.args.bits.now 9 _ (omega arith) (byte_is_9 s c.args.bits.now c.if-bits-picture.false (sym c.if-not-all_bits.ensures))

pub returns-then-not-all_hold : goal.returns-then-not-all_hold
returns-then-not-all_hold c =
    let s = sequence c.args.picture.now c.args.table.now in
    unread s c.args.bits.now 16 _ (omega arith)
    (place_is_16 s c.args.bits.now c.if-bits-picture.false (sym c.if-not-all_bits.ensures) (sym c.if-not-all_hold.ensures))

pub crc_of-requires : goal.crc_of-requires
crc_of-requires c =
    rw c.take_inside.ensures (bits_inside c.args.picture.now c.args.bits.now (all-bits _ (sym c.if-not-all_bits.ensures)))

pub returns-then-crc_of-ne0 : goal.returns-then-crc_of-ne0
returns-then-crc_of-ne0 c =
    let s = sequence c.args.picture.now c.args.table.now in
    let bits = c.args.bits.now in
    let long = c.if-bits-picture.false in
    let binary = sym c.if-not-all_bits.ensures in
    let check = c.crc_of.ensures ∙ ap (λ (l : List ℕ). high_value (crc l)) c.take_inside.ensures in
    unread s bits 17 _ (omega arith)
    (check_is_17 s bits long binary (sym c.if-not-all_hold.ensures)
    (unsealed_by_other s c.requires.whole bits long binary (λ e. c.if-crc_of-ne0.true (check ∙ e))))

pub fields_in-requires : goal.fields_in-requires
fields_in-requires c =
    let s = sequence c.args.picture.now c.args.table.now in (
      c.requires.count,
      within-whole s c.requires.whole c.args.bits.now c.if-bits-picture.false c.requires.narrow,
      all-bits _ (sym c.if-not-all_bits.ensures),
    )

pub returns-then-not-in_range : goal.returns-then-not-in_range
returns-then-not-in_range c =
    let s = sequence c.args.picture.now c.args.table.now in
    let bits = c.args.bits.now in
    let long = c.if-bits-picture.false in
    let binary = sym c.if-not-all_bits.ensures in
    let check = c.crc_of.ensures ∙ ap (λ (l : List ℕ). high_value (crc l)) c.take_inside.ensures in
    unread s bits 18 _ (omega arith)
    (field_is_18 s bits long binary (sym c.if-not-all_hold.ensures)
    (sealed_by_zero s c.requires.whole bits long binary (sym check ∙ c.if-crc_of-ne0.false))
    (ap (in_range c.args.table.now) (sym c.fields_in.ensures) ∙ sym c.if-not-in_range.ensures))

pub returns : goal.returns
returns c =
    let s = sequence c.args.picture.now c.args.table.now in
    let bits = c.args.bits.now in
    let long = c.if-bits-picture.false in
    let binary = sym c.if-not-all_bits.ensures in
    let check = c.crc_of.ensures ∙ ap (λ (l : List ℕ). high_value (crc l)) c.take_inside.ensures in
    let read =
    read_is_0 s bits long binary (sym c.if-not-all_hold.ensures)
    (sealed_by_zero s c.requires.whole bits long binary (sym check ∙ c.if-crc_of-ne0.false))
    (ap (in_range c.args.table.now) (sym c.fields_in.ensures) ∙ sym c.if-not-in_range.ensures) in
    record { number = sym read; fields = λ z. c.fields_in.ensures }
