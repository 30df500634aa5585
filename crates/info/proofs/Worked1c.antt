-- INFO1c worked out apart, bit by bit: sequences with their fields and counts, and which refusal is given where several hold. Each sequence
-- stands here on eleven lines: fill and sync; powers and MD; the six blocks; the count; check; fill. Assumes nothing.
use mathlib.Core.List.{List, [], ◌∷◌}
use mathlib.Core.Path.{◌≡◌, refl, sym, ap, ◌∙◌}
use Prim.Native.Nat.{ℕ}
use lib.IntN.{negsuc}
use lib.ListN.{set}
use Rattle.laws.specs.Choice.{refusal}
use Rattle.bits.specs.Digits.{value, all_bits}
use Rattle.sequences.specs.Register.{add, times, polynomial, step, feed, crc}
use Rattle.sequences.specs.Picture.{fixed, places, inside, all_hold}
use Rattle.sequences.specs.Sequence.{is_same, is_sealed, fields_tests, fields_refusal, sequence_of}
use Rattle.sequences.specs.Table.{fields_in, in_range, bit_count}
use Rattle.sequences.proofs.Sequences.{reads, written_of-read}
use Rattle.info.specs.Frame.{fill, sync, framed}
use Rattle.info.specs.Info1c.{block, info1c, count_of}
use Rattle.info.proofs.Rows15.{whole1c}

-- all fields different, and a negative count: −37
abbrev pub mixed : List ℕ
mixed =
    1 ∷ 1 ∷ 1 ∷ 1 ∷ 0 ∷ 1 ∷ 1 ∷ 1 ∷ 0 ∷ 0 ∷ 1 ∷ 0
    ∷ 1 ∷ 0 ∷ 1 ∷ 0 ∷ 1 ∷ 0 ∷ 0 ∷ 0 ∷ 1 ∷ 0 ∷ 0 ∷ 1 ∷ 1
    ∷ 1 ∷ 1 ∷ 1 ∷ 0 ∷ 0 ∷ 1 ∷ 0 ∷ 1 ∷ 0
    ∷ 0 ∷ 0 ∷ 1 ∷ 0 ∷ 1 ∷ 0 ∷ 1 ∷ 1 ∷ 1
    ∷ 1 ∷ 0 ∷ 0 ∷ 0 ∷ 0 ∷ 0 ∷ 0 ∷ 1 ∷ 1
    ∷ 0 ∷ 1 ∷ 1 ∷ 1 ∷ 0 ∷ 1 ∷ 0 ∷ 0 ∷ 0
    ∷ 1 ∷ 1 ∷ 0 ∷ 1 ∷ 0 ∷ 1 ∷ 0 ∷ 1 ∷ 1
    ∷ 0 ∷ 0 ∷ 1 ∷ 0 ∷ 0 ∷ 1 ∷ 0 ∷ 0 ∷ 1
    ∷ 1 ∷ 1 ∷ 0 ∷ 1 ∷ 1 ∷ 0 ∷ 1 ∷ 1 ∷ 1 ∷ 1
    ∷ 0 ∷ 0 ∷ 0 ∷ 1 ∷ 1 ∷ 0 ∷ 1 ∷ 1 ∷ 1 ∷ 0 ∷ 1 ∷ 1 ∷ 0 ∷ 0 ∷ 0 ∷ 1
    ∷ 1 ∷ 1 ∷ 1 ∷ 1 ∷ []

abbrev pub mixed_fields : List ℕ
mixed_fields =
    5 ∷ 2 ∷ 100
    ∷ 1 ∷ 3 ∷ 5
    ∷ 0 ∷ 10 ∷ 14
    ∷ 1 ∷ 0 ∷ 12
    ∷ 0 ∷ 7 ∷ 1
    ∷ 1 ∷ 5 ∷ 13
    ∷ 0 ∷ 2 ∷ 9
    ∷ 987 ∷ []

-- every field 0, and the count −512: the offset could not be measured
abbrev pub unmeasured : List ℕ
unmeasured =
    1 ∷ 1 ∷ 1 ∷ 1 ∷ 0 ∷ 1 ∷ 1 ∷ 1 ∷ 0 ∷ 0 ∷ 1 ∷ 0
    ∷ 0 ∷ 0 ∷ 0 ∷ 0 ∷ 0 ∷ 0 ∷ 0 ∷ 0 ∷ 0 ∷ 0 ∷ 0 ∷ 0 ∷ 0
    ∷ 0 ∷ 0 ∷ 0 ∷ 0 ∷ 0 ∷ 0 ∷ 0 ∷ 0 ∷ 0
    ∷ 0 ∷ 0 ∷ 0 ∷ 0 ∷ 0 ∷ 0 ∷ 0 ∷ 0 ∷ 0
    ∷ 0 ∷ 0 ∷ 0 ∷ 0 ∷ 0 ∷ 0 ∷ 0 ∷ 0 ∷ 0
    ∷ 0 ∷ 0 ∷ 0 ∷ 0 ∷ 0 ∷ 0 ∷ 0 ∷ 0 ∷ 0
    ∷ 0 ∷ 0 ∷ 0 ∷ 0 ∷ 0 ∷ 0 ∷ 0 ∷ 0 ∷ 0
    ∷ 0 ∷ 0 ∷ 0 ∷ 0 ∷ 0 ∷ 0 ∷ 0 ∷ 0 ∷ 0
    ∷ 0 ∷ 0 ∷ 0 ∷ 0 ∷ 0 ∷ 0 ∷ 0 ∷ 0 ∷ 0 ∷ 1
    ∷ 0 ∷ 0 ∷ 1 ∷ 0 ∷ 1 ∷ 1 ∷ 1 ∷ 0 ∷ 0 ∷ 0 ∷ 0 ∷ 0 ∷ 0 ∷ 0 ∷ 1 ∷ 0
    ∷ 1 ∷ 1 ∷ 1 ∷ 1 ∷ []

-- every field the most that it may be, and the count 511
abbrev pub full : List ℕ
full =
    1 ∷ 1 ∷ 1 ∷ 1 ∷ 0 ∷ 1 ∷ 1 ∷ 1 ∷ 0 ∷ 0 ∷ 1 ∷ 0
    ∷ 1 ∷ 1 ∷ 1 ∷ 1 ∷ 1 ∷ 1 ∷ 1 ∷ 1 ∷ 1 ∷ 1 ∷ 1 ∷ 1 ∷ 1
    ∷ 1 ∷ 0 ∷ 1 ∷ 0 ∷ 1 ∷ 0 ∷ 1 ∷ 1 ∷ 1
    ∷ 1 ∷ 0 ∷ 1 ∷ 0 ∷ 1 ∷ 0 ∷ 1 ∷ 1 ∷ 1
    ∷ 1 ∷ 0 ∷ 1 ∷ 0 ∷ 1 ∷ 0 ∷ 1 ∷ 1 ∷ 1
    ∷ 1 ∷ 0 ∷ 1 ∷ 0 ∷ 1 ∷ 0 ∷ 1 ∷ 1 ∷ 1
    ∷ 1 ∷ 0 ∷ 1 ∷ 0 ∷ 1 ∷ 0 ∷ 1 ∷ 1 ∷ 1
    ∷ 1 ∷ 0 ∷ 1 ∷ 0 ∷ 1 ∷ 0 ∷ 1 ∷ 1 ∷ 1
    ∷ 1 ∷ 1 ∷ 1 ∷ 1 ∷ 1 ∷ 1 ∷ 1 ∷ 1 ∷ 1 ∷ 0
    ∷ 1 ∷ 0 ∷ 0 ∷ 0 ∷ 1 ∷ 1 ∷ 1 ∷ 1 ∷ 1 ∷ 0 ∷ 1 ∷ 0 ∷ 1 ∷ 1 ∷ 0 ∷ 1
    ∷ 1 ∷ 1 ∷ 1 ∷ 1 ∷ []

abbrev pub full-fields : List ℕ
full-fields =
    7 ∷ 7 ∷ 127
    ∷ 1 ∷ 10 ∷ 14
    ∷ 1 ∷ 10 ∷ 14
    ∷ 1 ∷ 10 ∷ 14
    ∷ 1 ∷ 10 ∷ 14
    ∷ 1 ∷ 10 ∷ 14
    ∷ 1 ∷ 10 ∷ 14
    ∷ 511 ∷ []

-- as mixed, with a filter of 11 for 3000, and with a rate of 15 for 3429; each with its own check
abbrev pub filter_11 : List ℕ
filter_11 =
    1 ∷ 1 ∷ 1 ∷ 1 ∷ 0 ∷ 1 ∷ 1 ∷ 1 ∷ 0 ∷ 0 ∷ 1 ∷ 0
    ∷ 1 ∷ 0 ∷ 1 ∷ 0 ∷ 1 ∷ 0 ∷ 0 ∷ 0 ∷ 1 ∷ 0 ∷ 0 ∷ 1 ∷ 1
    ∷ 1 ∷ 1 ∷ 1 ∷ 0 ∷ 0 ∷ 1 ∷ 0 ∷ 1 ∷ 0
    ∷ 0 ∷ 0 ∷ 1 ∷ 0 ∷ 1 ∷ 0 ∷ 1 ∷ 1 ∷ 1
    ∷ 1 ∷ 0 ∷ 0 ∷ 0 ∷ 0 ∷ 0 ∷ 0 ∷ 1 ∷ 1
    ∷ 0 ∷ 1 ∷ 1 ∷ 0 ∷ 1 ∷ 1 ∷ 0 ∷ 0 ∷ 0
    ∷ 1 ∷ 1 ∷ 0 ∷ 1 ∷ 0 ∷ 1 ∷ 0 ∷ 1 ∷ 1
    ∷ 0 ∷ 0 ∷ 1 ∷ 0 ∷ 0 ∷ 1 ∷ 0 ∷ 0 ∷ 1
    ∷ 1 ∷ 1 ∷ 0 ∷ 1 ∷ 1 ∷ 0 ∷ 1 ∷ 1 ∷ 1 ∷ 1
    ∷ 1 ∷ 1 ∷ 1 ∷ 1 ∷ 0 ∷ 1 ∷ 0 ∷ 1 ∷ 0 ∷ 1 ∷ 1 ∷ 0 ∷ 0 ∷ 0 ∷ 1 ∷ 1
    ∷ 1 ∷ 1 ∷ 1 ∷ 1 ∷ []

abbrev pub rate_15 : List ℕ
rate_15 =
    1 ∷ 1 ∷ 1 ∷ 1 ∷ 0 ∷ 1 ∷ 1 ∷ 1 ∷ 0 ∷ 0 ∷ 1 ∷ 0
    ∷ 1 ∷ 0 ∷ 1 ∷ 0 ∷ 1 ∷ 0 ∷ 0 ∷ 0 ∷ 1 ∷ 0 ∷ 0 ∷ 1 ∷ 1
    ∷ 1 ∷ 1 ∷ 1 ∷ 0 ∷ 0 ∷ 1 ∷ 0 ∷ 1 ∷ 0
    ∷ 0 ∷ 0 ∷ 1 ∷ 0 ∷ 1 ∷ 0 ∷ 1 ∷ 1 ∷ 1
    ∷ 1 ∷ 0 ∷ 0 ∷ 0 ∷ 0 ∷ 0 ∷ 0 ∷ 1 ∷ 1
    ∷ 0 ∷ 1 ∷ 1 ∷ 1 ∷ 0 ∷ 1 ∷ 0 ∷ 0 ∷ 0
    ∷ 1 ∷ 1 ∷ 0 ∷ 1 ∷ 0 ∷ 1 ∷ 0 ∷ 1 ∷ 1
    ∷ 0 ∷ 0 ∷ 1 ∷ 0 ∷ 0 ∷ 1 ∷ 1 ∷ 1 ∷ 1
    ∷ 1 ∷ 1 ∷ 0 ∷ 1 ∷ 1 ∷ 0 ∷ 1 ∷ 1 ∷ 1 ∷ 1
    ∷ 1 ∷ 0 ∷ 0 ∷ 1 ∷ 0 ∷ 0 ∷ 0 ∷ 1 ∷ 0 ∷ 1 ∷ 1 ∷ 0 ∷ 1 ∷ 0 ∷ 1 ∷ 1
    ∷ 1 ∷ 1 ∷ 1 ∷ 1 ∷ []

pub mixed-found : fields_in info1c.table mixed ≡ mixed_fields
unfolding fields_in value block info1c
mixed-found = refl

pub mixed-count : count_of mixed_fields ≡ negsuc 36
mixed-count = refl

pub mixed-read : fields_refusal info1c mixed ≡ 0
unfolding fields_tests refusal all_bits all_hold is_sealed is_same inside fields_in in_range value bit_count
    crc feed step add times polynomial block info1c framed fixed places fill sync
mixed-read = refl

-- to work the writer out would take too many steps; what was read is written
pub mixed-written : sequence_of info1c mixed_fields ≡ mixed
mixed-written =
    let read = reads info1c mixed mixed-read in
    ap (sequence_of info1c) (sym mixed-found) ∙ written_of-read info1c whole1c mixed read.0 read.1

pub unmeasured_count : count_of (fields_in info1c.table unmeasured) ≡ negsuc 511
unfolding fields_in value block info1c
unmeasured_count = refl

pub unmeasured_read : fields_refusal info1c unmeasured ≡ 0
unfolding fields_tests refusal all_bits all_hold is_sealed is_same inside fields_in in_range value bit_count
    crc feed step add times polynomial block info1c framed fixed places fill sync
unmeasured_read = refl

pub full-found : fields_in info1c.table full ≡ full-fields
unfolding fields_in value block info1c
full-found = refl

pub full-read : fields_refusal info1c full ≡ 0
unfolding fields_tests refusal all_bits all_hold is_sealed is_same inside fields_in in_range value bit_count
    crc feed step add times polynomial block info1c framed fixed places fill sync
full-read = refl

-- a byte of 2 in the last fill, with a bit of sync and one of the fields turned: 9. Without the byte 16
pub byte_first : fields_refusal info1c (set (set (set mixed 108 2) 4 1) 12 0) ≡ 9
unfolding fields_tests refusal all_bits all_hold is_sealed is_same inside fields_in in_range value bit_count
    crc feed step add times polynomial block info1c framed fixed places fill sync
byte_first = refl

pub sync-then : fields_refusal info1c (set (set mixed 4 1) 12 0) ≡ 16
unfolding fields_tests refusal all_bits all_hold is_sealed is_same inside fields_in in_range value bit_count
    crc feed step add times polynomial block info1c framed fixed places fill sync
sync-then = refl

-- a filter of 11 with the sign of the count turned, which the check covers: 17. With its own check 18
pub check-then : fields_refusal info1c (set filter_11 88 0) ≡ 17
unfolding fields_tests refusal all_bits all_hold is_sealed is_same inside fields_in in_range value bit_count
    crc feed step add times polynomial block info1c framed fixed places fill sync
check-then = refl

pub filter_last : fields_refusal info1c filter_11 ≡ 18
unfolding fields_tests refusal all_bits all_hold is_sealed is_same inside fields_in in_range value bit_count
    crc feed step add times polynomial block info1c framed fixed places fill sync
filter_last = refl

pub rate_last : fields_refusal info1c rate_15 ≡ 18
unfolding fields_tests refusal all_bits all_hold is_sealed is_same inside fields_in in_range value bit_count
    crc feed step add times polynomial block info1c framed fixed places fill sync
rate_last = refl
