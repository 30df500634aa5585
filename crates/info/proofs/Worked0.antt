-- INFO0 worked out apart, bit by bit: sequences with their fields, and which refusal is given where several hold. Each sequence stands here
-- on four lines: fill and sync, fields, check, fill. Assumes nothing.
use mathlib.Core.List.{List, [], ◌∷◌}
use mathlib.Core.Path.{◌≡◌, refl, sym, ap, ◌∙◌}
use Prim.Native.Nat.{ℕ}
use lib.ListN.{set}
use Rattle.laws.specs.Choice.{refusal}
use Rattle.bits.specs.Digits.{value, all_bits}
use Rattle.sequences.specs.Register.{add, times, polynomial, step, feed, crc}
use Rattle.sequences.specs.Picture.{fixed, places, inside, all_hold}
use Rattle.sequences.specs.Sequence.{is_same, is_sealed, fields_tests, fields_refusal, sequence_of}
use Rattle.sequences.specs.Table.{fields_in, in_range, bit_count}
use Rattle.sequences.proofs.Sequences.{reads, written_of-read}
use Rattle.info.specs.Frame.{fill, sync, framed}
use Rattle.info.specs.Info0.{info0}
use Rattle.info.proofs.Rows14.{whole0}

-- difference 5, mark 1, clock 2
abbrev pub mixed : List ℕ
mixed =
    1 ∷ 1 ∷ 1 ∷ 1 ∷ 0 ∷ 1 ∷ 1 ∷ 1 ∷ 0 ∷ 0 ∷ 1 ∷ 0
    ∷ 1 ∷ 0 ∷ 1 ∷ 0 ∷ 1 ∷ 1 ∷ 0 ∷ 1 ∷ 0 ∷ 1 ∷ 0 ∷ 1 ∷ 0 ∷ 1 ∷ 0 ∷ 1 ∷ 1
    ∷ 1 ∷ 1 ∷ 1 ∷ 0 ∷ 1 ∷ 0 ∷ 0 ∷ 0 ∷ 1 ∷ 1 ∷ 0 ∷ 1 ∷ 1 ∷ 0 ∷ 1 ∷ 1
    ∷ 1 ∷ 1 ∷ 1 ∷ 1 ∷ []

abbrev pub mixed_fields : List ℕ
mixed_fields = 1 ∷ 0 ∷ 1 ∷ 0 ∷ 1 ∷ 1 ∷ 0 ∷ 1 ∷ 0 ∷ 5 ∷ 0 ∷ 1 ∷ 2 ∷ 1 ∷ []

-- every field 0
abbrev pub zeros : List ℕ
zeros =
    1 ∷ 1 ∷ 1 ∷ 1 ∷ 0 ∷ 1 ∷ 1 ∷ 1 ∷ 0 ∷ 0 ∷ 1 ∷ 0
    ∷ 0 ∷ 0 ∷ 0 ∷ 0 ∷ 0 ∷ 0 ∷ 0 ∷ 0 ∷ 0 ∷ 0 ∷ 0 ∷ 0 ∷ 0 ∷ 0 ∷ 0 ∷ 0 ∷ 0
    ∷ 0 ∷ 0 ∷ 1 ∷ 1 ∷ 1 ∷ 0 ∷ 1 ∷ 0 ∷ 0 ∷ 0 ∷ 0 ∷ 1 ∷ 1 ∷ 1 ∷ 1 ∷ 0
    ∷ 1 ∷ 1 ∷ 1 ∷ 1 ∷ []

-- as mixed, with difference 6, which is out of its range, and with clock source 3, which is reserved; each with its own check
abbrev pub difference_6 : List ℕ
difference_6 =
    1 ∷ 1 ∷ 1 ∷ 1 ∷ 0 ∷ 1 ∷ 1 ∷ 1 ∷ 0 ∷ 0 ∷ 1 ∷ 0
    ∷ 1 ∷ 0 ∷ 1 ∷ 0 ∷ 1 ∷ 1 ∷ 0 ∷ 1 ∷ 0 ∷ 0 ∷ 1 ∷ 1 ∷ 0 ∷ 1 ∷ 0 ∷ 1 ∷ 1
    ∷ 0 ∷ 0 ∷ 1 ∷ 1 ∷ 0 ∷ 0 ∷ 0 ∷ 1 ∷ 1 ∷ 0 ∷ 0 ∷ 1 ∷ 0 ∷ 1 ∷ 1 ∷ 1
    ∷ 1 ∷ 1 ∷ 1 ∷ 1 ∷ []

abbrev pub clock_3 : List ℕ
clock_3 =
    1 ∷ 1 ∷ 1 ∷ 1 ∷ 0 ∷ 1 ∷ 1 ∷ 1 ∷ 0 ∷ 0 ∷ 1 ∷ 0
    ∷ 1 ∷ 0 ∷ 1 ∷ 0 ∷ 1 ∷ 1 ∷ 0 ∷ 1 ∷ 0 ∷ 1 ∷ 0 ∷ 1 ∷ 0 ∷ 1 ∷ 1 ∷ 1 ∷ 1
    ∷ 1 ∷ 0 ∷ 1 ∷ 0 ∷ 1 ∷ 0 ∷ 0 ∷ 0 ∷ 0 ∷ 1 ∷ 0 ∷ 1 ∷ 1 ∷ 1 ∷ 1 ∷ 1
    ∷ 1 ∷ 1 ∷ 1 ∷ 1 ∷ []

pub mixed-found : fields_in info0.table mixed ≡ mixed_fields
unfolding fields_in value info0
mixed-found = refl

pub mixed-read : fields_refusal info0 mixed ≡ 0
unfolding fields_tests refusal all_bits all_hold is_sealed is_same inside fields_in in_range value bit_count
    crc feed step add times polynomial info0 framed fixed places fill sync
mixed-read = refl

-- to work the writer out would take too many steps; what was read is written
pub mixed-written : sequence_of info0 mixed_fields ≡ mixed
mixed-written =
    let read = reads info0 mixed mixed-read in
    ap (sequence_of info0) (sym mixed-found) ∙ written_of-read info0 whole0 mixed read.0 read.1

pub zeros-read : fields_refusal info0 zeros ≡ 0
unfolding fields_tests refusal all_bits all_hold is_sealed is_same inside fields_in in_range value bit_count
    crc feed step add times polynomial info0 framed fixed places fill sync
zeros-read = refl

-- a byte of 2 in the last fill, with a bit of sync and one of the fields turned: 9. Without the byte 16
pub byte_first : fields_refusal info0 (set (set (set mixed 48 2) 4 1) 12 0) ≡ 9
unfolding fields_tests refusal all_bits all_hold is_sealed is_same inside fields_in in_range value bit_count
    crc feed step add times polynomial info0 framed fixed places fill sync
byte_first = refl

pub sync-then : fields_refusal info0 (set (set mixed 4 1) 12 0) ≡ 16
unfolding fields_tests refusal all_bits all_hold is_sealed is_same inside fields_in in_range value bit_count
    crc feed step add times polynomial info0 framed fixed places fill sync
sync-then = refl

-- a bit of the second fill
pub second-fill : fields_refusal info0 (set mixed 46 0) ≡ 16
unfolding fields_tests refusal all_bits all_hold is_sealed is_same inside fields_in in_range value bit_count
    crc feed step add times polynomial info0 framed fixed places fill sync
second-fill = refl

-- a difference of 6 with another bit turned: 17. With its own check 18
pub check-then : fields_refusal info0 (set difference_6 12 0) ≡ 17
unfolding fields_tests refusal all_bits all_hold is_sealed is_same inside fields_in in_range value bit_count
    crc feed step add times polynomial info0 framed fixed places fill sync
check-then = refl

pub difference_last : fields_refusal info0 difference_6 ≡ 18
unfolding fields_tests refusal all_bits all_hold is_sealed is_same inside fields_in in_range value bit_count
    crc feed step add times polynomial info0 framed fixed places fill sync
difference_last = refl

pub clock_last : fields_refusal info0 clock_3 ≡ 18
unfolding fields_tests refusal all_bits all_hold is_sealed is_same inside fields_in in_range value bit_count
    crc feed step add times polynomial info0 framed fixed places fill sync
clock_last = refl
