-- Jp worked out apart, bit by bit: sequences with what they say, and which refusal is given where several hold. Each sequence stands here on
-- five lines: sync; three times a start bit and sixteen bits, which are the fraction, the sizes among what is reserved, and the check; fill.
-- Assumes nothing.
use mathlib.Core.List.{List, [], ◌∷◌}
use mathlib.Core.Path.{◌≡◌, refl, sym, ap, ◌∙◌}
use Prim.Native.Nat.{ℕ}
use lib.Ieee.{binary64, div, of_int, to_bits, round, size, span, climb, units, odd}
use lib.ListN.{set}
use Rattle.laws.specs.Choice.{refusal}
use Rattle.bits.specs.Digits.{value, all_bits}
use Rattle.sequences.specs.Register.{add, times, polynomial, step, feed, crc}
use Rattle.sequences.specs.Picture.{fixed, places, inside, all_hold}
use Rattle.sequences.specs.Sequence.{is_same, is_sealed, fields_tests, fields_refusal, sequence_of}
use Rattle.sequences.specs.Table.{fields_in, in_range, bit_count}
use Rattle.sequences.proofs.Sequences.{reads, written_of-read}
use Rattle.jp.specs.Jp.{start_and_sixteen, jp, says, answer_of, answer}
use Rattle.jp.specs.Part.{part_of}
use Rattle.jp.proofs.Answers.{answer-read}
use Rattle.jp.proofs.Rows22.{whole22}

-- fraction 46,277, which from its other end would be 41,773; eight points in training, four in renegotiations
abbrev pub mixed : List ℕ
mixed =
    1 ∷ 1 ∷ 1 ∷ 1 ∷ 1 ∷ 1 ∷ 1 ∷ 1 ∷ 1 ∷ 1 ∷ 1 ∷ 1 ∷ 1 ∷ 1 ∷ 1 ∷ 1 ∷ 1
    ∷ 0 ∷ 1 ∷ 0 ∷ 1 ∷ 0 ∷ 0 ∷ 0 ∷ 1 ∷ 1 ∷ 0 ∷ 0 ∷ 1 ∷ 0 ∷ 1 ∷ 1 ∷ 0 ∷ 1
    ∷ 0 ∷ 0 ∷ 0 ∷ 0 ∷ 0 ∷ 0 ∷ 0 ∷ 0 ∷ 0 ∷ 0 ∷ 0 ∷ 0 ∷ 0 ∷ 1 ∷ 1 ∷ 0 ∷ 0
    ∷ 0 ∷ 1 ∷ 1 ∷ 1 ∷ 1 ∷ 0 ∷ 0 ∷ 0 ∷ 0 ∷ 0 ∷ 1 ∷ 1 ∷ 1 ∷ 0 ∷ 0 ∷ 0 ∷ 1
    ∷ 0 ∷ 0 ∷ 0 ∷ 0 ∷ []

abbrev pub mixed-numbers : List ℕ
mixed-numbers = 46277 ∷ 0 ∷ 1 ∷ 1 ∷ 0 ∷ 0 ∷ []

-- fraction 12,345; four points in training, eight in renegotiations
abbrev pub other : List ℕ
other =
    1 ∷ 1 ∷ 1 ∷ 1 ∷ 1 ∷ 1 ∷ 1 ∷ 1 ∷ 1 ∷ 1 ∷ 1 ∷ 1 ∷ 1 ∷ 1 ∷ 1 ∷ 1 ∷ 1
    ∷ 0 ∷ 1 ∷ 0 ∷ 0 ∷ 1 ∷ 1 ∷ 1 ∷ 0 ∷ 0 ∷ 0 ∷ 0 ∷ 0 ∷ 0 ∷ 1 ∷ 1 ∷ 0 ∷ 0
    ∷ 0 ∷ 0 ∷ 0 ∷ 0 ∷ 0 ∷ 0 ∷ 0 ∷ 0 ∷ 0 ∷ 0 ∷ 0 ∷ 0 ∷ 0 ∷ 1 ∷ 0 ∷ 1 ∷ 0
    ∷ 0 ∷ 1 ∷ 1 ∷ 0 ∷ 1 ∷ 1 ∷ 0 ∷ 0 ∷ 1 ∷ 0 ∷ 1 ∷ 0 ∷ 0 ∷ 0 ∷ 1 ∷ 1 ∷ 0
    ∷ 0 ∷ 0 ∷ 0 ∷ 0 ∷ []

abbrev pub other-numbers : List ℕ
other-numbers = 12345 ∷ 0 ∷ 1 ∷ 0 ∷ 1 ∷ 0 ∷ []

-- as mixed, with ones among the reserved bits, and with the check of them
abbrev pub reserved : List ℕ
reserved =
    1 ∷ 1 ∷ 1 ∷ 1 ∷ 1 ∷ 1 ∷ 1 ∷ 1 ∷ 1 ∷ 1 ∷ 1 ∷ 1 ∷ 1 ∷ 1 ∷ 1 ∷ 1 ∷ 1
    ∷ 0 ∷ 1 ∷ 0 ∷ 1 ∷ 0 ∷ 0 ∷ 0 ∷ 1 ∷ 1 ∷ 0 ∷ 0 ∷ 1 ∷ 0 ∷ 1 ∷ 1 ∷ 0 ∷ 1
    ∷ 0 ∷ 1 ∷ 1 ∷ 0 ∷ 0 ∷ 0 ∷ 0 ∷ 0 ∷ 0 ∷ 0 ∷ 1 ∷ 0 ∷ 1 ∷ 1 ∷ 1 ∷ 0 ∷ 1
    ∷ 0 ∷ 1 ∷ 0 ∷ 1 ∷ 0 ∷ 1 ∷ 1 ∷ 0 ∷ 0 ∷ 1 ∷ 1 ∷ 1 ∷ 1 ∷ 0 ∷ 0 ∷ 0 ∷ 1
    ∷ 0 ∷ 0 ∷ 0 ∷ 0 ∷ []

abbrev pub reserved-numbers : List ℕ
reserved-numbers = 46277 ∷ 2563 ∷ 1 ∷ 1 ∷ 0 ∷ 1 ∷ []

-- fraction 0, four points throughout
abbrev pub zeros : List ℕ
zeros =
    1 ∷ 1 ∷ 1 ∷ 1 ∷ 1 ∷ 1 ∷ 1 ∷ 1 ∷ 1 ∷ 1 ∷ 1 ∷ 1 ∷ 1 ∷ 1 ∷ 1 ∷ 1 ∷ 1
    ∷ 0 ∷ 0 ∷ 0 ∷ 0 ∷ 0 ∷ 0 ∷ 0 ∷ 0 ∷ 0 ∷ 0 ∷ 0 ∷ 0 ∷ 0 ∷ 0 ∷ 0 ∷ 0 ∷ 0
    ∷ 0 ∷ 0 ∷ 0 ∷ 0 ∷ 0 ∷ 0 ∷ 0 ∷ 0 ∷ 0 ∷ 0 ∷ 0 ∷ 0 ∷ 0 ∷ 1 ∷ 0 ∷ 0 ∷ 0
    ∷ 0 ∷ 0 ∷ 0 ∷ 0 ∷ 0 ∷ 0 ∷ 1 ∷ 0 ∷ 1 ∷ 1 ∷ 1 ∷ 0 ∷ 0 ∷ 1 ∷ 0 ∷ 0 ∷ 0
    ∷ 0 ∷ 0 ∷ 0 ∷ 0 ∷ []

-- as mixed, with bit 47 of 0, as Jd has it, and with its own check
abbrev pub jd : List ℕ
jd =
    1 ∷ 1 ∷ 1 ∷ 1 ∷ 1 ∷ 1 ∷ 1 ∷ 1 ∷ 1 ∷ 1 ∷ 1 ∷ 1 ∷ 1 ∷ 1 ∷ 1 ∷ 1 ∷ 1
    ∷ 0 ∷ 1 ∷ 0 ∷ 1 ∷ 0 ∷ 0 ∷ 0 ∷ 1 ∷ 1 ∷ 0 ∷ 0 ∷ 1 ∷ 0 ∷ 1 ∷ 1 ∷ 0 ∷ 1
    ∷ 0 ∷ 0 ∷ 0 ∷ 0 ∷ 0 ∷ 0 ∷ 0 ∷ 0 ∷ 0 ∷ 0 ∷ 0 ∷ 0 ∷ 0 ∷ 0 ∷ 1 ∷ 0 ∷ 0
    ∷ 0 ∷ 0 ∷ 1 ∷ 1 ∷ 1 ∷ 0 ∷ 0 ∷ 0 ∷ 1 ∷ 0 ∷ 1 ∷ 1 ∷ 1 ∷ 1 ∷ 0 ∷ 0 ∷ 1
    ∷ 0 ∷ 0 ∷ 0 ∷ 0 ∷ []

-- as mixed, with the check of bits 18 to 50, among which there is a start bit
abbrev pub started : List ℕ
started =
    1 ∷ 1 ∷ 1 ∷ 1 ∷ 1 ∷ 1 ∷ 1 ∷ 1 ∷ 1 ∷ 1 ∷ 1 ∷ 1 ∷ 1 ∷ 1 ∷ 1 ∷ 1 ∷ 1
    ∷ 0 ∷ 1 ∷ 0 ∷ 1 ∷ 0 ∷ 0 ∷ 0 ∷ 1 ∷ 1 ∷ 0 ∷ 0 ∷ 1 ∷ 0 ∷ 1 ∷ 1 ∷ 0 ∷ 1
    ∷ 0 ∷ 0 ∷ 0 ∷ 0 ∷ 0 ∷ 0 ∷ 0 ∷ 0 ∷ 0 ∷ 0 ∷ 0 ∷ 0 ∷ 0 ∷ 1 ∷ 1 ∷ 0 ∷ 0
    ∷ 0 ∷ 1 ∷ 0 ∷ 1 ∷ 0 ∷ 0 ∷ 0 ∷ 1 ∷ 0 ∷ 0 ∷ 1 ∷ 1 ∷ 1 ∷ 0 ∷ 1 ∷ 1 ∷ 0
    ∷ 0 ∷ 0 ∷ 0 ∷ 0 ∷ []

pub mixed-found : fields_in jp.table mixed ≡ mixed-numbers
unfolding fields_in value jp
mixed-found = refl

pub mixed-read : fields_refusal jp mixed ≡ 0
unfolding fields_tests refusal all_bits all_hold is_sealed is_same inside fields_in in_range value bit_count
    crc feed step add times polynomial jp start_and_sixteen fixed places
mixed-read = refl

-- to work the writer out would take too many steps; what was read is written
pub mixed-written : sequence_of jp mixed-numbers ≡ mixed
mixed-written =
    let read = reads jp mixed mixed-read in
    ap (sequence_of jp) (sym mixed-found) ∙ written_of-read jp whole22 mixed read.0 read.1

-- the answer by its names
pub mixed-says : answer mixed ≡ says 0 (record { fraction = 46277; training = 1; renegotiation = 0 })
mixed-says = answer-read mixed mixed-read ∙ ap (answer_of 0) mixed-found

pub other-found : fields_in jp.table other ≡ other-numbers
unfolding fields_in value jp
other-found = refl

pub other-read : fields_refusal jp other ≡ 0
unfolding fields_tests refusal all_bits all_hold is_sealed is_same inside fields_in in_range value bit_count
    crc feed step add times polynomial jp start_and_sixteen fixed places
other-read = refl

pub other-written : sequence_of jp other-numbers ≡ other
other-written =
    let read = reads jp other other-read in
    ap (sequence_of jp) (sym other-found) ∙ written_of-read jp whole22 other read.0 read.1

pub other-says : answer other ≡ says 0 (record { fraction = 12345; training = 0; renegotiation = 1 })
other-says = answer-read other other-read ∙ ap (answer_of 0) other-found

pub reserved-found : fields_in jp.table reserved ≡ reserved-numbers
unfolding fields_in value jp
reserved-found = refl

pub reserved-read : fields_refusal jp reserved ≡ 0
unfolding fields_tests refusal all_bits all_hold is_sealed is_same inside fields_in in_range value bit_count
    crc feed step add times polynomial jp start_and_sixteen fixed places
reserved-read = refl

-- of the reserved bits nothing is seen in the answer
pub reserved-says : answer reserved ≡ answer mixed
reserved-says = answer-read reserved reserved-read ∙ (ap (answer_of 0) reserved-found ∙ sym mixed-says)

pub zeros-read : fields_refusal jp zeros ≡ 0
unfolding fields_tests refusal all_bits all_hold is_sealed is_same inside fields_in in_range value bit_count
    crc feed step add times polynomial jp start_and_sixteen fixed places
zeros-read = refl

-- a byte of 2 in a reserved place, with a bit of sync and one of the fraction turned: 9. Without the byte 16
pub byte_first : fields_refusal jp (set (set (set mixed 40 2) 16 0) 18 0) ≡ 9
unfolding fields_tests refusal all_bits all_hold is_sealed is_same inside fields_in in_range value bit_count
    crc feed step add times polynomial jp start_and_sixteen fixed places
byte_first = refl

-- the seventeenth bit of sync
pub sync-then : fields_refusal jp (set (set mixed 16 0) 18 0) ≡ 16
unfolding fields_tests refusal all_bits all_hold is_sealed is_same inside fields_in in_range value bit_count
    crc feed step add times polynomial jp start_and_sixteen fixed places
sync-then = refl

-- the start bit among what the check covers
pub start-then : fields_refusal jp (set (set mixed 34 1) 18 0) ≡ 16
unfolding fields_tests refusal all_bits all_hold is_sealed is_same inside fields_in in_range value bit_count
    crc feed step add times polynomial jp start_and_sixteen fixed places
start-then = refl

-- the last bit of the fill
pub fill-then : fields_refusal jp (set mixed 71 1) ≡ 16
unfolding fields_tests refusal all_bits all_hold is_sealed is_same inside fields_in in_range value bit_count
    crc feed step add times polynomial jp start_and_sixteen fixed places
fill-then = refl

-- a reserved bit turned in what is Jd: 17. With its own check 18
pub check-then : fields_refusal jp (set jd 50 1) ≡ 17
unfolding fields_tests refusal all_bits all_hold is_sealed is_same inside fields_in in_range value bit_count
    crc feed step add times polynomial jp start_and_sixteen fixed places
check-then = refl

-- Jd is not read as Jp
pub jd_last : fields_refusal jp jd ≡ 18
unfolding fields_tests refusal all_bits all_hold is_sealed is_same inside fields_in in_range value bit_count
    crc feed step add times polynomial jp start_and_sixteen fixed places
jd_last = refl

-- the check leaves the start bits out
pub check-without-start : fields_refusal jp started ≡ 17
unfolding fields_tests refusal all_bits all_hold is_sealed is_same inside fields_in in_range value bit_count
    crc feed step add times polynomial jp start_and_sixteen fixed places
check-without-start = refl

-- ---- the float, as a bit pattern of binary64

pub part_of_0 : to_bits binary64 (part_of 0) ≡ 0
unfolding part_of to_bits div of_int round size span climb units odd
part_of_0 = refl

-- 2^−16 is 0x3EF0000000000000
pub part_of_1 : to_bits binary64 (part_of 1) ≡ 4535124824762089472
unfolding part_of to_bits div of_int round size span climb units odd
part_of_1 = refl

-- 0.5 is 0x3FE0000000000000
pub part_of_32768 : to_bits binary64 (part_of 32768) ≡ 4602678819172646912
unfolding part_of to_bits div of_int round size span climb units odd
part_of_32768 = refl

-- 0.7061309814453125 is 0x3FE698A000000000
pub part_of_46277 : to_bits binary64 (part_of 46277) ≡ 4604535481995100160
unfolding part_of to_bits div of_int round size span climb units odd
part_of_46277 = refl

-- 0.9999847412109375 is 0x3FEFFFE000000000
pub part_of_65535 : to_bits binary64 (part_of 65535) ≡ 4607182281361063936
unfolding part_of to_bits div of_int round size span climb units odd
part_of_65535 = refl
