-- What the calls of the INFO sequences answer to C, for all inputs (V.34, clause 10.1.2.3; docs/INTERFACE.md). Bits are one to a byte,
-- bit 0 first. Fields are numbers of four bytes, in the order of the table.
--
--     ww_info0_read      bits 49, only read; fields 56          8; 9; 16; 17; 18
--     ww_info0_write     fields 56, only read; bits 49          8; 18
--     ww_info1c_read     bits 109, only read; report 100        8; 9; 16; 17; 18
--     ww_info1c_write    fields 88, only read; bits 109         8; 18
--
-- A call is said of any sequence, so that each sequence is a row: its picture and table, how many bytes it answers with or is handed, and
-- how the numbers of the fields stand in them. (The rows of Jp are on a page of their own.)
use Rattle.std.specs.Prelude.{Float, Option, ◌&&◌, List, ◌∷◌, ◌++◌, ◌≡◌, ℕ, eqb, ℤ, length, get_or}
use Rattle.laws.specs.Choice.{refusal}
use Rattle.sequences.specs.Table.{fields_in}
use Rattle.sequences.specs.Sequence.{Sequence, fields_tests, sequence_tests, sequence_of, is_long}
use Rattle.offset.specs.Hertz.{reading_of, is_reading, pattern_of}
use Rattle.offset.specs.Signed.{signed, unsigned}
use Rattle.info.specs.Info0.{info0}
use Rattle.info.specs.Info1c.{info1c, numbers_of, fields_of, count_of, count_bits}
use Rattle.workerwax.specs.Calls.{filled}
use Rattle.workerwax.specs.Layout.{words, numbers_in, halves, info0_bytes, info1c_bytes, report_bytes}

-- a call that reads a sequence: the reader's own tests, by both lengths
abbrev pub sequence_read_number : Sequence → ℕ → List ℕ → ℕ → ℕ
sequence_read_number s bytes bits lent = refusal (fields_tests s bits (is_long s (length bits) && eqb lent bytes))

-- `shown` are the bytes of an answer, by the numbers of the fields
pub record SequenceReadCall (s : Sequence) (bytes : ℕ) (shown : List ℕ → List ℕ) (bits lent : List ℕ) (r : ℕ) (after : List ℕ)
    : Type 0 where
  pub number : r ≡ sequence_read_number s bytes bits (length lent)
  pub answer : after ≡ filled (sequence_read_number s bytes bits (length lent)) (shown (fields_in s.table bits)) lent

-- a call that writes one: the writer's own tests, by both lengths. `meant` are the numbers of the fields, by those that the bytes hold
abbrev pub sequence_write_number : Sequence → ℕ → (List ℕ → List ℕ) → List ℕ → ℕ → ℕ
sequence_write_number s bytes meant fields lent =
    refusal (sequence_tests s (meant (numbers_in fields)) (eqb (length fields) bytes && is_long s lent))

pub record SequenceWriteCall (s : Sequence) (bytes : ℕ) (meant : List ℕ → List ℕ) (fields lent : List ℕ) (r : ℕ) (after : List ℕ)
    : Type 0 where
  pub number : r ≡ sequence_write_number s bytes meant fields (length lent)
  pub sequence :
      after ≡ filled (sequence_write_number s bytes meant fields (length lent)) (sequence_of s (meant (numbers_in fields))) lent

-- INFO0: the numbers of the fields stand in the bytes as they are
abbrev pub as_they_are : List ℕ → List ℕ
as_they_are numbers = numbers

abbrev pub info0_read_number : List ℕ → ℕ → ℕ
info0_read_number = sequence_read_number info0 info0_bytes

abbrev pub Info0ReadCall : List ℕ → List ℕ → ℕ → List ℕ → Type 0
Info0ReadCall = SequenceReadCall info0 info0_bytes words

abbrev pub info0_write_number : List ℕ → ℕ → ℕ
info0_write_number = sequence_write_number info0 info0_bytes as_they_are

abbrev pub Info0WriteCall : List ℕ → List ℕ → ℕ → List ℕ → Type 0
Info0WriteCall = SequenceWriteCall info0 info0_bytes as_they_are

-- INFO1c: the last number is the count of the frequency offset, in two's complement. The sequence has ten bits for it, and the bytes 32.
abbrev pub in32 : ℤ → ℕ
in32 = unsigned 2147483648

abbrev pub from32 : ℕ → ℤ
from32 = signed 2147483648

unfoldable pub count_in32 : List ℕ → List ℕ
count_in32 numbers = numbers_of (fields_of numbers) (in32 (count_of numbers))

unfoldable pub count_in10 : List ℕ → List ℕ
count_in10 numbers = numbers_of (fields_of numbers) (count_bits (from32 (get_or numbers 21 0)))

-- the offset in hertz: 1 or 0, whether there is a reading, and then its bit pattern
abbrev pub reading_numbers : Option Float → List ℕ
reading_numbers reading = is_reading reading ∷ halves (pattern_of reading)

-- the bytes of a report
unfoldable pub reported : List ℕ → List ℕ
reported numbers = words (count_in32 numbers ++ reading_numbers (reading_of (count_of numbers)))

abbrev pub info1c_read_number : List ℕ → ℕ → ℕ
info1c_read_number = sequence_read_number info1c report_bytes

abbrev pub Info1cReadCall : List ℕ → List ℕ → ℕ → List ℕ → Type 0
Info1cReadCall = SequenceReadCall info1c report_bytes reported

abbrev pub info1c_write_number : List ℕ → ℕ → ℕ
info1c_write_number = sequence_write_number info1c info1c_bytes count_in10

abbrev pub Info1cWriteCall : List ℕ → List ℕ → ℕ → List ℕ → Type 0
Info1cWriteCall = SequenceWriteCall info1c info1c_bytes count_in10
