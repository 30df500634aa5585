-- There and back over the calls that C makes, whatever outcome fits the contracts. Of any sequence: reading what was written answers 0, and
-- its answer begins with the fields that were handed in; writing what an answer begins with gives 0 and the bits that were read. So
-- ww_info0_read gives back the bytes of the fields that ww_info0_write was given, and ww_info0_write the bits that ww_info0_read accepted;
-- and likewise of INFO1c. Assumes nothing.
use mathlib.Core.Bool.{true}
use mathlib.Core.List.{List}
use mathlib.Core.Path.{◌≡◌, refl, sym, ap, subst, ◌∙◌}
use Prim.Native.Nat.{ℕ}
use lib.IntN.{ℤ}
use lib.ListN.{length, take}
use Rattle.laws.specs.Lists.{Every}
use Rattle.sequences.specs.Picture.{fixed, places}
use Rattle.sequences.specs.Table.{fields_in, in_range}
use Rattle.sequences.specs.Sequence.{Sequence, fields_refusal, sequence_refusal, fields_read}
use Rattle.sequences.proofs.Sequences.{writes}
use Rattle.sequences.proofs.Trips as trips
use Rattle.offset.specs.Signed.{signed, unsigned}
use Rattle.info.specs.Frame.{fill, sync, framed}
use Rattle.info.specs.Info0.{info0}
use Rattle.info.specs.Info1c.{info1c, numbers_of}
use Rattle.info.specs.Table15.{Sayable}
use Rattle.info.specs.declared.info1c.Info1c.{Info1c}
use Rattle.info.proofs.Rows15.{numbers_said, printed15, writes_exactly}
use Rattle.info.proofs.Trips1c.{info1c-read_back}
use Rattle.workerwax.specs.Info.{SequenceReadCall, SequenceWriteCall, Info0ReadCall, Info0WriteCall, as_they_are}
use Rattle.workerwax.specs.Info.{Info1cReadCall, Info1cWriteCall, count_in10, count_in32, reported}
use Rattle.workerwax.specs.Layout.{words, numbers_in, info0_bits, info0_bytes, info1c_bits, info1c_bytes, report_bytes}
use Rattle.workerwax.proofs.Layouts.{length-words}
use Rattle.workerwax.proofs.Undone.{Byte, words_back, numbers-back, length-numbers, numbers-short}
use Rattle.workerwax.proofs.Infos.{read-zero, write-below, write-zero}
use Rattle.workerwax.proofs.Carried.{Carried, Counted, front-told, front_long, front_means, carried0, info0-all}
use Rattle.workerwax.proofs.Reported.{carried1c, told-said, count_in, count_as_signed}

module _ (s : Sequence) (bytes : ℕ) (shown meant told : List ℕ → List ℕ) (c : Carried s bytes shown meant told) (room : ℕ) where
  pub read_back :
      (fields lent : List ℕ) (r : ℕ) (bits : List ℕ) → SequenceWriteCall s bytes meant fields lent r bits → r ≡ 0
      → (free : List ℕ) (r' : ℕ) (after : List ℕ) → SequenceReadCall s room shown bits free r' after → length free ≡ room
      → Every Byte fields → (r' ≡ 0) × (take bytes after ≡ fields)
  read_back fields lent r bits write zero free r' after read exact small = (none, same)
    where
      handed : length fields ≡ bytes
      handed = ((write-zero s bytes meant fields lent r bits write).0 zero).0

      counted : Counted s (numbers_in fields)
      counted = length-numbers (length s.table) fields (handed ∙ c.size)

      below : (fields_refusal s bits ≡ 0) × (fields_read s bits ≡ meant (numbers_in fields))
      below =
          trips.read_what_was_written s c.whole (meant (numbers_in fields)) lent r bits _ _ (c.count_meant _ counted)
          (write-below s bytes meant fields lent r bits write handed) zero (record { number = refl; fields = refl })

      none : r' ≡ 0
      none = (read-zero s room shown bits free r' after read).1 (exact, below.0)

      found : fields_in s.table bits ≡ meant (numbers_in fields)
      found = sym (trips.fields-accepted s bits _ _ (record { number = refl; fields = refl }) below.0) ∙ below.1

      ranged : in_range s.table (meant (numbers_in fields)) ≡ true
      ranged = (writes s (meant (numbers_in fields)) (length lent) ((write-zero s bytes meant fields lent r bits write).0 zero).1).1

      same : take bytes after ≡ fields
      same =
          front-told s bytes shown meant told c room bits free r' after read none
          ∙ (ap (λ (l : List ℕ). words (told l)) found
          ∙ (ap words (c.told_meant (numbers_in fields) counted (numbers-short fields small) ranged)
          ∙ words_back (length s.table) fields (handed ∙ c.size) small))

  pub written_back :
      (bits lent : List ℕ) (r : ℕ) (after : List ℕ) → SequenceReadCall s room shown bits lent r after → r ≡ 0
      → (free : List ℕ) (r' : ℕ) (sent : List ℕ) → SequenceWriteCall s bytes meant (take bytes after) free r' sent
      → length free ≡ length s.picture → (r' ≡ 0) × (sent ≡ bits)
  written_back bits lent r after read zero free r' sent write exact =
      let none = ((read-zero s room shown bits lent r after read).0 zero).1 in
      let long = front_long s bytes shown meant told c room bits lent r after read zero in
      let means = front_means s bytes shown meant told c room bits lent r after read zero in
      let below = write-below s bytes meant (take bytes after) free r' sent write long in
      trips.write_what_was_read s c.whole bits _ (fields_in s.table bits) free r' sent exact (trips.answer-fields s bits none) refl
      (trips.answer_same s _ _ free r' sent means below)

-- INFO0.
pub read_what_was_written :
    (fields lent : List ℕ) (r : ℕ) (bits : List ℕ) → Info0WriteCall fields lent r bits → r ≡ 0
    → (room : List ℕ) (r' : ℕ) (after : List ℕ) → Info0ReadCall bits room r' after → length room ≡ info0_bytes
    → Every Byte fields → (r' ≡ 0) × (after ≡ fields)
read_what_was_written fields lent r bits write zero room r' after read exact small =
    let both =
    read_back info0 info0_bytes words as_they_are as_they_are carried0 info0_bytes fields lent r bits write zero room r' after read exact small in
    (both.0, sym (info0-all bits room r' after read both.0) ∙ both.1)

pub write_what_was_read :
    (bits lent : List ℕ) (r : ℕ) (fields : List ℕ) → Info0ReadCall bits lent r fields → r ≡ 0
    → (room : List ℕ) (r' : ℕ) (after : List ℕ) → Info0WriteCall fields room r' after → length room ≡ info0_bits
    → (r' ≡ 0) × (after ≡ bits)
unfolding info0 framed fixed places fill sync
write_what_was_read bits lent r fields read zero room r' after write exact =
    let all = info0-all bits lent r fields read zero in
    written_back info0 info0_bytes words as_they_are as_they_are carried0 info0_bytes bits lent r fields read zero room r' after
    (subst (λ (l : List ℕ). Info0WriteCall l room r' after) (sym all) write) exact

-- INFO1c: the report begins with the fields, and the hertz behind them are not written again.
pub info1c-read_what_was_written :
    (fields lent : List ℕ) (r : ℕ) (bits : List ℕ) → Info1cWriteCall fields lent r bits → r ≡ 0
    → (room : List ℕ) (r' : ℕ) (report : List ℕ) → Info1cReadCall bits room r' report → length room ≡ report_bytes
    → Every Byte fields → (r' ≡ 0) × (take info1c_bytes report ≡ fields)
info1c-read_what_was_written = read_back info1c info1c_bytes reported count_in10 count_in32 carried1c report_bytes

pub info1c-write_what_was_read :
    (bits lent : List ℕ) (r : ℕ) (report : List ℕ) → Info1cReadCall bits lent r report → r ≡ 0
    → (room : List ℕ) (r' : ℕ) (after : List ℕ) → Info1cWriteCall (take info1c_bytes report) room r' after → length room ≡ info1c_bits
    → (r' ≡ 0) × (after ≡ bits)
unfolding info1c framed fixed places fill sync
info1c-write_what_was_read = written_back info1c info1c_bytes reported count_in10 count_in32 carried1c report_bytes

-- Whatever Table 15 can say is written, and read again with its count: each from −512 to 511, which C has in 32 bits.
module _ (f : Info1c) (count : ℤ) (h : Sayable f count) where
  abbrev handed : List ℕ
  handed = words (numbers_of f (unsigned 2147483648 count))

  abbrev own : List ℕ
  own = numbers_said (f, count)

  meant_own : count_in10 (numbers_in handed) ≡ own
  meant_own =
      let counted = printed15.count (f, count) in
      let ranged = printed15.ranged (f, count) h in
      ap (λ (l : List ℕ). count_in10 (numbers_in (words l))) (sym (told-said (f, count) h))
      ∙ (ap count_in10 (numbers-back (count_in32 own) (carried1c.short own counted ranged)) ∙ carried1c.meant_told own counted ranged)

  pub info1c-count-back :
      (lent : List ℕ) (r : ℕ) (bits : List ℕ) → Info1cWriteCall handed lent r bits → length lent ≡ info1c_bits
      → (room : List ℕ) (r' : ℕ) (report : List ℕ) → Info1cReadCall bits room r' report → length room ≡ report_bytes
      → (r ≡ 0) × (r' ≡ 0) × (signed 2147483648 (count_in report) ≡ count)
  info1c-count-back lent r bits write exact room r' report read roomy =
      let long : length handed ≡ info1c_bytes = length-words (numbers_of f (unsigned 2147483648 count)) in
      let none =
      ap (λ (l : List ℕ). sequence_refusal info1c l (length lent)) meant_own ∙ (writes_exactly f count (length lent)).1 (h, exact) in
      let zero = (write-zero info1c info1c_bytes count_in10 handed lent r bits write).1 (long, none) in
      let below = write-below info1c info1c_bytes count_in10 handed lent r bits write long in
      let says = info1c-read_back f count lent r bits (trips.answer_same info1c _ _ lent r bits meant_own below) zero in
      let heard = (read-zero info1c report_bytes reported bits room r' report read).1 (roomy, says.0) in
      (zero, heard, count_as_signed bits room r' report read heard ∙ says.2)
