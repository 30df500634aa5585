-- The offset in a line report, as Table 15 has it: bit 88 is the sign of the count, hertz are the count divided once by 50, and there is no
-- reading exactly where the count is −512 or the sequence was refused. Assumes nothing.
use mathlib.Core.Bool.{Bool, true, false}
use mathlib.Core.List.{List, [], ◌∷◌, ◌++◌}
use mathlib.Core.Logic.{◌↔◌, ◌⊎◌, inl, inr}
use mathlib.Core.Path.{◌≡◌, refl, sym, ap, subst, ◌∙◌}
use Prim.Native.Nat.{ℕ, ◌*◌, ◌^◌}
use native.Mathlib.Omega.{arith}
use lib.Dec.{eqb}
use lib.IntN.{pos, negsuc, ◌-ℤ◌}
use lib.Ieee.{binary64, div, of_int}
use lib.ListN.{length, get_or, take, drop, length-drop}
use lib.Seq.{take-suc, length-take-le, get_or-drop}
use borrow.Author.Tests.{eqb-true, eqb-false}
use Rattle.std.specs.Prelude.{Some, None}
use Rattle.bits.specs.Digits.{value, Bits}
use Rattle.bits.proofs.Digitals.{bits-take, bits-drop, bits_at}
use Rattle.sequences.specs.Picture.{fixed, places}
use Rattle.sequences.specs.Sequence.{fields_refusal}
use Rattle.sequences.specs.Table.{fields_in}
use Rattle.sequences.proofs.Sequences.{reads}
use Rattle.offset.specs.Hertz.{reading_of}
use Rattle.offset.specs.Signed.{signed}
use Rattle.offset.proofs.Readings.{blank_exactly, reading_exactly}
use Rattle.offset.proofs.Signs.{sign_bit}
use Rattle.info.specs.Frame.{fill, sync, framed}
use Rattle.info.specs.Info1c.{block, info1c, count_of, Report, report}
use Rattle.info.proofs.Reports.{report-read, report-refused}

module _ (bits : List ℕ) (read : (report bits).refusal ≡ 0) where
  abbrev nine : List ℕ
  nine = take 9 (drop 79 bits)

  long : length bits ≡ 109
  unfolding info1c framed fixed places fill sync
  long = (reads info1c bits read).0

  binary : Bits bits
  binary = (reads info1c bits read).1.binary

  ten : take 10 (drop 79 bits) ≡ nine ++ get_or bits 88 0 ∷ []
  ten =
      take-suc (drop 79 bits) 9 0 (omega (arith, long, length-drop 79 bits))
      ∙ ap (λ (b : ℕ). nine ++ b ∷ []) (get_or-drop 79 bits 9 0)

  count-in : count_of (fields_in info1c.table bits) ≡ signed 512 (value (take 10 (drop 79 bits)))
  unfolding fields_in info1c block
  count-in = refl

  -- bits 79 to 87 count as ever, and bit 88 counts negative
  pub count_by-sign-bit : (report bits).count ≡ pos (value (take 9 (drop 79 bits))) -ℤ pos (get_or bits 88 0 * 512)
  count_by-sign-bit =
      ap (λ (r : Report). r.count) (report-read bits read)
      ∙ (count-in
      ∙ (ap (λ (l : List ℕ). signed 512 (value l)) ten
      ∙ subst
      (λ (n : ℕ). signed (2 ^ n) (value (nine ++ get_or bits 88 0 ∷ [])) ≡ pos (value nine) -ℤ pos (get_or bits 88 0 * 2 ^ n))
      (length-take-le 9 (drop 79 bits) (omega (arith, long, length-drop 79 bits)))
      (sign_bit nine (get_or bits 88 0) (bits-take 9 (drop 79 bits) (bits-drop 79 bits binary)) (bits_at bits 88 binary))))

  reading_of-count : (report bits).reading ≡ reading_of (report bits).count
  reading_of-count =
      ap (λ (r : Report). r.reading) (report-read bits read)
      ∙ ap (λ (r : Report). reading_of r.count) (sym (report-read bits read))

  -- one division
  pub divided_once :
      ((report bits).count ≡ negsuc 511 → ⊥)
      → (report bits).reading ≡ Some (div binary64 (of_int binary64 (report bits).count) (of_int binary64 (pos 50)))
  divided_once other = reading_of-count ∙ reading_exactly (report bits).count other

-- no reading exactly for a refused report and for −512
pub no_reading_exactly :
    (bits : List ℕ) → ((report bits).reading ≡ None) ↔ (((report bits).refusal ≡ 0 → ⊥) ⊎ ((report bits).count ≡ negsuc 511))
no_reading_exactly bits = (there, back)
  where
    Without : Type 0
    Without = ((report bits).refusal ≡ 0 → ⊥) ⊎ ((report bits).count ≡ negsuc 511)

    there : (report bits).reading ≡ None → Without
    there blank = by (eqb (fields_refusal info1c bits) 0) refl
      where
        by : (v : Bool) → eqb (fields_refusal info1c bits) 0 ≡ v → Without
        by true e =
            let read = eqb-true (fields_refusal info1c bits) 0 e in
            inr ((blank_exactly (report bits).count).0 (sym (reading_of-count bits read) ∙ blank))
        by false e = inl (eqb-false (fields_refusal info1c bits) 0 e)

    back : Without → (report bits).reading ≡ None
    back (inl refused) = ap (λ (r : Report). r.reading) (report-refused bits refused)
    back (inr e) = by (eqb (fields_refusal info1c bits) 0) refl
      where
        by : (v : Bool) → eqb (fields_refusal info1c bits) 0 ≡ v → (report bits).reading ≡ None
        by true t = reading_of-count bits (eqb-true (fields_refusal info1c bits) 0 t) ∙ (blank_exactly (report bits).count).1 e
        by false f = ap (λ (r : Report). r.reading) (report-refused bits (eqb-false (fields_refusal info1c bits) 0 f))
