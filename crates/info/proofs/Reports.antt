-- The line report of INFO1c: what it says where the sequence is accepted and where it is refused, and that the count and the reading are as
-- Table 15 has them. Assumes nothing.
use mathlib.Core.Bool.{Bool, true, false, cond}
use mathlib.Core.List.{List}
use mathlib.Core.Path.{◌≡◌, refl, sym, ap, ap₂, ◌∙◌}
use Prim.Native.Nat.{ℕ, ◌<◌}
use lib.Dec.{eqb}
use lib.Ieee.{Float}
use lib.IntN.{ℤ, pos}
use lib.ListN.{get_or, replicate}
use borrow.Author.Tests.{ne_eqb}
use Rattle.std.specs.Prelude.{Option, None}
use Rattle.sequences.specs.Sequence.{fields_refusal, FieldsAnswer}
use Rattle.sequences.specs.Table.{fields_in}
use Rattle.sequences.proofs.Sequences.{reads}
use Rattle.sequences.proofs.Trips.{fields-accepted, answer-fields, answer-zeros}
use Rattle.offset.specs.Hertz.{reading_of}
use Rattle.offset.specs.Requires.{NoNan}
use Rattle.offset.proofs.Readings.{no_nan}
use Rattle.info.specs.Info1c.{block, info1c, fields_of, count_of, report_of, Report, report}
use Rattle.info.specs.declared.info1c.Info1c.{Info1c}
use Rattle.info.proofs.Rows15.{last_held}

-- a report of these parts
abbrev made : ℕ → Info1c → ℤ → Option Float → Report
made refusal fields count reading = record { refusal = refusal; fields = fields; count = count; reading = reading }

module _ (bits : List ℕ) where
  -- a refused sequence has a report of zeros, with no reading
  module _ (refused : fields_refusal info1c bits ≡ 0 → ⊥) where
    pub report-refused : report bits ≡ made (fields_refusal info1c bits) (fields_of (replicate 22 0)) (pos 0) None
    unfolding info1c block
    report-refused =
        let r = fields_refusal info1c bits in
        ap (report_of r) (sym (answer-zeros info1c bits r refl refused).fields)
        ∙ ap (λ (v : Bool). made r (fields_of (replicate 22 0)) (pos 0) (cond v (reading_of (pos 0)) None)) (ne_eqb r 0 refused)

  -- an accepted one has a report of what stands in it
  module _ (read : fields_refusal info1c bits ≡ 0) where
    abbrev numbers : List ℕ
    numbers = fields_in info1c.table bits

    pub report-read : report bits ≡ made 0 (fields_of numbers) (count_of numbers) (reading_of (count_of numbers))
    report-read = ap₂ report_of read (sym (answer-fields info1c bits read).fields)

    pub count_held : get_or numbers 21 0 < 1024
    count_held = last_held numbers (reads info1c bits read).1.ranges

-- the reader's two ways out
pub answer-refused :
    (bits : List ℕ) (r : ℕ) → (r ≡ 0 → ⊥) → FieldsAnswer info1c bits r (replicate 22 0)
    → made r (fields_of (replicate 22 0)) (pos 0) None ≡ report bits
answer-refused bits r some a =
    ap (λ (n : ℕ). made n (fields_of (replicate 22 0)) (pos 0) None) a.number ∙ sym (report-refused bits (λ z. some (a.number ∙ z)))

pub answer-read : (bits found : List ℕ) → FieldsAnswer info1c bits 0 found → report_of 0 found ≡ report bits
answer-read bits found a = ap₂ report_of a.number a.fields

pub count-answered : (bits found : List ℕ) → FieldsAnswer info1c bits 0 found → get_or found 21 0 < 1024
count-answered bits found a = rw (fields-accepted info1c bits 0 found a refl) (count_held bits (sym a.number))

-- whatever the bits, the reading of a report is a number where there is one
pub report_no_nan : (bits : List ℕ) → NoNan (report bits).reading
report_no_nan bits = by (eqb (report bits).refusal 0) (report bits).count
  where
    by : (v : Bool) (z : ℤ) → NoNan (cond v (reading_of z) None)
    by true z = no_nan z
    by false z = tt
