-- INFO1c in bytes. A report begins with the 22 numbers that ww_info1c_write takes, in which the count of the frequency offset has 32 bits;
-- behind them stand a flag and the eight bytes of the hertz, lowest first. So the count, whether there is a reading, and the reading are in
-- the bytes what Table 15 and one division by 50 make them. Assumes nothing.
use mathlib.Core.List.{List, [], ◌∷◌, ◌++◌}
use mathlib.Core.Logic.{◌↔◌}
use mathlib.Core.Path.{◌≡◌, refl, sym, ap, subst, ◌∙◌}
use Prim.Native.Nat.{ℕ, ◌≤◌, ◌<◌}
use native.Mathlib.Omega.{arith}
use lib.Ieee.{binary64, div, of_int, to_bits}
use lib.IntN.{ℤ, pos, negsuc}
use lib.ListN.{length, take, drop, get_or, replicate}
use lib.Seq.{take_at, drop_at}
use lib.Signed.{mag}
use Rattle.laws.specs.Lists.{Every}
use Rattle.laws.proofs.Counting.{every_append, every-left, every_at}
use Rattle.sequences.specs.Table.{fields_in}
use Rattle.sequences.specs.Sequence.{fields_refusal}
use Rattle.sequences.proofs.Listed.{one_by_one}
use Rattle.sequences.proofs.Sequences.{reads}
use Rattle.sequences.proofs.Tables.{length-fields_in}
use Rattle.offset.specs.Hertz.{reading_of, is_reading, pattern_of}
use Rattle.offset.specs.Signed.{signed, unsigned}
use Rattle.std.specs.Prelude.{Float, Option}
use Rattle.offset.proofs.Readings.{reading_exactly, blank_exactly, is_reading_exactly, is_reading-bit, pattern-fits}
use Rattle.offset.proofs.Signs.{signed-unsigned, unsigned-held, signed-held, more_and_back, back_and_more}
use Rattle.info.specs.Info1c.{block, info1c, numbers_of, fields_of, count_of, report}
use Rattle.info.specs.declared.info1c.Info1c.{Info1c}
use Rattle.info.specs.Info1c.{Report}
use Rattle.info.proofs.Reports.{report-read, count_held}
use Rattle.info.proofs.Rows15.{whole1c, last_held, Said, numbers_said, MaySay, printed15}
use Rattle.workerwax.specs.Info.{in32, count_in32, count_in10, reading_numbers, reported, Info1cReadCall}
use Rattle.workerwax.specs.Layout.{words, numbers_in, halves, info1c_bytes, report_bytes}
use Rattle.workerwax.proofs.Carried.{Carried, Counted, Ranged, ranges-short}
use Rattle.workerwax.proofs.Doubles.{lowest_first, halves_lowest}
use Rattle.workerwax.proofs.Infos.{read-zero, read-shown}
use Rattle.workerwax.proofs.Layouts.{length-words, words_append}
use Rattle.workerwax.proofs.Undone.{FourBytes, numbers-back}

-- the 22 numbers are the fields and the number of the count
by_names : (numbers : List ℕ) → length numbers ≡ 22 → numbers_of (fields_of numbers) (get_or numbers 21 0) ≡ numbers
by_names numbers e = one_by_one 22 numbers e

another-count : (P : ℕ → Type 0) (f : Info1c) (m n : ℕ) → Every P (numbers_of f m) → P n → Every P (numbers_of f n)
another-count P f m n all here =
    let fields = take 21 (numbers_of f m) in
    every_append P fields (n ∷ []) (every-left P fields (m ∷ []) all) (here, tt)

-- the count in 32 bits means what it was in ten, and the other way round
meant_again : (numbers : List ℕ) → Counted info1c numbers → Ranged info1c numbers → count_in10 (count_in32 numbers) ≡ numbers
unfolding info1c block count_in10 count_in32
meant_again numbers e r =
    ap (numbers_of (fields_of numbers)) (more_and_back 512 2147483648 (omega arith) (get_or numbers 21 0) (last_held numbers r))
    ∙ by_names numbers e

told_again :
    (numbers : List ℕ) → Counted info1c numbers → Every FourBytes numbers → Ranged info1c (count_in10 numbers)
    → count_in32 (count_in10 numbers) ≡ numbers
unfolding info1c block count_in10 count_in32
told_again numbers e small r =
    let n = get_or numbers 21 0 in
    let fits = every_at FourBytes 0 (omega arith) numbers small 21 in
    ap (numbers_of (fields_of numbers)) (back_and_more 512 2147483648 (omega arith) n fits (last_held (count_in10 numbers) r))
    ∙ by_names numbers e

told-short : (numbers : List ℕ) → Counted info1c numbers → Ranged info1c numbers → Every FourBytes (count_in32 numbers)
unfolding info1c block count_in32
told-short numbers e r =
    let n = get_or numbers 21 0 in
    let held : mag (signed 512 n) < 2147483648 = omega (arith, signed-held 512 n (last_held numbers r)) in
    another-count FourBytes (fields_of numbers) n _
    (subst (Every FourBytes) (sym (by_names numbers e)) (ranges-short info1c.table numbers refl e r))
    (unsigned-held 2147483648 (signed 512 n) held)

-- the two parts of a report
in_parts :
    (numbers : List ℕ) → reported numbers ≡ words (count_in32 numbers) ++ words (reading_numbers (reading_of (count_of numbers)))
unfolding reported
in_parts numbers = words_append (count_in32 numbers) (reading_numbers (reading_of (count_of numbers)))

pub carried1c : Carried info1c info1c_bytes reported count_in10 count_in32
unfolding info1c block count_in10 count_in32
carried1c =
    record {
      whole = whole1c;
      size = refl;
      front =
          λ numbers e.
          ap (take info1c_bytes) (in_parts numbers)
          ∙ take_at (words (count_in32 numbers)) _ info1c_bytes (length-words (count_in32 numbers));
      count-told = λ numbers e. refl;
      count_meant = λ numbers e. refl;
      short = told-short;
      meant_told = meant_again;
      told_meant = told_again;
    }

-- The bytes that ww_info1c_read puts down, by the report of the reader below it.
pub report-bytes :
    (bits : List ℕ) (r : Report) → r ≡ report bits → fields_refusal info1c bits ≡ 0
    → words (numbers_of r.fields (in32 r.count)) ++ words (reading_numbers r.reading)
    ≡ reported (fields_in info1c.table bits)
unfolding count_in32
report-bytes bits r is read =
    ap (λ (q : Report). words (numbers_of q.fields (in32 q.count)) ++ words (reading_numbers q.reading))
    (is ∙ report-read bits read)
    ∙ sym (in_parts (fields_in info1c.table bits))

-- fields and a count that Table 15 can say are told by themselves, with the count in 32 bits
pub told-said : (p : Said) → MaySay p → count_in32 (numbers_said p) ≡ numbers_of p.0 (in32 p.1)
unfolding count_in32
told-said p h = ap (λ (q : Said). numbers_of p.0 (in32 q.1)) (printed15.fields_back p h)

-- What a report says, with 0: its count, its flag, and the bytes of its hertz.
abbrev pub count_in : List ℕ → ℕ
count_in report = get_or (numbers_in report) 21 0

abbrev pub flag_in : List ℕ → ℕ
flag_in report = get_or (numbers_in report) 22 0

abbrev pub hertz_in : List ℕ → List ℕ
hertz_in report = drop 92 report

module _ (bits lent : List ℕ) (r : ℕ) (after : List ℕ) (call : Info1cReadCall bits lent r after) (zero : r ≡ 0) where
  abbrev numbers : List ℕ
  numbers = fields_in info1c.table bits

  accepted : fields_refusal info1c bits ≡ 0
  accepted = ((read-zero info1c report_bytes reported bits lent r after call).0 zero).1

  count_is : (report bits).count ≡ count_of numbers
  count_is = ap (λ (q : Report). q.count) (report-read bits accepted)

  reading_is : (report bits).reading ≡ reading_of (report bits).count
  reading_is = ap (λ (q : Report). q.reading) (report-read bits accepted) ∙ ap reading_of (sym count_is)

  -- all 25 numbers
  abbrev all : List ℕ
  all = count_in32 numbers ++ reading_numbers (reading_of (count_of numbers))

  shown-all : after ≡ words all
  unfolding reported
  shown-all = read-shown info1c report_bytes reported bits lent r after call zero

  all_short : Every FourBytes all
  all_short =
      let reading = reading_of (count_of numbers) in
      let fits = pattern-fits (count_of numbers) in
      every_append FourBytes (count_in32 numbers) (reading_numbers reading)
      (told-short numbers (length-fields_in info1c.table bits) (reads info1c bits accepted).1.ranges)
      (omega (arith, is_reading-bit reading), (omega (arith, fits), (omega (arith, fits), tt)))

  -- they are those of the report of the reader below, with the count in 32 bits
  pub report-says :
      numbers_in after
      ≡ numbers_of (report bits).fields (unsigned 2147483648 (report bits).count) ++ reading_numbers (report bits).reading
  unfolding count_in32
  report-says =
      ap numbers_in shown-all
      ∙ (numbers-back all all_short
      ∙ ap (λ (q : Report). numbers_of q.fields (unsigned 2147483648 q.count) ++ reading_numbers q.reading)
      (sym (report-read bits accepted)))

  pub count_in_32 : count_in after ≡ unsigned 2147483648 (report bits).count
  count_in_32 = ap (λ (l : List ℕ). get_or l 21 0) report-says

  pub count_as_signed : signed 2147483648 (count_in after) ≡ (report bits).count
  count_as_signed =
      let z = (report bits).count in
      let small = signed-held 512 (get_or numbers 21 0) (count_held bits accepted) in
      let held : mag z < 2147483648 = omega (arith, ap mag count_is, small) in
      ap (signed 2147483648) count_in_32 ∙ signed-unsigned 2147483648 z (unsigned-held 2147483648 z held)

  flag_is : flag_in after ≡ is_reading (reading_of (report bits).count)
  flag_is = ap (λ (l : List ℕ). get_or l 22 0) report-says ∙ ap is_reading reading_is

  -- the flag is 0 or 1, and 0 exactly where the count is −512
  pub flag-bit : flag_in after ≤ 1
  flag-bit = omega (arith, flag_is, is_reading-bit (reading_of (report bits).count))

  pub flag_exactly : (flag_in after ≡ 0) ↔ ((report bits).count ≡ negsuc 511)
  flag_exactly =
      let same = is_reading_exactly (report bits).count in
      (λ e. same.0 (sym flag_is ∙ e), λ e. flag_is ∙ same.1 e)

  hertz_are : hertz_in after ≡ lowest_first 8 (pattern_of (reading_of (report bits).count))
  unfolding count_in32
  hertz_are =
      let reading = reading_of (count_of numbers) in
      let front = count_in32 numbers ++ is_reading reading ∷ [] in
      let back = halves (pattern_of reading) in
      ap (drop 92) (shown-all ∙ words_append front back)
      ∙ (drop_at (words front) (words back) 92 (length-words front)
      ∙ (halves_lowest (pattern_of reading) ∙ ap (λ (z : ℤ). lowest_first 8 (pattern_of (reading_of z))) (sym count_is)))

  -- with 1 the eight bytes are those of the count over 50, and with 0 zeros
  pub hertz_bytes :
      flag_in after ≡ 1
      → hertz_in after ≡ lowest_first 8 (to_bits binary64 (div binary64 (of_int binary64 (report bits).count) (of_int binary64 (pos 50))))
  hertz_bytes one =
      let other : (report bits).count ≡ negsuc 511 → ⊥ = λ e. omega (arith, one, flag_exactly.1 e) in
      hertz_are ∙ ap (λ (q : Option Float). lowest_first 8 (pattern_of q)) (reading_exactly (report bits).count other)

  pub no_hertz_bytes : flag_in after ≡ 0 → hertz_in after ≡ replicate 8 0
  no_hertz_bytes none =
      hertz_are
      ∙ ap (λ (q : Option Float). lowest_first 8 (pattern_of q)) ((blank_exactly (report bits).count).1 (flag_exactly.0 none))
