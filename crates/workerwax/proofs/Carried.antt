-- How the numbers of a sequence's fields are carried in bytes. An answer begins with the bytes that a call which writes is handed: `told`
-- are the numbers in them, `meant` takes these back, and behind them the answer may show more. Said of any sequence: what the front of an
-- answer tells. Assumes nothing.
use mathlib.Core.Bool.{Bool, true, ◌&&◌}
use mathlib.Core.List.{List, [], ◌∷◌}
use mathlib.Core.Logic.{◌↔◌}
use mathlib.Core.Path.{◌≡◌, refl, sym, ap, ◌∙◌}
use Prim.Native.Nat.{ℕ, ◌*◌}
use native.Mathlib.Omega.{arith}
use lib.Dec.{leb, ltb}
use lib.ListN.{length, take}
use lib.Seq.{take_all}
use borrow.Author.Tests.{leb-true, ltb-true}
use Rattle.laws.specs.Lists.{Every}
use Rattle.laws.proofs.Bools.{and_right, and_parts}
use Rattle.sequences.specs.declared.Field.{Field}
use Rattle.sequences.specs.Table.{fields_in, in_range, lies}
use Rattle.sequences.specs.Sequence.{Sequence, is_whole}
use Rattle.sequences.proofs.Sequences.{reads}
use Rattle.sequences.proofs.Tables.{length-fields_in}
use Rattle.info.specs.Info0.{info0}
use Rattle.info.proofs.Rows14.{whole0}
use Rattle.workerwax.specs.Info.{SequenceReadCall, Info0ReadCall, as_they_are}
use Rattle.workerwax.specs.Layout.{words, numbers_in, info0_bytes}
use Rattle.workerwax.proofs.Infos.{read-zero, read-shown}
use Rattle.workerwax.proofs.Layouts.{length-words}
use Rattle.workerwax.proofs.Undone.{FourBytes, numbers-back}

-- a number for each field
abbrev pub Counted : Sequence → List ℕ → Type 0
Counted s numbers = length numbers ≡ length s.table

-- each in its range
abbrev pub Ranged : Sequence → List ℕ → Type 0
Ranged s numbers = in_range s.table numbers ≡ true

pub record Carried (s : Sequence) (bytes : ℕ) (shown meant told : List ℕ → List ℕ) : Type 0 where
  pub whole : is_whole s ≡ true
  pub size : bytes ≡ 4 * length s.table
  pub front : (numbers : List ℕ) → Counted s numbers → take bytes (shown numbers) ≡ words (told numbers)
  pub count-told : (numbers : List ℕ) → Counted s numbers → Counted s (told numbers)
  pub count_meant : (numbers : List ℕ) → Counted s numbers → Counted s (meant numbers)
  pub short : (numbers : List ℕ) → Counted s numbers → Ranged s numbers → Every FourBytes (told numbers)
  pub meant_told : (numbers : List ℕ) → Counted s numbers → Ranged s numbers → meant (told numbers) ≡ numbers
  pub told_meant :
      (numbers : List ℕ) → Counted s numbers → Every FourBytes numbers → Ranged s (meant numbers) → told (meant numbers) ≡ numbers

module _ (s : Sequence) (bytes : ℕ) (shown meant told : List ℕ → List ℕ) (c : Carried s bytes shown meant told) where
  -- numbers that are handed in mean those of some fields exactly where these are told by them
  pub meant_exactly :
      (handed own : List ℕ) → Counted s handed → Every FourBytes handed → Counted s own → Ranged s own
      → (own ≡ meant handed) ↔ (handed ≡ told own)
  meant_exactly handed own n small m r = (
    λ e. sym (ap told e ∙ c.told_meant handed n small (ap (in_range s.table) (sym e) ∙ r)),
    λ e. sym (ap meant e ∙ c.meant_told own m r),
  )

  -- what an answer of a call that reads tells, with 0
  module _ (room : ℕ) (bits lent : List ℕ) (r : ℕ) (after : List ℕ) (call : SequenceReadCall s room shown bits lent r after)
      (zero : r ≡ 0) where
    abbrev found : List ℕ
    found = fields_in s.table bits

    found-counted : Counted s found
    found-counted = length-fields_in s.table bits

    found_ranged : Ranged s found
    found_ranged = (reads s bits ((read-zero s room shown bits lent r after call).0 zero).1).1.ranges

    pub front-told : take bytes after ≡ words (told found)
    front-told = ap (take bytes) (read-shown s room shown bits lent r after call zero) ∙ c.front found found-counted

    pub front_long : length (take bytes after) ≡ bytes
    front_long = ap length front-told ∙ (length-words (told found) ∙ omega (arith, c.count-told found found-counted, c.size))

    pub front-says : numbers_in (take bytes after) ≡ told found
    front-says = ap numbers_in front-told ∙ numbers-back (told found) (c.short found found-counted found_ranged)

    pub front_means : meant (numbers_in (take bytes after)) ≡ found
    front_means = ap meant front-says ∙ c.meant_told found found-counted found_ranged

-- numbers within the ranges of a table fit four bytes, where its largest ones do
abbrev pub is_short : List Field → Bool
is_short [] = true
is_short (field ∷ table) = ltb field.most 4294967296 && is_short table

pub ranges-short :
    (table : List Field) (numbers : List ℕ) → is_short table ≡ true → length numbers ≡ length table → in_range table numbers ≡ true
    → Every FourBytes numbers
unfolding in_range
ranges-short [] [] s e r = tt
ranges-short [] (n ∷ numbers) s e r = absurd (omega arith)
ranges-short (field ∷ table) [] s e r = absurd (omega arith)
ranges-short (field ∷ table) (n ∷ numbers) s e r =
    let here = and_parts (lies field n) (in_range table numbers) r in
    let most = leb-true n field.most (and_right (leb field.least n) (leb n field.most) here.0) in
    let fits = and_parts (ltb field.most 4294967296) (is_short table) s in
    (omega (arith, ltb-true field.most 4294967296 fits.0, most), ranges-short table numbers fits.1 (omega arith) here.1)

-- INFO0: an answer shows its numbers as they are, and nothing more.
pub carried0 : Carried info0 info0_bytes words as_they_are as_they_are
unfolding info0
carried0 =
    record {
      whole = whole0;
      size = refl;
      front = λ numbers e. take_all info0_bytes (words numbers) (omega (arith, length-words numbers, e));
      count-told = λ numbers e. e;
      count_meant = λ numbers e. e;
      short = λ numbers e r. ranges-short info0.table numbers refl e r;
      meant_told = λ numbers e r. refl;
      told_meant = λ numbers e small r. refl;
    }

module _ (bits lent : List ℕ) (r : ℕ) (fields : List ℕ) (call : Info0ReadCall bits lent r fields) (zero : r ≡ 0) where
  pub info0-all : take info0_bytes fields ≡ fields
  unfolding info0
  info0-all =
      let all = read-shown info0 info0_bytes words bits lent r fields call zero in
      take_all info0_bytes fields
      (omega (arith, ap length all, length-words (fields_in info0.table bits), length-fields_in info0.table bits))

  pub info0-says : numbers_in fields ≡ fields_in info0.table bits
  info0-says =
      rw info0-all at (front-says info0 info0_bytes words as_they_are as_they_are carried0 info0_bytes bits lent r fields call zero)
