-- Any sequence whose picture and table pass the test: exactly which are accepted, and reading what was written and writing what was read
-- are the identity. Assumes nothing.
use mathlib.Core.Bool.{Bool, true, false, not}
use mathlib.Core.List.{List, [], ◌∷◌, ◌++◌}
use mathlib.Core.Path.{◌≡◌, refl, sym, ap, ap₂, ◌∙◌}
use Prim.Native.Nat.{ℕ, ◌+◌}
use native.Mathlib.Omega.{arith}
use borrow.Author.Tests.{eq-eqb, eqb-true}
use lib.Dec.{eqb}
use lib.ListN.{length, take, drop, take-append-drop, length-append, length-drop}
use lib.Seq.{take_at, drop_at}
use Rattle.laws.specs.Choice.{refusal}
use Rattle.laws.proofs.Bools.{and_parts, and_both, not-not}
use Rattle.laws.proofs.Choices.{no_tests, passed_over, none_first, none_rest}
use Rattle.std.proofs.lemmas.Bool.{false_from_ne_true}
use Rattle.bits.specs.Digits.{Bits, all_bits}
use Rattle.bits.proofs.Digitals.{bits-append, bits-drop}
use Rattle.bits.proofs.Tested.{all-bits, bits-all}
use Rattle.sequences.specs.Register.{feed, crc}
use Rattle.sequences.specs.Picture.{free, inside, around, all_hold}
use Rattle.sequences.specs.Table.{fields_in, field_bits, in_range, bit_count, is_laid}
use Rattle.sequences.specs.Sequence.{Sequence, is_same, is_whole, sealed, is_sealed, sequence_of}
use Rattle.sequences.specs.Sequence.{is_long, fields_tests, sequence_tests, fields_refusal, sequence_refusal}
use Rattle.sequences.proofs.Adds.{zeros}
use Rattle.sequences.proofs.Registers.{ones, length-crc, bits-crc}
use Rattle.sequences.proofs.Own.{own-leaves-zero, only-own-leaves-zero}
use Rattle.sequences.proofs.Pictures.{length-inside, bits_inside, around-inside}
use Rattle.sequences.proofs.Pictures.{length-around, bits-around, held-around, inside-around}
use Rattle.sequences.proofs.Tables.{length-field_bits, bits-field_bits, held-laid}
use Rattle.sequences.proofs.Tables.{in_row, in_row_field_bits, field_bits_in_row, fields_in_in_row}

-- the test of two lists holds of the same ones alone
same_lists : (xs ys : List ℕ) → is_same xs ys ≡ true → xs ≡ ys
unfolding is_same
same_lists [] [] e = refl
same_lists [] (y ∷ ys) e = grind arith
same_lists (x ∷ xs) [] e = grind arith
same_lists (x ∷ xs) (y ∷ ys) e = let rest = same_lists xs ys in grind arith

lists_same : (xs : List ℕ) → is_same xs xs ≡ true
unfolding is_same
lists_same [] = refl
lists_same (x ∷ xs) = and_both (eqb x x) (is_same xs xs) (eq-eqb x x refl) (lists_same xs)

-- what the test of a check says
pub closed_by : (n : ℕ) (body : List ℕ) → is_sealed n body ≡ true → drop n body ≡ crc (take n body)
unfolding is_sealed
closed_by n body e = same_lists (drop n body) (crc (take n body)) e

pub by_closed : (n : ℕ) (body : List ℕ) → drop n body ≡ crc (take n body) → is_sealed n body ≡ true
unfolding is_sealed
by_closed n body e = ap (is_same (drop n body)) (sym e) ∙ lists_same (drop n body)

-- a body that passes it is its first n bits and their check
pub own-check : (n : ℕ) (body : List ℕ) → drop n body ≡ crc (take n body) → body ≡ take n body ++ crc (take n body)
own-check n body e = sym (take-append-drop n body) ∙ ap (λ (c : List ℕ). take n body ++ c) e

-- and leaves 0; no other does
pub sealed-leaves-zero : (n : ℕ) (body : List ℕ) → is_sealed n body ≡ true → feed ones body ≡ zeros 16
sealed-leaves-zero n body e = ap (feed ones) (own-check n body (closed_by n body e)) ∙ own-leaves-zero (take n body)

pub only-sealed-leaves-zero :
    (n : ℕ) (body : List ℕ) → Bits body → length body ≡ n + 16 → feed ones body ≡ zeros 16 → is_sealed n body ≡ true
only-sealed-leaves-zero n body h l e =
    let short : length (drop n body) ≡ 16 = omega (arith, length-drop n body) in
    let none = ap (feed ones) (take-append-drop n body) ∙ e in
    by_closed n body (only-own-leaves-zero (take n body) (drop n body) (bits-drop n body h) short none)

-- where the test cannot pass it fails
pub unsealed : (n : ℕ) (body : List ℕ) → (is_sealed n body ≡ true → ⊥) → is_sealed n body ≡ false
unsealed n body = false_from_ne_true (is_sealed n body)

module _ (s : Sequence) where
  -- what the test of a sequence says
  pub record Whole : Type 0 where
    pub laid : is_laid 0 s.picture s.table ≡ true
    pub room : free s.picture ≡ bit_count s.table + 16

  pub whole : is_whole s ≡ true → Whole
  unfolding is_whole
  whole t =
      let both = and_parts (is_laid 0 s.picture s.table) (eqb (free s.picture) (bit_count s.table + 16)) t in
      record { laid = both.0; room = eqb-true (free s.picture) (bit_count s.table + 16) both.1 }

  -- what the reader's tests say of bits, lengths apart
  pub record Read (bits : List ℕ) : Type 0 where
    pub binary : Bits bits
    pub held : all_hold s.picture bits ≡ true
    pub closed : drop (bit_count s.table) (inside s.picture bits) ≡ crc (take (bit_count s.table) (inside s.picture bits))
    pub ranges : in_range s.table (fields_in s.table bits) ≡ true

  pub tests-read : (bits : List ℕ) (exact : Bool) → refusal (fields_tests s bits exact) ≡ 0 → (exact ≡ true) × Read bits
  unfolding fields_tests
  tests-read bits exact e =
      let t2 = all_bits bits in
      let t3 = all_hold s.picture bits in
      let t4 = is_sealed (bit_count s.table) (inside s.picture bits) in
      let t5 = in_range s.table (fields_in s.table bits) in
      let r2 = none_rest (not exact) 7 _ e in
      let r3 = none_rest (not t2) 8 _ r2 in
      let r4 = none_rest (not t3) 15 _ r3 in
      let r5 = none_rest (not t4) 16 _ r4 in (
        not-not exact (none_first (not exact) 7 _ e),
        record {
          binary = all-bits bits (not-not t2 (none_first (not t2) 8 _ r2));
          held = not-not t3 (none_first (not t3) 15 _ r3);
          closed = closed_by _ _ (not-not t4 (none_first (not t4) 16 _ r4));
          ranges = not-not t5 (none_first (not t5) 17 _ r5);
        },
      )

  pub read-tests : (bits : List ℕ) (exact : Bool) → exact ≡ true → Read bits → refusal (fields_tests s bits exact) ≡ 0
  unfolding fields_tests
  read-tests bits exact e r =
      passed_over (not exact) 8 _ (ap not e)
      ∙ (passed_over (not (all_bits bits)) 9 _ (ap not (bits-all bits r.binary))
      ∙ (passed_over (not (all_hold s.picture bits)) 16 _ (ap not r.held)
      ∙ (passed_over (not (is_sealed (bit_count s.table) (inside s.picture bits))) 17 _ (ap not (by_closed _ _ r.closed))
      ∙ (passed_over (not (in_range s.table (fields_in s.table bits))) 18 _ (ap not r.ranges) ∙ no_tests))))

  -- exactly which bits are read
  pub reads : (bits : List ℕ) → fields_refusal s bits ≡ 0 → (length bits ≡ length s.picture) × Read bits
  reads bits e =
      let both = tests-read bits (is_long s (length bits)) e in
      (eqb-true (length bits) (length s.picture) both.0, both.1)

  pub read_by : (bits : List ℕ) → length bits ≡ length s.picture → Read bits → fields_refusal s bits ≡ 0
  read_by bits long r = read-tests bits (is_long s (length bits)) (eq-eqb (length bits) (length s.picture) long) r

  -- and which fields are written
  pub tests-written :
      (numbers : List ℕ) (exact : Bool) → refusal (sequence_tests s numbers exact) ≡ 0 → (exact ≡ true) × (in_range s.table numbers ≡ true)
  unfolding sequence_tests
  tests-written numbers exact e =
      let t2 = in_range s.table numbers in
      (not-not exact (none_first (not exact) 7 _ e), not-not t2 (none_first (not t2) 17 _ (none_rest (not exact) 7 _ e)))

  pub written-tests :
      (numbers : List ℕ) (exact : Bool) → exact ≡ true → in_range s.table numbers ≡ true → refusal (sequence_tests s numbers exact) ≡ 0
  unfolding sequence_tests
  written-tests numbers exact e h =
      passed_over (not exact) 8 _ (ap not e) ∙ (passed_over (not (in_range s.table numbers)) 18 _ (ap not h) ∙ no_tests)

  pub writes :
      (numbers : List ℕ) (lent : ℕ) → sequence_refusal s numbers lent ≡ 0
      → (lent ≡ length s.picture) × (in_range s.table numbers ≡ true)
  writes numbers lent e =
      let both = tests-written numbers (is_long s lent) e in
      (eqb-true lent (length s.picture) both.0, both.1)

  pub written_by :
      (numbers : List ℕ) (lent : ℕ) → lent ≡ length s.picture → in_range s.table numbers ≡ true → sequence_refusal s numbers lent ≡ 0
  written_by numbers lent e h = written-tests numbers (is_long s lent) (eq-eqb lent (length s.picture) e) h

  module _ (test : is_whole s ≡ true) where
    -- what is read out of what was written
    module _ (numbers : List ℕ) (count : length numbers ≡ length s.table) (ranges : in_range s.table numbers ≡ true) where
      abbrev spelt : List ℕ
      spelt = field_bits s.table numbers

      length-body : length (sealed spelt) ≡ free s.picture
      unfolding sealed
      length-body =
          length-append spelt (crc spelt)
          ∙ (ap₂ ◌+◌ (length-field_bits s.table numbers) (length-crc spelt) ∙ sym (whole test).room)

      bits-body : Bits (sealed spelt)
      unfolding sealed
      bits-body = bits-append spelt (crc spelt) (bits-field_bits s.table numbers) (bits-crc spelt)

      pub length-sequence : length (sequence_of s numbers) ≡ length s.picture
      unfolding sequence_of
      length-sequence = length-around s.picture (sealed spelt)

      inside-sequence : inside s.picture (sequence_of s numbers) ≡ sealed spelt
      unfolding sequence_of
      inside-sequence = inside-around s.picture (sealed spelt) length-body

      pub fields_of-written : fields_in s.table (sequence_of s numbers) ≡ numbers
      unfolding sealed
      fields_of-written =
          fields_in_in_row 0 s.picture (sequence_of s numbers) s.table length-sequence (whole test).laid
          ∙ (ap (in_row s.table) inside-sequence
          ∙ in_row_field_bits s.table numbers (crc spelt) (held-laid 0 s.picture s.table (whole test).laid) count ranges)

      pub read_of-written : Read (sequence_of s numbers)
      unfolding sequence_of sealed
      read_of-written =
          let n = bit_count s.table in
          record {
            binary = bits-around s.picture (sealed spelt) bits-body;
            held = held-around s.picture (sealed spelt);
            closed =
                ap (drop n) inside-sequence
                ∙ (drop_at spelt (crc spelt) n (length-field_bits s.table numbers)
                ∙ ap crc (sym (ap (take n) inside-sequence ∙ take_at spelt (crc spelt) n (length-field_bits s.table numbers))));
            ranges = ap (in_range s.table) fields_of-written ∙ ranges;
          }

      pub written_is_read : fields_refusal s (sequence_of s numbers) ≡ 0
      written_is_read = read_by (sequence_of s numbers) length-sequence read_of-written

    -- what is written of what was read
    pub written_of-read :
        (bits : List ℕ) → length bits ≡ length s.picture → Read bits → sequence_of s (fields_in s.table bits) ≡ bits
    unfolding sequence_of sealed
    written_of-read bits long r =
        let n = bit_count s.table in
        let b = inside s.picture bits in
        let size : length b ≡ free s.picture = length-inside s.picture bits long in
        let fields : field_bits s.table (fields_in s.table bits) ≡ take n b =
        ap (field_bits s.table) (fields_in_in_row 0 s.picture bits s.table long (whole test).laid)
        ∙ field_bits_in_row s.table b (bits_inside s.picture bits r.binary) (omega (arith, (whole test).room)) in
        ap (around s.picture) (ap (λ (d : List ℕ). d ++ crc d) fields ∙ sym (own-check n b r.closed))
        ∙ around-inside s.picture bits long r.held

    -- no two lists of fields have one sequence
    pub one_sequence :
        (a b : List ℕ) → length a ≡ length s.table → length b ≡ length s.table
        → in_range s.table a ≡ true → in_range s.table b ≡ true → sequence_of s a ≡ sequence_of s b → a ≡ b
    one_sequence a b k l p q e = sym (fields_of-written a k p) ∙ (ap (fields_in s.table) e ∙ fields_of-written b l q)
