-- A table row by row: the test of fields and numbers in pairs, and the invariants of the loops that fill a slice. Assumes nothing.
use mathlib.Core.Bool.{Bool, ◌&&◌}
use mathlib.Core.List.{List, [], ◌∷◌}
use mathlib.Core.Path.{◌≡◌, refl, sym, ap, ap₂, subst, ◌∙◌}
use Prim.Native.Nat.{ℕ, ◌+◌, ◌≤◌, ◌<◌}
use native.Mathlib.Nat.{zero-add}
use native.Mathlib.Numerals.{add-one}
use native.Mathlib.Omega.{arith}
use lib.ListN.{length, get_or, take, drop, set, length-set, drop_of_length-le}
use lib.Seq.{drop-cons}
use Rattle.std.specs.List.{list_all, zip}
use Rattle.laws.specs.Put.{put}
use Rattle.laws.proofs.Puts.{put-nothing, put_first, put-behind, length-put}
use Rattle.bits.specs.Digits.{value, digits}
use Rattle.bits.proofs.Digitals.{length_digits}
use Rattle.sequences.specs.declared.Field.{Field}
use Rattle.sequences.specs.Table.{up_to, lies, fields_in, field_bits, in_range, bit_count}
use Rattle.sequences.proofs.Tables.{length-fields_in}
use Rattle.fields.specs.Requires.{Within}
use Rattle.fields.proofs.Places.{put-over}

-- the test of fields and numbers in pairs
pub lies-all :
    (table : List Field) (numbers : List ℕ)
    → length table ≡ length numbers → list_all (λ p. lies p.0 p.1) (zip table numbers) ≡ in_range table numbers
unfolding in_range
lies-all [] numbers e = refl
lies-all (field ∷ table) [] e = absurd (omega arith)
lies-all (field ∷ table) (number ∷ numbers) e =
    let rest : length table ≡ length numbers = omega arith in
    ap (λ (v : Bool). lies field number && v) (lies-all table numbers rest)

-- the field of a row, and those behind it
abbrev pub field_at : List Field → ℕ → Field
field_at table k = get_or table k (up_to 0 0 0)

module _ (table : List Field) (k : ℕ) where
  rows_next : k < length table → drop k table ≡ field_at table k ∷ drop (k + 1) table
  rows_next h = rw (add-one, drop-cons table k (up_to 0 0 0))

  module _ (bits : List ℕ) where
    fields-next :
        k < length table
        → fields_in (drop k table) bits
        ≡ value (take (field_at table k).width (drop (field_at table k).first bits)) ∷ fields_in (drop (k + 1) table) bits
    unfolding fields_in
    fields-next h = ap (λ (t : List Field). fields_in t bits) (rows_next h)

    fields_none : length table ≤ k → fields_in (drop k table) bits ≡ []
    unfolding fields_in
    fields_none h = ap (λ (t : List Field). fields_in t bits) (drop_of_length-le table h)

-- The invariant of `fields_in` at row k: once the numbers of the rows from k on are put, those of all are.
pub record Found (table : List Field) (bits numbers₀ numbers : List ℕ) (k : ℕ) : Type 0 where
  pub count : length table ≡ length numbers₀
  pub same : length numbers ≡ length numbers₀
  pub within : Within (length bits) (drop k table)
  pub list : put numbers k (fields_in (drop k table) bits) ≡ put numbers₀ 0 (fields_in table bits)

pub found_none :
    (table : List Field) (bits numbers : List ℕ)
    → length table ≡ length numbers → Within (length bits) table → Found table bits numbers numbers 0
found_none table bits numbers h w = record { count = h; same = refl; within = w; list = refl }

module _ (table : List Field) (bits numbers₀ numbers : List ℕ) (k : ℕ) (t : Found table bits numbers₀ numbers k) where
  module _ (h : k < length table) where
    pub found_within :
        (((field_at table k).first + (field_at table k).width ≤ length bits) × ((field_at table k).width ≤ 31))
        × Within (length bits) (drop (k + 1) table)
    found_within = subst (Within (length bits)) (rows_next table k h) t.within

    pub found-more :
        (x : ℕ) → x ≡ value (take (field_at table k).width (drop (field_at table k).first bits))
        → Found table bits numbers₀ (set numbers k x) (k + 1)
    found-more x e =
        let left = fields_in (drop (k + 1) table) bits in
        record {
          count = t.count;
          same = length-set numbers k x ∙ t.same;
          within = found_within.1;
          list =
              put_first numbers k x left (omega (arith, h, t.count, t.same))
              ∙ (ap (λ (y : ℕ). put numbers k (y ∷ left)) e ∙ (ap (put numbers k) (sym (fields-next table k bits h)) ∙ t.list));
        }

  pub found_all : length table ≤ k → numbers ≡ fields_in table bits
  found_all h =
      let long : length numbers₀ ≡ length (fields_in table bits) = sym t.count ∙ sym (length-fields_in table bits) in
      sym (put-nothing numbers k)
      ∙ (ap (put numbers k) (sym (fields_none table k bits h)) ∙ (t.list ∙ put-over numbers₀ (fields_in table bits) long))

-- The invariant of `put_fields`, `at` bits being put: once the bits of the fields and numbers that are left are put, those of all are.
pub record Spelt (table : List Field) (numbers body₀ body : List ℕ) (at : ℕ) (left : List Field) (rest : List ℕ) : Type 0 where
  pub count : length left ≡ length rest
  pub room : at + bit_count left ≤ length body
  pub same : length body ≡ length body₀
  pub list : put body at (field_bits left rest) ≡ put body₀ 0 (field_bits table numbers)

pub spelt_none :
    (table : List Field) (numbers body : List ℕ)
    → length table ≡ length numbers → bit_count table ≤ length body → Spelt table numbers body body 0 table numbers
spelt_none table numbers body e h = record { count = e; room = rw zero-add h; same = refl; list = refl }

module _ (table : List Field) (numbers body₀ body : List ℕ) (at : ℕ) where
  module _ (field : Field) (number : ℕ) (left : List Field) (rest : List ℕ)
      (t : Spelt table numbers body₀ body at (field ∷ left) (number ∷ rest)) where
    pub spelt_room : at + field.width ≤ length body
    unfolding bit_count
    spelt_room = omega (arith, t.room)

    pub spelt_more :
        (after : List ℕ) → after ≡ put body at (digits field.width number) → Spelt table numbers body₀ after (at + field.width) left rest
    unfolding bit_count field_bits
    spelt_more after e =
        let d = digits field.width number in
        let long : length d ≡ field.width = length_digits field.width number in
        let inside : at ≤ length body = omega (arith, spelt_room) in
        let same : length after ≡ length body = ap length e ∙ length-put body at d inside (omega (arith, spelt_room, long)) in
        let count : length left ≡ length rest = omega (arith, t.count) in
        record {
          count = count;
          room = omega (arith, t.room);
          same = same ∙ t.same;
          list =
              ap₂ (λ (b : List ℕ) (m : ℕ). put b (at + m) (field_bits left rest)) e (sym long)
              ∙ (put-behind body at d inside (field_bits left rest) ∙ t.list);
        }

  pub spelt_all : (rest : List ℕ) → Spelt table numbers body₀ body at [] rest → body ≡ put body₀ 0 (field_bits table numbers)
  unfolding field_bits
  spelt_all rest t = sym (put-nothing body at) ∙ t.list
