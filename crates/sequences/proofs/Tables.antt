-- Numbers and bits of fields undo each other, field after field, and a table that is laid on a picture takes from the sequence what stands
-- in the free places. Assumes nothing.
use mathlib.Core.Bool.{true, ◌&&◌}
use mathlib.Core.List.{List, [], ◌∷◌, ◌++◌, append_assoc}
use mathlib.Core.Path.{◌≡◌, refl, sym, ap, ap₂, subst, ◌∙◌}
use Prim.Native.Nat.{ℕ, zero, suc, ◌+◌, ◌-◌, ◌%◌, ◌^◌, ◌≤◌, ◌<◌}
use native.Mathlib.Omega.{arith}
use borrow.Author.Tests.{le-leb, eqb-true, leb-true, ltb-true}
use lib.Dec.{eqb, leb, ltb}
use lib.ListN.{length, get_or, take, drop, length-append, length-drop}
use lib.Seq.{slice, drop-drop, take-add, take_at, drop_at, length-take-le, get_or-drop}
use Rattle.laws.proofs.Bools.{and_parts, and_both}
use Rattle.bits.specs.Digits.{value, digits, Bits}
use Rattle.bits.proofs.Digitals.{length_digits, bits-digits, bits-append, bits-drop, value-digits, digits_value-take}
use Rattle.sequences.specs.Picture.{free, inside}
use Rattle.sequences.specs.declared.Field.{Field}
use Rattle.sequences.specs.Table.{up_to, lies, fields_in, field_bits, in_range, bit_count, is_laid}
use Rattle.sequences.proofs.Pictures.{all-fixed, all-free}

-- the numbers of fields that stand one behind the other
unfoldable pub in_row : List Field → List ℕ → List ℕ
in_row [] bits = []
in_row (field ∷ table) bits = value (take field.width bits) ∷ in_row table (drop field.width bits)

-- the largest number of each field is held by its bits
unfoldable pub Held : List Field → Type 0
Held [] = Unit {0}
Held (field ∷ table) = (field.most < 2 ^ field.width) × Held table

pub length-field_bits : (table : List Field) (numbers : List ℕ) → length (field_bits table numbers) ≡ bit_count table
unfolding field_bits bit_count
length-field_bits [] numbers = refl
length-field_bits (field ∷ table) numbers =
    length-append (digits field.width (get_or numbers 0 0)) (field_bits table (drop 1 numbers))
    ∙ ap₂ ◌+◌ (length_digits field.width (get_or numbers 0 0)) (length-field_bits table (drop 1 numbers))

pub bits-field_bits : (table : List Field) (numbers : List ℕ) → Bits (field_bits table numbers)
unfolding field_bits
bits-field_bits [] numbers = tt
bits-field_bits (field ∷ table) numbers =
    bits-append (digits field.width (get_or numbers 0 0)) (field_bits table (drop 1 numbers))
    (bits-digits field.width (get_or numbers 0 0))
    (bits-field_bits table (drop 1 numbers))

pub length-fields_in : (table : List Field) (bits : List ℕ) → length (fields_in table bits) ≡ length table
unfolding fields_in
length-fields_in [] bits = refl
length-fields_in (field ∷ table) bits = ap suc (length-fields_in table bits)

-- what the test of ranges says of the first number
record InRange (field : Field) (table : List Field) (x : ℕ) (numbers : List ℕ) : Type 0 where
  least : field.least ≤ x
  most : x ≤ field.most
  later : in_range table numbers ≡ true

in-range :
    (field : Field) (table : List Field) (x : ℕ) (numbers : List ℕ)
    → (lies field x && in_range table numbers) ≡ true → InRange field table x numbers
in-range field table x numbers r =
    let both = and_parts (lies field x) (in_range table numbers) r in
    let ends = and_parts (leb field.least x) (leb x field.most) both.0 in
    record { least = leb-true field.least x ends.0; most = leb-true x field.most ends.1; later = both.1 }

-- the numbers of the bits of numbers
pub in_row_field_bits :
    (table : List Field) (numbers rest : List ℕ) → Held table → length numbers ≡ length table → in_range table numbers ≡ true
    → in_row table (field_bits table numbers ++ rest) ≡ numbers
unfolding in_row field_bits in_range Held
in_row_field_bits [] [] rest h l r = refl
in_row_field_bits [] (x ∷ numbers) rest h l r = absurd (omega arith)
in_row_field_bits (field ∷ table) [] rest h l r = absurd (omega arith)
in_row_field_bits (field ∷ table) (x ∷ numbers) rest h l r =
    let w = field.width in
    let here = digits w x in
    let behind = field_bits table numbers ++ rest in
    let split : (here ++ field_bits table numbers) ++ rest ≡ here ++ behind = append_assoc here (field_bits table numbers) rest in
    let range = in-range field table x numbers r in
    let k = h.0 in
    let below : x < 2 ^ w = omega (arith, range.most) in
    let first = ap value (ap (take w) split ∙ take_at here behind w (length_digits w x)) ∙ value-digits w x below in
    let later = ap (in_row table) (ap (drop w) split ∙ drop_at here behind w (length_digits w x)) in
    ap₂ ◌∷◌ first (later ∙ in_row_field_bits table numbers rest h.1 (omega arith) range.later)

-- the bits of the numbers of bits
pub field_bits_in_row :
    (table : List Field) (bits : List ℕ) → Bits bits → bit_count table ≤ length bits
    → field_bits table (in_row table bits) ≡ take (bit_count table) bits
unfolding in_row field_bits bit_count
field_bits_in_row [] bits h l = refl
field_bits_in_row (field ∷ table) bits h l =
    let w = field.width in
    ap₂ ◌++◌ (digits_value-take w bits (omega arith) h)
    (field_bits_in_row table (drop w bits) (bits-drop w bits h) (omega (arith, length-drop w bits)))
    ∙ sym (take-add w (bit_count table) bits)

-- what the test of a table says
module _ (at : ℕ) (picture : List ℕ) (field : Field) (table : List Field) where
  pub record Laid : Type 0 where
    pub behind : at ≤ field.first
    pub within : field.first + field.width ≤ length picture
    pub between : free (slice at field.first picture) ≡ 0
    pub here : free (slice field.first (field.first + field.width) picture) ≡ field.width
    pub held : field.most < 2 ^ field.width
    pub rest : is_laid (field.first + field.width) picture table ≡ true

  pub laid : is_laid at picture (field ∷ table) ≡ true → Laid
  unfolding is_laid
  laid t =
      let end = field.first + field.width in
      let a = leb at field.first && leb end (length picture) in
      let p = eqb (free (slice at field.first picture)) 0 in
      let q = eqb (free (slice field.first end picture)) field.width in
      let u = ltb field.most (2 ^ field.width) in
      let v = is_laid end picture table in
      let parts = and_parts a ((p && q) && (u && v)) t in
      let place = and_parts (leb at field.first) (leb end (length picture)) parts.0 in
      let others = and_parts (p && q) (u && v) parts.1 in
      let places = and_parts p q others.0 in
      let bits = and_parts u v others.1 in
      record {
        behind = leb-true at field.first place.0;
        within = leb-true end (length picture) place.1;
        between = eqb-true (free (slice at field.first picture)) 0 places.0;
        here = eqb-true (free (slice field.first end picture)) field.width places.1;
        held = ltb-true field.most (2 ^ field.width) bits.0;
        rest = bits.1;
      }

pub held-laid : (at : ℕ) (picture : List ℕ) (table : List Field) → is_laid at picture table ≡ true → Held table
unfolding Held
held-laid at picture [] t = tt
held-laid at picture (field ∷ table) t =
    let l = laid at picture field table t in
    (l.held, held-laid (field.first + field.width) picture table l.rest)

-- a part of a list from `at` on is a front of what stands there
slice_front : (at n : ℕ) (l : List ℕ) → at ≤ length l → slice at (at + n) l ≡ take n (drop at l)
slice_front at n l h = ap (drop at) (take-add at n l) ∙ drop_at (take at l) (take n (drop at l)) at (length-take-le at l h)

-- what stands in the free places from the n-th place on
abbrev from : List ℕ → List ℕ → ℕ → List ℕ
from picture bits n = inside (drop n picture) (drop n bits)

-- a field that is laid: nothing stands between it and the place before it, and its own places are all free
module _ (at : ℕ) (picture bits : List ℕ) (field : Field) (table : List Field)
    (same : length bits ≡ length picture)
    (l : Laid at picture field table) where
  abbrev f : ℕ
  f = field.first

  abbrev w : ℕ
  w = field.width

  lengths : (n : ℕ) → length (drop n bits) ≡ length (drop n picture)
  lengths n = length-drop n bits ∙ (ap (λ (k : ℕ). k - n) same ∙ sym (length-drop n picture))

  nothing-between : from picture bits at ≡ from picture bits f
  nothing-between =
      let gap = f - at in
      let there : at + gap ≡ f = omega (arith, l.behind) in
      let part = slice_front at gap picture (omega (arith, l.behind, l.within)) in
      all-fixed gap (drop at picture) (drop at bits) (lengths at)
      (ap free (sym part ∙ ap (λ (k : ℕ). slice at k picture) there) ∙ l.between)
      ∙ (ap₂ inside (drop-drop gap at picture) (drop-drop gap at bits) ∙ ap (from picture bits) there)

  its_own : from picture bits f ≡ take w (drop f bits) ++ from picture bits (f + w)
  its_own =
      let part = slice_front f w picture (omega (arith, l.within)) in
      all-free w (drop f picture) (drop f bits) (lengths f) (omega (arith, l.within, length-drop f picture)) (ap free (sym part) ∙ l.here)
      ∙ ap (λ (x : List ℕ). take w (drop f bits) ++ x) (ap₂ inside (drop-drop w f picture) (drop-drop w f bits))

  its_length : length (take w (drop f bits)) ≡ w
  its_length = length-take-le w (drop f bits) (omega (arith, same, l.within, length-drop f bits))

-- a table that is laid takes what stands in the free places
pub fields_in_in_row :
    (at : ℕ) (picture bits : List ℕ) (table : List Field) → length bits ≡ length picture → is_laid at picture table ≡ true
    → fields_in table bits ≡ in_row table (inside (drop at picture) (drop at bits))
unfolding fields_in in_row
fields_in_in_row at picture bits [] e t = refl
fields_in_in_row at picture bits (field ∷ table) e t =
    let w = field.width in
    let end = field.first + w in
    let l = laid at picture field table t in
    let here = take w (drop field.first bits) in
    let long = its_length at picture bits field table e l in
    let whole = nothing-between at picture bits field table e l ∙ its_own at picture bits field table e l in
    ap₂ ◌∷◌ (ap value (sym (ap (take w) whole ∙ take_at here (from picture bits end) w long)))
    (fields_in_in_row end picture bits table e l.rest
    ∙ ap (in_row table) (sym (ap (drop w) whole ∙ drop_at here (from picture bits end) w long)))

-- what holds of each number that lies in its range
pub range_at :
    (table : List Field) (numbers : List ℕ) (k : ℕ) (d : Field) → in_range table numbers ≡ true → k < length table
    → ((get_or table k d).least ≤ get_or numbers k 0) × (get_or numbers k 0 ≤ (get_or table k d).most)
unfolding in_range
range_at [] numbers k d r h = absurd (omega arith)
range_at (field ∷ table) numbers zero d r h =
    let range = in-range field table (get_or numbers 0 0) (drop 1 numbers) r in
    (range.least, range.most)
range_at (field ∷ table) numbers (suc k) d r h =
    let range = in-range field table (get_or numbers 0 0) (drop 1 numbers) r in
    let one_on : 1 + k ≡ suc k = omega arith in
    let next : get_or (drop 1 numbers) k 0 ≡ get_or numbers (suc k) 0 = get_or-drop 1 numbers k 0 ∙ ap (λ (n : ℕ). get_or numbers n 0) one_on in
    subst (λ (y : ℕ). ((get_or table k d).least ≤ y) × (y ≤ (get_or table k d).most)) next
    (range_at table (drop 1 numbers) k d range.later (omega arith))

-- a number that a field from 0 on may be, and a bit, which is its own only digit
pub lies-up_to : (first width most x : ℕ) → x ≤ most → lies (up_to first width most) x ≡ true
lies-up_to first width most x h = and_both _ _ (le-leb 0 x (omega arith)) (le-leb x most h)

pub bit-is_digit : (x : ℕ) → x ≤ 1 → x % 2 ≡ x
bit-is_digit x h = omega arith
