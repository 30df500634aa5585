-- Sixteen labels, symbol by symbol: their ranges, their rings, and their steps of Z. Assumes nothing.
use mathlib.Core.Bool.{true, ◌&&◌, ◌||◌}
use mathlib.Core.List.{List, [], ◌∷◌}
use mathlib.Core.Path.{◌≡◌, sym, subst, ◌∙◌}
use Prim.Native.Nat.{ℕ, zero, suc, ◌+◌, ◌*◌, ◌-◌, ◌/◌, ◌%◌, ◌^◌, ◌≤◌, ◌<◌}
use native.Mathlib.Nat.{add-zero}
use native.Mathlib.Numerals.{add-one}
use native.Mathlib.Omega.{arith}
use borrow.Author.Tests.{ltb-true, leb-true}
use lib.Dec.{ltb}
use lib.ListN.{length, get_or, drop}
use lib.Seq.{get_or-drop, drop-drop}
use Rattle.laws.proofs.Bools.{and_left, and_right, and_parts}
use Rattle.laws.proofs.Counting.{every-imp, every_at}
use Rattle.listing.specs.Sets.{Below8, of_list}
use Rattle.frame.specs.Reading.{rings_read, in_range, in_range_at, steps_fit}
use Rattle.frame.specs.Requires.{RingsFit}
use Rattle.frame.proofs.InTurn.{still, rings-below}

-- the turns of a loop over four symbols

turn-left : (j : ℕ) → j < 4 → 4 - j ≡ suc (4 - (j + 1))
turn-left j h = omega arith

none_left : (j : ℕ) → 4 ≤ j → 4 - j ≡ 0
none_left j h = omega arith

four_on : (labels : List ℕ) (j : ℕ) → drop 4 (drop (4 * j) labels) ≡ drop (4 * (j + 1)) labels
four_on labels j = let e : 4 * j + 4 ≡ 4 * (j + 1) = omega arith in drop-drop 4 (4 * j) labels ∙ rw e

-- 10: ranges

-- what the test of one symbol says
pub record FourInRange (top : ℕ) (labels : List ℕ) (at : ℕ) : Type 0 where
  pub first : get_or labels at 0 < top
  pub second : get_or labels (at + 1) 0 < top
  pub turn : get_or labels (at + 2) 0 ≤ 3
  pub i1 : get_or labels (at + 3) 0 ≤ 1

four-when : (top : ℕ) (labels : List ℕ) (at : ℕ) → in_range_at top labels at ≡ true → FourInRange top labels at
four-when top labels at e =
    let p = and_parts _ _ e in
    let q = and_parts _ _ p.1 in
    let r = and_parts _ _ q.1 in
    record { first = ltb-true _ _ p.0; second = ltb-true _ _ q.0; turn = leb-true _ _ r.0; i1 = leb-true _ _ r.1 }

module _ (M q : ℕ) (labels : List ℕ) where
  -- one symbol's labels, and what is left after them
  range-next :
      (j : ℕ) → j < 4
      → in_range M q (4 - j) (drop (4 * j) labels)
      ≡ (in_range_at (M * 2 ^ q) labels (4 * j) && in_range M q (4 - (j + 1)) (drop (4 * (j + 1)) labels))
  unfolding in_range
  range-next j h = rw (turn-left j h) (simp (get_or-drop, four_on, add-zero))

  ranges-from : in_range M q 4 labels ≡ true → (j : ℕ) → j ≤ 4 → in_range M q (4 - j) (drop (4 * j) labels) ≡ true
  ranges-from e zero h = e
  ranges-from e (suc j) h =
      subst (λ (k : ℕ). in_range M q (4 - k) (drop (4 * k) labels) ≡ true) (add-one j)
      (and_right (in_range_at (M * 2 ^ q) labels (4 * j)) _ (sym (range-next j (omega arith)) ∙ ranges-from e j (omega arith)))

  -- every symbol's labels are in their ranges
  pub four-in_range : in_range M q 4 labels ≡ true → (j : ℕ) → j < 4 → FourInRange (M * 2 ^ q) labels (4 * j)
  four-in_range e j h =
      four-when _ _ _ (and_left (in_range_at (M * 2 ^ q) labels (4 * j)) _ (sym (range-next j h) ∙ ranges-from e j (omega arith)))

-- the eight rings

-- two of each symbol's labels have one
abbrev ring_list : ℕ → List ℕ → List ℕ
ring_list q labels =
    let ring : ℕ → ℕ = λ at. get_or labels at 0 / 2 ^ q in
    ring 0 ∷ ring 1 ∷ ring 4 ∷ ring 5 ∷ ring 8 ∷ ring 9 ∷ ring 12 ∷ ring 13 ∷ []

pub rings-are : (q : ℕ) (labels : List ℕ) → rings_read q 4 labels ≡ ring_list q labels
unfolding rings_read
rings-are q labels = simp (get_or-drop, drop-drop)

-- and of labels in their ranges each is below M
pub eight-below : (M q : ℕ) (labels : List ℕ) → in_range M q 4 labels ≡ true → Below8 M (of_list (rings_read q 4 labels))
unfolding of_list rings_read
eight-below M q labels e =
    let r = rings-below M q 4 labels e in
    let s = r.1.1.1.1 in
    (((r.0, r.1.0), (r.1.1.0, r.1.1.1.0)), ((s.0, s.1.0), (s.1.1.0, s.1.1.1.0)))

-- and so fits a byte
pub rings-fit : (M q : ℕ) (labels : List ℕ) → M ≤ 256 → q ≤ 5 → length labels ≡ 16 → in_range M q 4 labels ≡ true → RingsFit q labels
rings-fit M q labels high few sixteen ranges =
    record {
      uncoded = few;
      sixteen = sixteen;
      small = every-imp (λ r. r < M) (λ r. r < 256) (λ r h. omega arith) (rings_read q 4 labels) (rings-below M q 4 labels ranges);
    }

-- so that it can be cast to one
pub ring-small : (q : ℕ) (labels : List ℕ) → RingsFit q labels → (i : ℕ) → get_or (ring_list q labels) i 0 < 256
ring-small q labels fit i = rw (rings-are q labels) at (every_at (λ r. r < 256) 0 (omega arith) (rings_read q 4 labels) fit.small i)

-- 12: steps of Z

module _ (threes : ℕ) (labels : List ℕ) where
  -- one symbol's step, and what is left after it
  pub step-next :
      (j z : ℕ) → j < 4
      → steps_fit (threes - j) z (4 - j) (drop (4 * j) labels)
      ≡ ((ltb j threes || ltb ((get_or labels (4 * j + 2) 0 + 4 - z) % 4) 2)
      && steps_fit (threes - (j + 1)) (get_or labels (4 * j + 2) 0) (4 - (j + 1)) (drop (4 * (j + 1)) labels))
  unfolding steps_fit
  step-next j z h = let e : threes - j - 1 ≡ threes - (j + 1) = omega arith in rw (turn-left j h) (simp (get_or-drop, four_on, still, e))

  pub step_none : (j z : ℕ) → 4 ≤ j → steps_fit (threes - j) z (4 - j) (drop (4 * j) labels) ≡ true
  unfolding steps_fit
  step_none j z h = rw (none_left j h)
