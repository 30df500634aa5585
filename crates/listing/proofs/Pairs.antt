-- Pairs of rings below M are a graded family, by document 01's formulas, listed by their first ring. Assumes nothing.
use mathlib.Core.Bool.{Bool, true, false, cond}
use mathlib.Core.Path.{◌≡◌, refl, sym, ap, ap₂, ◌∙◌}
use Prim.Native.Nat.{ℕ, zero, suc, ◌+◌, ◌*◌, ◌-◌, ◌≤◌, ◌<◌, compare}
use native.Mathlib.Omega.{arith}
use lib.Dec.{ltb}
use borrow.Author.Tests.{ltb-true, ltb-false, lt-ltb, le-ltb}
use Rattle.laws.proofs.Orders.{compare-add}
use Rattle.listing.specs.Sets.{Pair, Below2, weight2}
use Rattle.listing.specs.Counts.{g2}
use Rattle.listing.specs.Number.{pair_at, place_of_pair}
use Rattle.listing.proofs.Family.{Family, Graded}

abbrev pub pairs : ℕ → Family Pair
pairs M =
    record {
      Fine = Below2 M;
      weight = weight2;
      counts = g2 M;
      place = place_of_pair M;
      item = pair_at M;
      order = λ x y. compare x.0 y.0;
    }

-- (9-3) on its two sides
pub g2-low : (M p : ℕ) → p < M → g2 M p ≡ p + 1
unfolding g2
g2-low M p h = omega arith

pub g2-high : (M p : ℕ) → M ≤ p → g2 M p ≡ 2 * M - 1 - p
unfolding g2
g2-high zero p h = omega arith
g2-high (suc M) p h = omega arith

-- the rule of a pair's place on its two sides
pub place_of_pair-low : (M : ℕ) (x : Pair) → weight2 x < M → place_of_pair M x ≡ x.0
unfolding place_of_pair
place_of_pair-low M x h = ap (λ (b : Bool). cond b x.0 (M - 1 - x.1)) (lt-ltb (weight2 x) M h)

pub place_of_pair-high : (M : ℕ) (x : Pair) → M ≤ weight2 x → place_of_pair M x ≡ M - 1 - x.1
unfolding place_of_pair
place_of_pair-high M x h = ap (λ (b : Bool). cond b x.0 (M - 1 - x.1)) (le-ltb (weight2 x) M h)

-- a sum is below M or not
by_side : {P : Type 0} (t M : ℕ) → (t < M → P) → (M ≤ t → P) → P
by_side {P} t M low high = go (ltb t M) refl
  where
    go : (v : Bool) → ltb t M ≡ v → P
    go true e = low (ltb-true t M e)
    go false e = high (ltb-false t M e)

module _ (M : ℕ) where
  place-below : (x : Pair) → Below2 M x → place_of_pair M x < g2 M (weight2 x)
  unfolding place_of_pair g2
  place-below x b = grind arith

  item-place : (x : Pair) → Below2 M x → pair_at M (weight2 x) (place_of_pair M x) ≡ x
  unfolding pair_at place_of_pair
  item-place x b = grind arith

  -- what a pair at a place is, where the place is below the count
  pub record Placed (t e : ℕ) : Type 0 where
    pub fine : Below2 M (pair_at M t e)
    pub weighs : weight2 (pair_at M t e) ≡ t
    pub back : place_of_pair M (pair_at M t e) ≡ e

  pub placed : (t e : ℕ) → e < g2 M t → Placed t e
  unfolding pair_at place_of_pair g2
  placed t e b = record { fine = grind arith; weighs = grind arith; back = grind arith }

  -- of two pairs of one sum the first rings are their places, from the same start on
  by_place :
      (x y : Pair) → Below2 M x → Below2 M y → weight2 x ≡ weight2 y
      → compare x.0 y.0 ≡ compare (place_of_pair M x) (place_of_pair M y)
  by_place x y bx by e = by_side (weight2 x) M low high
    where
      low : weight2 x < M → compare x.0 y.0 ≡ compare (place_of_pair M x) (place_of_pair M y)
      low h = sym (ap₂ compare (place_of_pair-low M x h) (place_of_pair-low M y (omega arith)))

      high : M ≤ weight2 x → compare x.0 y.0 ≡ compare (place_of_pair M x) (place_of_pair M y)
      high h =
          let p = place_of_pair-high M x h in
          let q = place_of_pair-high M y (omega arith) in
          let start = weight2 x - (M - 1) in
          let first : x.0 ≡ start + place_of_pair M x = omega arith in
          let second : y.0 ≡ start + place_of_pair M y = omega arith in
          ap₂ compare first second ∙ compare-add start (place_of_pair M x) (place_of_pair M y)

  pub pairs_graded : Graded (pairs M)
  pairs_graded =
      record {
        place-below = place-below;
        item-place = item-place;
        fine-item = λ t e b. (placed t e b).fine;
        weight-item = λ t e b. (placed t e b).weighs;
        place-item = λ t e b. (placed t e b).back;
        by_place = by_place;
      }
