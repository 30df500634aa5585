-- A graded family listed weight after weight: the number of an item is what is lighter than it and its place, and the item of a
-- number is found by the largest weight whose lighter items are not too many. Where a plain list holds each item once, the number
-- is how many of the list stand before the item, and the counts are how many have each weight. Assumes nothing.
use mathlib.Core.Bool.{Bool, true, false, cond}
use mathlib.Core.List.{List}
use mathlib.Core.Path.{◌≡◌, refl, sym, subst, ap, ap₂, ◌∙◌}
use Prim.Native.Nat.{ℕ, zero, suc, ◌+◌, ◌-◌, ◌≤◌, ◌<◌, compare, Ordering}
use native.Mathlib.Nat.{add-sub_cancel_left}
use native.Mathlib.Omega.{arith}
use lib.Dec.{ltb, eqb}
use lib.ListN.{length}
use borrow.Author.Tests.{ltb-true, lt-ltb, eqb-true, eqb-false, eq-eqb, ne_eqb}
use Rattle.laws.specs.Largest.{largest}
use Rattle.laws.specs.Lists.{count, Every}
use Rattle.laws.specs.Order.{then_by, is_less}
use Rattle.laws.specs.Sum.{sum}
use Rattle.laws.proofs.Bools.{same_test}
use Rattle.laws.proofs.Counting.{count_same, count-all, counted, counted_by}
use Rattle.laws.proofs.Largests.{Within, largest-within, largest_is}
use Rattle.laws.proofs.Orders.{packed, then_by_same, is_less-compare}
use Rattle.laws.proofs.Sums.{sum-rises, sum-zero, sum-suc}
use Rattle.listing.proofs.Family.{Family, Graded}

module _ {X : Type 0} (𝓕 : Family X) where
  abbrev pub number_in : X → ℕ
  number_in x = sum 𝓕.counts (𝓕.weight x) + 𝓕.place x

  abbrev pub item_of : ℕ → ℕ → X
  item_of top s = 𝓕.item (largest (sum 𝓕.counts) s top) (s - sum 𝓕.counts (largest (sum 𝓕.counts) s top))

  -- by weight, then by the family's order
  abbrev pub order_in : X → X → Ordering
  order_in x y = then_by (compare (𝓕.weight x) (𝓕.weight y)) (𝓕.order x y)

module _ {X : Type 0} (𝓕 : Family X) (𝓖 : Graded 𝓕) (top : ℕ) (heaviest : (x : X) → 𝓕.Fine x → 𝓕.weight x ≤ top) where
  pub number-within : (x : X) → 𝓕.Fine x → Within 𝓕.counts (number_in 𝓕 x) (𝓕.weight x)
  number-within x h = let b = 𝓖.place-below x h in record { from = omega arith; to = omega arith }

  pub number-below : (x : X) → 𝓕.Fine x → number_in 𝓕 x < sum 𝓕.counts (suc top)
  number-below x h =
      let w = (number-within x h).to in
      let r = sum-rises 𝓕.counts (𝓕.weight x) (suc top) (let l = heaviest x h in omega arith) in
      omega arith

  pub item-number : (x : X) → 𝓕.Fine x → item_of 𝓕 top (number_in 𝓕 x) ≡ x
  item-number x h =
      let s = number_in 𝓕 x in
      go (largest (sum 𝓕.counts) s top) (largest_is 𝓕.counts s top (𝓕.weight x) (heaviest x h) (number-within x h))
    where
      go : (a : ℕ) → a ≡ 𝓕.weight x → 𝓕.item a (number_in 𝓕 x - sum 𝓕.counts a) ≡ x
      go a e =
          subst (λ (k : ℕ). 𝓕.item k (number_in 𝓕 x - sum 𝓕.counts k) ≡ x) (sym e)
          (ap (𝓕.item (𝓕.weight x)) (add-sub_cancel_left (sum 𝓕.counts (𝓕.weight x)) (𝓕.place x)) ∙ 𝓖.item-place x h)

  -- what is found for a number below the count of all items
  place_found :
      (s : ℕ) → s < sum 𝓕.counts (suc top)
      → let a = largest (sum 𝓕.counts) s top in
      s - sum 𝓕.counts a < 𝓕.counts a
  place_found s h =
      let w = largest-within 𝓕.counts s top h in
      let a = w.from in
      let b = w.to in
      omega arith

  pub fine-found : (s : ℕ) → s < sum 𝓕.counts (suc top) → 𝓕.Fine (item_of 𝓕 top s)
  fine-found s h = 𝓖.fine-item (largest (sum 𝓕.counts) s top) (s - sum 𝓕.counts (largest (sum 𝓕.counts) s top)) (place_found s h)

  pub number-item : (s : ℕ) → s < sum 𝓕.counts (suc top) → number_in 𝓕 (item_of 𝓕 top s) ≡ s
  number-item s h =
      let a = largest (sum 𝓕.counts) s top in
      let i = s - sum 𝓕.counts a in
      let w = 𝓖.weight-item a i (place_found s h) in
      let p = 𝓖.place-item a i (place_found s h) in
      let f = (largest-within 𝓕.counts s top h).from in
      let e : sum 𝓕.counts (𝓕.weight (𝓕.item a i)) ≡ sum 𝓕.counts a = ap (sum 𝓕.counts) w in
      omega arith

  -- the order is that of the numbers
  pub by_number : (x y : X) → 𝓕.Fine x → 𝓕.Fine y → order_in 𝓕 x y ≡ compare (number_in 𝓕 x) (number_in 𝓕 y)
  by_number x y hx hy =
      then_by_same (𝓕.weight x) (𝓕.weight y) (𝓕.order x y) (compare (𝓕.place x) (𝓕.place y)) (𝓖.by_place x y hx hy)
      ∙ sym (packed (sum 𝓕.counts) 𝓕.counts (sum-rises 𝓕.counts) (𝓕.weight x) (𝓕.weight y) (𝓕.place x) (𝓕.place y)
      (𝓖.place-below x hx) (𝓖.place-below y hy))

-- a plain list of a family: every item of it is fine, and each fine item occurs in it once, by a test that says which are the same
pub record Listed {X : Type 0} (𝓕 : Family X) (all : List X) : Type 0 where
  pub same : X → X → Bool
  pub same_true : (x y : X) → same x y ≡ true → x ≡ y
  pub same_self : (x : X) → same x x ≡ true
  pub fine : Every 𝓕.Fine all
  pub once : (x : X) → 𝓕.Fine x → count (same x) all ≡ 1

module _ {X : Type 0} (𝓕 : Family X) (𝓖 : Graded 𝓕) (all : List X) (𝓛 : Listed 𝓕 all) where
  -- a number that one fine item has, and no other, is hit once
  hit-once : (f : X → ℕ) (k : ℕ) (x : X) → 𝓕.Fine x → f x ≡ k → ((y : X) → 𝓕.Fine y → f y ≡ k → y ≡ x) → count (λ y. eqb (f y) k) all ≡ 1
  hit-once f k x h e only = count_same 𝓕.Fine (λ y. eqb (f y) k) (𝓛.same x) agree all 𝓛.fine ∙ 𝓛.once x h
    where
      agree : (y : X) → 𝓕.Fine y → eqb (f y) k ≡ 𝓛.same x y
      agree y hy =
          same_test (eqb (f y) k) (𝓛.same x y)
          (λ t. subst (λ (z : X). 𝓛.same x z ≡ true) (sym (only y hy (eqb-true (f y) k t))) (𝓛.same_self x))
          (λ t. eq-eqb (f y) k (subst (λ (z : X). f z ≡ k) (𝓛.same_true x y t) e))

  -- the counts count
  pub counts-count : (t : ℕ) → count (λ y. eqb (𝓕.weight y) t) all ≡ 𝓕.counts t
  counts-count t =
      sym (count_same 𝓕.Fine (λ y. ltb (slot y) (𝓕.counts t)) (λ y. eqb (𝓕.weight y) t) agree all 𝓛.fine)
      ∙ counted slot all (𝓕.counts t) hit (𝓕.counts t) (omega arith)
    where
      -- the place of an item of weight t; any other item is put behind those
      slot : X → ℕ
      slot y = cond (eqb (𝓕.weight y) t) (𝓕.place y) (𝓕.counts t)

      slot_in : (y : X) → 𝓕.weight y ≡ t → slot y ≡ 𝓕.place y
      slot_in y e = ap (λ (b : Bool). cond b (𝓕.place y) (𝓕.counts t)) (eq-eqb (𝓕.weight y) t e)

      slot-out : (y : X) → (𝓕.weight y ≡ t → ⊥) → slot y ≡ 𝓕.counts t
      slot-out y e = ap (λ (b : Bool). cond b (𝓕.place y) (𝓕.counts t)) (ne_eqb (𝓕.weight y) t e)

      below : (y : X) → 𝓕.Fine y → 𝓕.weight y ≡ t → slot y < 𝓕.counts t
      below y h e = let s = slot_in y e in let p = 𝓖.place-below y h in let c = ap 𝓕.counts e in omega arith

      -- an item whose slot is below the count has weight t
      weighs : (y : X) → slot y < 𝓕.counts t → 𝓕.weight y ≡ t
      weighs y l = go (eqb (𝓕.weight y) t) refl
        where
          go : (v : Bool) → eqb (𝓕.weight y) t ≡ v → 𝓕.weight y ≡ t
          go true e = eqb-true (𝓕.weight y) t e
          go false e = absurd (let s = slot-out y (eqb-false (𝓕.weight y) t e) in omega arith)

      agree : (y : X) → 𝓕.Fine y → ltb (slot y) (𝓕.counts t) ≡ eqb (𝓕.weight y) t
      agree y h =
          same_test (ltb (slot y) (𝓕.counts t)) (eqb (𝓕.weight y) t)
          (λ u. eq-eqb (𝓕.weight y) t (weighs y (ltb-true (slot y) (𝓕.counts t) u)))
          (λ u. lt-ltb (slot y) (𝓕.counts t) (below y h (eqb-true (𝓕.weight y) t u)))

      hit : (k : ℕ) → k < 𝓕.counts t → count (λ y. eqb (slot y) k) all ≡ 1
      hit k l = hit-once slot k (𝓕.item t k) (𝓖.fine-item t k l) (slot_in (𝓕.item t k) (𝓖.weight-item t k l) ∙ 𝓖.place-item t k l) only
        where
          only : (y : X) → 𝓕.Fine y → slot y ≡ k → y ≡ 𝓕.item t k
          only y h e =
              let w = weighs y (omega arith) in
              sym (𝓖.item-place y h) ∙ ap₂ 𝓕.item w (sym (slot_in y w) ∙ e)

  -- and their running sums count the lighter items
  pub sum-counts : (p : ℕ) → count (λ y. ltb (𝓕.weight y) p) all ≡ sum 𝓕.counts p
  sum-counts zero = counted 𝓕.weight all 0 (λ k l. absurd (omega arith)) 0 (omega arith) ∙ sym (sum-zero 𝓕.counts)
  sum-counts (suc p) =
      counted_by 𝓕.weight all 𝓕.counts counts-count p
      ∙ (ap (λ (k : ℕ). k + 𝓕.counts p) (sum-counts p) ∙ sym (sum-suc 𝓕.counts p))

module _
    {X : Type 0} (𝓕 : Family X) (𝓖 : Graded 𝓕) (top : ℕ) (heaviest : (x : X) → 𝓕.Fine x → 𝓕.weight x ≤ top)
    (all : List X) (𝓛 : Listed 𝓕 all)
  where
    each-once : (k : ℕ) → k < sum 𝓕.counts (suc top) → count (λ y. eqb (number_in 𝓕 y) k) all ≡ 1
    each-once k l =
        hit-once 𝓕 𝓖 all 𝓛 (number_in 𝓕) k (item_of 𝓕 top k) (fine-found 𝓕 𝓖 top heaviest k l) (number-item 𝓕 𝓖 top heaviest k l) only
      where
        only : (y : X) → 𝓕.Fine y → number_in 𝓕 y ≡ k → y ≡ item_of 𝓕 top k
        only y h e = sym (item-number 𝓕 𝓖 top heaviest y h) ∙ ap (item_of 𝓕 top) e

    -- there are as many numbers as items
    pub all-counted : sum 𝓕.counts (suc top) ≡ length all
    all-counted =
        sym (counted (number_in 𝓕) all whole each-once whole (omega arith))
        ∙ (count_same 𝓕.Fine (λ y. ltb (number_in 𝓕 y) whole) (λ y. true) below all 𝓛.fine ∙ count-all all)
      where
        whole : ℕ
        whole = sum 𝓕.counts (suc top)

        below : (y : X) → 𝓕.Fine y → ltb (number_in 𝓕 y) whole ≡ true
        below y h = lt-ltb (number_in 𝓕 y) whole (number-below 𝓕 𝓖 top heaviest y h)

    -- as many items stand before x as its number says
    pub standing-number : (x : X) → 𝓕.Fine x → count (λ y. is_less (order_in 𝓕 y x)) all ≡ number_in 𝓕 x
    standing-number x h =
        count_same 𝓕.Fine (λ y. is_less (order_in 𝓕 y x)) (λ y. ltb (number_in 𝓕 y) (number_in 𝓕 x)) agree all 𝓛.fine
        ∙ counted (number_in 𝓕) all (sum 𝓕.counts (suc top)) each-once (number_in 𝓕 x) (omega (arith, number-below 𝓕 𝓖 top heaviest x h))
      where
        agree : (y : X) → 𝓕.Fine y → is_less (order_in 𝓕 y x) ≡ ltb (number_in 𝓕 y) (number_in 𝓕 x)
        agree y hy = ap is_less (by_number 𝓕 𝓖 top heaviest y x hy h) ∙ is_less-compare (number_in 𝓕 y) (number_in 𝓕 x)
