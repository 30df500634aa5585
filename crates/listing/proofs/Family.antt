-- A graded family: items with a weight, a count of the items of each weight, and among those a place for each item, by which they
-- are listed. The join of a family with itself lists at weight t, for p = 0 .. t, all (x, y) with x of weight p and y of weight
-- t − p, the second half counting more than the first. It is a graded family again: said and proved once here, and used for fours
-- and for eights. Assumes nothing.
use mathlib.Core.Path.{◌≡◌, refl, sym, subst, ap, ap₂, ◌∙◌}
use Prim.Native.Nat.{ℕ, suc, ◌+◌, ◌*◌, ◌-◌, ◌/◌, ◌%◌, ◌<◌, compare, Ordering}
use native.Mathlib.Nat.{mul_comm, add-sub_cancel_left, div-add-mod'}
use native.Mathlib.Omega.{arith}
use lib.Arith.{digits_lt, digits_div, digits_mod}
use Rattle.laws.specs.Largest.{largest}
use Rattle.laws.specs.Sum.{sum}
use Rattle.laws.specs.Order.{then_by}
use Rattle.laws.proofs.Sums.{sum-rises}
use Rattle.laws.proofs.Largests.{Within, largest_is}
use Rattle.laws.proofs.Orders.{packed, packed-digits, then_by_same}
use Rattle.listing.specs.Counts.{lighter}
use Rattle.listing.proofs.Halves.{first_weight, rest_of, Halved, halved}

-- what a family is made of
pub record Family (X : Type 0) : Type 1 where
  pub Fine : X → Type 0
  pub weight : X → ℕ
  pub counts : ℕ → ℕ
  pub place : X → ℕ
  pub item : ℕ → ℕ → X
  pub order : X → X → Ordering

-- its laws: places are below the count, item and place undo each other, and of two items of one weight the order is that of
-- their places
pub record Graded {X : Type 0} (𝓕 : Family X) : Type 0 where
  pub place-below : (x : X) → 𝓕.Fine x → 𝓕.place x < 𝓕.counts (𝓕.weight x)
  pub item-place : (x : X) → 𝓕.Fine x → 𝓕.item (𝓕.weight x) (𝓕.place x) ≡ x
  pub fine-item : (t i : ℕ) → i < 𝓕.counts t → 𝓕.Fine (𝓕.item t i)
  pub weight-item : (t i : ℕ) → i < 𝓕.counts t → 𝓕.weight (𝓕.item t i) ≡ t
  pub place-item : (t i : ℕ) → i < 𝓕.counts t → 𝓕.place (𝓕.item t i) ≡ i
  pub by_place : (x y : X) → 𝓕.Fine x → 𝓕.Fine y → 𝓕.weight x ≡ 𝓕.weight y → 𝓕.order x y ≡ compare (𝓕.place x) (𝓕.place y)

-- the join
abbrev pub join : {X : Type 0} → Family X → Family (X × X)
join 𝓕 =
    record {
      Fine = λ z. 𝓕.Fine z.0 × 𝓕.Fine z.1;
      weight = λ z. 𝓕.weight z.0 + 𝓕.weight z.1;
      counts = λ t. lighter 𝓕.counts t (suc t);
      place = λ z.
          let p = 𝓕.weight z.0 in
          lighter 𝓕.counts (p + 𝓕.weight z.1) p + (𝓕.place z.1 * 𝓕.counts p + 𝓕.place z.0);
      item = λ t i.
          let p = first_weight 𝓕.counts t i in
          let r = rest_of 𝓕.counts t i in
          (𝓕.item p (r % 𝓕.counts p), 𝓕.item (t - p) (r / 𝓕.counts p));
      order = λ z w. then_by (compare (𝓕.weight z.0) (𝓕.weight w.0)) (then_by (𝓕.order z.1 w.1) (𝓕.order z.0 w.0));
    }

module _ {X : Type 0} (𝓕 : Family X) (𝓖 : Graded 𝓕) where
  -- the two digits of z: the second half's place and the first's
  inner : X × X → ℕ
  inner z = 𝓕.place z.1 * 𝓕.counts (𝓕.weight z.0) + 𝓕.place z.0

  -- they lie in the block of the first half's weight
  inner_below :
      (t : ℕ) (z : X × X) → (join 𝓕).Fine z → 𝓕.weight z.0 + 𝓕.weight z.1 ≡ t
      → inner z < 𝓕.counts (𝓕.weight z.0) * 𝓕.counts (t - 𝓕.weight z.0)
  unfolding inner
  inner_below t z h e =
      let p = 𝓕.weight z.0 in
      let q = 𝓕.weight z.1 in
      let e' : t - p ≡ q = subst (λ (k : ℕ). k - p ≡ q) e (add-sub_cancel_left p q) in
      subst (λ (k : ℕ). inner z < 𝓕.counts p * 𝓕.counts k) (sym e')
      (subst (λ (k : ℕ). inner z < k) (mul_comm (𝓕.counts q) (𝓕.counts p))
      (digits_lt (𝓖.place-below z.1 h.1) (𝓖.place-below z.0 h.0)))

  -- so a pair lies in one block
  in_block :
      (t : ℕ) (z : X × X) → (join 𝓕).Fine z → 𝓕.weight z.0 + 𝓕.weight z.1 ≡ t
      → Within (λ p. 𝓕.counts p * 𝓕.counts (t - p)) (lighter 𝓕.counts t (𝓕.weight z.0) + inner z) (𝓕.weight z.0)
  unfolding lighter
  in_block t z h e = let b = inner_below t z h e in record { from = omega arith; to = omega arith }

  joined-place-below : (z : X × X) → (join 𝓕).Fine z → (join 𝓕).place z < (join 𝓕).counts ((join 𝓕).weight z)
  unfolding lighter inner
  joined-place-below z h =
      let t = 𝓕.weight z.0 + 𝓕.weight z.1 in
      let w = in_block t z h refl in
      let m = sum-rises (λ p. 𝓕.counts p * 𝓕.counts (t - p)) (𝓕.weight z.0) (suc t) (omega arith) in
      let v = w.to in
      omega arith

  joined-item-place : (z : X × X) → (join 𝓕).Fine z → (join 𝓕).item ((join 𝓕).weight z) ((join 𝓕).place z) ≡ z
  unfolding lighter inner
  joined-item-place z h = go first (add-sub_cancel_left p q) (add-sub_cancel_left (sum block p) (inner z))
    where
      p : ℕ
      p = 𝓕.weight z.0

      q : ℕ
      q = 𝓕.weight z.1

      block : ℕ → ℕ
      block k = 𝓕.counts k * 𝓕.counts (p + q - k)

      i : ℕ
      i = sum block p + inner z

      first : largest (sum block) i (p + q) ≡ p
      first = largest_is block i (p + q) p (omega arith) (in_block (p + q) z h refl)

      -- the parts of the item, once the first half's weight, the second's and the rest are known
      part : ℕ → ℕ → ℕ → X × X
      part a b r = (𝓕.item a (r % 𝓕.counts a), 𝓕.item b (r / 𝓕.counts a))

      ends : part p q (inner z) ≡ z
      ends = let pb = 𝓖.place-below z.0 h.0 in
          ap₂ (λ (a b : X). (a, b))
          (ap (𝓕.item p) (digits_mod (𝓕.place z.1) pb) ∙ 𝓖.item-place z.0 h.0)
          (ap (𝓕.item q) (digits_div (𝓕.place z.1) pb) ∙ 𝓖.item-place z.1 h.1)

      go :
          largest (sum block) i (p + q) ≡ p → p + q - p ≡ q → sum block p + inner z - sum block p ≡ inner z
          → part (largest (sum block) i (p + q)) (p + q - largest (sum block) i (p + q)) (i - sum block (largest (sum block) i (p + q))) ≡ z
      go e d r =
          subst (λ (k : ℕ). part k (p + q - k) (i - sum block k) ≡ z) (sym e)
          (subst (λ (k : ℕ). part p k (i - sum block p) ≡ z) (sym d) (subst (λ (k : ℕ). part p q k ≡ z) (sym r) ends))

  joined-fine-item : (t i : ℕ) → i < (join 𝓕).counts t → (join 𝓕).Fine ((join 𝓕).item t i)
  joined-fine-item t i h =
      let v = halved 𝓕.counts t i h in
      let p = first_weight 𝓕.counts t i in
      let r = rest_of 𝓕.counts t i in
      (𝓖.fine-item p (r % 𝓕.counts p) v.first, 𝓖.fine-item (t - p) (r / 𝓕.counts p) v.second)

  joined-weight-item : (t i : ℕ) → i < (join 𝓕).counts t → (join 𝓕).weight ((join 𝓕).item t i) ≡ t
  joined-weight-item t i h =
      let v = halved 𝓕.counts t i h in
      let p = first_weight 𝓕.counts t i in
      let r = rest_of 𝓕.counts t i in
      let a = 𝓖.weight-item p (r % 𝓕.counts p) v.first in
      let b = 𝓖.weight-item (t - p) (r / 𝓕.counts p) v.second in
      let l = v.least in
      omega arith

  joined-place-item : (t i : ℕ) → i < (join 𝓕).counts t → (join 𝓕).place ((join 𝓕).item t i) ≡ i
  joined-place-item t i h = go (𝓖.weight-item p (r % 𝓕.counts p) v.first) (joined-weight-item t i h)
    where
      p : ℕ
      p = first_weight 𝓕.counts t i

      r : ℕ
      r = rest_of 𝓕.counts t i

      v : Halved 𝓕.counts t i
      v = halved 𝓕.counts t i h

      x : X
      x = 𝓕.item p (r % 𝓕.counts p)

      y : X
      y = 𝓕.item (t - p) (r / 𝓕.counts p)

      -- the place, as it depends on the first half's weight and on the whole's
      placed : ℕ → ℕ → ℕ
      placed a w = lighter 𝓕.counts w a + (𝓕.place y * 𝓕.counts a + 𝓕.place x)

      ends : placed p t ≡ i
      ends =
          let a = 𝓖.place-item p (r % 𝓕.counts p) v.first in
          let b = 𝓖.place-item (t - p) (r / 𝓕.counts p) v.second in
          let d = div-add-mod' r (𝓕.counts p) in
          let f = v.from in
          let e : 𝓕.place y * 𝓕.counts p ≡ r / 𝓕.counts p * 𝓕.counts p = ap (λ (k : ℕ). k * 𝓕.counts p) b in
          omega arith

      go : 𝓕.weight x ≡ p → 𝓕.weight x + 𝓕.weight y ≡ t → placed (𝓕.weight x) (𝓕.weight x + 𝓕.weight y) ≡ i
      go a w = subst (λ (k : ℕ). placed (𝓕.weight x) k ≡ i) (sym w) (subst (λ (k : ℕ). placed k t ≡ i) (sym a) ends)

  joined_by_place :
      (z w : X × X) → (join 𝓕).Fine z → (join 𝓕).Fine w → (join 𝓕).weight z ≡ (join 𝓕).weight w
      → (join 𝓕).order z w ≡ compare ((join 𝓕).place z) ((join 𝓕).place w)
  unfolding lighter inner
  joined_by_place z w hz hw e = inside ∙ sym outside
    where
      t : ℕ
      t = 𝓕.weight w.0 + 𝓕.weight w.1

      p : ℕ
      p = 𝓕.weight z.0

      q : ℕ
      q = 𝓕.weight w.0

      block : ℕ → ℕ
      block k = 𝓕.counts k * 𝓕.counts (t - k)

      -- the two places compare by the first halves' weights, then by the digits
      outside : compare ((join 𝓕).place z) ((join 𝓕).place w) ≡ then_by (compare p q) (compare (inner z) (inner w))
      outside =
          subst
          (λ (k : ℕ).
          compare (lighter 𝓕.counts k p + inner z) (sum block q + inner w) ≡ then_by (compare p q) (compare (inner z) (inner w)))
          (sym e)
          (packed (sum block) block (sum-rises block) p q (inner z) (inner w) (inner_below t z hz e) (inner_below t w hw refl))

      -- where the first halves weigh the same, the digits compare as the halves do, the second first
      digits : p ≡ q → then_by (𝓕.order z.1 w.1) (𝓕.order z.0 w.0) ≡ compare (inner z) (inner w)
      digits same =
          let heavy : 𝓕.weight z.1 ≡ 𝓕.weight w.1 = omega arith in
          let below : 𝓕.place w.0 < 𝓕.counts p =
          subst (λ (k : ℕ). 𝓕.place w.0 < 𝓕.counts k) (sym same) (𝓖.place-below w.0 hw.0) in
          ap₂ then_by (𝓖.by_place z.1 w.1 hz.1 hw.1 heavy) (𝓖.by_place z.0 w.0 hz.0 hw.0 same)
          ∙ sym (packed-digits (𝓕.counts p) (𝓕.place z.1) (𝓕.place w.1) (𝓕.place z.0) (𝓕.place w.0)
          (𝓖.place-below z.0 hz.0) below)
          ∙ ap (λ (k : ℕ). compare (inner z) (𝓕.place w.1 * 𝓕.counts k + 𝓕.place w.0)) same

      inside : (join 𝓕).order z w ≡ then_by (compare p q) (compare (inner z) (inner w))
      inside = then_by_same p q (then_by (𝓕.order z.1 w.1) (𝓕.order z.0 w.0)) (compare (inner z) (inner w)) digits

  -- the join is graded
  pub joined : Graded (join 𝓕)
  joined =
      record {
        place-below = joined-place-below;
        item-place = joined-item-place;
        fine-item = joined-fine-item;
        weight-item = joined-weight-item;
        place-item = joined-place-item;
        by_place = joined_by_place;
      }
