-- What the functions over fours of rings need of the row of pairs: it is written as any g with g ≡ g2 M. A count is at most 18, so
-- b products are at most 324·b. Assumes nothing.
use mathlib.Core.List.{List}
use mathlib.Core.Path.{◌≡◌, refl, sym, subst}
use Prim.Native.Nat.{ℕ, suc, ◌+◌, ◌*◌, ◌-◌, ◌/◌, ◌%◌, ◌≤◌, ◌<◌}
use native.Mathlib.Nat.{mul-le-mul}
use native.Mathlib.Omega.{arith}
use lib.ListN.{length}
use Rattle.listing.specs.Counts.{g2, g4, lighter}
use Rattle.listing.specs.Number.{pair_at, four_at, place_of_pair, place_of_four}
use Rattle.listing.specs.Sets.{Pair, Four, Below2, Below4, weight2, weight4}
use Rattle.listing.proofs.Bounds.{g2-bound, lighter-bound, place_of_pair-bound}
use Rattle.listing.proofs.Halves.{first_weight, rest_of, Halved, halved}
use Rattle.counts.specs.Rows.{at, Known}
use Rattle.counts.specs.Located.{located_of}
use Rattle.counts.specs.Requires.{Locatable, Summable}
use Rattle.counts.specs.declared.places.Located.{Located}

-- how large counts, sums of products and one product can be
module _ (M : ℕ) (g : ℕ → ℕ) (known : Known M) (same : g ≡ g2 M) where
  count-bound : (p : ℕ) → g p ≤ 18
  count-bound p = rw same (omega (arith, g2-bound M p))

  sum_bound : (t b : ℕ) → lighter g t b ≤ b * 324
  sum_bound t b = lighter-bound g t 18 b count-bound

  product-bound : (p : ℕ) (x : Pair) → Below2 M x → place_of_pair M x * g p ≤ 324
  product-bound p x h = mul-le-mul {n₂ = 18} (omega (arith, place_of_pair-bound M x h)) (count-bound p)

-- how a four is found: the weight of its first pair, the rest, and how many pairs have that weight
pub record Split (M t i c rest count : ℕ) : Type 0 where
  pub within : c ≤ t
  pub some : 0 < count
  pub first : rest % count < g2 M c
  pub second : rest / count < g2 M (t - c)
  pub whole : four_at M t i ≡ (pair_at M c (rest % count), pair_at M (t - c) (rest / count))

-- over the counts themselves
split-here :
    (M t i : ℕ) → i < g4 M t → Split M t i (first_weight (g2 M) t i) (rest_of (g2 M) t i) (g2 M (first_weight (g2 M) t i))
unfolding g4 four_at
split-here M t i h = go (halved (g2 M) t i h)
  where
    go : Halved (g2 M) t i → Split M t i (first_weight (g2 M) t i) (rest_of (g2 M) t i) (g2 M (first_weight (g2 M) t i))
    go k = record { within = k.least; some = omega (arith, k.first); first = k.first; second = k.second; whole = refl }

-- over what `locate` found in a row of them
pub split :
    (M t i : ℕ) (g : ℕ → ℕ) (x : Located)
    → g ≡ g2 M
    → x ≡ located_of (lighter g t) i t
    → i < g4 M t
    → Split M t i x.at x.rest (g x.at)
unfolding located_of
split M t i g x same found h = rw (found, same) (split-here M t i h)

-- a place among the fours of sum t can be located
pub locatable :
    (M t i : ℕ) (row : List ℕ)
    → Known M
    → at row ≡ g2 M
    → length row ≡ 69
    → t ≤ 68
    → i < g4 M t
    → Locatable row t i
unfolding g4
locatable M t i row known same long small h =
    record {
      inside = omega arith;
      below = subst (λ (g : ℕ → ℕ). i < lighter g t (suc t)) (sym same) h;
      fits = omega (arith, sum_bound M (at row) known same t (suc t));
    }

-- the fours of a four's sum that stand before it can be summed
pub summable :
    (M : ℕ) (x : Four) (row : List ℕ)
    → Known M
    → at row ≡ g2 M
    → length row ≡ 69
    → Below4 M x
    → Summable row (weight4 x) (weight2 x.0)
summable M x row known same long h =
    record {
      inside = omega arith;
      up_to = omega arith;
      fits = omega (arith, sum_bound M (at row) known same (weight4 x) (weight2 x.0));
    }

-- the parts of a place: none is large, and together they are the place
pub record PlaceParts (M : ℕ) (x : Four) (sum product e : ℕ) : Type 0 where
  pub sum-small : sum ≤ 11016
  pub product_small : product ≤ 324
  pub first_small : e < 18
  pub whole : sum + (product + e) ≡ place_of_four M x

pub place-parts :
    (M : ℕ) (g : ℕ → ℕ) (x : Four) (sum e f : ℕ)
    → Known M
    → g ≡ g2 M
    → Below4 M x
    → sum ≡ lighter g (weight4 x) (weight2 x.0)
    → e ≡ place_of_pair M x.0
    → f ≡ place_of_pair M x.1
    → PlaceParts M x sum (f * g (weight2 x.0)) e
unfolding place_of_four
place-parts M g x sum e f known same h hs he hf = record {
  sum-small = omega (arith, sum_bound M g known same (weight4 x) (weight2 x.0));
  product_small = rw hf (product-bound M g known same (weight2 x.0) x.1 h.1);
  first_small = omega (arith, place_of_pair-bound M x.0 h.0);
  whole = rw (hs, he, hf, same);
}
