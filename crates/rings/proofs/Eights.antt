-- What the functions over eight rings need of the counts: steps 2 to 4 of clause 9.4 as the code takes them, and that nothing on the
-- way is larger than M^8. Assumes nothing.
use mathlib.Core.List.{List}
use mathlib.Core.Path.{◌≡◌, refl, sym, subst, ap, ap₂, ◌∙◌}
use Prim.Native.Nat.{ℕ, suc, ◌+◌, ◌*◌, ◌-◌, ◌/◌, ◌%◌, ◌^◌, ◌≤◌, ◌<◌}
use native.Mathlib.Nat.{pow-le-pow_left}
use native.Mathlib.Decide.{dec_le}
use native.Mathlib.Omega.{arith}
use lib.ListN.{length}
use mir.Syntax.{w64}
use mir.Val.{Fits}
use Rattle.laws.specs.Largest.{largest}
use Rattle.laws.proofs.Largests.{Within, largest-le, largest-within}
use Rattle.laws.proofs.Rising.{largest_same}
use Rattle.laws.proofs.Sums.{sum-zero, sum-rises, sum_mono}
use Rattle.listing.specs.Counts.{g4, g8, z8, lighter}
use Rattle.listing.specs.Number.{rings_of, four_at, place_of_four, number}
use Rattle.listing.specs.Sets.{Eight, Below8, weight4, weight8}
use Rattle.listing.proofs.Agree.{z8-all, heaviest, number-below-all}
use Rattle.listing.proofs.CountLaws.{g4-ends}
use Rattle.listing.proofs.Halves.{Halved, halved}
use Rattle.counts.specs.Rows.{at, Known, EightRows}
use Rattle.counts.specs.Located.{located_of}
use Rattle.rings.specs.Parts.{halves_of}
use Rattle.counts.specs.Requires.{Ascending, Summable, Locatable}
use Rattle.counts.specs.declared.places.Located.{Located}
use Rattle.rings.specs.declared.number.Halves.{Halves}

-- M^8 is at most 18^8, which has 34 bits
pub power-bound : (M : ℕ) → Known M → M ^ 8 ≤ 11019960576
power-bound M known = pow-le-pow_left {m = 18} known.high 8

-- the eights of one weight are part of them all
pub g8-bound : (M p : ℕ) → p ≤ 8 * (M - 1) → z8 M p + g8 M p ≤ M ^ 8
unfolding z8
g8-bound M p h = subst (λ (k : ℕ). z8 M p + g8 M p ≤ k) (z8-all M) (sum-rises (g8 M) p (suc (8 * (M - 1))) (omega arith))

-- a weight that some four has is at most 4(M − 1), and so at most 68
pub four-weight : (M p i : ℕ) → Known M → i < g4 M p → p ≤ 68
four-weight M p i known h =
    elim (dec_le p 68) [
      | yes l ↦ l
      | no l ↦ absurd (let z = g4-ends M p (omega arith) in omega arith)
    ]

-- the row of running sums rises, and starts at 0
pub ascending :
    (M S : ℕ) (fourRow lighterRow : List ℕ)
    → EightRows M fourRow lighterRow
    → length lighterRow ≡ 137
    → Ascending lighterRow (8 * (M - 1)) S
unfolding z8
ascending M S fourRow lighterRow k long = record {
  inside = omega arith;
  start = let z = k.lighter 0 (omega arith) in let s = sum-zero (g8 M) in omega arith;
  rises = λ p q l h.
      let a = k.lighter p (omega arith) in
      let b = k.lighter q h in
      let s = sum_mono (g8 M) p q l in
      omega arith;
}

module _ (M S : ℕ) (below : S < M ^ 8) where
  -- A and R0
  pub weight : ℕ
  weight = largest (z8 M) S (8 * (M - 1))

  pub rest : ℕ
  rest = S - z8 M weight

  weight-within : Within (g8 M) S weight
  unfolding weight z8
  weight-within = largest-within (g8 M) S (8 * (M - 1)) (subst (λ (k : ℕ). S < k) (sym (z8-all M)) below)

  weight-top : weight ≤ 8 * (M - 1)
  unfolding weight
  weight-top = largest-le (z8 M) S (8 * (M - 1))

  rest_below : rest < g8 M weight
  unfolding rest z8
  rest_below = let a = weight-within.from in let b = weight-within.to in omega arith

  -- what holds of the two weights and the two places
  pub record Halfway (h : Halves) : Type 0 where
    pub top : h.weight ≤ 8 * (M - 1)
    pub within : h.first_weight ≤ h.weight
    pub first : h.first_place < g4 M h.first_weight
    pub second : h.second_place < g4 M (h.weight - h.first_weight)
    pub whole :
        rings_of M S
        ≡ (four_at M h.first_weight h.first_place, four_at M (h.weight - h.first_weight) h.second_place)

  pub halfway : Halfway (halves_of M S)
  unfolding halves_of rings_of four_at weight rest g8
  halfway = go (halved (g4 M) weight rest rest_below)
    where
      go : Halved (g4 M) weight rest → Halfway (halves_of M S)
      go k = record { top = weight-top; within = k.least; first = k.first; second = k.second; whole = refl }

  -- what `locate_weight` finds in the row of running sums
  pub weighed :
      (fourRow lighterRow : List ℕ) (x : Located)
      → EightRows M fourRow lighterRow
      → x ≡ located_of (at lighterRow) S (8 * (M - 1))
      → (x.at ≡ weight) × (x.rest ≡ rest)
  unfolding located_of weight rest
  weighed fourRow lighterRow x k found =
      let same = largest_same (at lighterRow) (z8 M) S (8 * (M - 1)) k.lighter in
      let there = k.lighter (largest (at lighterRow) S (8 * (M - 1))) (largest-le (at lighterRow) S (8 * (M - 1))) in (
        ap (λ (y : Located). y.at) found ∙ same,
        ap (λ (y : Located). y.rest) found ∙ ap (λ (n : ℕ). S - n) (there ∙ ap (z8 M) same),
      )

  -- the place among the eights of that weight can be located
  pub locatable8 :
      (fourRow lighterRow : List ℕ) (x : Located)
      → EightRows M fourRow lighterRow
      → (x.at ≡ weight) × (x.rest ≡ rest)
      → length fourRow ≡ 137
      → Locatable fourRow x.at x.rest
  unfolding g8
  locatable8 fourRow lighterRow x k e long =
      let bound = power-bound M k.known in
      let g = g8-bound M weight weight-top in
      let t = weight-top in
      let h = k.known.high in
      rw (e.0, e.1)
      (record {
        inside = omega arith;
        below = subst (λ (f : ℕ → ℕ). rest < lighter f weight (suc weight)) (sym k.fours) rest_below;
        fits = subst (λ (f : ℕ → ℕ). lighter f weight (suc weight) < 2 ^ 64) (sym k.fours) (omega arith);
      })

  -- and what `locate` finds among them, in a row that is g4, makes up the halves
  pub record Split8 (x y : Located) (count : ℕ) : Type 0 where
    pub inside : y.at < 137
    pub some : 0 < count
    pub whole :
        ◌≡◌
        {A = Halves}
        (record { weight = x.at; first_weight = y.at; first_place = y.rest % count; second_place = y.rest / count })
        (halves_of M S)

  -- over the counts themselves, and then over rows of them
  abbrev Split8Here : Type 0
  Split8Here =
      let found = located_of (lighter (g4 M) weight) rest weight in
      Split8 (record { at = weight; rest = rest }) found (g4 M found.at)

  split8_here : Known M → Split8Here
  unfolding located_of halves_of weight rest g8
  split8_here known = go (halved (g4 M) weight rest rest_below)
    where
      go : Halved (g4 M) weight rest → Split8Here
      go k =
          let t = weight-top in
          record { inside = omega (arith, k.least, known.high); some = omega (arith, k.first); whole = refl }

  pub split8 :
      (g : ℕ → ℕ) (x y : Located)
      → Known M
      → g ≡ g4 M
      → (x.at ≡ weight) × (x.rest ≡ rest)
      → y ≡ located_of (lighter g x.at) x.rest x.at
      → Split8 x y (g y.at)
  unfolding located_of
  split8 g x y known same e found =
      let whole : x ≡ record { at = weight; rest = rest } = ap₂ (λ (a r : ℕ). record { at = a; rest = r }) e.0 e.1 in
      rw (found, whole, same) (split8_here known)

-- each part of a number fits 64 bits
pub parts-fit :
    (lower passed product first : ℕ) → lower + (passed + (product + first)) < 11019960576
    → Fits w64 product
    × Fits w64 (product + first)
    × Fits w64 (passed + (product + first))
    × Fits w64 (lower + (passed + (product + first)))
parts-fit lower passed product first h = omega arith

-- the number of a set, from its parts: none is larger than the whole, and that has 34 bits
module _ (M : ℕ) (fourRow lighterRow : List ℕ) (x : Eight) (k : EightRows M fourRow lighterRow) (below : Below8 M x) where
  pub number_fits_lem : number M x < 11019960576
  number_fits_lem = let p = power-bound M k.known in let n = number-below-all M x below in omega arith

  pub number-whole :
      (front back passed first second : ℕ)
      → front ≡ weight4 x.0
      → back ≡ weight4 x.1
      → passed ≡ lighter (at fourRow) (front + back) front
      → first ≡ place_of_four M x.0
      → second ≡ place_of_four M x.1
      → at lighterRow (front + back) + (passed + (second * at fourRow front + first)) ≡ number M x
  unfolding number
  number-whole front back passed first second e1 e2 es ef eg =
      let lower : at lighterRow (front + back) ≡ z8 M (weight8 x) = rw (e1, e2) (k.lighter (weight8 x) (heaviest M x below)) in
      let before : passed ≡ lighter (g4 M) (weight8 x) (weight4 x.0) = es ∙ rw (e1, e2, k.fours) in
      let fours : at fourRow front ≡ g4 M (weight4 x.0) = ap (λ (g : ℕ → ℕ). g front) k.fours ∙ ap (g4 M) e1 in
      rw (lower, before, fours, ef, eg)

  -- the weights stay inside the rows, and what is summed is part of the eights of one weight
  pub weights_inside : weight8 x ≤ 136
  weights_inside = let h = heaviest M x below in let m = k.known.high in omega arith

  pub summable8 :
      (front back : ℕ) → front ≡ weight4 x.0 → back ≡ weight4 x.1 → length fourRow ≡ 137 → Summable fourRow (front + back) front
  unfolding g8 lighter
  summable8 front back e1 e2 long =
      let w = weights_inside in
      let h = heaviest M x below in
      let p = power-bound M k.known in
      let g = g8-bound M (weight8 x) h in
      let s = sum_mono (λ p. g4 M p * g4 M (weight8 x - p)) (weight4 x.0) (suc (weight8 x)) (omega arith) in
      rw (e1, e2)
      (record {
        inside = omega arith;
        up_to = omega arith;
        fits = subst (λ (f : ℕ → ℕ). lighter f (weight8 x) (weight4 x.0) < 2 ^ 64) (sym k.fours) (omega arith);
      })
