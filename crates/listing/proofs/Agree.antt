-- Counting and listing agree (demand 3), for all M at once. Eights are the join of fours, and fours of pairs; document 01's own
-- definitions are those of the families, so what holds of a graded family holds of them. Assumes nothing.
use mathlib.Core.Logic.{◌↔◌}
use mathlib.Core.Path.{◌≡◌, refl, sym, subst, ap, ap₂, ◌∙◌}
use Prim.Native.Nat.{ℕ, suc, ◌+◌, ◌*◌, ◌-◌, ◌^◌, ◌≤◌, ◌<◌, compare, Ordering}
use native.Mathlib.Omega.{arith}
use lib.Dec.{ltb, eqb}
use Rattle.laws.specs.Lists.{count}
use Rattle.laws.specs.Order.{then_by, is_less, compare_keys}
use Rattle.laws.specs.Sum.{sum}
use Rattle.laws.proofs.Orders.{then_by-assoc}
use Rattle.laws.proofs.Counting.{count_same}
use Rattle.listing.specs.Sets.{Four, Eight, Below8, weight2, weight4, weight8, all_pairs, all_fours, all_eights}
use Rattle.listing.specs.Sets.{m1, m2, m3, m4, m5, m6, m7, m8}
use Rattle.listing.specs.Order.{keys, before, standing}
use Rattle.listing.specs.Counts.{g2, g4, g8, z8}
use Rattle.listing.specs.Number.{rings_of, number, place_of_four}
use Rattle.listing.proofs.Family.{Family, Graded, join, joined}
use Rattle.listing.proofs.Listing.{number_in, item_of, order_in, number-below, item-number, fine-found, number-item}
use Rattle.listing.proofs.Listing.{counts-count, sum-counts, all-counted, standing-number}
use Rattle.listing.proofs.Pairs.{pairs, pairs_graded}
use Rattle.listing.proofs.Plain.{listed2, listed4, listed8, length-all_eights}

abbrev fours : ℕ → Family Four
fours M = join (pairs M)

abbrev eights : ℕ → Family Eight
eights M = join (fours M)

eights_graded : (M : ℕ) → Graded (eights M)
eights_graded M = joined (fours M) (joined (pairs M) (pairs_graded M))

-- no set is heavier than eight rings of M − 1
pub heaviest : (M : ℕ) (x : Eight) → Below8 M x → weight8 x ≤ 8 * (M - 1)
heaviest M x h =
    let a = h.0.0 in
    let b = h.0.1 in
    let c = h.1.0 in
    let d = h.1.1 in
    omega arith

-- document 01's definitions are those of the families
number_is : (M : ℕ) (x : Eight) → number M x ≡ number_in (eights M) x
unfolding number place_of_four z8 g8 g4
number_is M x = refl

rings-are : (M S : ℕ) → rings_of M S ≡ item_of (eights M) (8 * (M - 1)) S
unfolding rings_of z8 g8 g4
rings-are M S = refl

counts-are : (M p : ℕ) → sum (eights M).counts p ≡ z8 M p
unfolding z8 g8 g4
counts-are M p = refl

-- nothing comes after the last key
last_key : (o : Ordering) → then_by o Ordering.eq ≡ o
last_key Ordering.lt = refl
last_key Ordering.eq = refl
last_key Ordering.gt = refl

-- the eight keys are the families' order
order_is : (x y : Eight) (M : ℕ) → compare_keys (keys x) (keys y) ≡ order_in (eights M) x y
unfolding compare_keys keys
order_is x y M =
    ap₂ then_by (ap₂ compare (total x) (total y))
    (ap₂ then_by (ap₂ compare (front x) (front y)) (ap rest (last_key (compare (m1 x) (m1 y))) ∙ regroup))
  where
    total : (x : Eight) → m1 x + m2 x + m3 x + m4 x + m5 x + m6 x + m7 x + m8 x ≡ weight8 x
    total x = omega arith

    front : (x : Eight) → m1 x + m2 x + m3 x + m4 x ≡ weight4 x.0
    front x = omega arith

    rest : Ordering → Ordering
    rest o =
        then_by (compare (m5 x + m6 x) (m5 y + m6 y))
        (then_by (compare (m7 x) (m7 y))
        (then_by (compare (m5 x) (m5 y)) (then_by (compare (m1 x + m2 x) (m1 y + m2 y)) (then_by (compare (m3 x) (m3 y)) o))))

    regroup : rest (compare (m1 x) (m1 y)) ≡ then_by ((fours M).order x.1 y.1) ((fours M).order x.0 y.0)
    regroup = simp then_by-assoc

module _ (M : ℕ) where
  all-sets : sum (eights M).counts (suc (8 * (M - 1))) ≡ M ^ 8
  all-sets = all-counted (eights M) (eights_graded M) (8 * (M - 1)) (heaviest M) (all_eights M) (listed8 M) ∙ length-all_eights M

  -- z8 just above the heaviest set counts them all
  pub z8-all : z8 M (suc (8 * (M - 1))) ≡ M ^ 8
  z8-all = sym (counts-are M (suc (8 * (M - 1)))) ∙ all-sets

  -- the number of a set is below M^8
  pub number-below-all : (x : Eight) → Below8 M x → number M x < M ^ 8
  number-below-all x h =
      omega (arith, all-sets, number_is M x, number-below (eights M) (eights_graded M) (8 * (M - 1)) (heaviest M) x h)

  -- a number below M^8 is below the count of all eights
  counted-below : (S : ℕ) → S < M ^ 8 → S < sum (eights M).counts (suc (8 * (M - 1)))
  counted-below S h = subst (λ (k : ℕ). S < k) (sym all-sets) h

  -- the rings of a number below M^8 are below M
  pub rings-below : (S : ℕ) → S < M ^ 8 → Below8 M (rings_of M S)
  rings-below S h =
      subst (Below8 M) (sym (rings-are M S))
      (fine-found (eights M) (eights_graded M) (8 * (M - 1)) (heaviest M) S (counted-below S h))

  -- rings of a number and number of rings undo each other
  pub rings_of-number : (x : Eight) → Below8 M x → rings_of M (number M x) ≡ x
  rings_of-number x h =
      rings-are M (number M x)
      ∙ (ap (item_of (eights M) (8 * (M - 1))) (number_is M x)
      ∙ item-number (eights M) (eights_graded M) (8 * (M - 1)) (heaviest M) x h)

  pub number_of-rings : (S : ℕ) → S < M ^ 8 → number M (rings_of M S) ≡ S
  number_of-rings S h =
      number_is M (rings_of M S)
      ∙ (ap (number_in (eights M)) (rings-are M S)
      ∙ number-item (eights M) (eights_graded M) (8 * (M - 1)) (heaviest M) S (counted-below S h))

  -- as many sets stand before x as its number says
  pub standing-is_number : (x : Eight) → Below8 M x → standing M x ≡ number M x
  unfolding standing before
  standing-is_number x h =
      count_same (eights M).Fine (λ y. before y x) (λ y. is_less (order_in (eights M) y x)) (λ y hy. ap is_less (order_is y x M))
      (all_eights M) (listed8 M).fine
      ∙ (standing-number (eights M) (eights_graded M) (8 * (M - 1)) (heaviest M) (all_eights M) (listed8 M) x h ∙ sym (number_is M x))

  -- the algorithm gives x for S exactly when S sets stand before x
  pub counting_is_listing : (S : ℕ) (x : Eight) → S < M ^ 8 → Below8 M x → (rings_of M S ≡ x) ↔ (standing M x ≡ S)
  counting_is_listing S x hS hx = (there, back)
    where
      there : rings_of M S ≡ x → standing M x ≡ S
      there e = standing-is_number x hx ∙ (ap (number M) (sym e) ∙ number_of-rings S hS)

      back : standing M x ≡ S → rings_of M S ≡ x
      back e = ap (rings_of M) (sym e ∙ standing-is_number x hx) ∙ rings_of-number x hx

  -- g2, g4 and g8 really count pairs, fours and eights by their sum, and z8 the lighter eights
  pub g2-counts : (p : ℕ) → count (λ x. eqb (weight2 x) p) (all_pairs M) ≡ g2 M p
  g2-counts p = counts-count (pairs M) (pairs_graded M) (all_pairs M) (listed2 M) p

  pub g4-counts : (p : ℕ) → count (λ x. eqb (weight4 x) p) (all_fours M) ≡ g4 M p
  unfolding g4
  g4-counts p = counts-count (fours M) (joined (pairs M) (pairs_graded M)) (all_fours M) (listed4 M) p

  pub g8-counts : (p : ℕ) → count (λ x. eqb (weight8 x) p) (all_eights M) ≡ g8 M p
  unfolding g8 g4
  g8-counts p = counts-count (eights M) (eights_graded M) (all_eights M) (listed8 M) p

  pub z8-counts : (p : ℕ) → count (λ x. ltb (weight8 x) p) (all_eights M) ≡ z8 M p
  unfolding z8 g8 g4
  z8-counts p = sum-counts (eights M) (eights_graded M) (all_eights M) (listed8 M) p
