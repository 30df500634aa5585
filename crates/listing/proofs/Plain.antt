-- The plain lists of pairs, fours and eights hold every set of rings below M once, and there are M^8 sets of eight. Assumes nothing.
use mathlib.Core.Bool.{◌&&◌}
use mathlib.Core.List.{List}
use mathlib.Core.Path.{◌≡◌, refl, ap₂, ◌∙◌}
use Prim.Native.Nat.{ℕ, ◌*◌, ◌^◌, ◌<◌}
use native.Mathlib.Omega.{arith}
use lib.Dec.{eqb}
use lib.ListN.{length}
use borrow.Author.Tests.{eqb-true, eq-eqb}
use Rattle.laws.specs.Lists.{up_to, product}
use Rattle.laws.proofs.Bools.{and_parts, and_both}
use Rattle.laws.proofs.Counting.{every-up_to, once-up_to, length-up_to, every-product, count-product, length-product}
use Rattle.laws.proofs.Powers.{three_squarings}
use Rattle.listing.specs.Sets.{all_pairs, all_fours, all_eights}
use Rattle.listing.proofs.Family.{Family, join}
use Rattle.listing.proofs.Listing.{Listed}
use Rattle.listing.proofs.Pairs.{pairs}

pairs-listed : (M : ℕ) → Listed (pairs M) (all_pairs M)
unfolding all_pairs
pairs-listed M =
    record {
      same = λ x y. eqb x.0 y.0 && eqb x.1 y.1;
      same_true = λ x y e.
          let both = and_parts (eqb x.0 y.0) (eqb x.1 y.1) e in
          ap₂ (λ (a b : ℕ). (a, b)) (eqb-true x.0 y.0 both.0) (eqb-true x.1 y.1 both.1);
      same_self = λ x. and_both (eqb x.0 x.0) (eqb x.1 x.1) (eq-eqb x.0 x.0 refl) (eq-eqb x.1 x.1 refl);
      fine = every-product (λ k. k < M) (λ k. k < M) (up_to M) (up_to M) (every-up_to M M (omega arith)) (every-up_to M M (omega arith));
      once = λ x h.
          count-product (eqb x.0) (eqb x.1) (up_to M) (up_to M)
          ∙ ap₂ ◌*◌ (once-up_to M x.0 h.0) (once-up_to M x.1 h.1);
    }

-- all pairs out of a list that holds each item once hold each pair once
joined-listed : {X : Type 0} (𝓕 : Family X) (all : List X) → Listed 𝓕 all → Listed (join 𝓕) (product all all)
joined-listed 𝓕 all 𝓛 =
    record {
      same = λ x y. 𝓛.same x.0 y.0 && 𝓛.same x.1 y.1;
      same_true = λ x y e.
          let both = and_parts (𝓛.same x.0 y.0) (𝓛.same x.1 y.1) e in
          ap₂ (λ a b. (a, b)) (𝓛.same_true x.0 y.0 both.0) (𝓛.same_true x.1 y.1 both.1);
      same_self = λ x. and_both (𝓛.same x.0 x.0) (𝓛.same x.1 x.1) (𝓛.same_self x.0) (𝓛.same_self x.1);
      fine = every-product 𝓕.Fine 𝓕.Fine all all 𝓛.fine 𝓛.fine;
      once = λ x h. count-product (𝓛.same x.0) (𝓛.same x.1) all all ∙ ap₂ ◌*◌ (𝓛.once x.0 h.0) (𝓛.once x.1 h.1);
    }

module _ (M : ℕ) where
  pub listed2 : Listed (pairs M) (all_pairs M)
  listed2 = pairs-listed M

  pub listed4 : Listed (join (pairs M)) (all_fours M)
  unfolding all_fours
  listed4 = joined-listed (pairs M) (all_pairs M) listed2

  pub listed8 : Listed (join (join (pairs M))) (all_eights M)
  unfolding all_eights
  listed8 = joined-listed (join (pairs M)) (all_fours M) listed4

  pub length-all_eights : length (all_eights M) ≡ M ^ 8
  unfolding all_eights all_fours all_pairs
  length-all_eights =
      length-product (all_fours M) (all_fours M)
      ∙ (ap₂ ◌*◌ fours fours ∙ three_squarings M)
    where
      pairs-length : length (all_pairs M) ≡ M * M
      pairs-length = length-product (up_to M) (up_to M) ∙ ap₂ ◌*◌ (length-up_to M) (length-up_to M)

      fours : length (all_fours M) ≡ M * M * (M * M)
      fours = length-product (all_pairs M) (all_pairs M) ∙ ap₂ ◌*◌ pairs-length pairs-length
