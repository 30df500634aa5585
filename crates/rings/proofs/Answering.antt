-- What the functions need of the entries' answers: what a call that no test refuses is, and what a refused call answers. Nothing here says
-- that a call is accepted: Acceptance does. Assumes nothing.
use mathlib.Core.Bool.{Bool, true}
use mathlib.Core.List.{List, ◌++◌}
use mathlib.Core.Path.{◌≡◌, sym, ◌∙◌}
use Prim.Native.Nat.{ℕ, ◌^◌}
use lib.Dec.{eqb}
use lib.ListN.{length}
use borrow.Author.Tests.{leb-false, eqb-true, ne_eqb}
use Rattle.laws.specs.Choice.{refusal}
use Rattle.laws.proofs.Bools.{not-not}
use Rattle.laws.proofs.Choices.{none_first, none_rest, given-before}
use Rattle.listing.specs.Sets.{of_list}
use Rattle.listing.proofs.Agree.{standing-is_number}
use Rattle.rings.specs.Mapping.{Permitted, all_below}
use Rattle.rings.specs.Mapping.{Mappable, map_refusal, map_out, Rankable, rank_tests, rank_refusal, ranked_of}
use Rattle.rings.proofs.Tests.{permitted_is, all-below}

module _ (K M : ℕ) where
  -- what it says that the mapper refuses nothing
  pub map-accepted : (S lent : ℕ) → map_refusal K M S lent ≡ 0 → Mappable K M S lent
  unfolding map_refusal
  map-accepted S lent e =
      let e1 = none_rest _ _ _ e in
      let e2 = none_rest _ _ _ e1 in
      record {
        allowed = permitted_is K M (not-not _ (none_first _ _ _ e));
        eight = eqb-true lent 8 (not-not _ (none_first _ _ _ e1));
        low = leb-false (2 ^ K) S (none_first _ _ _ e2);
      }

  -- a refused mapping leaves the slice
  pub map-left : (S : ℕ) (out : List ℕ) → (map_refusal K M S (length out) ≡ 0 → ⊥) → out ≡ map_out K M S out
  unfolding map_out
  map-left S out h = rw (ne_eqb (map_refusal K M S (length out)) 0 h)

  -- what the ranker's first tests say
  pub record Tested (rings : List ℕ) (exact : Bool) : Type 0 where
    pub allowed : Permitted K M
    pub lengths : exact ≡ true
    pub below : all_below M rings ≡ true

  -- they come before whatever else is tested
  pub first_tests :
      (rings : List ℕ) (exact : Bool) (more : List (Bool × ℕ))
      → refusal (rank_tests exact K M rings ++ more) ≡ 0 → Tested rings exact × (refusal more ≡ 0)
  first_tests rings exact more e =
      let e1 = none_rest _ _ _ e in
      let e2 = none_rest _ _ _ e1 in
      let facts : Tested rings exact = record {
        allowed = permitted_is K M (not-not _ (none_first _ _ _ e));
        lengths = not-not exact (none_first _ _ _ e1);
        below = not-not _ (none_first _ _ _ e2);
      } in
      (facts, none_rest _ _ _ e2)

  -- what it says that the ranker refuses nothing
  pub rank-accepted : (rings : List ℕ) → rank_refusal (eqb (length rings) 8) K M rings ≡ 0 → Rankable K M rings
  unfolding rank_refusal
  rank-accepted rings e =
      let first = first_tests rings _ _ e in
      let t = first.0 in
      let eight = eqb-true (length rings) 8 t.lengths in
      let below = all-below M rings eight t.below in
      record {
        allowed = t.allowed;
        eight = eight;
        below = below;
        low = rw (standing-is_number M (of_list rings) below) (leb-false (2 ^ K) _ (none_first _ _ _ first.1));
      }

  -- a first test that refuses is the ranker's refusal
  pub rank-refused :
      (rings : List ℕ) (n : ℕ) → n ≡ refusal (rank_tests (eqb (length rings) 8) K M rings) → (n ≡ 0 → ⊥)
      → record { refusal = n; number = 0 } ≡ ranked_of K M rings
  unfolding ranked_of rank_refusal
  rank-refused rings n e h =
      let same : rank_refusal (eqb (length rings) 8) K M rings ≡ n = given-before _ _ (λ z. h (e ∙ z)) ∙ sym e in
      rw (same, ne_eqb n 0 h)
