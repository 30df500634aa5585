-- Demand 3, over the definitions that the entries' contracts name. First in document 01's own words, by how many sets of all below M stand
-- before a set, and then each entry undone by the other. K and M are permitted, and x is a set of rings below M.
--     maps_by_standing       for S < 2^K the mapping is done, and the mapper's set is x exactly when S sets stand before x
--     ranks_by_standing      the ranker gives S for x exactly when S sets stand before x and S < 2^K
--     refuses_by_standing    the ranker refuses x with 11 exactly when 2^K sets or more stand before x
--     mapped                 for S < 2^K: the mapping is done, S sets stand before the mapper's set, and the ranker gives S
--     ranked                 for a set that the ranker accepts: its number is below 2^K, and the mapper gives the set back for it
--     refused                a set before which 2^K sets or more stand is refused with 11
--     map-once, rank-once    at most one outcome fits each contract
-- Assumes nothing.
use mathlib.Core.List.{List}
use mathlib.Core.Logic.{◌↔◌}
use mathlib.Core.Path.{◌≡◌, refl, sym, ap, ◌∙◌}
use Prim.Native.Nat.{ℕ, ◌^◌, ◌≤◌, ◌<◌}
use native.Mathlib.Nat.{lt_of_lt_of_le}
use native.Mathlib.Omega.{arith}
use lib.ListN.{length}
use borrow.Author.Tests.{le-leb}
use Rattle.laws.specs.Choice.{refusal}
use Rattle.listing.specs.Sets.{Eight, Below8, as_list, of_list}
use Rattle.listing.specs.Order.{standing}
use Rattle.listing.specs.Number.{rings_of}
use Rattle.listing.proofs.Agree.{rings-below, counting_is_listing, standing-is_number}
use Rattle.rings.specs.Mapping.{Permitted, mapped_rings, map_refusal, map_out, MapAnswer, rank_refusal, Ranked, ranked_of}
use Rattle.rings.proofs.Acceptance.{mapper_accepts, ranker_accepts}
use Rattle.rings.proofs.Tests.{is_permitted, below_all, of_list-as_list, as_list-of_list}

module _ (K M : ℕ) where
  pub maps_by_standing :
      (S : ℕ) (out : List ℕ) (x : Eight) → Permitted K M → length out ≡ 8 → S < 2 ^ K → Below8 M x
      → (map_refusal K M S (length out) ≡ 0) × ((map_out K M S out ≡ as_list x) ↔ (standing M x ≡ S))
  unfolding map_out mapped_rings of_list
  maps_by_standing S out x p n h b =
      let done = (mapper_accepts K M S (length out)).1 (record { allowed = p; eight = n; low = h }) in
      let same = counting_is_listing M S x (lt_of_lt_of_le h p.room) b in
      let set : map_out K M S out ≡ as_list (rings_of M S) = rw done in
      (done, (λ e. same.0 (ap of_list (sym set ∙ e)), λ e. set ∙ ap as_list (same.1 e)))

  pub ranks_by_standing :
      (x : Eight) (S : ℕ) → Permitted K M → Below8 M x
      → (ranked_of K M (as_list x) ≡ record { refusal = 0; number = S }) ↔ ((standing M x ≡ S) × (S < 2 ^ K))
  unfolding ranked_of of_list
  ranks_by_standing x S p b = (there, back)
    where
      there : ranked_of K M (as_list x) ≡ record { refusal = 0; number = S } → (standing M x ≡ S) × (S < 2 ^ K)
      there e =
          let none = ap (λ (r : Ranked). r.refusal) e in
          let same : standing M x ≡ S = standing-is_number M x b ∙ (rw none at (ap (λ (r : Ranked). r.number) e)) in
          (same, rw same at ((ranker_accepts K M (as_list x)).0 none).low)

      back : (standing M x ≡ S) × (S < 2 ^ K) → ranked_of K M (as_list x) ≡ record { refusal = 0; number = S }
      back h =
          let none = (ranker_accepts K M (as_list x)).1 (record { allowed = p; eight = refl; below = b; low = rw h.0 h.1 }) in
          rw (none, ← standing-is_number M x b, h.0)

  pub refuses_by_standing :
      (x : Eight) → Permitted K M → Below8 M x
      → (ranked_of K M (as_list x) ≡ record { refusal = 11; number = 0 }) ↔ (2 ^ K ≤ standing M x)
  unfolding ranked_of rank_refusal refusal of_list
  refuses_by_standing x p b = (there, back)
    where
      there : ranked_of K M (as_list x) ≡ record { refusal = 11; number = 0 } → 2 ^ K ≤ standing M x
      there e =
          let fewer = (ranks_by_standing x (standing M x) p b).1 in
          let never : standing M x < 2 ^ K → ⊥ = λ l. omega (arith, ap (λ (r : Ranked). r.refusal) (sym (fewer (refl, l)) ∙ e)) in
          omega arith

      back : 2 ^ K ≤ standing M x → ranked_of K M (as_list x) ≡ record { refusal = 11; number = 0 }
      back h =
          rw (is_permitted K M p, below_all M x b, ← standing-is_number M x b, le-leb (2 ^ K) (standing M x) h)

  -- for permitted K, M and S < 2^K the mapper answers 0 and a set of rings below M that S sets stand before, and the ranker gives
  -- S back for it
  pub record Mapped (S : ℕ) (out : List ℕ) : Type 0 where
    pub done : map_refusal K M S (length out) ≡ 0
    pub below : Below8 M (of_list (map_out K M S out))
    pub stands : standing M (of_list (map_out K M S out)) ≡ S
    pub back : ranked_of K M (map_out K M S out) ≡ record { refusal = 0; number = S }

  pub mapped : (S : ℕ) (out : List ℕ) → Permitted K M → length out ≡ 8 → S < 2 ^ K → Mapped S out
  mapped S out p n h =
      let x = rings_of M S in
      let room : S < M ^ 8 = lt_of_lt_of_le h p.room in
      let below = rings-below M S room in
      let stands = (counting_is_listing M S x room below).0 refl in
      let maps = maps_by_standing S out x p n h below in
      let set = maps.1.1 stands in
      record {
        done = maps.0;
        below = rw (set, of_list-as_list x) below;
        stands = rw (set, of_list-as_list x) stands;
        back = rw set ((ranks_by_standing x S p below).1 (stands, h));
      }

  -- for a set that the ranker accepts, its number is how many sets stand before it, it is below 2^K, and the mapper gives the set
  -- back for it
  pub record RankedBack (rings out : List ℕ) : Type 0 where
    pub stands : (ranked_of K M rings).number ≡ standing M (of_list rings)
    pub low : (ranked_of K M rings).number < 2 ^ K
    pub done : map_refusal K M (ranked_of K M rings).number (length out) ≡ 0
    pub back : map_out K M (ranked_of K M rings).number out ≡ rings

  pub ranked : (rings out : List ℕ) → (ranked_of K M rings).refusal ≡ 0 → length out ≡ 8 → RankedBack rings out
  ranked rings out e n =
      let a = (ranker_accepts K M rings).0 e in
      let S = (ranked_of K M rings).number in
      let x = of_list rings in
      let same = as_list-of_list rings a.eight in
      let zero : ranked_of K M rings ≡ record { refusal = 0; number = S } = ap (λ (k : ℕ). record { refusal = k; number = S }) e in
      let place = (ranks_by_standing x S a.allowed a.below).0 (ap (ranked_of K M) same ∙ zero) in
      let maps = maps_by_standing S out x a.allowed n place.1 a.below in
      record { stands = sym place.0; low = place.1; done = maps.0; back = maps.1.1 place.0 ∙ same }

  -- a set of rings below M before which 2^K sets or more stand is refused with 11
  pub refused :
      (x : Eight) → Permitted K M → Below8 M x → 2 ^ K ≤ standing M x
      → ranked_of K M (as_list x) ≡ record { refusal = 11; number = 0 }
  refused x p b h = (refuses_by_standing x p b).1 h

-- at most one outcome fits the mapper's contract, and one the ranker's
pub map-once :
    (K M S : ℕ) (out : List ℕ) (r r' : ℕ) (after after' : List ℕ)
    → MapAnswer K M S out r after → MapAnswer K M S out r' after' → (r ≡ r') × (after ≡ after')
map-once K M S out r r' after after' a b = (a.refusal ∙ sym b.refusal, a.slice ∙ sym b.slice)

pub rank-once : (K M : ℕ) (rings : List ℕ) (r r' : Ranked) → r ≡ ranked_of K M rings → r' ≡ ranked_of K M rings → r ≡ r'
rank-once K M rings r r' a b = a ∙ sym b
