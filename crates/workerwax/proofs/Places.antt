-- Demand 3 over the calls that C makes, whatever outcome fits their contracts. First in document 01's own words, by how many sets of all
-- below M stand before a set, and then each call undone by the other. K and M are permitted, and x is a set of rings below M.
--     ranks_by_standing      ww_rank answers 0 and the word S for x exactly when S sets stand before x and S < 2^K
--     refuses_by_standing    ww_rank refuses x with 11 exactly when 2^K sets or more stand before x
--     maps_by_standing       for S < 2^K ww_map answers 0, and its set is x exactly when S sets stand before x
--     maps_and_ranks         for S < 2^K both calls answer 0, S sets stand before the set, and the answer's word is S
--     ranks_and_maps         for a set that ww_rank accepts, ww_map gives the set back for the answer's word
--     refuses_heavy          a set before which 2^K sets or more stand is refused with 11, and the answer is as it was
-- Assumes nothing.
use mathlib.Core.List.{List, [], ◌∷◌}
use mathlib.Core.Logic.{◌↔◌}
use mathlib.Core.Path.{◌≡◌, refl, sym, ap, subst, ◌∙◌}
use Prim.Native.Nat.{ℕ, ◌^◌, ◌≤◌, ◌<◌}
use native.Mathlib.Nat.{pow-le-pow_right}
use native.Mathlib.Omega.{arith}
use lib.Dec.{eqb}
use lib.ListN.{length, get_or}
use Rattle.listing.specs.Sets.{Eight, Below8, as_list, of_list}
use Rattle.listing.specs.Order.{standing}
use Rattle.rings.specs.Mapping.{Permitted, map_refusal, map_out, MapAnswer, rank_refusal, ranked_of}
use Rattle.rings.specs.Mapping.{Ranked}
use Rattle.rings.proofs.Acceptance.{ranker_accepts}
use Rattle.rings.proofs.Demand3.{mapped, ranked}
use Rattle.rings.proofs.Demand3.{maps_by_standing as set-by-standing, ranks_by_standing as place-by-standing}
use Rattle.rings.proofs.Demand3.{refuses_by_standing as heavy-by-standing}
use Rattle.workerwax.specs.Calls.{rank_number, RankCall}
use Rattle.workerwax.specs.Layout.{rank_bytes, word, numbers_in}
use Rattle.workerwax.proofs.Ways.{as_it_was, filled_up, rank_same}
use Rattle.workerwax.proofs.Undone.{FourBytes, number-back}
use Rattle.workerwax.proofs.Accepts.{rank-accepts}

-- a number below 2^K is short
below-short : (K S : ℕ) → K ≤ 31 → S < 2 ^ K → FourBytes S
below-short K S few low = let top = pow-le-pow_right {n = 2} (omega arith) few in omega (arith, low, top)

module _ (K M : ℕ) where
  -- a call of ww_rank with the bytes of its answer has the ranker's own number, and the word of its place
  rank-number :
      (rings answer : List ℕ) (r : ℕ) (after : List ℕ) → length answer ≡ rank_bytes → RankCall K M rings answer r after
      → r ≡ (ranked_of K M rings).refusal
  unfolding ranked_of
  rank-number rings answer r after e call = call.refusal ∙ rank_same K M rings answer e

  rank-word :
      (rings answer : List ℕ) (r : ℕ) (after : List ℕ) → length answer ≡ rank_bytes → RankCall K M rings answer r after → r ≡ 0
      → after ≡ word (ranked_of K M rings).number
  unfolding ranked_of
  rank-word rings answer r after e call zero =
      let none : rank_number K M rings (length answer) ≡ 0 = sym call.refusal ∙ zero in
      let own : rank_refusal (eqb (length rings) 8) K M rings ≡ 0 = sym (rank_same K M rings answer e) ∙ none in
      call.place ∙ (sym (filled_up _ _ answer none) ∙ rw own)

  rank-says :
      (rings answer : List ℕ) (r : ℕ) (after : List ℕ) → length answer ≡ rank_bytes → RankCall K M rings answer r after → r ≡ 0
      → numbers_in after ≡ (ranked_of K M rings).number ∷ []
  rank-says rings answer r after e call zero =
      let none = sym (rank-number rings answer r after e call) ∙ zero in
      let a = (ranker_accepts K M rings).0 none in
      let low = (ranked K M rings rings none a.eight).low in
      ap numbers_in (rank-word rings answer r after e call zero) ∙ number-back _ (below-short K _ a.allowed.bits low)

  module _ (x : Eight) (permits : Permitted K M) (below : Below8 M x) where
    pub ranks_by_standing :
        (answer : List ℕ) → length answer ≡ rank_bytes → (r : ℕ) (after : List ℕ) → RankCall K M (as_list x) answer r after
        → (S : ℕ) → ((r ≡ 0) × (numbers_in after ≡ S ∷ [])) ↔ ((standing M x ≡ S) × (S < 2 ^ K))
    ranks_by_standing answer four r after call S = (there, back)
      where
        number : r ≡ (ranked_of K M (as_list x)).refusal
        number = rank-number (as_list x) answer r after four call

        there : (r ≡ 0) × (numbers_in after ≡ S ∷ []) → (standing M x ≡ S) × (S < 2 ^ K)
        there p =
            let says = rank-says (as_list x) answer r after four call p.0 in
            let place = ap (λ (l : List ℕ). get_or l 0 0) (sym says ∙ p.1) in
            let none = sym number ∙ p.0 in
            (place-by-standing K M x S permits below).0 (λ i. record { refusal = none i; number = place i })

        back : (standing M x ≡ S) × (S < 2 ^ K) → (r ≡ 0) × (numbers_in after ≡ S ∷ [])
        back h =
            let is = (place-by-standing K M x S permits below).1 h in
            let zero = number ∙ ap (λ (y : Ranked). y.refusal) is in
            (zero, rank-says (as_list x) answer r after four call zero ∙ ap (λ (y : Ranked). y.number ∷ []) is)

    pub refuses_by_standing :
        (answer : List ℕ) → length answer ≡ rank_bytes → (r : ℕ) (after : List ℕ) → RankCall K M (as_list x) answer r after
        → (r ≡ 11) ↔ (2 ^ K ≤ standing M x)
    refuses_by_standing answer four r after call = (there, back)
      where
        there : r ≡ 11 → 2 ^ K ≤ standing M x
        there eleven =
            let fewer = (ranks_by_standing answer four r after call (standing M x)).1 in
            let never : standing M x < 2 ^ K → ⊥ = λ low. omega (arith, eleven, (fewer (refl, low)).0) in
            omega arith

        back : 2 ^ K ≤ standing M x → r ≡ 11
        back heavy =
            rank-number (as_list x) answer r after four call
            ∙ ap (λ (y : Ranked). y.refusal) ((heavy-by-standing K M x permits below).1 heavy)

    pub maps_by_standing :
        (S : ℕ) → S < 2 ^ K → (rings : List ℕ) → length rings ≡ 8 → (r : ℕ) (set : List ℕ) → MapAnswer K M S rings r set
        → (r ≡ 0) × ((set ≡ as_list x) ↔ (standing M x ≡ S))
    maps_by_standing S low rings eight r set map =
        let same = set-by-standing K M S rings x permits eight low below in
        (map.refusal ∙ same.0, rw map.slice same.1)

  pub record Placed (S : ℕ) (set : List ℕ) (r q : ℕ) (after : List ℕ) : Type 0 where
    pub mapped : r ≡ 0
    pub stands : standing M (of_list set) ≡ S
    pub ranked : q ≡ 0
    pub place : numbers_in after ≡ S ∷ []

  pub maps_and_ranks :
      (S : ℕ) → Permitted K M → S < 2 ^ K
      → (rings : List ℕ) → length rings ≡ 8 → (r : ℕ) (set : List ℕ) → MapAnswer K M S rings r set
      → (answer : List ℕ) → length answer ≡ rank_bytes → (q : ℕ) (after : List ℕ) → RankCall K M set answer q after
      → Placed S set r q after
  maps_and_ranks S permits low rings eight r set map answer four q after rank =
      let m = mapped K M S rings permits eight low in
      let back : ranked_of K M set ≡ record { refusal = 0; number = S } = ap (ranked_of K M) map.slice ∙ m.back in
      let zero = rank-number set answer q after four rank ∙ ap (λ (x : Ranked). x.refusal) back in
      record {
        mapped = map.refusal ∙ m.done;
        stands = ap (λ (l : List ℕ). standing M (of_list l)) map.slice ∙ m.stands;
        ranked = zero;
        place = rank-says set answer q after four rank zero ∙ ap (λ (x : Ranked). x.number ∷ []) back;
      }

  pub record Found (rings : List ℕ) (S r : ℕ) (set : List ℕ) : Type 0 where
    pub stands : S ≡ standing M (of_list rings)
    pub low : S < 2 ^ K
    pub mapped : r ≡ 0
    pub back : set ≡ rings

  pub ranks_and_maps :
      (rings answer after : List ℕ) → RankCall K M rings answer 0 after
      → (S : ℕ) → numbers_in after ≡ S ∷ []
      → (out : List ℕ) → length out ≡ 8 → (r : ℕ) (set : List ℕ) → MapAnswer K M S out r set
      → Found rings S r set
  ranks_and_maps rings answer after rank S is out eight r set map =
      let four = ((rank-accepts K M rings answer 0 after rank).0 refl).1 in
      let b = ranked K M rings out (sym (rank-number rings answer 0 after four rank)) eight in
      let says = rank-says rings answer 0 after four rank refl in
      let same : S ≡ (ranked_of K M rings).number = ap (λ (l : List ℕ). get_or l 0 0) (sym is ∙ says) in
      record {
        stands = same ∙ b.stands;
        low = subst (λ (n : ℕ). n < 2 ^ K) (sym same) b.low;
        mapped = map.refusal ∙ (ap (λ (n : ℕ). map_refusal K M n (length out)) same ∙ b.done);
        back = map.slice ∙ (ap (λ (n : ℕ). map_out K M n out) same ∙ b.back);
      }

  pub refuses_heavy :
      (x : Eight) → Permitted K M → Below8 M x → 2 ^ K ≤ standing M x
      → (answer : List ℕ) → length answer ≡ rank_bytes → (r : ℕ) (after : List ℕ) → RankCall K M (as_list x) answer r after
      → (r ≡ 11) × (after ≡ answer)
  refuses_heavy x permits below heavy answer four r after call =
      let eleven = (refuses_by_standing x permits below answer four r after call).1 heavy in
      let some : rank_number K M (as_list x) (length answer) ≡ 0 → ⊥ = λ z. omega (arith, z, call.refusal, eleven) in
      (eleven, call.place ∙ sym (as_it_was _ _ answer some))
