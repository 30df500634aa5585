-- The answer of ww_rank by its ways out: refused by the ranker, or done. Assumes nothing.
use mathlib.Core.Bool.{Bool, true, false, not, ◌&&◌, and-true, and-false}
use mathlib.Core.List.{List, [], ◌∷◌}
use mathlib.Core.Path.{◌≡◌, refl, sym, ap, ◌∙◌}
use Prim.Native.Nat.{ℕ}
use native.Mathlib.Omega.{arith}
use lib.Dec.{eqb}
use lib.ListN.{length, take}
use lib.Seq.{take_all}
use borrow.Author.Tests.{eq-eqb, ne_eqb, eqb-true, eqb-false}
use Rattle.laws.specs.Choice.{refusal}
use Rattle.laws.proofs.Bools.{and_right}
use Rattle.laws.proofs.Choices.{given as given-first}
use Rattle.listing.specs.Sets.{of_list}
use Rattle.listing.specs.Number.{number}
use Rattle.rings.specs.Mapping.{rank_refusal, Ranked, ranked, ranked_of}
use Rattle.rings.proofs.Answering.{first_tests}
use Rattle.workerwax.proofs.Layouts.{words_one}
use Rattle.workerwax.specs.Calls.{filled, own, RankCall, rank_number}
use Rattle.workerwax.specs.Layout.{word, words, rank_bytes}
use Rattle.workerwax.specs.Lending.{shown_rings}
use Rattle.refusals.specs.declared.Refusal.{Refusal}
use Rattle.refusals.specs.Numbers.{number as refusal_number}
use Rattle.refusals.proofs.Once.{some_number}
use Rattle.std.specs.Prelude.{Ok, Err}

-- a slice that a refused call leaves, and one that a call fills
pub as_it_was : (n : ℕ) (given before : List ℕ) → (n ≡ 0 → ⊥) → before ≡ filled n given before
as_it_was n given before some = let other = ne_eqb n 0 some in rw other

pub filled_up : (n : ℕ) (given before : List ℕ) → n ≡ 0 → given ≡ filled n given before
filled_up n given before e = rw e

-- a part's own refusal, where there is one
pub own-given : (n : ℕ) (rest : List (Bool × ℕ)) → (n ≡ 0 → ⊥) → refusal (own n ∷ rest) ≡ n
own-given n rest some = given-first (not (eqb n 0)) n rest (ap not (ne_eqb n 0 some))

-- ww_rank: `shown` is what the ranker is shown, and its number is the call's.
module _ (K M : ℕ) (rings answer : List ℕ) where
  abbrev pub shown : List ℕ
  shown = take (shown_rings (length rings) (length answer)) rings

  -- all rings, with an answer of its length
  pub all_shown : length answer ≡ rank_bytes → shown ≡ rings
  unfolding shown_rings
  all_shown e = rw (eq-eqb (length answer) rank_bytes e) (take_all (length rings) rings (omega arith))

  pub rank_same : length answer ≡ rank_bytes → rank_number K M rings (length answer) ≡ rank_refusal (eqb (length rings) 8) K M rings
  unfolding rank_number
  rank_same e = rw (e, and-true (eqb (length rings) 8))

  rank-other : (length answer ≡ rank_bytes → ⊥) → rank_refusal (eqb (length shown) 8) K M shown ≡ rank_number K M rings (length answer)
  unfolding rank_number rank_refusal shown_rings refusal
  rank-other wrong = let other = ne_eqb (length answer) rank_bytes wrong in rw (other, and-false (eqb (length rings) 8))

  pub rank_is : (ranked_of K M shown).refusal ≡ rank_number K M rings (length answer)
  unfolding ranked_of
  rank_is = go (eqb (length answer) rank_bytes) refl
    where
      go :
          (v : Bool) → eqb (length answer) rank_bytes ≡ v
          → rank_refusal (eqb (length shown) 8) K M shown ≡ rank_number K M rings (length answer)
      go true f =
          let e = eqb-true (length answer) rank_bytes f in
          ap (λ (l : List ℕ). rank_refusal (eqb (length l) 8) K M l) (all_shown e) ∙ sym (rank_same e)
      go false f = rank-other (λ e. eqb-false (length answer) rank_bytes f e)

  pub rank-refused : (r : ℕ) → r ≡ (ranked_of K M shown).refusal → (r ≡ 0 → ⊥) → RankCall K M rings answer r answer
  rank-refused r e some = let is = e ∙ rank_is in record { refusal = is; place = rw (← is) (as_it_was r _ answer some) }

  module _ (done : (ranked_of K M shown).refusal ≡ 0) where
    zero : rank_number K M rings (length answer) ≡ 0
    zero = sym rank_is ∙ done

    -- such an answer has its bytes
    pub rank-four : length answer ≡ rank_bytes
    unfolding rank_number rank_refusal
    rank-four =
        let exact = (first_tests K M rings (eqb (length rings) 8 && eqb (length answer) rank_bytes) _ zero).0.lengths in
        eqb-true (length answer) rank_bytes (and_right (eqb (length rings) 8) (eqb (length answer) rank_bytes) exact)

    pub rank-done : (after : List ℕ) → after ≡ word (ranked_of K M shown).number → RankCall K M rings answer 0 after
    unfolding ranked_of
    rank-done after is =
        let all = all_shown rank-four in
        let none : rank_refusal (eqb (length rings) 8) K M rings ≡ 0 = sym (rank_same rank-four) ∙ zero in
        let place : (ranked_of K M shown).number ≡ number M (of_list rings) = rw (all, none) in
        record { refusal = sym zero; place = is ∙ (ap word place ∙ filled_up _ _ answer zero) }

-- What the ranker's result tells of the call.
module _ (K M : ℕ) (rings answer : List ℕ) (k : ℕ) (is : k ≡ shown_rings (length rings) (length answer)) where
  pub rank-told :
      (refusal : Refusal) → ranked (Err refusal) ≡ ranked_of K M (take k rings) → RankCall K M rings answer (refusal_number refusal) answer
  rank-told refusal e =
      rank-refused K M rings answer _ (ap (λ (r : Ranked). r.refusal) (rw is at e)) (some_number refusal)

  module _ (n : ℕ) (e : ranked (Ok n) ≡ ranked_of K M (take k rings)) where
    none : (ranked_of K M (shown K M rings answer)).refusal ≡ 0
    none = sym (ap (λ (r : Ranked). r.refusal) (rw is at e))

    pub rank_told-four : length answer ≡ rank_bytes
    rank_told-four = rank-four K M rings answer none

    pub rank_told-done : (after : List ℕ) → after ≡ words (n ∷ []) → RankCall K M rings answer 0 after
    rank_told-done after laid =
        rank-done K M rings answer none after
        (laid ∙ (words_one n ∙ ap (λ (r : Ranked). word r.number) (rw is at e)))
