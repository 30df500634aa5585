-- What the mapper and the ranker answer (document 01, "What comes back"), for all inputs. The first refusal that holds is given:
--
--     mapper                                            ranker
--     13   K above 31, M not 1 to 18, 2^K above M^8     13   the same
--     8    the lent slice has not eight bytes           8    there are not eight rings
--     14   S not below 2^K                              10   a ring not below M
--                                                       11   the number of the rings is 2^K or more
--
-- A refused call answers its number and 0 for the rest, and what was lent is as it was. For example
--
--     K    M   S     mapper             K    M   rings              ranker
--     8    2   255   0, 1 1 1 1 1 1 1 1   12   3   2 2 2 2 2 2 2 2    11, 0
--     8    2   256   14                  13   3   0 0 0 0 0 0 0 0    13, 0
use Rattle.std.specs.Prelude.{Result, Ok, Err, Bool, true, not, ◌&&◌, cond, List, [], ◌∷◌, ◌++◌, ◌≡◌, ℕ, ◌^◌, ◌≤◌, ◌<◌, leb, ltb, eqb, length}
use Rattle.laws.specs.Choice.{refusal}
use Rattle.listing.specs.Sets.{Eight, Below8, as_list, of_list}
use Rattle.listing.specs.Order.{standing}
use Rattle.listing.specs.Number.{rings_of, number}
use Rattle.refusals.specs.Numbers.{number as refusal_number}
use Rattle.refusals.specs.declared.Refusal.{Refusal}

-- the K and M that can be asked for
pub record Permitted (K M : ℕ) : Type 0 where
  pub bits : K ≤ 31
  pub low : 1 ≤ M
  pub high : M ≤ 18
  pub room : 2 ^ K ≤ M ^ 8

-- the same as a test
unfoldable pub permitted : ℕ → ℕ → Bool
permitted K M = leb K 31 && (leb 1 M && (leb M 18 && leb (2 ^ K) (M ^ 8)))

-- every ring of the list is below M
unfoldable pub all_below : ℕ → List ℕ → Bool
all_below M [] = true
all_below M (ring ∷ rings) = ltb ring M && all_below M rings

-- what the mapper tests; `lent` is the length of the slice lent to it
abbrev pub map_tests : ℕ → ℕ → ℕ → ℕ → List (Bool × ℕ)
map_tests K M S lent =
    (not (permitted K M), 13)
    ∷ (not (eqb lent 8), 8)
    ∷ (leb (2 ^ K) S, 14)
    ∷ []

-- the mapper's refusal number, 0 where the mapping is done
unfoldable pub map_refusal : ℕ → ℕ → ℕ → ℕ → ℕ
map_refusal K M S lent = refusal (map_tests K M S lent)

-- the calls that the mapper answers with 0, and no others: `mapper_accepts`
pub record Mappable (K M S lent : ℕ) : Type 0 where
  pub allowed : Permitted K M
  pub eight : lent ≡ 8
  pub low : S < 2 ^ K

-- the set that the mapper answers
unfoldable pub mapped_rings : ℕ → ℕ → Eight
mapped_rings M S = rings_of M S

-- the lent slice after the call
unfoldable pub map_out : ℕ → ℕ → ℕ → List ℕ → List ℕ
map_out K M S out = cond (eqb (map_refusal K M S (length out)) 0) (as_list (mapped_rings M S)) out

-- what the mapper must answer: the number r, and what the lent slice then holds
pub record MapAnswer (K M S : ℕ) (out : List ℕ) (r : ℕ) (after : List ℕ) : Type 0 where
  pub refusal : r ≡ map_refusal K M S (length out)
  pub slice : after ≡ map_out K M S out

-- what the ranker tests before it ranks, where `exact` says that each slice is as long as it has to be
abbrev pub rank_tests : Bool → ℕ → ℕ → List ℕ → List (Bool × ℕ)
rank_tests exact K M rings =
    (not (permitted K M), 13)
    ∷ (not exact, 8)
    ∷ (not (all_below M rings), 10)
    ∷ []

-- all that it tests: after these the number is looked at
abbrev pub ranker_tests : Bool → ℕ → ℕ → List ℕ → List (Bool × ℕ)
ranker_tests exact K M rings =
    rank_tests exact K M rings
    ++ (leb (2 ^ K) (number M (of_list rings)), 11)
    ∷ []

-- the ranker's refusal number, 0 where the set is ranked
unfoldable pub rank_refusal : Bool → ℕ → ℕ → List ℕ → ℕ
rank_refusal exact K M rings = refusal (ranker_tests exact K M rings)

-- the calls that the ranker answers with 0, and no others, by how many sets stand before the rings: `ranker_accepts`
pub record Rankable (K M : ℕ) (rings : List ℕ) : Type 0 where
  pub allowed : Permitted K M
  pub eight : length rings ≡ 8
  pub below : Below8 M (of_list rings)
  pub low : standing M (of_list rings) < 2 ^ K

-- the ranker's answer: 0 and the number, or the refusal and 0
pub record Ranked : Type 0 where
  pub refusal : ℕ
  pub number : ℕ

-- what is told of an outcome
abbrev pub ranked : Result ℕ Refusal → Ranked
ranked (Ok place) = record { refusal = 0; number = place }
ranked (Err reason) = record { refusal = refusal_number reason; number = 0 }

-- the ranker's answer, by the one length that it looks at
unfoldable pub ranked_of : ℕ → ℕ → List ℕ → Ranked
ranked_of K M rings =
    let no = rank_refusal (eqb (length rings) 8) K M rings in
    record { refusal = no; number = cond (eqb no 0) (number M (of_list rings)) 0 }
