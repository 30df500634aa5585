-- The cases that document 01 marks as proved, by two theorems over their list.
--     starred             the number gives the rings and the rings have the number, by the definitions; as many sets stand before them
--     starred_answered    with the case's K: the mapper answers 0 and the rings, the ranker 0 and the number
-- That K and M are permitted and S is below 2^K is computed from the list. Assumes nothing.
use mathlib.Core.Bool.{Bool, true, ◌&&◌}
use mathlib.Core.List.{List, [], ◌∷◌}
use mathlib.Core.Path.{◌≡◌, refl, ◌∙◌}
use Prim.Native.Nat.{ℕ, ◌^◌}
use lib.Dec.{ltb}
use lib.ListN.{length}
use borrow.Author.Tests.{ltb-true}
use Rattle.laws.specs.Largest.{largest}
use Rattle.laws.specs.Lists.{Every}
use Rattle.laws.specs.Sum.{sum}
use Rattle.laws.proofs.Bools.{and_parts}
use Rattle.listing.specs.Sets.{Below8, as_list, of_list}
use Rattle.listing.specs.Order.{standing}
use Rattle.listing.specs.Counts.{g2, g4, g8, z8, lighter}
use Rattle.listing.specs.Number.{number, rings_of, pair_at, place_of_pair, place_of_four}
use Rattle.listing.proofs.Agree.{standing-is_number}
use Rattle.rings.specs.Mapping.{permitted, all_below, map_refusal, map_out, ranked_of}
use Rattle.rings.specs.Cases.{Case, cases}
use Rattle.rings.proofs.Demand3.{maps_by_standing, ranks_by_standing}
use Rattle.rings.proofs.Tests.{permitted_is, all-below}

-- what is computed of a case, from the definitions
abbrev Computed : Case → Type 0
Computed c = (rings_of c.M c.S ≡ c.rings) × (number c.M c.rings ≡ c.S)

computed : Every Computed cases
unfolding rings_of number pair_at place_of_pair place_of_four g2 g4 g8 z8 lighter sum largest
computed = (
  (refl, refl),
  (
    (refl, refl),
    (
      (refl, refl),
      (
        (refl, refl),
        (
          (refl, refl),
          ((refl, refl), ((refl, refl), ((refl, refl), ((refl, refl), ((refl, refl), ((refl, refl), tt)))))),
        ),
      ),
    ),
  ),
)

-- what is shown of it
abbrev pub Holds : Case → Type 0
Holds c = (rings_of c.M c.S ≡ c.rings) × (number c.M c.rings ≡ c.S) × (standing c.M c.rings ≡ c.S)

-- the test that every ring of the cases is below its M
sets_below : List Case → Bool
sets_below [] = true
sets_below (c ∷ cs) = all_below c.M (as_list c.rings) && sets_below cs

first_below : (c : Case) (cs : List Case) → sets_below (c ∷ cs) ≡ true → Below8 c.M c.rings × (sets_below cs ≡ true)
unfolding sets_below of_list
first_below c cs e =
    let both = and_parts (all_below c.M (as_list c.rings)) (sets_below cs) e in
    (all-below c.M (as_list c.rings) refl both.0, both.1)

-- as many sets stand before a set as its number says
holding : (cs : List Case) → Every Computed cs → sets_below cs ≡ true → Every Holds cs
holding [] are fit = tt
holding (c ∷ cs) are fit =
    let b = first_below c cs fit in
    let here = are.0 in
    ((here.0, here.1, standing-is_number c.M c.rings b.0 ∙ here.1), holding cs are.1 b.1)

pub starred : Every Holds cases
unfolding sets_below all_below
starred = holding cases computed refl

-- what the mapper answers to the case's number, with any slice of eight lent, and the ranker to its rings
pub record Answered (c : Case) : Type 0 where
  pub done : (out : List ℕ) → length out ≡ 8 → map_refusal c.K c.M c.S (length out) ≡ 0
  pub maps : (out : List ℕ) → length out ≡ 8 → map_out c.K c.M c.S out ≡ as_list c.rings
  pub ranks : ranked_of c.K c.M (as_list c.rings) ≡ record { refusal = 0; number = c.S }

-- the test that the cases can be asked for: K and M are permitted, and the number is below 2^K
all_asked : List Case → Bool
all_asked [] = true
all_asked (c ∷ cs) = permitted c.K c.M && (ltb c.S (2 ^ c.K) && all_asked cs)

answered : (cs : List Case) → Every Holds cs → sets_below cs ≡ true → all_asked cs ≡ true → Every Answered cs
unfolding all_asked
answered [] hold fit asked = tt
answered (c ∷ cs) hold fit asked =
    let first = and_parts _ _ asked in
    let second = and_parts _ _ first.1 in
    let allowed = permitted_is c.K c.M first.0 in
    let low = ltb-true c.S (2 ^ c.K) second.0 in
    let below = first_below c cs fit in
    let stands = hold.0.2 in
    let answers : Answered c = record {
      done = λ out n. (maps_by_standing c.K c.M c.S out c.rings allowed n low below.0).0;
      maps = λ out n. (maps_by_standing c.K c.M c.S out c.rings allowed n low below.0).1.1 stands;
      ranks = (ranks_by_standing c.K c.M c.rings c.S allowed below.0).1 (stands, low);
    } in
    (answers, answered cs hold.1 below.1 second.1)

pub starred_answered : Every Answered cases
unfolding sets_below all_asked permitted all_below
starred_answered = answered cases starred refl refl
