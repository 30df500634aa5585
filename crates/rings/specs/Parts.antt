-- Pairs and fours of rings, and what is found on the way to them, as the code holds them.
use Rattle.std.specs.Prelude.{List, [], ◌∷◌, ℕ, get_or, ◌*◌, ◌-◌, ◌/◌, ◌%◌}
use Rattle.laws.specs.Largest.{largest}
use Rattle.listing.specs.Counts.{g4, z8, lighter}
use Rattle.listing.specs.Sets.{Pair, Four}
use Rattle.rings.specs.declared.pair.PairOfRings.{PairOfRings}
use Rattle.rings.specs.declared.four.FourRings.{FourRings}
use Rattle.rings.specs.declared.number.Halves.{Halves}

abbrev pub pair_of : PairOfRings → Pair
pair_of x = (x.first, x.second)

abbrev pub four_of : FourRings → Four
four_of x = (pair_of x.first, pair_of x.second)

-- four rings in their order as two pairs, and back
abbrev pub four_in : List ℕ → Four
four_in l = ((get_or l 0 0, get_or l 1 0), (get_or l 2 0, get_or l 3 0))

abbrev pub rings_in : Four → List ℕ
rings_in x = x.0.0 ∷ x.0.1 ∷ x.1.0 ∷ x.1.1 ∷ []

-- steps 2 to 4 of clause 9.4: A, B, R2 and R3 of a number
unfoldable pub halves_of : ℕ → ℕ → Halves
halves_of M S =
    let A = largest (z8 M) S (8 * (M - 1)) in
    let R0 = S - z8 M A in
    let B = largest (lighter (g4 M) A) R0 A in
    let R1 = R0 - lighter (g4 M) A B in
    record { weight = A; first_weight = B; first_place = R1 % g4 M B; second_place = R1 / g4 M B }
