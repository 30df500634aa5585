-- Sets of rings. V.34 takes the eight rings m1 to m8 of a mapping frame as two fours, and a four as two pairs:
--
--     ((m1 , m2) , (m3 , m4)) , ((m5 , m6) , (m7 , m8))
--
-- The weight of a ring is its number, and that of a set the sum of its rings. Below M there are M^8 sets of eight; for M = 2
-- they are the 256 ways to write eight rings 0 or 1.
use Rattle.std.specs.Prelude.{List, [], ◌∷◌, ℕ, ◌+◌, ◌<◌, get_or}
use Rattle.laws.specs.Lists.{up_to, product}

abbrev pub Pair : Type 0
Pair = ℕ × ℕ

abbrev pub Four : Type 0
Four = Pair × Pair

abbrev pub Eight : Type 0
Eight = Four × Four

-- the rings by their names
abbrev pub m1 : Eight → ℕ
m1 x = x.0.0.0

abbrev pub m2 : Eight → ℕ
m2 x = x.0.0.1

abbrev pub m3 : Eight → ℕ
m3 x = x.0.1.0

abbrev pub m4 : Eight → ℕ
m4 x = x.0.1.1

abbrev pub m5 : Eight → ℕ
m5 x = x.1.0.0

abbrev pub m6 : Eight → ℕ
m6 x = x.1.0.1

abbrev pub m7 : Eight → ℕ
m7 x = x.1.1.0

abbrev pub m8 : Eight → ℕ
m8 x = x.1.1.1

-- m1 to m8 as a list, and eight rings taken from the head of a list
abbrev pub as_list : Eight → List ℕ
as_list x = m1 x ∷ m2 x ∷ m3 x ∷ m4 x ∷ m5 x ∷ m6 x ∷ m7 x ∷ m8 x ∷ []

unfoldable pub of_list : List ℕ → Eight
of_list l =
    (((get_or l 0 0, get_or l 1 0), (get_or l 2 0, get_or l 3 0)), ((get_or l 4 0, get_or l 5 0), (get_or l 6 0, get_or l 7 0)))

-- the sums of rings
abbrev pub weight2 : Pair → ℕ
weight2 x = x.0 + x.1

abbrev pub weight4 : Four → ℕ
weight4 x = weight2 x.0 + weight2 x.1

abbrev pub weight8 : Eight → ℕ
weight8 x = weight4 x.0 + weight4 x.1

-- every ring is below M
abbrev pub Below2 : ℕ → Pair → Type 0
Below2 M x = (x.0 < M) × (x.1 < M)

abbrev pub Below4 : ℕ → Four → Type 0
Below4 M x = Below2 M x.0 × Below2 M x.1

abbrev pub Below8 : ℕ → Eight → Type 0
Below8 M x = Below4 M x.0 × Below4 M x.1

-- all pairs, fours and eights of rings below M
unfoldable pub all_pairs : ℕ → List Pair
all_pairs M = product (up_to M) (up_to M)

unfoldable pub all_fours : ℕ → List Four
all_fours M = product (all_pairs M) (all_pairs M)

unfoldable pub all_eights : ℕ → List Eight
all_eights M = product (all_fours M) (all_fours M)
