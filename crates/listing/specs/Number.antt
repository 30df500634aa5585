-- From a number to eight rings and back (document 01, "The eight rings"; clause 9.4, steps 1 to 6), in the paper's letters.
-- For M = 2 and S = 10:
--
--     A = 2, R0 = 10 − 9 = 1      nine sets are lighter than 2
--     B = 0, R1 = 1               g4(0)·g4(2) = 6 is above 1
--     R2 = 1 mod 1 = 0, R3 = 1    the first four have place 0 among fours of weight 0, the second place 1 among those of weight 2
--     C = 0, R4 = 0               g2(0)·g2(0) = 1 is above 0
--     D = 1, R5 = 1 − 1 = 0       g2(0)·g2(2) = 1 is passed, g2(1)·g2(1) = 4 is not
--     E = F = 0; G = 0, H = 0     pairs of sums 0, 0, 1, 1 and place 0: (0, 0), (0, 0), (0, 1), (0, 1)
use Rattle.std.specs.Prelude.{cond, ℕ, ◌+◌, ◌*◌, ◌-◌, ◌/◌, ◌%◌, ltb}
use Rattle.laws.specs.Largest.{largest}
use Rattle.listing.specs.Sets.{Pair, Four, Eight, weight2, weight4, weight8}
use Rattle.listing.specs.Counts.{g2, g4, z8, lighter}

-- the pair of sum t and place e, (9-17) to (9-24): for t < M the rings are e and t − e; otherwise the second is M − 1 − e and
-- the first is t less that
unfoldable pub pair_at : ℕ → ℕ → ℕ → Pair
pair_at M t e = cond (ltb t M) (e, t - e) (t - (M - 1 - e), M - 1 - e)

-- the eight rings of the number S
unfoldable pub rings_of : ℕ → ℕ → Eight
rings_of M S =
    let A = largest (z8 M) S (8 * (M - 1)) in
    let R0 = S - z8 M A in
    let B = largest (lighter (g4 M) A) R0 A in
    let R1 = R0 - lighter (g4 M) A B in
    let R2 = R1 % g4 M B in
    let R3 = R1 / g4 M B in
    let C = largest (lighter (g2 M) B) R2 B in
    let R4 = R2 - lighter (g2 M) B C in
    let D = largest (lighter (g2 M) (A - B)) R3 (A - B) in
    let R5 = R3 - lighter (g2 M) (A - B) D in
    let E = R4 % g2 M C in
    let F = R4 / g2 M C in
    let G = R5 % g2 M D in
    let H = R5 / g2 M D in
    ((pair_at M C E, pair_at M (B - C) F), (pair_at M D G, pair_at M (A - B - D) H))

-- the four of sum t and place i: steps 5 and 6 for one four
unfoldable pub four_at : ℕ → ℕ → ℕ → Four
four_at M t i =
    let C = largest (lighter (g2 M) t) i t in
    let R = i - lighter (g2 M) t C in
    (pair_at M C (R % g2 M C), pair_at M (t - C) (R / g2 M C))

-- the place of a pair among those of its sum
unfoldable pub place_of_pair : ℕ → Pair → ℕ
place_of_pair M x = cond (ltb (weight2 x) M) x.0 (M - 1 - x.1)

-- the place of a four among those of its sum: R4 is F·g2(C) + E, and R2 what is lighter besides
unfoldable pub place_of_four : ℕ → Four → ℕ
place_of_four M x =
    let B = weight4 x in
    let C = weight2 x.0 in
    lighter (g2 M) B C + (place_of_pair M x.1 * g2 M C + place_of_pair M x.0)

-- the number of eight rings: R1 is R3·g4(B) + R2, and S what is lighter besides
unfoldable pub number : ℕ → Eight → ℕ
number M x =
    let A = weight8 x in
    let B = weight4 x.0 in
    z8 M A + (lighter (g4 M) A B + (place_of_four M x.1 * g4 M B + place_of_four M x.0))
