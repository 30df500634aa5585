-- The listing order (document 01, "The listing order"), stated without counts. Two sets of eight rings are compared by eight
-- keys, and the first that differs decides, smaller first. For M = 2 the list begins
--
--     S    total   m1..m4   m5+m6   m7   m5   m1+m2   m3   m1     m1 to m8
--     0    0       0        0       0    0    0       0    0      0 0 0 0 0 0 0 0
--     1    1       0        0       0    0    0       0    0      0 0 0 0 0 0 0 1
--     2    1       0        0       1    0    0       0    0      0 0 0 0 0 0 1 0
--     3    1       0        1       0    0    0       0    0      0 0 0 0 0 1 0 0
--     4    1       0        1       0    1    0       0    0      0 0 0 0 1 0 0 0
--     5    1       1        0       0    0    0       0    0      0 0 0 1 0 0 0 0
use Rattle.std.specs.Prelude.{Bool, List, [], ◌∷◌, ℕ, ◌+◌}
use Rattle.laws.specs.Lists.{count}
use Rattle.laws.specs.Order.{compare_keys, is_less}
use Rattle.listing.specs.Sets.{Eight, m1, m2, m3, m4, m5, m6, m7, m8, all_eights}

unfoldable pub keys : Eight → List ℕ
keys x =
    (m1 x + m2 x + m3 x + m4 x + m5 x + m6 x + m7 x + m8 x)
    ∷ (m1 x + m2 x + m3 x + m4 x)
    ∷ (m5 x + m6 x)
    ∷ m7 x
    ∷ m5 x
    ∷ (m1 x + m2 x)
    ∷ m3 x
    ∷ m1 x
    ∷ []

-- x comes before y in the listing order
unfoldable pub before : Eight → Eight → Bool
before x y = is_less (compare_keys (keys x) (keys y))

-- how many of all sets of eight rings below M come before x
unfoldable pub standing : ℕ → Eight → ℕ
standing M x = count (λ y. before y x) (all_eights M)
