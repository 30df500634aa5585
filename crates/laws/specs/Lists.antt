-- Plain lists: counted, and put together without an order in mind.
--
--     up_to 3                        0, 1, 2
--     product (up_to 2) (up_to 3)     (0, 0), (0, 1), (0, 2), (1, 0), (1, 1), (1, 2)
--     count even (up_to 5)           3
--     Every P (up_to 3)              P 0, P 1 and P 2
use Rattle.std.specs.Prelude.{Bool, cond, List, [], ◌∷◌, ◌++◌, map, ℕ, zero, suc}

-- the numbers below n
unfoldable pub up_to : ℕ → List ℕ
up_to zero = []
up_to (suc n) = up_to n ++ n ∷ []

-- every x of the first list with every y of the second
unfoldable pub product : {X Y : Type 0} → List X → List Y → List (X × Y)
product [] ys = []
product (x ∷ xs) ys = map (λ y. (x, y)) ys ++ product xs ys

-- how many of the list pass the test
unfoldable pub count : {X : Type 0} → (X → Bool) → List X → ℕ
count test [] = zero
count test (x ∷ xs) = cond (test x) (suc (count test xs)) (count test xs)

-- P holds of every x of the list
abbrev pub Every : {X : Type 0} → (X → Type 0) → List X → Type 0
Every P [] = Unit {0}
Every P (x ∷ xs) = P x × Every P xs
