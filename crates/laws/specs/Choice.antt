-- Refusals in their order: of several that hold the first is given, and 0 where none holds.
--
--     refusal ((a, 13) ∷ (b, 8) ∷ [])     13 where a holds; else 8 where b holds; else 0
--     follows (7, 13, 8, 9) (7, 8)        true: a row in which 7 stands before 8
--     follows (7, 13, 8, 9) (8, 13)       false
use Rattle.std.specs.Prelude.{Bool, true, false, cond, List, [], ◌∷◌, ℕ, eqb}

unfoldable pub refusal : List (Bool × ℕ) → ℕ
refusal [] = 0
refusal (test ∷ tests) = cond test.0 test.1 (refusal tests)

-- the numbers of refusals, in their order
unfoldable pub numbered : List (Bool × ℕ) → List ℕ
numbered [] = []
numbered (test ∷ tests) = test.1 ∷ numbered tests

-- whether the numbers stand in the row in the same order; the row may have others between them
unfoldable pub follows : List ℕ → List ℕ → Bool
follows row [] = true
follows [] (number ∷ numbers) = false
follows (place ∷ row) (number ∷ numbers) = cond (eqb place number) (follows row numbers) (follows row (number ∷ numbers))
