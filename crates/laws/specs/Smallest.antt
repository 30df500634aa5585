-- The smallest number below a limit that passes a test.
--
--     test k    no   no   yes   yes
--     k         0    1    2     3        smallest test 3 ≡ 2, smallest test 2 ≡ 2, smallest test 1 ≡ 1
use Rattle.std.specs.Prelude.{Bool, cond, ℕ, zero, suc}

-- the smallest k < n that passes; n where none does
unfoldable pub smallest : (ℕ → Bool) → ℕ → ℕ
smallest test zero = zero
smallest test (suc n) = let k = smallest test n in cond (test k) k (suc n)
