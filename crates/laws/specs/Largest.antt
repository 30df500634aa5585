-- The largest number up to a limit at which a function is still small enough.
--
--     f b       0   4   7   7   9
--     b         0   1   2   3   4       largest f 8 4 ≡ 3, largest f 6 4 ≡ 1, largest f 8 2 ≡ 2
use Rattle.std.specs.Prelude.{cond, ℕ, zero, suc, leb}

-- the largest b ≤ n with f b ≤ r; 0 where there is none
unfoldable pub largest : (ℕ → ℕ) → ℕ → ℕ → ℕ
largest f r zero = zero
largest f r (suc n) = cond (leb (f (suc n)) r) (suc n) (largest f r n)
