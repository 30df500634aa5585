-- Sums over the numbers below a limit.
--
--     n         0   1     2           3
--     sum f n   0   f 0   f 0 + f 1   f 0 + f 1 + f 2
use Rattle.std.specs.Prelude.{ℕ, zero, suc, ◌+◌}

-- f 0 + f 1 + .. + f (n − 1)
unfoldable pub sum : (ℕ → ℕ) → ℕ → ℕ
sum f zero = zero
sum f (suc n) = sum f n + f n
