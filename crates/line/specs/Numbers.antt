-- The numbers that follow from the settings (document 01; V.34, clauses 8.2 and 9.2). For s 5, n 14: J 8, P 15, and
--
--     N = 84·14 = 1176
--     b = 79          79·15 = 1185 is at least 1176, and 78·15 = 1170 is not
--     r = 1176 − 78·15 = 6
--     q = 5, K = 27   79 − 12 − 8·5 = 27 is below 32, and 79 − 12 − 8·4 = 35 is not
--     M = 11          11^8 = 214,358,881 is at least 2^27 = 134,217,728, and 10^8 is not
--     M = 13          expanded: 1.25·2^(27/8) = 12.97
--     L = 4·13·2^5 = 1664
use Rattle.std.specs.Prelude.{cond, ℕ, ◌+◌, ◌*◌, ◌-◌, ◌^◌, max, leb, ltb, eqb}
use Rattle.laws.specs.Smallest.{smallest}

-- N: the bits in a data frame
unfoldable pub bits_of : ℕ → ℕ → ℕ
bits_of J n = cond (eqb J 7) (96 * n) (84 * n)

-- b: the smallest whole number with b·P at least N
unfoldable pub high_of : ℕ → ℕ → ℕ
high_of N P = smallest (λ b. leb N (b * P)) N

-- r = N − (b − 1)·P
unfoldable pub step_of : ℕ → ℕ → ℕ → ℕ
step_of N P b = N - (b - 1) * P

-- q: 0 where b is at most 12, and otherwise the smallest whole number with b − 12 − 8q below 32
unfoldable pub uncoded_of : ℕ → ℕ
uncoded_of b = cond (leb b 12) 0 (smallest (λ q. ltb (b - 12 - 8 * q) 32) b)

-- K: 0 where b is at most 12, and otherwise that difference
unfoldable pub shell_of : ℕ → ℕ
shell_of b = cond (leb b 12) 0 (b - 12 - 8 * uncoded_of b)

-- minimum M: the smallest M with M^8 at least 2^K
unfoldable pub minimum_of : ℕ → ℕ
minimum_of K = smallest (λ M. leb (2 ^ K) (M ^ 8)) 18

-- the M with (4M − 2)^8 ≤ 5^8·2^K < (4M + 2)^8: the whole number nearest to 1.25·2^(K/8), a half going up. It is the smallest M
-- with 5^8·2^K < (4M + 2)^8, since (4M − 2)^8 is (4(M − 1) + 2)^8
unfoldable pub nearest_of : ℕ → ℕ
nearest_of K = smallest (λ M. ltb (5 ^ 8 * 2 ^ K) ((4 * M + 2) ^ 8)) 18

-- expanded M: that, or the minimum where that is smaller
unfoldable pub expanded_of : ℕ → ℕ
expanded_of K = max (nearest_of K) (minimum_of K)

-- L = 4·M·2^q points
unfoldable pub points_of : ℕ → ℕ → ℕ
points_of M q = 4 * M * 2 ^ q
