-- The counts of clause 9.4: how many pairs, fours and eights of rings below M have a given sum. For M = 2
--
--     p      0   1   2    3    4    5    6    7    8
--     g2     1   2   1    0
--     g4     1   4   6    4    1    0
--     g8     1   8   28   56   70   56   28   8    1
--     z8     0   1   9    37   93   163  219  247  255
use Rattle.std.specs.Prelude.{ℕ, suc, ◌+◌, ◌*◌, ◌-◌}
use Rattle.laws.specs.Sum.{sum}

-- abs[p − q]
abbrev pub distance : ℕ → ℕ → ℕ
distance p q = (p - q) + (q - p)

-- (9-3): M − abs[p − M + 1] up to 2(M − 1). Above that the difference of natural numbers is 0, as the clause wants it
unfoldable pub g2 : ℕ → ℕ → ℕ
g2 M p = M - distance p (M - 1)

-- the sum of g(p)·g(t − p) over p < b: of the sets of weight t made of two halves that g counts, those whose first half
-- weighs less than b
unfoldable pub lighter : (ℕ → ℕ) → ℕ → ℕ → ℕ
lighter g t = sum (λ p. g p * g (t - p))

-- (9-4): g2(0)·g2(p) + g2(1)·g2(p − 1) + .. + g2(p)·g2(0)
unfoldable pub g4 : ℕ → ℕ → ℕ
g4 M p = lighter (g2 M) p (suc p)

-- (9-5): g4(0)·g4(p) + g4(1)·g4(p − 1) + .. + g4(p)·g4(0)
unfoldable pub g8 : ℕ → ℕ → ℕ
g8 M p = lighter (g4 M) p (suc p)

-- (9-6): g8(0) + g8(1) + .. + g8(p − 1)
unfoldable pub z8 : ℕ → ℕ → ℕ
z8 M = sum (g8 M)
