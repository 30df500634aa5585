-- Whole numbers with a sign, in two's complement: the weight of the highest bit, `half`, counts negative and all others count as ever. For
-- ten bits `half` is 512.
--
--     bits as a number     0     1    ..     511      512    ..    1023
--     what they are        0     1    ..     511     −512    ..      −1
--
-- (`pos n` is n, and `negsuc n` is −(n + 1).)
use Rattle.std.specs.Prelude.{cond, ℕ, suc, ◌+◌, ◌-◌, ltb, ℤ, pos, negsuc}

-- the number that some bits are, which are n as a number without a sign
abbrev pub signed : ℕ → ℕ → ℤ
signed half n = cond (ltb n half) (pos n) (negsuc (half + half - suc n))

-- the bits of a number; half + half, which the bits can't hold, for a number that they can't hold either
abbrev pub unsigned : ℕ → ℤ → ℕ
unsigned half (pos n) = cond (ltb n half) n (half + half)
unsigned half (negsuc n) = cond (ltb n half) (half + half - suc n) (half + half)
