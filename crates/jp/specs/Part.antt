-- The fraction as a part of a symbol: a whole number of 65,536ths, divided once, in the arithmetic of IEEE 754's binary64. 65,536 is 2^16, so
-- the quotient is a float as it is and nothing is rounded (proofs/Parts).
--
--     fraction             0       1          32768      65535
--     part of a symbol     0       2^−16      0.5        1 − 2^−16
use Rattle.std.specs.Prelude.{ℕ, pos, Float}
use Rattle.std.specs.Float.{binary64}
use Rattle.std.specs.Float.Ieee.{div, of_int}

unfoldable pub part_of : ℕ → Float
part_of fraction = div binary64 (of_int binary64 (pos fraction)) (of_int binary64 (pos 65536))
