-- The offset in hertz: one division of the count by 50, in the arithmetic of IEEE 754's binary64.
--
--     count        −512     −511     −25     0     1        25      511
--     in hertz     none    −10.22   −0.5     0     0.02     0.5     10.22
--
-- Where the count is a multiple of 25 the hertz are exact; elsewhere they are the nearest that there is.
use Rattle.std.specs.Prelude.{cond, ℕ, eqb, ℤ, pos, negsuc, Float, Option, Some, None}
use Rattle.std.specs.Float.{binary64}
use Rattle.std.specs.Float.Ieee.{div, of_int, to_bits}

-- the count, a whole number and so exact as a float, over 50
unfoldable pub hertz_of : ℤ → Float
hertz_of count = div binary64 (of_int binary64 count) (of_int binary64 (pos 50))

-- −512 says that there is nothing to be read
abbrev pub reading_of : ℤ → Option Float
reading_of (pos n) = Some (hertz_of (pos n))
reading_of (negsuc n) = cond (eqb n 511) None (Some (hertz_of (negsuc n)))

-- what each case is in numbers: whether there is a reading, and its bit pattern
abbrev pub is_reading : Option Float → ℕ
is_reading (Some hertz) = 1
is_reading None = 0

abbrev pub pattern_of : Option Float → ℕ
pattern_of (Some hertz) = to_bits binary64 hertz
pattern_of None = 0
