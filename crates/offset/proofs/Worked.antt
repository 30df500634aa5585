-- The offset worked out apart: what some bits are as a number, and some counts in hertz as bit patterns of binary64. Assumes nothing.
use mathlib.Core.Path.{◌≡◌, refl}
use lib.IntN.{pos, negsuc}
use lib.Ieee.{div, of_int, to_bits, binary64, of_bits, of_fields, round, size, span, climb, units, odd}
use Rattle.std.specs.Prelude.{None}
use Rattle.offset.specs.Hertz.{hertz_of, reading_of, pattern_of}
use Rattle.offset.specs.Signed.{signed}

-- ---- ten bits

pub bits_0 : signed 512 0 ≡ pos 0
bits_0 = refl

pub bits_511 : signed 512 511 ≡ pos 511
bits_511 = refl

pub bits_512 : signed 512 512 ≡ negsuc 511
bits_512 = refl

pub bits_1023 : signed 512 1023 ≡ negsuc 0
bits_1023 = refl

-- ---- hertz

-- 50.0, as the code writes it, is the whole number 50
pub fifty : of_bits binary64 4632233691727265792 ≡ of_int binary64 (pos 50)
unfolding of_bits of_fields of_int round size span climb units odd
fifty = refl

pub hertz_of_0 : pattern_of (reading_of (pos 0)) ≡ 0
unfolding hertz_of to_bits div of_int round size span climb units odd
hertz_of_0 = refl

-- 0.02 is 0x3F947AE147AE147B
pub hertz_of_1 : pattern_of (reading_of (pos 1)) ≡ 4581421828931458171
unfolding hertz_of to_bits div of_int round size span climb units odd
hertz_of_1 = refl

-- −0.02 is 0xBF947AE147AE147B
pub hertz_of-minus_1 : pattern_of (reading_of (negsuc 0)) ≡ 13804793865786233979
unfolding hertz_of to_bits div of_int round size span climb units odd
hertz_of-minus_1 = refl

-- 0.5 is 0x3FE0000000000000
pub hertz_of_25 : pattern_of (reading_of (pos 25)) ≡ 4602678819172646912
unfolding hertz_of to_bits div of_int round size span climb units odd
hertz_of_25 = refl

-- 0.7 is 0x3FE6666666666666. One multiplication by 0.02, which is itself rounded, would give 0x3FE6666666666667
pub hertz_of_35 : pattern_of (reading_of (pos 35)) ≡ 4604480259023595110
unfolding hertz_of to_bits div of_int round size span climb units odd
hertz_of_35 = refl

-- 10.22 is 0x402470A3D70A3D71, and −10.22 is 0xC02470A3D70A3D71
pub hertz_of_511 : pattern_of (reading_of (pos 511)) ≡ 4621942966578724209
unfolding hertz_of to_bits div of_int round size span climb units odd
hertz_of_511 = refl

pub hertz_of-minus_511 : pattern_of (reading_of (negsuc 510)) ≡ 13845315003433500017
unfolding hertz_of to_bits div of_int round size span climb units odd
hertz_of-minus_511 = refl

pub none_of_minus_512 : reading_of (negsuc 511) ≡ None
none_of_minus_512 = refl
