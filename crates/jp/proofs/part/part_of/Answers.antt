-- `jp::part::part_of` meets its contract.
use mathlib.Core.Path.{◌≡◌, refl}
use lib.IntN.{pos}
use lib.Ieee.{binary64, of_int, of_bits, of_fields, round, size, span, climb, units, odd}
use Rattle.jp.specs.Part.{part_of}
use Rattle.jp.proofs.part.part_of.Goals as goal

-- 65536.0, as it is written, is the whole number 65,536
literal : of_bits binary64 4679240012837945344 ≡ of_int binary64 (pos 65536)
unfolding of_bits of_fields of_int round size span climb units odd
literal = refl

pub returns : goal.returns
unfolding part_of
returns c = rw literal
