-- The loop of `bits::put_digits`: the digits that are put, and those of what is left of the number, are the digits of the number.
use Rattle.std.proofs.Common.{◌≡◌, ◌-◌, ◌++◌, take}
use Rattle.bits.specs.Digits.{digits}
use Rattle.bits.proofs.put_digits.Given as goal

abbrev pub invariant-loop-bit : goal.invariant-loop-bit
invariant-loop-bit l = take l.bit-index l.bit-items ++ digits (l.n - l.bit-index) l.left ≡ digits l.n l.x
