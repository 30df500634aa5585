-- The loop of `bits::all_bits`: what the flag says of the bytes before this one and the test of the rest are the test of all.
use Rattle.std.proofs.Common.{◌≡◌, ◌&&◌, drop}
use Rattle.bits.specs.Digits.{all_bits}
use Rattle.bits.proofs.all_bits.Given as goal

abbrev pub invariant-loop-bit : goal.invariant-loop-bit
invariant-loop-bit l = (l.good && all_bits (drop l.bit-index l.bits)) ≡ all_bits l.bits
