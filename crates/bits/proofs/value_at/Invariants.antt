-- The loop of `bits::value_at`, which goes from the last bit to the first: what the bits that are left weigh, with the sum above them, is
-- the number that all are.
use Rattle.std.proofs.Common.{◌≡◌, ◌+◌, ◌*◌, ◌^◌, take, drop, length}
use Rattle.bits.specs.Digits.{value}
use Rattle.bits.proofs.value_at.Given as goal

abbrev pub invariant-loop-bit : goal.invariant-loop-bit
invariant-loop-bit l =
    let left = l.bit-iterator.iter.rest.now in
    (goal.iterator-loop-bit).can_next l.bit-iterator
    × (goal.iterator-loop-bit).is_finite l.bit-iterator
    × (value left + 2 ^ length left * l.sum ≡ value (take l.n (drop l.at l.bits)))
