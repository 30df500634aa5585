use Rattle.std.proofs.Common.{◌≡◌, ◌+◌, ◌*◌, ◌++◌, length, take}
use Rattle.workerwax.proofs.layout.take_numbers.Given as goal

abbrev pub invariant-loop-number : goal.invariant-loop-number
invariant-loop-number g l =
    (take l.number-index l.numbers ++ g.N.LowestFirst.held l.left ≡ g.N.LowestFirst.held l.bytes)
    × (length l.left + g.row.WIDTH * l.number-index ≡ g.row.WIDTH * length l.numbers)
