use Rattle.std.proofs.Common.{◌≡◌, ◌*◌, ◌++◌, length, take, drop}
use Rattle.workerwax.proofs.layout.put_numbers.Given as goal

abbrev pub invariant-loop-i : goal.invariant-loop-i
invariant-loop-i g l =
    (take (g.row.WIDTH * l.i) l.out ++ g.N.LowestFirst.laid (drop l.i l.numbers) ≡ g.N.LowestFirst.laid l.numbers)
    × (length l.out ≡ g.row.WIDTH * length l.numbers)
