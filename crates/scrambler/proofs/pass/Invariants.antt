-- The loop of `scrambler::pass`: i bits are done.
use Rattle.std.proofs.Common.{not, nat_eq}
use Rattle.scrambler.proofs.Slices.{Going}
use Rattle.scrambler.proofs.pass.Given as goal

abbrev pub invariant-loop-i : goal.invariant-loop-i
invariant-loop-i g l = Going (not (nat_eq g.row.BACK 0)) l.role l.register l.bits l.fn.out l.out l.held l.i
