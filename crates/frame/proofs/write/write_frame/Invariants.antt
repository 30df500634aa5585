-- The loop of `write::write_frame`: the labels of j symbols are written.
use Rattle.frame.proofs.WriteLoop.{WrittenUpTo}
use Rattle.frame.proofs.write.write_frame.Given as goal

abbrev pub invariant-loop-j : goal.invariant-loop-j
invariant-loop-j l = WrittenUpTo l.shape l.bits l.ring l.z l.out l.at l.turned l.j
