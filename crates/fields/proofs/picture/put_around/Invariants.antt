-- The loop of `fields::picture::put_around`, by proofs/Places.
use Rattle.fields.proofs.Places.{Framed}
use Rattle.fields.proofs.picture.put_around.Given as goal

abbrev pub invariant-loop-i : goal.invariant-loop-i
invariant-loop-i l = Framed l.picture l.body l.initial.bits l.bits l.k l.i
