-- The loop of `fields::picture::take_inside`, by proofs/Places.
use Rattle.fields.proofs.Places.{Gathered}
use Rattle.fields.proofs.picture.take_inside.Given as goal

abbrev pub invariant-loop-i : goal.invariant-loop-i
invariant-loop-i l = Gathered l.picture l.bits l.initial.body l.body l.k l.i
