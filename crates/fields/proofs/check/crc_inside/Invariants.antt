-- The loop of `fields::check::crc_inside`, by proofs/Checks.
use Rattle.fields.proofs.Checks.{Inward}
use Rattle.fields.proofs.check.crc_inside.Given as goal

abbrev pub invariant-loop-place : goal.invariant-loop-place
invariant-loop-place l = Inward l.picture l.bits l.register l.place-iterator.a.rest.now l.place-iterator.b.rest.now
