-- The loop of `fields::table::fields_in`, by proofs/Rows.
use Rattle.fields.proofs.Rows.{Found}
use Rattle.fields.proofs.table.fields_in.Given as goal

abbrev pub invariant-loop-k : goal.invariant-loop-k
invariant-loop-k l = Found l.table l.bits l.initial.numbers l.numbers l.k
