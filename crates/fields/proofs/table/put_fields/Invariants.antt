-- The loop of `fields::table::put_fields`, by proofs/Rows.
use Rattle.fields.proofs.Rows.{Spelt}
use Rattle.fields.proofs.table.put_fields.Given as goal

abbrev pub invariant-loop-field : goal.invariant-loop-field
invariant-loop-field l =
    Spelt l.table l.numbers l.initial.body l.body l.at l.field-iterator.a.rest.now l.field-iterator.b.rest.now
