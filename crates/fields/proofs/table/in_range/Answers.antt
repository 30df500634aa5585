-- `fields::table::in_range` meets its contract: it is the test of the pairs of a field and its number.
use Rattle.std.proofs.Common.{◌∙◌, rules}
use Rattle.std.proofs.lemmas.Iterator.{YieldsList-from_slice, YieldsList-from_zip}
use Rattle.std.proofs.lemmas.Iterator.Search.{all_from_yields_List}
use Rattle.sequences.specs.Table.{lies}
use Rattle.fields.proofs.Rows.{lies-all}
use Rattle.fields.proofs.table.in_range.Goals as goal

pub returns : goal.returns
returns c =
    let a = c.args in
    all_from_yields_List (λ p. lies p.0 p.1) c.all.new.self _ c.all.result c.all.ensures.ran
    (YieldsList-from_zip (YieldsList-from_slice a.table.now cc) (YieldsList-from_slice a.numbers.now cc))
    (λ x b q k. search rules)
    ∙ lies-all a.table.now a.numbers.now c.requires
