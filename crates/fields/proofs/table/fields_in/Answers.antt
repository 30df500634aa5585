-- `fields::table::fields_in` meets its contract.
use Rattle.fields.proofs.Rows.{found_none, found_within, found-more, found_all}
use Rattle.fields.proofs.table.fields_in.Goals as goal

pub loop-k-init : goal.loop-k-init
loop-k-init c = found_none c.args.table.now c.args.bits.now c.args.numbers.now c.requires.0 c.requires.1

pub value_at-requires : goal.value_at-requires
value_at-requires c =
    let w = (found_within _ _ _ _ _ c.loop-k.invariant c.loop-k-test.true).0 in (w.0, w.1, c.requires.2)

pub loop-k-preserved : goal.loop-k-preserved
loop-k-preserved c = found-more _ _ _ _ _ c.loop-k.invariant c.loop-k-test.true _ c.value_at.ensures

pub returns : goal.returns
returns c = found_all _ _ _ _ _ c.loop-k.invariant c.loop-k-test.false
