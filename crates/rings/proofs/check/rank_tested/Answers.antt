-- `rings::check::rank_tested` meets its contract: each test of the code is one of `rank_tests`, in its order. Assumes nothing.
use borrow.Author.Tests.{eq-eqb, ne_eqb}
use Rattle.laws.specs.Choice.{refusal}
use Rattle.rings.proofs.check.rank_tested.Goals as goal

pub returns-then-not-is_permitted-clause-tested : goal.returns-then-not-is_permitted-clause-tested
unfolding refusal
returns-then-not-is_permitted-clause-tested c = rw (← c.if-not-is_permitted.ensures)

pub returns-in_default-clause-tested : goal.returns-in_default-clause-tested
unfolding refusal
returns-in_default-clause-tested c = rw (← c.if-not-is_permitted.ensures, ne_eqb _ 8 c.in_default.ensures.1)

pub returns-then-not-all_below-clause-tested : goal.returns-then-not-all_below-clause-tested
unfolding refusal
returns-then-not-all_below-clause-tested c =
    rw (← c.if-not-is_permitted.ensures, eq-eqb _ 8 c.in-Ok.ensures.1.long, ← c.if-not-all_below.ensures)

pub returns-clause-tested : goal.returns-clause-tested
unfolding refusal
returns-clause-tested c =
    rw (← c.if-not-is_permitted.ensures, eq-eqb _ 8 c.in-Ok.ensures.1.long, ← c.if-not-all_below.ensures)
