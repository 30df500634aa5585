-- `symbol::symbol_at` meets its contract.
use lib.Seq.{drop-drop}
use Rattle.frame.specs.Writing.{symbol_of}
use Rattle.frame.proofs.Symbols.{of_fits}
use Rattle.frame.proofs.symbol.symbol_at.Goals as goal

pub returns-clause-value : goal.returns-clause-value
unfolding symbol_of
returns-clause-value c =
    simp (c.from.ensures, c.from-2.ensures, c.third.ensures, c.value_at.ensures, c.value_at-2.ensures, c.lead-lead.ensures, drop-drop)

pub returns-clause-fits : goal.returns-clause-fits
unfolding symbol_of
returns-clause-fits c =
    rw (c.from.ensures, c.from-2.ensures, c.third.ensures, c.value_at.ensures, c.value_at-2.ensures, c.lead-lead.ensures, ← drop-drop)
    (of_fits c.args.q c.args.three c.args.bits.now c.requires.2)
