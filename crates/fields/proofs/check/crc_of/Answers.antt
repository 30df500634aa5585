-- `fields::check::crc_of` meets its contract.
use Rattle.std.proofs.Common.{sym, ap, ◌∙◌}
use Rattle.std.proofs.lemmas.Iterator.{YieldsList-from_slice, items_from_drains}
use Rattle.std.proofs.lemmas.Iterator.Consumers.{YieldsList-from_copied}
use Rattle.std.proofs.lemmas.List.{map-id}
use Rattle.fields.specs.Weights.{high_value}
use Rattle.sequences.specs.Register.{crc}
use Rattle.fields.proofs.check.crc_of.Goals as goal

pub returns : goal.returns
returns c =
    let e = c.check_over.ensures in
    let items = items_from_drains e.0 (e.1.1.0, e.1.1.1, λ _. (e.1.0, e.1.1.2)) (YieldsList-from_copied (YieldsList-from_slice c.args.bits.now cc)) in
    e.2 ∙ ap (λ l. high_value (crc l)) (sym (map-id e.0) ∙ items)
