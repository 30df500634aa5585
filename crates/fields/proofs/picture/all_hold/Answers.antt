-- `fields::picture::all_hold` meets its contract: it is the test of the pairs of a place and its bit.
use Rattle.std.proofs.Common.{◌∙◌, rules}
use Rattle.std.proofs.lemmas.Iterator.{YieldsList-from_slice, YieldsList-from_zip}
use Rattle.std.proofs.lemmas.Iterator.Search.{all_from_yields_List}
use Rattle.sequences.specs.Picture.{holds}
use Rattle.fields.proofs.Places.{holds-all}
use Rattle.fields.proofs.picture.all_hold.Goals as goal

pub returns : goal.returns
returns c =
    let a = c.args in
    all_from_yields_List (λ p. holds p.0 p.1) c.all.new.self _ c.all.result c.all.ensures.ran
    (YieldsList-from_zip (YieldsList-from_slice a.picture.now cc) (YieldsList-from_slice a.bits.now cc))
    (λ x b q k. search rules)
    ∙ holds-all a.picture.now a.bits.now c.requires
