-- `reader::check::all_in_range` meets its contract: the labels are cut into sixteens, and each is tested.
use borrow.Author.Rules.{rules}
use mathlib.Core.Path.{◌∙◌}
use Rattle.std.specs.Slice.Iter.{chunks_exact_steps}
use Rattle.std.proofs.lemmas.Iterator.{YieldsList}
use Rattle.std.proofs.lemmas.Iterator.Search.{all_from_yields_List}
use Rattle.frame.specs.Reading.{in_range}
use Rattle.reader.proofs.Passes.{sixteens, yields_sixteens, sixteens-in_range}
use Rattle.reader.proofs.check.all_in_range.Goals as goal

pub returns : goal.returns
returns c =
    let a = c.args in
    let count = c.requires.count in
    let chain : YieldsList chunks_exact_steps (λ x. x.now) c.chunks_exact.result (sixteens a.c.frames a.labels.now) =
    record { runs = yields_sixteens a.c.frames c.chunks_exact.result a.labels.now c.chunks_exact.ensures.rest c.chunks_exact.ensures.size count }
    in
    all_from_yields_List (in_range c.rings-m.result a.c.uncoded 4) _ _ _ c.all.ensures.ran chain (λ x b q k. search rules)
    ∙ (sixteens-in_range c.rings-m.result a.c.uncoded a.c.frames a.labels.now count ∙ rw c.rings-m.ensures)
