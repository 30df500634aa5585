use Rattle.std.proofs.Common.{rules, length, ◌≡◌, ◌∙◌}
use Rattle.std.proofs.lemmas.Slice.{overwrites}
use Rattle.workerwax.proofs.Layouts.{put-more}
use Rattle.workerwax.proofs.layout.put_numbers.Goals as goal

pub loop-i-preserved : goal.loop-i-preserved
loop-i-preserved g c =
    let size : length c.to_bytes.result ≡ g.row.WIDTH = search rules in (
      put-more g.row.WIDTH g.N.LowestFirst.bytes_of g.N.LowestFirst.laid g.met.N.LowestFirst.laid_more
          c.loop-i.i _ c.loop-i.out c.copy_from_slice.new.self c.args.numbers.now c.index-numbers-i.result
          c.loop-i-test.true c.index-numbers-i.is (c.copy_from_slice.ensures.after ∙ c.to_bytes.ensures) (search rules) c.loop-i.invariant.1 c.loop-i.invariant.0,
      search (rules, overwrites),
    )
