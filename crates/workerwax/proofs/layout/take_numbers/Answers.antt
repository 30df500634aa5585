use Rattle.std.proofs.Common.{rules, arith, length, take, drop, ◌≡◌, ◌∙◌, ◌+◌, ◌<◌, ◌≤◌, ◌++◌, sym, ap, take-append-drop}
use lib.ListN.{length-set}
use lib.Seq.{length-take-le}
use Rattle.workerwax.proofs.Layouts.{take_more}
use Rattle.workerwax.proofs.layout.take_numbers.Goals as goal

pub loop-number-preserved : goal.loop-number-preserved
loop-number-preserved g c =
    let width = g.row.WIDTH in
    let l = c.loop-number in
    let left = l.left.now in
    let front = c.in-Some.front.now in
    let rest = c.in-Some.rest.now in
    let first : front ≡ take width left = c.in-Some.ensures.cases.0 in
    let others : rest ≡ drop width left = c.in-Some.ensures.cases.1 in
    let room : length rest + width ≡ length left = c.in-Some.ensures.cases.2 in
    let enough : width ≤ length left = omega (arith, room) in
    let parts : left ≡ front ++ rest = rw (first, others) (sym (take-append-drop width left)) in
    let size : length front ≡ width = ap length first ∙ length-take-le width left enough in
    let here : l.number-index < length l.numbers = search rules in (
      take_more width g.N.LowestFirst.number_in g.N.LowestFirst.held g.met.N.LowestFirst.held_more l.number-index c.args.bytes.now left front rest
          l.numbers _ here parts size c.from_bytes.ensures l.invariant.0,
      rw (length-set l.numbers l.number-index c.from_bytes.result) (omega (arith, room, l.invariant.1)),
    )
