-- `fields::picture::take_inside` meets its contract.
use Rattle.fields.proofs.Places.{gathered_room, gathered_free, gathered_fixed, gathered_all}
use Rattle.fields.proofs.picture.take_inside.Goals as goal
use Rattle.fields.proofs.picture.take_inside.Goals.{then-place-eq-FREE, else-place-eq-FREE}

pub bounds-body-k : goal.bounds-body-k
bounds-body-k c = gathered_room _ _ _ _ _ _ c.loop-i.invariant c.requires.0 c.loop-i-test.true c.if-place-eq-FREE.true

pub loop-i-preserved : goal.loop-i-preserved
loop-i-preserved c =
    elim c.if-place-eq-FREE.branch [
      | then-place-eq-FREE w ↦
          rw (w.body-is, w.k-is)
          (gathered_free _ _ _ _ _ _ c.loop-i.invariant c.requires.0 c.loop-i-test.true w.if-place-eq-FREE.true)
      | else-place-eq-FREE w ↦
          rw (w.body-is, w.k-is)
          (gathered_fixed _ _ _ _ _ _ c.loop-i.invariant c.requires.0 c.loop-i-test.true w.if-place-eq-FREE.false)
    ]

pub returns : goal.returns
returns c = gathered_all _ _ _ _ _ _ c.loop-i.invariant c.requires.0 c.loop-i-test.false
