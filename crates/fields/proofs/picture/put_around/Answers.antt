-- `fields::picture::put_around` meets its contract.
use Rattle.fields.proofs.Places.{framed-room, framed-free, framed_fixed, framed-all}
use Rattle.fields.proofs.picture.put_around.Goals as goal
use Rattle.fields.proofs.picture.put_around.Goals.{then-place-eq-FREE, else-place-eq-FREE}

pub bounds-body-k : goal.bounds-body-k
bounds-body-k c = framed-room _ _ _ _ _ _ c.loop-i.invariant c.loop-i-test.true c.if-place-eq-FREE.true

pub loop-i-preserved : goal.loop-i-preserved
loop-i-preserved c =
    elim c.if-place-eq-FREE.branch [
      | then-place-eq-FREE w ↦
          rw (w.bits-is, w.k-is) (framed-free _ _ _ _ _ _ c.loop-i.invariant c.loop-i-test.true w.if-place-eq-FREE.true)
      | else-place-eq-FREE w ↦
          rw (w.bits-is, w.k-is) (framed_fixed _ _ _ _ _ _ c.loop-i.invariant c.loop-i-test.true w.if-place-eq-FREE.false)
    ]

pub returns : goal.returns
returns c = framed-all _ _ _ _ _ _ c.loop-i.invariant c.loop-i-test.false
