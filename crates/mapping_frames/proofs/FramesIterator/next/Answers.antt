-- `next` steps on where it may: a frame has few bits, and the counter stays below P.
use Prim.Native.Nat.{◌+◌, ◌<◌}
use mathlib.Core.Path.{ap}
use native.Mathlib.Omega.{arith}
use Rattle.mapping_frames.proofs.Goes.{length-most, going-on}
use Rattle.mapping_frames.proofs.FramesIterator.next.Goals as goal

pub overflow_add-end : goal.overflow_add-end
overflow_add-end c =
    let step = c.requires.each _ c.requires.below in
    omega (arith, length-most step, step.most, c.next_of-next.ensures.size)

pub returns-clause-goes : goal.returns-clause-goes
returns-clause-goes c =
    let s = c.args.self.now in
    let next = c.next_of-next.ensures in
    let more : s.index < s.settings.frames = omega (arith, c.requires.most, c.if-index-self.false) in
    let going = going-on s _ _ c.requires more next.counted (ap (λ n. s.start + n) next.size) in
    record { on = λ finite. (going, tt, omega arith); keeps = going; rests = λ finite. tt }
