-- One mapping frame, as `receive_frame` receives it: what is read stands at the front of the room for any frame, and the lent part is
-- descrambled from it. Assumes nothing.
use mathlib.Core.List.{List, ◌++◌, append-nil}
use mathlib.Core.Path.{◌≡◌, sym, ap, ◌∙◌}
use Prim.Native.Nat.{ℕ, ◌≤◌}
use native.Mathlib.Omega.{arith}
use lib.ListN.{length, take, drop_of_length-le}
use lib.Seq.{take_at}
use Rattle.frame.specs.declared.shape.Shape.{Shape}
use Rattle.frame.specs.Reading.{bits_read, frame_read, frame_read_turned}
use Rattle.frame.proofs.Accepted.{Accepted, accepted}
use Rattle.scrambler.specs.Parts.{Descrambled}
use Rattle.scrambler.specs.Requires.{Part}
use Rattle.coder.specs.declared.states.Moved.{Moved}
use Rattle.reader.specs.OneFrame.{FrameReceived}
use Rattle.reader.specs.Requires.{FrameReceivable}

module _ {shape : Shape} {number : ℕ} {before : Moved} {labels bits : List ℕ} (h : FrameReceivable shape number before labels bits) where
  -- the labels are accepted
  frame : Accepted h.readable.M shape before.z labels (bits_read shape number before.z labels)
  unfolding frame_read
  frame =
      let r = h.readable in
      rw r.ranked (accepted r.M shape before.z labels r.limits.threes r.turn r.sixteen r.ranges h.fits h.steps)

  -- there is room for just as many bits as are read
  read-long : length (bits_read shape number before.z labels) ≡ length bits
  read-long = frame.size ∙ sym h.readable.size

  module _ {read : List ℕ} (is : read ≡ bits_read shape number before.z labels) (behind : List ℕ) where
    front_is : take (length bits) (read ++ behind) ≡ bits_read shape number before.z labels
    front_is = take_at read behind (length bits) (ap length is ∙ read-long) ∙ is

    -- and they are lent again
    pub part_lent : Part before.register (take (length bits) (read ++ behind)) bits
    part_lent =
        rw front_is
        (record { small = h.held; binary = frame.binary; room = omega (arith, read-long) })

    pub part-received :
        {role register z : ℕ} {after : List ℕ} → z ≡ frame_read_turned labels
        → Descrambled role before.register (take (length bits) (read ++ behind)) bits register after
        → FrameReceived role shape number before labels (record { register = register; z = z }) after
    part-received {role} {register} {z} {after} turned done =
        let short : length bits ≤ length (bits_read shape number before.z labels) = omega (arith, read-long) in
        record {
          slice = (rw front_is at done.slice) ∙ rw (drop_of_length-le bits short, append-nil);
          held = rw front_is at done.held;
          turned = turned;
        }
