-- One mapping frame within a data frame, as it is written: its bits are scrambled from the register as it stands, and its sixteen labels go
-- into the part that is lent.
use Rattle.std.specs.Prelude.{List, ◌≡◌, ℕ}
use Rattle.frame.specs.Writing.{frame_labels, frame_turned}
use Rattle.frame.specs.declared.shape.Shape.{Shape}
use Rattle.scrambler.specs.Scrambler.{scramble, push_all}
use Rattle.coder.specs.declared.states.Moved.{Moved}

-- the labels of the scrambled bits, and the register and Z after them
pub record FrameSent (M : ℕ) (shape : Shape) (role : ℕ) (moved : Moved) (bits : List ℕ) (r : Moved) (after : List ℕ) : Type 0 where
  pub labels : after ≡ frame_labels M shape moved.z (scramble role moved.register bits)
  pub register : r.register ≡ push_all moved.register (scramble role moved.register bits)
  pub z : r.z ≡ frame_turned M shape moved.z (scramble role moved.register bits)
