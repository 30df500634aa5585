-- What the workers of this crate ask of their callers. No promise rests on this page: a public entry asks nothing.
use Rattle.std.specs.Prelude.{List, ◌≡◌, ℕ, ◌^◌, ◌≤◌, ◌<◌, length}
use Rattle.bits.specs.Digits.{Bits}
use Rattle.frame.specs.Requires.{Limited}
use Rattle.frame.specs.Shape.{frame_length}
use Rattle.frame.specs.declared.shape.Shape.{Shape}
use Rattle.coder.specs.declared.states.Moved.{Moved}

-- where one frame is sent: the shape is within its limits and S has room, the register and Z are fit, the bits are bits and as many as the
-- frame has, at most 80, and sixteen labels are lent
pub record FrameSendable (M : ℕ) (shape : Shape) (moved : Moved) (bits out : List ℕ) : Type 0 where
  pub limits : Limited shape
  pub room : 2 ^ shape.shell ≤ M ^ 8
  pub held : moved.register < 2 ^ 23
  pub turn : moved.z ≤ 3
  pub binary : Bits bits
  pub size : length bits ≡ frame_length shape
  pub short : length bits ≤ 80
  pub sixteen : length out ≡ 16
