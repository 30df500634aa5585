-- What the workers of this crate ask of their callers. No promise rests on this page: a public entry asks nothing.
use Rattle.std.specs.Prelude.{Bool, true, false, List, ◌≡◌, ℕ, ◌+◌, ◌*◌, ◌≤◌, ◌<◌, length, get_or}
use Rattle.laws.specs.Lists.{Every}
use Rattle.bits.specs.Digits.{Bits}
use Rattle.line.specs.declared.settings.Settings.{Settings}
use Rattle.frame.specs.declared.shape.Shape.{Shape}
use Rattle.frame.specs.Shape.{length_of, frame_length}
use Rattle.frame.specs.Next.{high_next, shape_next, length_next}
use Rattle.frame.specs.Reading.{rings_read, number_read, in_range}

-- where the shape of a frame is worked out: a frame without S has eight bits, and a low one with S a bit of S to lose
pub record Shaped (c : Settings) (high : Bool) : Type 0 where
  pub plain : c.high ≤ 12 → 8 ≤ length_of c.high high
  pub shells : 12 < c.high → high ≡ false → 1 ≤ c.shell

-- where a shape is used: it is within the limits of all accepted settings
pub record Limited (shape : Shape) : Type 0 where
  pub few : shape.shell ≤ 31
  pub threes : shape.threes ≤ 4
  pub uncoded : shape.uncoded ≤ 5

-- where the next frame of a data frame is asked for: the counter is below P, and the frame's shape has the frame's bits
pub record Stepping (c : Settings) (counter : ℕ) : Type 0 where
  pub most : c.frames ≤ 16
  pub step : c.step ≤ c.frames
  pub below : counter < c.frames
  pub shaped : Shaped c (high_next c counter)
  pub limits : Limited (shape_next c counter)
  pub size : frame_length (shape_next c counter) ≡ length_next c counter

-- where a frame is written: the rings are below 18, the bits are bits and as many as the frame has, and sixteen labels are lent
pub record Writable (shape : Shape) (rings : List ℕ) (z : ℕ) (bits out : List ℕ) : Type 0 where
  pub limits : Limited shape
  pub turn : z ≤ 3
  pub small : Every (λ ring. ring < 18) rings
  pub binary : Bits bits
  pub size : length bits ≡ frame_length shape
  pub sixteen : length out ≡ 16

-- where a frame is read: sixteen labels in the ranges of an M, the number of their rings, and room for the frame's bits
pub record Readable (shape : Shape) (number z : ℕ) (labels bits : List ℕ) : Type 0 where
  pub M : ℕ
  pub limits : Limited shape
  pub turn : z ≤ 3
  pub sixteen : length labels ≡ 16
  pub ranges : in_range M shape.uncoded 4 labels ≡ true
  pub ranked : number ≡ number_read M shape labels
  pub size : length bits ≡ frame_length shape

-- where the eight rings are taken out of sixteen labels: each fits a byte
pub record RingsFit (q : ℕ) (labels : List ℕ) : Type 0 where
  pub uncoded : q ≤ 5
  pub sixteen : length labels ≡ 16
  pub small : Every (λ ring. ring < 256) (rings_read q 4 labels)

-- where the steps of Z are looked at: sixteen labels, and no Z above 3
pub record Stepped (z : ℕ) (labels : List ℕ) : Type 0 where
  pub turn : z ≤ 3
  pub sixteen : length labels ≡ 16
  pub turns : (j : ℕ) → j < 4 → get_or labels (4 * j + 2) 0 ≤ 3
