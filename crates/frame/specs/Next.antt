-- The next mapping frame of a data frame, the switching counter standing at a number: whether it is high and how many bits it has
-- (document 01, "Switching"; clause 8.2), and its shape ("Parsing"; clause 9.3). For s 5, n 2: P 15, b 12, r 3
--
--     counter    frame   bits   symbols with I3   counter after it
--     9          low     11     3                 12
--     12         high    12     4                 0
use Rattle.std.specs.Prelude.{Bool, ◌≡◌, ℕ}
use Rattle.line.specs.Switching.{is_high, counter_after}
use Rattle.line.specs.declared.settings.Settings.{Settings}
use Rattle.frame.specs.declared.next.Next.{Next}
use Rattle.frame.specs.declared.shape.Shape.{Shape}
use Rattle.frame.specs.Shape.{length_of, shape_of}

abbrev pub high_next : Settings → ℕ → Bool
high_next c counter = is_high c.frames c.step counter

abbrev pub shape_next : Settings → ℕ → Shape
shape_next c counter = shape_of c (high_next c counter)

abbrev pub length_next : Settings → ℕ → ℕ
length_next c counter = length_of c.high (high_next c counter)

-- the shape of the next frame, its bits, and the counter after it
pub record NextOf (c : Settings) (counter : ℕ) (next : Next) : Type 0 where
  pub shape : next.shape ≡ shape_next c counter
  pub size : next.size ≡ length_next c counter
  pub counted : next.counter ≡ counter_after c.frames c.step counter
