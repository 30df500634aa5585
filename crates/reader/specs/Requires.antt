-- What the workers of this crate ask of their callers. No promise rests on this page: a public entry asks nothing.
use Rattle.std.specs.Prelude.{true, List, ◌≡◌, ℕ, ◌*◌, ◌^◌, ◌≤◌, ◌<◌, length}
use Rattle.line.specs.Settings.{worked_of}
use Rattle.line.specs.declared.asked.Asked.{Asked}
use Rattle.line.specs.declared.settings.Settings.{Settings}
use Rattle.line.specs.Worked.{Accepted}
use Rattle.frame.specs.Reading.{number_fits, steps_fit}
use Rattle.frame.specs.Requires.{Readable}
use Rattle.frame.specs.declared.shape.Shape.{Shape}
use Rattle.coder.specs.declared.states.Moved.{Moved}
use Rattle.coder.specs.Receiving.{all_in_range}
use Rattle.coder.specs.Sending.{ring_count}

-- settings that were asked for and worked out
pub record Settled (c : Settings) : Type 0 where
  pub asked : Asked
  pub worked : worked_of asked ≡ Accepted c

-- where the labels of a data frame are tested: there are all 16·P of them, and M and q are those of accepted settings
pub record Complete (c : Settings) (labels : List ℕ) : Type 0 where
  pub rings : ring_count c ≤ 18
  pub uncoded : c.uncoded ≤ 5
  pub count : length labels ≡ 16 * c.frames

-- and where they are known to be in their ranges
pub record Ranging (c : Settings) (labels : List ℕ) : Type 0 where
  pub settled : Settled c
  pub count : length labels ≡ 16 * c.frames
  pub ranges : all_in_range c labels ≡ true

-- where one frame is received: no test refuses its labels, the number is that of its rings, and just its bits have room,
-- of which there are at most 80
pub record FrameReceivable (shape : Shape) (number : ℕ) (before : Moved) (labels bits : List ℕ) : Type 0 where
  pub readable : Readable shape number before.z labels bits
  pub held : before.register < 2 ^ 23
  pub short : length bits ≤ 80
  pub fits : number_fits readable.M shape labels ≡ true
  pub steps : steps_fit shape.threes before.z 4 labels ≡ true
