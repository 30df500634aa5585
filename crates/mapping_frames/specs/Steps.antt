-- A step from mapping frame to mapping frame of a data frame. For s 5, n 2: P 15, b 12, r 3
--
--     index    counter    frame   bits       counter after it
--     0        0          low     0 to 10    3
--     1        3          low     11 to 21   6
--     ..
use Rattle.std.specs.Prelude.{◌≡◌, ℕ, ◌+◌, ◌*◌, ◌≤◌, ◌<◌, Option, MatchOption}
use Rattle.line.specs.Switching.{counter_after}
use Rattle.frame.specs.Next.{shape_next, length_next}
use Rattle.frame.specs.Requires.{Stepping}
use Rattle.mapping_frames.specs.declared.Frame.{Frame}
use Rattle.mapping_frames.specs.declared.Frames.{Frames}

-- where a step may be taken: each next frame of the settings can be asked for, the counter is below P, no more frames than P are done, and
-- their bits are few
pub record Going (s : Frames) : Type 0 where
  pub each : (counter : ℕ) → counter < s.settings.frames → Stepping s.settings counter
  pub below : s.counter < s.settings.frames
  pub most : s.index ≤ s.settings.frames
  pub few : s.start ≤ 100 * s.index

-- a frame that comes, and what is left then
pub record Stepped (s : Frames) (frame : Frame) (t : Frames) : Type 0 where
  pub more : s.index < s.settings.frames
  pub index : frame.index ≡ s.index
  pub shape : frame.shape ≡ shape_next s.settings s.counter
  pub start : frame.start ≡ s.start
  pub end : frame.end ≡ s.start + length_next s.settings s.counter
  pub settings : t.settings ≡ s.settings
  pub next : t.index ≡ s.index + 1
  pub counted : t.counter ≡ counter_after s.settings.frames s.settings.step s.counter
  pub on : t.start ≡ s.start + length_next s.settings s.counter

-- what a call of `next` does: a frame comes, or all P are done
abbrev pub steps : Frames → Option Frame → Frames → Type 0
steps s r t = MatchOption r ((s.index ≡ s.settings.frames) × (t ≡ s)) (λ frame. Stepped s frame t)
