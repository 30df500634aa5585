-- A step may be taken at the start, and where one was taken, the next may be: a mapping frame has at most 83 bits, and the counter stays
-- below P. Assumes nothing.
use mathlib.Core.Path.{◌≡◌}
use Prim.Native.Nat.{ℕ, ◌+◌, ◌≤◌, ◌<◌}
use native.Mathlib.Omega.{arith}
use Rattle.line.specs.Switching.{counter_after}
use Rattle.line.specs.declared.settings.Settings.{Settings}
use Rattle.line.proofs.DataFrames.{counter-stays}
use Rattle.line.proofs.Soundness.{Sound}
use Rattle.frame.specs.Next.{length_next}
use Rattle.frame.specs.Requires.{Stepping}
use Rattle.frame.specs.Shape.{frame_length}
use Rattle.frame.proofs.Lengths.{stepping}
use Rattle.mapping_frames.specs.Steps.{Going}
use Rattle.mapping_frames.specs.declared.Frames.{Frames}

pub length-most : {c : Settings} {counter : ℕ} → Stepping c counter → length_next c counter ≤ 83
unfolding frame_length
length-most s = omega (arith, s.size, s.limits.few, s.limits.threes, s.limits.uncoded)

pub going-on :
    (s : Frames) (counter start : ℕ) → Going s → s.index < s.settings.frames
    → counter ≡ counter_after s.settings.frames s.settings.step s.counter
    → start ≡ s.start + length_next s.settings s.counter
    → Going (record { settings = s.settings; index = s.index + 1; counter = counter; start = start })
going-on s counter start g more counted on =
    let step = g.each s.counter g.below in
    record {
      each = g.each;
      below = rw counted (counter-stays s.settings.frames s.settings.step s.counter step.step g.below);
      most = omega arith;
      few = omega (arith, on, length-most step, g.few);
    }

-- all mapping frames of sound settings
pub going_none : (c : Settings) → Sound c → Going (record { settings = c; index = 0; counter = 0; start = 0 })
going_none c sound =
    record {
      each = stepping c sound;
      below = omega (arith, sound.frames-least);
      most = omega arith;
      few = omega arith;
    }
