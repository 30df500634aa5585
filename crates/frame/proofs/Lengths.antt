-- The shapes of accepted settings: a high frame has b bits and a low one b − 1, and each shape is within what writing and reading ask
-- for. A low frame is asked for only where there is one: where r is below P. Assumes nothing.
use mathlib.Core.Bool.{Bool, true, false, cond}
use mathlib.Core.Path.{◌≡◌, refl, sym}
use Prim.Native.Nat.{ℕ, ◌+◌, ◌-◌, ◌^◌, ◌≤◌, ◌<◌}
use native.Mathlib.Nat.{le_trans}
use native.Mathlib.Omega.{arith}
use lib.Dec.{leb}
use lib.Pow.{pow_mono}
use borrow.Author.Tests.{leb-true, leb-false}
use Rattle.line.specs.declared.asked.Asked.{Asked}
use Rattle.line.specs.declared.settings.Settings.{Settings}
use Rattle.line.specs.Worked as worked
use Rattle.line.specs.Settings.{rings_of_shaping, worked_of}
use Rattle.line.proofs.Soundness.{Sound, accepted-sound}
use Rattle.frame.specs.declared.shape.Shape.{Shape}
use Rattle.frame.specs.Next.{high_next, shape_next}
use Rattle.frame.specs.Requires.{Shaped, Stepping, Limited}
use Rattle.frame.specs.Shape.{length_of, shape_of, frame_length}

-- a shape fits the settings as that of a high or a low frame: it has the bits of such a frame, of which there are at most 80, and the q of
-- the settings
pub record ShapeFits (c : Settings) (high : Bool) (shape : Shape) : Type 0 where
  pub size : frame_length shape ≡ length_of c.high high
  pub short : frame_length shape ≤ 80
  pub uncoded : shape.uncoded ≡ c.uncoded
  pub limits : Limited shape
  pub room : 2 ^ shape.shell ≤ rings_of_shaping c.shaping ^ 8

-- the two kinds of shapes: no S and I3 in the first f − 8 symbols, or K or K − 1 bits of S and I3 in every symbol
abbrev plain_shape : Settings → Bool → Shape
plain_shape c high = record { shell = 0; threes = length_of c.high high - 8; uncoded = 0 }

abbrev shaped_shape : Settings → Bool → Shape
shaped_shape c high = record { shell = cond high c.shell (c.shell - 1); threes = 4; uncoded = c.uncoded }

-- Sound settings.
module _ (c : Settings) (sound : Sound c) where
  -- as many sets as numbers, also for fewer bits of S
  room_for : (k : ℕ) → k ≤ c.shell → 2 ^ k ≤ rings_of_shaping c.shaping ^ 8
  room_for k h = le_trans (pow_mono h) sound.rings.enough

  -- b up to 12
  plain_fits : (high : Bool) → (high ≡ false → 9 ≤ c.high) → c.high ≤ 12 → ShapeFits c high (plain_shape c high)
  unfolding frame_length
  plain_fits high low few =
      record {
        size = omega (arith, bounds.0);
        short = omega (arith, bounds.0, bounds.1);
        uncoded = sym (sound.plain few).1;
        limits = record { few = omega arith; threes = omega (arith, bounds.1); uncoded = omega arith };
        room = room_for 0 (omega arith);
      }
    where
      -- the frame has 8 to 12 bits
      go : (v : Bool) → (v ≡ false → 9 ≤ c.high) → (8 ≤ length_of c.high v) × (length_of c.high v ≤ 12)
      go true l = (sound.high-least, few)
      go false l = let nine = l refl in (omega arith, omega arith)

      bounds : (8 ≤ length_of c.high high) × (length_of c.high high ≤ 12)
      bounds = go high low

  -- b above 12
  shaped-fits : (high : Bool) → 12 < c.high → ShapeFits c high (shaped_shape c high)
  unfolding frame_length
  shaped-fits true more =
      let s = sound.shaped more in
      record {
        size = omega (arith, s.1);
        short = omega (arith, s.1, sound.high-most);
        uncoded = refl;
        limits = record { few = sound.shell_most; threes = omega arith; uncoded = sound.uncoded-most };
        room = room_for c.shell (omega arith);
      }
  shaped-fits false more =
      let s = sound.shaped more in
      record {
        size = omega (arith, s.0, s.1);
        short = omega (arith, s.0, s.1, sound.high-most);
        uncoded = refl;
        limits = record { few = omega (arith, sound.shell_most); threes = omega arith; uncoded = sound.uncoded-most };
        room = room_for (c.shell - 1) (omega arith);
      }

  -- the shape of a frame that occurs
  pub shape-fits : (high : Bool) → (high ≡ false → c.step < c.frames) → ShapeFits c high (shape_of c high)
  unfolding shape_of
  shape-fits high low = go (leb c.high 12) refl
    where
      go : (v : Bool) → leb c.high 12 ≡ v → ShapeFits c high (cond v (plain_shape c high) (shaped_shape c high))
      go true e = plain_fits high (λ l. sound.low-least (low l)) (leb-true c.high 12 e)
      go false e = shaped-fits high (leb-false c.high 12 e)

  -- the next frame is low only where r is below P
  low-next : (counter : ℕ) → high_next c counter ≡ false → c.step < c.frames
  low-next counter e = omega (arith, leb-false c.frames (counter + c.step) e)

  -- and so of the next frame, wherever the counter stands
  pub next_fits : (counter : ℕ) → ShapeFits c (high_next c counter) (shape_next c counter)
  next_fits counter = shape-fits (high_next c counter) (low-next counter)

  -- a shape can be worked out: a line has low frames only where r is below P
  pub shaped : (high : Bool) → (high ≡ false → c.step < c.frames) → Shaped c high
  shaped true low = record { plain = λ h. sound.high-least; shells = λ h e. (sound.shaped h).0 }
  shaped false low =
      let least = sound.low-least (low refl) in
      record { plain = λ h. omega arith; shells = λ h e. (sound.shaped h).0 }

  -- and so can the next frame
  pub stepping : (counter : ℕ) → counter < c.frames → Stepping c counter
  stepping counter below =
      record {
        most = sound.frames-most;
        step = sound.step-most;
        below = below;
        shaped = shaped (high_next c counter) (low-next counter);
        limits = (next_fits counter).limits;
        size = (next_fits counter).size;
      }

-- and of all accepted settings
pub accepted-fits :
    (asked : Asked) (c : Settings) → worked_of asked ≡ worked.Accepted c
    → (high : Bool) → (high ≡ false → c.step < c.frames) → ShapeFits c high (shape_of c high)
accepted-fits asked c e = shape-fits c (accepted-sound asked c e)
