-- The bits of a data frame's labels, and when they are accepted (document 01, "What comes back"). Each refusal speaks of the whole data
-- frame, so that all labels are tested for 10 before any frame for 11, and all frames for 11 before any for 12. V.34 has neither an inverse
-- nor refusals: a clause named here is the one whose inverse is taken, or that sets the limit. For s 0, n 1 there are twelve frames of
-- eight bits:
--
--     labels 0 to 15     bits 0 to 7
--     labels 16 to 31    bits 8 to 15
--     ..
use Rattle.std.specs.Prelude.{Bool, true, ◌&&◌, List, ℕ, zero, suc, ◌*◌, take, drop}
use Rattle.laws.specs.Emit.{emit, iter}
use Rattle.line.specs.Switching.{counter_after}
use Rattle.line.specs.declared.settings.Settings.{Settings}
use Rattle.frame.specs.Reading.{frame_read, frame_read_turned, in_range, number_fits, steps_fit}
use Rattle.scrambler.specs.Scrambler.{descramble, push_all}
use Rattle.frame.specs.Next.{shape_next}
use Rattle.coder.specs.Sending.{ring_count}

-- what is left to read of a data frame: the labels (clause 9.6.1), the switching counter (8.2), and Z (9.5)
pub record Receiving : Type 0 where
  pub labels : List ℕ
  pub counter : ℕ
  pub z : ℕ

-- the scrambled bits of the next frame (clauses 9.3, 9.4, 9.5 and 9.6.1), and what is left then: the counter goes on by 8.2, and Z is the
-- last one received (9.5)
unfoldable pub next_bits : Settings → Receiving → List ℕ
next_bits c t = frame_read (ring_count c) (shape_next c t.counter) t.z (take 16 t.labels)

unfoldable pub after_bits : Settings → Receiving → Receiving
after_bits c t =
    record {
      labels = drop 16 t.labels;
      counter = counter_after c.frames c.step t.counter;
      z = frame_read_turned (take 16 t.labels);
    }

-- a data frame at its start: the counter is 0 (clause 8.2), and Z goes on from the frame before (9.5)
abbrev pub receiving_of : ℕ → List ℕ → Receiving
receiving_of z labels = record { labels = labels; counter = 0; z = z }

-- the scrambled bits of a data frame, which has P mapping frames (clause 8.1)
unfoldable pub data_received : Settings → ℕ → List ℕ → List ℕ
data_received c z labels = emit (next_bits c) (after_bits c) c.frames (receiving_of z labels)

-- its bits (clause 7), and the register (7) and Z (9.5) after it: the register holds what was received
unfoldable pub data_bits : Settings → ℕ → ℕ → List ℕ → List ℕ
data_bits c register z labels = descramble c.role register (data_received c z labels)

unfoldable pub data_read_register : Settings → ℕ → ℕ → List ℕ → ℕ
data_read_register c register z labels = push_all register (data_received c z labels)

unfoldable pub data_read_turned : Settings → ℕ → List ℕ → ℕ
data_read_turned c z labels = (iter (after_bits c) c.frames (receiving_of z labels)).z

-- 10: every label is in its range (2D labels: clause 9.6.1; Z: 9.5; I1: 9.3)
abbrev pub all_in_range : Settings → List ℕ → Bool
all_in_range c labels = in_range (ring_count c) c.uncoded (4 * c.frames) labels

-- 11: the number of every frame's rings (clause 9.4) fits the bits of S that the frame has (9.3.1); k frames are left
unfoldable pub numbers_fit : Settings → ℕ → Receiving → Bool
numbers_fit c zero t = true
numbers_fit c (suc k) t = number_fits (ring_count c) (shape_next c t.counter) (take 16 t.labels) && numbers_fit c k (after_bits c t)

-- 12: the Z steps (clause 9.5) of every frame fit: none gives I3 = 1 where the frame carries none (9.3.2); k frames are left
unfoldable pub all_steps_fit : Settings → ℕ → Receiving → Bool
all_steps_fit c zero t = true
all_steps_fit c (suc k) t = steps_fit (shape_next c t.counter).threes t.z 4 (take 16 t.labels) && all_steps_fit c k (after_bits c t)
