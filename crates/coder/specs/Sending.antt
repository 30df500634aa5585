-- The labels of a data frame (document 01, "From bits to labels"; V.34, clauses 7, 8.1, 8.2, 9.3 to 9.5 and 9.6.1). The N bits are
-- scrambled; then P mapping frames take b or b − 1 of them each, as the switching counter says, and write sixteen labels. Z goes on from
-- frame to frame. For s 0, n 1 there are twelve frames of eight bits:
--
--     bits 0 to 7     labels 0 to 15
--     bits 8 to 15    labels 16 to 31
--     ..
use Rattle.std.specs.Prelude.{List, ℕ, take, drop}
use Rattle.laws.specs.Emit.{emit, iter}
use Rattle.line.specs.Settings.{rings_of_shaping}
use Rattle.line.specs.Switching.{counter_after}
use Rattle.line.specs.declared.settings.Settings.{Settings}
use Rattle.frame.specs.Next.{shape_next, length_next}
use Rattle.frame.specs.Writing.{frame_labels, frame_turned}
use Rattle.scrambler.specs.Scrambler.{scramble, push_all}

-- the ring count M of settings (clause 9.2, Table 10)
abbrev pub ring_count : Settings → ℕ
ring_count c = rings_of_shaping c.shaping

-- what is left to send of a data frame: the scrambled bits (clause 7), the switching counter (8.2), and Z (9.5)
pub record Sending : Type 0 where
  pub bits : List ℕ
  pub counter : ℕ
  pub z : ℕ

-- the labels of the next frame (clauses 9.3, 9.4, 9.5 and 9.6.1), and what is left then: the counter goes on by 8.2, and Z by 9.5
unfoldable pub next_labels : Settings → Sending → List ℕ
next_labels c t = frame_labels (ring_count c) (shape_next c t.counter) t.z (take (length_next c t.counter) t.bits)

unfoldable pub after_labels : Settings → Sending → Sending
after_labels c t =
    record {
      bits = drop (length_next c t.counter) t.bits;
      counter = counter_after c.frames c.step t.counter;
      z = frame_turned (ring_count c) (shape_next c t.counter) t.z (take (length_next c t.counter) t.bits);
    }

-- a data frame at its start: its bits are scrambled (clause 7), the counter is 0 (8.2), and Z goes on from the frame before (9.5)
abbrev pub sending_of : Settings → ℕ → ℕ → List ℕ → Sending
sending_of c register z bits = record { bits = scramble c.role register bits; counter = 0; z = z }

-- the 16·P labels of a data frame, which has P mapping frames (clause 8.1), the register (7) and Z (9.5) after it
unfoldable pub data_labels : Settings → ℕ → ℕ → List ℕ → List ℕ
data_labels c register z bits = emit (next_labels c) (after_labels c) c.frames (sending_of c register z bits)

unfoldable pub data_register : Settings → ℕ → List ℕ → ℕ
data_register c register bits = push_all register (scramble c.role register bits)

unfoldable pub data_turned : Settings → ℕ → ℕ → List ℕ → ℕ
data_turned c register z bits = (iter (after_labels c) c.frames (sending_of c register z bits)).z
