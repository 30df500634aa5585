-- One mapping frame within a data frame, as it is read: the number of its eight rings, which is found once, and its bits, descrambled from
-- the register as it stands.
use Rattle.std.specs.Prelude.{List, ◌≡◌, ℕ, ◌*◌, ◌≤◌, ◌<◌, length, get_or, take, drop}
use Rattle.line.specs.declared.settings.Settings.{Settings}
use Rattle.listing.specs.Number.{number}
use Rattle.listing.specs.Sets.{of_list}
use Rattle.frame.specs.Reading.{rings_read, bits_read, frame_read_turned}
use Rattle.frame.specs.declared.shape.Shape.{Shape}
use Rattle.scrambler.specs.Scrambler.{descramble, push_all}
use Rattle.coder.specs.declared.states.Moved.{Moved}
use Rattle.coder.specs.Sending.{ring_count}

-- the number of the eight rings of frame k
abbrev pub number_at : Settings → List ℕ → ℕ → ℕ
number_at c labels k = number (ring_count c) (of_list (rings_read c.uncoded 4 (take 16 (drop (16 * k) labels))))

-- the numbers of all frames, one after the other
pub record Ranked (c : Settings) (labels numbers : List ℕ) : Type 0 where
  pub room : c.frames ≤ length numbers
  pub found : (k : ℕ) → k < c.frames → get_or numbers k 0 ≡ number_at c labels k

-- the bits of a frame, and the register and Z after it
pub record FrameReceived (role : ℕ) (shape : Shape) (number : ℕ) (before : Moved) (labels : List ℕ) (r : Moved) (bits : List ℕ)
    : Type 0 where
  pub slice : bits ≡ descramble role before.register (bits_read shape number before.z labels)
  pub held : r.register ≡ push_all before.register (bits_read shape number before.z labels)
  pub turned : r.z ≡ frame_read_turned labels
