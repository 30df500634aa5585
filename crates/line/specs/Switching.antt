-- Switching (document 01; V.34, clause 8.2): a counter is 0 at the start of a data frame. Before each mapping frame r is added. If
-- the counter is then below P the frame is low, with b − 1 bits; otherwise high, with b bits, and P is taken off. For s 5, n 2: P 15,
-- b 12, r 3
--
--     frame      1     2     3     4     5     6     ..
--     counter    3     6     9     12    0     3     ..
--     bits       11    11    11    11    12    11    ..
use Rattle.std.specs.Prelude.{Bool, cond, List, [], ◌∷◌, ℕ, zero, suc, ◌+◌, ◌-◌, leb}

-- whether the next frame is high, the counter standing at c
abbrev pub is_high : ℕ → ℕ → ℕ → Bool
is_high P r c = leb P (c + r)

-- the counter after it
unfoldable pub counter_after : ℕ → ℕ → ℕ → ℕ
counter_after P r c = cond (is_high P r c) (c + r - P) (c + r)

-- the counter before frame k of a data frame, counted from 0
unfoldable pub counter_at : ℕ → ℕ → ℕ → ℕ
counter_at P r zero = 0
counter_at P r (suc k) = counter_after P r (counter_at P r k)

-- the bits of a frame before which the counter stands at c
unfoldable pub frame_bits : ℕ → ℕ → ℕ → ℕ → ℕ
frame_bits P b r c = cond (is_high P r c) b (b - 1)

-- the lengths of the next k frames
unfoldable pub frame_lengths : ℕ → ℕ → ℕ → ℕ → ℕ → List ℕ
frame_lengths P b r c zero = []
frame_lengths P b r c (suc k) = frame_bits P b r c ∷ frame_lengths P b r (counter_after P r c) k

-- their sum
unfoldable pub total : List ℕ → ℕ
total [] = 0
total (x ∷ xs) = x + total xs
