-- The ranges of a data frame's labels are those of its frames: the labels of 4·P symbols are in their ranges where the sixteen labels of
-- the first frame and those of the others are, every frame has the q of its settings, and no Z is above 3. Assumes nothing.
use mathlib.Core.Bool.{Bool, true, ◌&&◌, and_assoc}
use mathlib.Core.List.{List, [], ◌∷◌}
use mathlib.Core.Path.{◌≡◌, sym, ap, ◌∙◌}
use Prim.Native.Nat.{ℕ, zero, suc, ◌+◌, ◌*◌, ◌^◌, ◌≤◌, ◌<◌}
use native.Mathlib.Nat.{zero-add, suc-add}
use native.Mathlib.Omega.{arith}
use lib.Dec.{leb, ltb}
use lib.ListN.{length, get_or, take, drop}
use Rattle.line.specs.declared.settings.Settings.{Settings}
use Rattle.line.proofs.Soundness.{Sound}
use Rattle.frame.specs.Next.{shape_next}
use Rattle.frame.specs.Reading.{in_range, frame_read_turned}
use Rattle.frame.proofs.Lengths.{next_fits}
use Rattle.frame.proofs.Sixteen.{four-in_range}
use Rattle.coder.specs.Sending.{ring_count}

-- the labels of k symbols, and those of n more
range_split :
    (M q k n : ℕ) (labels : List ℕ) → 4 * k ≤ length labels
    → in_range M q (k + n) labels ≡ (in_range M q k (take (4 * k) labels) && in_range M q n (drop (4 * k) labels))
unfolding in_range
range_split M q zero n labels h = rw zero-add
range_split M q (suc k) n [] h = absurd (omega arith)
range_split M q (suc k) n (a ∷ []) h = absurd (omega arith)
range_split M q (suc k) n (a ∷ b ∷ []) h = absurd (omega arith)
range_split M q (suc k) n (a ∷ b ∷ z ∷ []) h = absurd (omega arith)
range_split M q (suc k) n (a ∷ b ∷ z ∷ one ∷ labels) h =
    let four : 4 * suc k ≡ suc (suc (suc (suc (4 * k)))) = omega arith in
    rw (suc-add k n, four)
    (ap (λ (v : Bool). first && v) (range_split M q k n labels (omega arith))
    ∙ sym (and_assoc first (in_range M q k (take (4 * k) labels)) (in_range M q n (drop (4 * k) labels))))
  where
    first : Bool
    first = ltb a (M * 2 ^ q) && (ltb b (M * 2 ^ q) && (leb z 3 && leb one 1))

-- the sixteen labels of one frame, and those of k more
pub frame-ranges :
    (M q k : ℕ) (labels : List ℕ) → length labels ≡ 16 * suc k
    → in_range M q (4 * suc k) labels ≡ (in_range M q 4 (take 16 labels) && in_range M q (4 * k) (drop 16 labels))
frame-ranges M q k labels e =
    let four : 4 * suc k ≡ 4 + 4 * k = omega arith in
    rw four (range_split M q 4 (4 * k) labels (omega arith))

-- a frame has the q of its settings, so that the test of its labels is that for the q of its shape
pub shape-range :
    (c : Settings) → Sound c → (counter : ℕ) (labels : List ℕ)
    → in_range (ring_count c) (shape_next c counter).uncoded 4 labels ≡ in_range (ring_count c) c.uncoded 4 labels
shape-range c sound counter labels = rw (next_fits c sound counter).uncoded

-- Z of labels in their ranges is at most 3
pub turns-small : (M q : ℕ) (labels : List ℕ) → in_range M q 4 labels ≡ true → (j : ℕ) → j < 4 → get_or labels (4 * j + 2) 0 ≤ 3
turns-small M q labels e j h = (four-in_range M q labels e j h).turn

-- and so is the last of a frame
pub turned-small : (M q : ℕ) (labels : List ℕ) → in_range M q 4 labels ≡ true → frame_read_turned labels ≤ 3
unfolding frame_read_turned
turned-small M q labels e = turns-small M q labels e 3 (omega arith)
