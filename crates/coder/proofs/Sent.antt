-- Reading what was written: the labels of a data frame's bits are 16·P, no test refuses them, and reading them gives those bits, the same
-- register and the same Z. For all sound settings, registers below 2^23 and Z up to 3, by induction over the frames that are left.
-- Assumes nothing.
use mathlib.Core.Bool.{true, ◌&&◌}
use mathlib.Core.List.{List, ◌++◌}
use mathlib.Core.Path.{◌≡◌, refl, sym, ap, ap₂, ◌∙◌}
use Prim.Native.Nat.{ℕ, zero, suc, ◌+◌, ◌*◌, ◌^◌, ◌≤◌, ◌<◌}
use native.Mathlib.Omega.{arith}
use lib.ListN.{length, take, drop, length-append, length-drop, take-append-drop}
use lib.Seq.{length-take-le, take_at, drop_at}
use Rattle.std.proofs.lemmas.List.{nil_from_length}
use Rattle.bits.specs.Digits.{Bits}
use Rattle.laws.specs.Emit.{emit, iter}
use Rattle.bits.proofs.Digitals.{bits-take, bits-drop}
use Rattle.line.specs.declared.settings.Settings.{Settings}
use Rattle.line.specs.Switching.{counter_after, frame_bits, frame_lengths, total}
use Rattle.line.proofs.Soundness.{Sound}
use Rattle.frame.specs.declared.shape.Shape.{Shape}
use Rattle.frame.specs.Writing.{labels_written, frame_labels}
use Rattle.frame.specs.Reading.{in_range, number_fits, steps_fit, frame_read_turned}
use Rattle.frame.proofs.WriteLoop.{sixteen-labels}
use Rattle.frame.proofs.Lengths.{next_fits}
use Rattle.frame.proofs.Written.{Written, written}
use Rattle.scrambler.specs.Scrambler.{scramble, descramble, push_all}
use Rattle.scrambler.proofs.Inverse.{length-scramble, bits-scramble, descramble-scramble, push_all-below}
use Rattle.frame.specs.Next.{shape_next, length_next}
use Rattle.coder.specs.Sending.{Sending, ring_count, next_labels, after_labels, sending_of, data_labels, data_register, data_turned}
use Rattle.coder.specs.Receiving.{Receiving, next_bits, after_bits, receiving_of, all_in_range, numbers_fit, all_steps_fit}
use Rattle.coder.specs.Receiving.{data_received, data_bits, data_read_register, data_read_turned}
use Rattle.coder.proofs.Ranges.{frame-ranges, shape-range}

-- a frame has sixteen labels
pub frame-sixteen : (M : ℕ) (shape : Shape) (z : ℕ) (bits : List ℕ) → length (frame_labels M shape z bits) ≡ 16
unfolding labels_written frame_labels
frame-sixteen M shape z bits = sixteen-labels shape.uncoded _

-- the bits of k frames, the counter before them standing at `counter`
abbrev pub length_left : Settings → ℕ → ℕ → ℕ
length_left c counter k = total (frame_lengths c.frames c.high c.step counter k)

pub length-left-next :
    (c : Settings) (counter k : ℕ)
    → length_left c counter (suc k) ≡ length_next c counter + length_left c (counter_after c.frames c.step counter) k
unfolding frame_lengths total frame_bits
length-left-next c counter k = refl

pub length-left_none : (c : Settings) (counter : ℕ) → length_left c counter 0 ≡ 0
unfolding frame_lengths total
length-left_none c counter = refl

-- labels as they are read, with the counter and the Z of what is sent
abbrev read_again : Sending → List ℕ → Receiving
read_again t labels = record { labels = labels; counter = t.counter; z = t.z }

-- what is left to send is k frames
pub record ToSend (c : Settings) (k : ℕ) (t : Sending) : Type 0 where
  pub binary : Bits t.bits
  pub size : length t.bits ≡ length_left c t.counter k
  pub turn : t.z ≤ 3

-- what holds of the labels of k frames that were sent
record FramesSent (c : Settings) (k : ℕ) (t : Sending) (labels : List ℕ) : Type 0 where
  size : length labels ≡ 16 * k
  ranges : in_range (ring_count c) c.uncoded (4 * k) labels ≡ true
  numbers : numbers_fit c k (read_again t labels) ≡ true
  steps : all_steps_fit c k (read_again t labels) ≡ true
  back : emit (next_bits c) (after_bits c) k (read_again t labels) ≡ t.bits
  turn : (iter (after_bits c) k (read_again t labels)).z ≡ (iter (after_labels c) k t).z
  most : (iter (after_labels c) k t).z ≤ 3

-- Sound settings.
module _ (c : Settings) (sound : Sound c) where
  -- the next frame, and what is left then
  pub frame-sent :
      (k : ℕ) (t : Sending) → ToSend c (suc k) t
      → Written (ring_count c) (shape_next c t.counter) t.z (take (length_next c t.counter) t.bits) (next_labels c t)
  unfolding next_labels frame_lengths frame_bits total
  frame-sent k t l =
      let fits = next_fits c sound t.counter in
      let enough : length_next c t.counter ≤ length t.bits = omega (arith, l.size) in
      written (ring_count c) (shape_next c t.counter) t.z (take (length_next c t.counter) t.bits)
      fits.limits.threes l.turn fits.room
      (bits-take (length_next c t.counter) t.bits l.binary)
      (length-take-le (length_next c t.counter) t.bits enough ∙ sym fits.size)

  pub to_send-next : (k : ℕ) (t : Sending) → ToSend c (suc k) t → ToSend c k (after_labels c t)
  unfolding after_labels frame_lengths frame_bits total
  to_send-next k t l =
      record {
        binary = bits-drop (length_next c t.counter) t.bits l.binary;
        size = length-drop (length_next c t.counter) t.bits ∙ omega (arith, l.size);
        turn = (frame-sent k t l).turn-most;
      }

  -- one frame before those whose labels are `labels`
  sent-next :
      (k : ℕ) (t : Sending) (labels : List ℕ) → ToSend c (suc k) t → FramesSent c k (after_labels c t) labels
      → FramesSent c (suc k) t (next_labels c t ++ labels)
  unfolding emit iter numbers_fit all_steps_fit next_bits after_bits after_labels
  sent-next k t labels l rest =
      record {
        size = size;
        ranges = frame-ranges (ring_count c) c.uncoded k whole size ∙ ap₂ ◌&&◌ first_ranges others-ranges;
        numbers = ap₂ ◌&&◌ first_number (ap (numbers_fit c k) after ∙ rest.numbers);
        steps = ap₂ ◌&&◌ first_steps (ap (all_steps_fit c k) after ∙ rest.steps);
        back = ap₂ ◌++◌ first_back others-back ∙ take-append-drop (length_next c t.counter) t.bits;
        turn = ap (λ (r : Receiving). (iter (after_bits c) k r).z) after ∙ rest.turn;
        most = rest.most;
      }
    where
      whole : List ℕ
      whole = next_labels c t ++ labels

      w : Written (ring_count c) (shape_next c t.counter) t.z (take (length_next c t.counter) t.bits) (next_labels c t)
      w = frame-sent k t l

      size : length whole ≡ 16 * suc k
      size = length-append (next_labels c t) labels ∙ omega (arith, w.sixteen, rest.size)

      first : take 16 whole ≡ next_labels c t
      first = take_at (next_labels c t) labels 16 w.sixteen

      others : drop 16 whole ≡ labels
      others = drop_at (next_labels c t) labels 16 w.sixteen

      first_ranges : in_range (ring_count c) c.uncoded 4 (take 16 whole) ≡ true
      first_ranges =
          ap (in_range (ring_count c) c.uncoded 4) first ∙ (sym (shape-range c sound t.counter (next_labels c t)) ∙ w.ranges)

      others-ranges : in_range (ring_count c) c.uncoded (4 * k) (drop 16 whole) ≡ true
      others-ranges = ap (in_range (ring_count c) c.uncoded (4 * k)) others ∙ rest.ranges

      first_number : number_fits (ring_count c) (shape_next c t.counter) (take 16 whole) ≡ true
      first_number = ap (number_fits (ring_count c) (shape_next c t.counter)) first ∙ w.number_fits_lem

      first_steps : steps_fit (shape_next c t.counter).threes t.z 4 (take 16 whole) ≡ true
      first_steps = ap (steps_fit (shape_next c t.counter).threes t.z 4) first ∙ w.steps

      turn : frame_read_turned (take 16 whole) ≡ (after_labels c t).z
      turn = rw first w.turn

      after : after_bits c (read_again t whole) ≡ read_again (after_labels c t) labels
      after = λ i. record { labels = others i; counter = counter_after c.frames c.step t.counter; z = turn i }

      first_back : next_bits c (read_again t whole) ≡ take (length_next c t.counter) t.bits
      first_back = rw first w.back

      others-back : emit (next_bits c) (after_bits c) k (after_bits c (read_again t whole)) ≡ drop (length_next c t.counter) t.bits
      others-back = ap (emit (next_bits c) (after_bits c) k) after ∙ rest.back

  frames-sent : (k : ℕ) (t : Sending) → ToSend c k t → FramesSent c k t (emit (next_labels c) (after_labels c) k t)
  unfolding emit iter numbers_fit all_steps_fit in_range frame_lengths total
  frames-sent zero t l =
      record {
        size = refl;
        ranges = refl;
        numbers = refl;
        steps = refl;
        back = sym (nil_from_length t.bits l.size);
        turn = refl;
        most = l.turn;
      }
  frames-sent (suc k) t l = sent-next k t _ l (frames-sent k (after_labels c t) (to_send-next k t l))

-- what holds of the labels of a data frame
pub record Sent (c : Settings) (register z : ℕ) (bits labels : List ℕ) : Type 0 where
  pub size : length labels ≡ 16 * c.frames
  pub ranges : all_in_range c labels ≡ true
  pub numbers : numbers_fit c c.frames (receiving_of z labels) ≡ true
  pub steps : all_steps_fit c c.frames (receiving_of z labels) ≡ true
  pub scrambled : data_received c z labels ≡ scramble c.role register bits
  pub back : data_bits c register z labels ≡ bits
  pub registers : data_read_register c register z labels ≡ data_register c register bits
  pub turns : data_read_turned c z labels ≡ data_turned c register z bits
  pub register-below : data_register c register bits < 2 ^ 23
  pub turn-most : data_turned c register z bits ≤ 3

-- Sound settings, a state that is fit, and bits of a data frame.
module _
    (c : Settings) (sound : Sound c) (register z : ℕ) (below : register < 2 ^ 23) (small : z ≤ 3)
    (bits : List ℕ) (binary : Bits bits) (size : length bits ≡ c.bits)
  where
    pub sent : Sent c register z bits (data_labels c register z bits)
    unfolding data_labels data_register data_turned data_received data_bits data_read_register data_read_turned
    sent =
        record {
          size = frames.size;
          ranges = frames.ranges;
          numbers = frames.numbers;
          steps = frames.steps;
          scrambled = frames.back;
          back = ap (descramble c.role register) frames.back ∙ descramble-scramble c.role register bits binary;
          registers = ap (push_all register) frames.back;
          turns = frames.turn;
          register-below = push_all-below register (scramble c.role register bits) below;
          turn-most = frames.most;
        }
      where
        whole : ToSend c c.frames (sending_of c register z bits)
        whole =
            record {
              binary = bits-scramble c.role register bits;
              size = length-scramble c.role register bits ∙ (size ∙ sym sound.frame.adds);
              turn = small;
            }

        frames : FramesSent c c.frames (sending_of c register z bits) (data_labels c register z bits)
        frames = frames-sent c sound c.frames (sending_of c register z bits) whole
