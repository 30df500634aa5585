-- Writing what is accepted: 16·P labels that no test refuses are read to the N bits of a data frame, and those bits are written to the
-- same labels, the same register and the same Z. For all sound settings, any register and Z up to 3, by induction over the frames that
-- are left. Assumes nothing.
use mathlib.Core.Bool.{true}
use mathlib.Core.List.{List, ◌++◌}
use mathlib.Core.Path.{◌≡◌, refl, sym, ap, ap₂, ◌∙◌}
use Prim.Native.Nat.{ℕ, zero, suc, ◌+◌, ◌*◌, ◌≤◌}
use native.Mathlib.Omega.{arith}
use lib.ListN.{length, take, drop, length-append, length-drop, take-append-drop}
use lib.Seq.{length-take-le, take_at, drop_at}
use Rattle.std.proofs.lemmas.List.{nil_from_length}
use Rattle.bits.specs.Digits.{Bits}
use Rattle.laws.specs.Emit.{emit, iter}
use Rattle.laws.proofs.Bools.{and_parts}
use Rattle.bits.proofs.Digitals.{bits-append}
use Rattle.line.specs.declared.settings.Settings.{Settings}
use Rattle.line.specs.Switching.{counter_after, frame_bits, frame_lengths, total}
use Rattle.line.proofs.Soundness.{Sound}
use Rattle.frame.specs.Reading.{in_range, number_fits, steps_fit, frame_read_turned}
use Rattle.frame.specs.Writing.{frame_turned}
use Rattle.frame.proofs.Lengths.{ShapeFits, next_fits}
use Rattle.frame.proofs.Accepted.{Accepted, accepted}
use Rattle.scrambler.specs.Scrambler.{scramble, descramble, push_all}
use Rattle.scrambler.proofs.Inverse.{length-descramble, bits-descramble, scramble-descramble}
use Rattle.frame.specs.Next.{high_next, shape_next, length_next}
use Rattle.coder.specs.Sending.{Sending, ring_count, next_labels, after_labels, sending_of, data_labels, data_register, data_turned}
use Rattle.coder.specs.Receiving.{Receiving, next_bits, after_bits, receiving_of, all_in_range, numbers_fit, all_steps_fit}
use Rattle.coder.specs.Receiving.{data_received, data_bits, data_read_register, data_read_turned}
use Rattle.coder.proofs.Ranges.{frame-ranges, shape-range, turned-small}
use Rattle.coder.proofs.Sent.{length_left}

-- bits as they are sent, with the counter and the Z of what is read
abbrev send_again : Receiving → List ℕ → Sending
send_again t bits = record { bits = bits; counter = t.counter; z = t.z }

-- what is left to read is the labels of k frames, which no test refuses
pub record Told (c : Settings) (k : ℕ) (t : Receiving) : Type 0 where
  pub size : length t.labels ≡ 16 * k
  pub ranges : in_range (ring_count c) c.uncoded (4 * k) t.labels ≡ true
  pub numbers : numbers_fit c k t ≡ true
  pub steps : all_steps_fit c k t ≡ true
  pub turn : t.z ≤ 3

-- what holds of the bits of k frames that were read
record FramesRead (c : Settings) (k : ℕ) (t : Receiving) (bits : List ℕ) : Type 0 where
  binary : Bits bits
  size : length bits ≡ length_left c t.counter k
  back : emit (next_labels c) (after_labels c) k (send_again t bits) ≡ t.labels
  turn : (iter (after_labels c) k (send_again t bits)).z ≡ (iter (after_bits c) k t).z

-- Sound settings.
module _ (c : Settings) (sound : Sound c) where
  -- the next frame: no test refuses its labels, it has the bits that the switching says, and of those after it the same is true
  pub record ToldNext (k : ℕ) (t : Receiving) : Type 0 where
    pub ranges : in_range (ring_count c) c.uncoded 4 (take 16 t.labels) ≡ true
    pub number : number_fits (ring_count c) (shape_next c t.counter) (take 16 t.labels) ≡ true
    pub steps : steps_fit (shape_next c t.counter).threes t.z 4 (take 16 t.labels) ≡ true
    pub frame : Accepted (ring_count c) (shape_next c t.counter) t.z (take 16 t.labels) (next_bits c t)
    pub length_is : length (next_bits c t) ≡ length_next c t.counter
    pub left : Told c k (after_bits c t)

  pub told-next : (k : ℕ) (t : Receiving) → Told c (suc k) t → ToldNext k t
  unfolding next_bits after_bits numbers_fit all_steps_fit
  told-next k t l =
      record {
        ranges = r.0;
        number = n.0;
        steps = s.0;
        frame = a;
        length_is = a.size ∙ fits.size;
        left =
            record {
              size = length-drop 16 t.labels ∙ omega (arith, l.size);
              ranges = r.1;
              numbers = n.1;
              steps = s.1;
              turn = turned-small (ring_count c) c.uncoded (take 16 t.labels) r.0;
            };
      }
    where
      fits : ShapeFits c (high_next c t.counter) (shape_next c t.counter)
      fits = next_fits c sound t.counter

      -- each test, of the first frame and of the others
      r :
          (in_range (ring_count c) c.uncoded 4 (take 16 t.labels) ≡ true)
          × (in_range (ring_count c) c.uncoded (4 * k) (drop 16 t.labels) ≡ true)
      r = and_parts _ _ (sym (frame-ranges (ring_count c) c.uncoded k t.labels l.size) ∙ l.ranges)

      n : (number_fits (ring_count c) (shape_next c t.counter) (take 16 t.labels) ≡ true) × (numbers_fit c k (after_bits c t) ≡ true)
      n = and_parts _ _ l.numbers

      s : (steps_fit (shape_next c t.counter).threes t.z 4 (take 16 t.labels) ≡ true) × (all_steps_fit c k (after_bits c t) ≡ true)
      s = and_parts _ _ l.steps

      a : Accepted (ring_count c) (shape_next c t.counter) t.z (take 16 t.labels) (next_bits c t)
      a =
          accepted (ring_count c) (shape_next c t.counter) t.z (take 16 t.labels) fits.limits.threes l.turn
          (length-take-le 16 t.labels (omega (arith, l.size)))
          (shape-range c sound t.counter (take 16 t.labels) ∙ r.0)
          n.0 s.0

  -- one frame before those whose bits are `bits`
  read_next :
      (k : ℕ) (t : Receiving) (bits : List ℕ) → ToldNext k t → FramesRead c k (after_bits c t) bits
      → FramesRead c (suc k) t (next_bits c t ++ bits)
  unfolding emit iter next_labels after_labels after_bits frame_lengths frame_bits total
  read_next k t bits next rest =
      record {
        binary = bits-append (next_bits c t) bits next.frame.binary rest.binary;
        size = length-append (next_bits c t) bits ∙ ap₂ ◌+◌ next.length_is rest.size;
        back = ap₂ ◌++◌ first_back others-back ∙ take-append-drop 16 t.labels;
        turn = ap (λ (s : Sending). (iter (after_labels c) k s).z) after ∙ rest.turn;
      }
    where
      whole : List ℕ
      whole = next_bits c t ++ bits

      first : take (length_next c t.counter) whole ≡ next_bits c t
      first = take_at (next_bits c t) bits (length_next c t.counter) next.length_is

      others : drop (length_next c t.counter) whole ≡ bits
      others = drop_at (next_bits c t) bits (length_next c t.counter) next.length_is

      turn :
          frame_turned (ring_count c) (shape_next c t.counter) t.z (take (length_next c t.counter) whole)
          ≡ frame_read_turned (take 16 t.labels)
      turn = rw first next.frame.turn

      after : after_labels c (send_again t whole) ≡ send_again (after_bits c t) bits
      after = λ i. record { bits = others i; counter = counter_after c.frames c.step t.counter; z = turn i }

      first_back : next_labels c (send_again t whole) ≡ take 16 t.labels
      first_back = rw first next.frame.back

      others-back : emit (next_labels c) (after_labels c) k (after_labels c (send_again t whole)) ≡ drop 16 t.labels
      others-back = ap (emit (next_labels c) (after_labels c) k) after ∙ rest.back

  frames-read : (k : ℕ) (t : Receiving) → Told c k t → FramesRead c k t (emit (next_bits c) (after_bits c) k t)
  unfolding emit iter frame_lengths total
  frames-read zero t l = record { binary = tt; size = refl; back = sym (nil_from_length t.labels l.size); turn = refl }
  frames-read (suc k) t l = let next = told-next k t l in read_next k t _ next (frames-read k (after_bits c t) next.left)

  -- k frames have the bits that the switching says
  pub told-length :
      (k : ℕ) (t : Receiving) → Told c k t → length (emit (next_bits c) (after_bits c) k t) ≡ length_left c t.counter k
  told-length k t l = (frames-read k t l).size

-- what holds of the bits of a data frame's labels
pub record Received (c : Settings) (register z : ℕ) (labels bits : List ℕ) : Type 0 where
  pub binary : Bits bits
  pub size : length bits ≡ c.bits
  pub back : data_labels c register z bits ≡ labels
  pub registers : data_register c register bits ≡ data_read_register c register z labels
  pub turns : data_turned c register z bits ≡ data_read_turned c z labels
  -- what was received, before it is descrambled
  pub scrambled : scramble c.role register bits ≡ data_received c z labels
  pub received-binary : Bits (data_received c z labels)
  pub received-size : length (data_received c z labels) ≡ c.bits

-- Sound settings, a Z that is fit, and labels that no test refuses.
module _
    (c : Settings) (sound : Sound c) (register z : ℕ) (small : z ≤ 3) (labels : List ℕ) (size : length labels ≡ 16 * c.frames)
    (ranges : all_in_range c labels ≡ true) (numbers : numbers_fit c c.frames (receiving_of z labels) ≡ true)
    (steps : all_steps_fit c c.frames (receiving_of z labels) ≡ true)
  where
    pub all-received : Received c register z labels (data_bits c register z labels)
    unfolding data_labels data_register data_turned data_received data_bits data_read_register data_read_turned
    all-received =
        record {
          binary = bits-descramble c.role register outs;
          size = length-descramble c.role register outs ∙ outs_size;
          back = ap (emit (next_labels c) (after_labels c) c.frames) start ∙ frames.back;
          registers = ap (push_all register) again;
          turns = ap (λ (t : Sending). (iter (after_labels c) c.frames t).z) start ∙ frames.turn;
          scrambled = again;
          received-binary = frames.binary;
          received-size = outs_size;
        }
      where
        outs : List ℕ
        outs = data_received c z labels

        frames : FramesRead c c.frames (receiving_of z labels) outs
        frames =
            frames-read c sound c.frames (receiving_of z labels)
            (record { size = size; ranges = ranges; numbers = numbers; steps = steps; turn = small })

        outs_size : length outs ≡ c.bits
        outs_size = frames.size ∙ sound.frame.adds

        again : scramble c.role register (descramble c.role register outs) ≡ outs
        again = scramble-descramble c.role register outs frames.binary

        -- what is sent starts with what was received
        start : sending_of c register z (data_bits c register z labels) ≡ send_again (receiving_of z labels) outs
        start = λ i. record { bits = again i; counter = 0; z = z }
