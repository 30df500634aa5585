-- One frame as `send_frame` sends it, and what the loop of `send` holds: the labels of k mapping frames stand in the output, and the bits,
-- the switching counter, the register and Z that are left are those that the specs say. Assumes nothing.
use mathlib.Core.List.{List, []}
use mathlib.Core.Path.{◌≡◌, refl, sym, ap, ◌∙◌}
use Prim.Native.Nat.{ℕ, suc, ◌+◌, ◌*◌, ◌-◌, ◌^◌, ◌≤◌, ◌<◌}
use native.Mathlib.Nat.{sub-zero, mul_comm}
use native.Mathlib.Omega.{arith}
use lib.ListN.{length, take, drop, drop_of_length-le, length-drop}
use lib.Seq.{drop-drop, length-take-le, take_at}
use borrow.Rule.Slice.PartMut.{put_mid, mid_len}
use Rattle.bits.specs.Digits.{Bits}
use Rattle.laws.specs.Emit.{emit, iter}
use Rattle.laws.specs.Lists.{Every}
use Rattle.laws.specs.Put.{put}
use Rattle.laws.proofs.Puts.{put_loan}
use Rattle.laws.proofs.Counting.{every-imp}
use Rattle.listing.specs.Number.{rings_of}
use Rattle.listing.specs.Sets.{as_list}
use Rattle.listing.proofs.Agree.{rings-below}
use Rattle.bits.proofs.Digitals.{bits-take, bits-drop}
use Rattle.laws.proofs.Emits.{Filling, filling_none, filling_more, filling_whole, filling_last, emit-length}
use Rattle.line.specs.Switching.{counter_after}
use Rattle.line.specs.declared.settings.Settings.{Settings}
use Rattle.line.proofs.DataFrames.{counter-stays}
use Rattle.line.proofs.Soundness.{Sound}
use Rattle.frame.specs.Writing.{after_symbol, turn_written, frame_turned}
use Rattle.frame.specs.declared.shape.Shape.{Shape}
use Rattle.frame.proofs.Lengths.{ShapeFits, next_fits}
use Rattle.frame.proofs.Symbols.{turned-most}
use Rattle.frame.proofs.Written.{rings-listed}
use Rattle.scrambler.specs.Parts.{Scrambled}
use Rattle.scrambler.specs.Scrambler.{scramble, push_all}
use Rattle.scrambler.proofs.Inverse.{length-scramble, push_all-below}
use Rattle.scrambler.proofs.Fronts.{take-scramble, drop-scramble, push_all-scramble}
use Rattle.coder.specs.declared.states.Moved.{Moved}
use Rattle.coder.proofs.Sent.{frame-sixteen, length_left, length-left-next, length-left_none}
use Rattle.mapping_frames.specs.Steps.{Stepped}
use Rattle.mapping_frames.specs.declared.Frame.{Frame}
use Rattle.mapping_frames.specs.declared.Frames.{Frames}
use Rattle.writer.specs.OneFrame.{FrameSent}
use Rattle.writer.specs.Requires.{FrameSendable}
use Rattle.frame.specs.Next.{high_next, shape_next, length_next}
use Rattle.coder.specs.Sending.{Sending, ring_count, next_labels, after_labels, sending_of, data_labels, data_register, data_turned}

-- a frame that was sent has sixteen labels
pub sent-sixteen :
    {M role : ℕ} {shape : Shape} {moved after : Moved} {bits labels : List ℕ}
    → FrameSent M shape role moved bits after labels
    → length labels ≡ 16
sent-sixteen {M} {role} {shape} {moved} {after} {bits} sent =
    ap length sent.labels ∙ frame-sixteen M shape moved.z (scramble role moved.register bits)

-- what is scrambled into a space stands at its front
pub front_scrambled :
    (role register : ℕ) (bits space : List ℕ) (after : ℕ) (now : List ℕ)
    → Scrambled role register bits space after now
    → take (length bits) now ≡ scramble role register bits
front_scrambled role register bits space after now done =
    ap (take (length bits)) done.slice ∙ take_at (scramble role register bits) _ _ (length-scramble role register bits)

-- the rings of a number that has room among the M^8 sets are small
pub rings-small : (M S : ℕ) → M ≤ 18 → S < M ^ 8 → Every (λ ring. ring < 18) (as_list (rings_of M S))
rings-small M S high below =
    every-imp (λ ring. ring < M) (λ ring. ring < 18) (λ ring h. omega arith) (as_list (rings_of M S))
    (rings-listed M (rings_of M S) (rings-below M S below))

-- Z after a frame is one of four
pub turned-fit : (M : ℕ) (shape : Shape) (z : ℕ) (bits : List ℕ) → frame_turned M shape z bits ≤ 3
unfolding turn_written frame_turned iter after_symbol
turned-fit M shape z bits = turned-most _ _

-- 16·P labels
data_length : (c : Settings) (t : Sending) → length (emit (next_labels c) (after_labels c) c.frames t) ≡ 16 * c.frames
unfolding next_labels
data_length c t = emit-length (next_labels c) (after_labels c) 16 (λ s. frame-sixteen _ _ _ _) c.frames t ∙ mul_comm c.frames 16

-- no bits leave the register
nothing-pushed : (role register : ℕ) → push_all register (scramble role register []) ≡ register
unfolding scramble push_all
nothing-pushed role register = refl

module _ (c : Settings) (m₀ : Moved) (bits : List ℕ) where
  -- what is left from the bit at `at` on
  abbrev pub left_from : Moved → ℕ → ℕ → Sending
  left_from moved counter at = record { bits = scramble c.role moved.register (drop at bits); counter = counter; z = moved.z }

  -- k frames are sent, and as many bits are left as the others take
  pub record PartSent (out : List ℕ) (moved : Moved) (counter at k : ℕ) : Type 0 where
    pub filling :
        Filling (next_labels c) (after_labels c) [] c.frames (sending_of c m₀.register m₀.z bits) k
        (left_from moved counter at) out (16 * k)
    pub pushes : push_all moved.register (scramble c.role moved.register (drop at bits)) ≡ data_register c m₀.register bits
    pub held : moved.register < 2 ^ 23
    pub turn : moved.z ≤ 3
    pub below : counter < c.frames
    pub rest : at + length_left c counter (c.frames - k) ≡ length bits

  pub part-sent_none :
      (out : List ℕ) → Sound c → length bits ≡ c.bits → length out ≡ 16 * c.frames → m₀.register < 2 ^ 23 → m₀.z ≤ 3
      → PartSent out m₀ 0 0 0
  unfolding data_register
  part-sent_none out sound size labels held turn =
      record {
        filling = filling_none _ _ c.frames _ out (labels ∙ sym (data_length c _));
        pushes = refl;
        held = held;
        turn = turn;
        below = omega (arith, sound.frames-least);
        rest = rw sub-zero (omega (arith, sound.frame.adds));
      }

module _ {c : Settings} {m₀ : Moved} {bits out : List ℕ} {moved : Moved} {counter at k : ℕ}
    (h : PartSent c m₀ bits out moved counter at k) where
  -- the output keeps its length
  pub part-sent-length : length out ≡ 16 * c.frames
  part-sent-length = h.filling.size ∙ data_length c _

  module _ (more : k < c.frames) where
    rest-next :
        length_left c counter (c.frames - k)
        ≡ length_next c counter + length_left c (counter_after c.frames c.step counter) (c.frames - (k + 1))
    rest-next = let e : c.frames - k ≡ suc (c.frames - (k + 1)) = omega arith in rw e (length-left-next c counter (c.frames - (k + 1)))

    -- the next frame has its bits
    pub next-there : at + length_next c counter ≤ length bits
    next-there = omega (arith, h.rest, rest-next)

    module _ (f : ℕ) (shape : Shape) (is-length : f ≡ length_next c counter) (is-shape : shape ≡ shape_next c counter) where
      part_length : length (take f (drop at bits)) ≡ f
      part_length = length-take-le f (drop at bits) (omega (arith, length-drop at bits, next-there))

      -- and can be sent
      pub frame_sendable :
          (m : ℕ) (part : List ℕ) → Sound c → m ≡ ring_count c → Bits bits → length part ≡ 16
          → FrameSendable m shape moved (take f (drop at bits)) part
      frame_sendable m part sound is_m binary sixteen =
          let fits : ShapeFits c (high_next c counter) shape = rw is-shape (next_fits c sound counter) in
          record {
            limits = fits.limits;
            room = rw is_m fits.room;
            held = h.held;
            turn = h.turn;
            binary = bits-take f (drop at bits) (bits-drop at bits binary);
            size = part_length ∙ (is-length ∙ sym fits.size);
            short = omega (arith, part_length, is-length, fits.size, fits.short);
            sixteen = sixteen;
          }

      -- where its labels are put, a frame more is sent
      module _ (M : ℕ) (is-count : M ≡ ring_count c) (after : Moved) (labels : List ℕ)
          (sent : FrameSent M shape c.role moved (take f (drop at bits)) after labels) where
        labels_next : labels ≡ next_labels c (left_from c m₀ bits moved counter at)
        unfolding next_labels
        labels_next = sent.labels ∙ rw (is-count, is-shape, is-length, take-scramble)

        bits-next :
            drop (length_next c counter) (scramble c.role moved.register (drop at bits))
            ≡ scramble c.role after.register (drop (at + f) bits)
        bits-next = rw (sent.register, ← is-length, drop-scramble, drop-drop)

        turn-next :
            frame_turned (ring_count c) (shape_next c counter) moved.z
            (take (length_next c counter) (scramble c.role moved.register (drop at bits)))
            ≡ after.z
        turn-next = rw (sent.z, is-count, is-shape, is-length, take-scramble)

        state-next :
            after_labels c (left_from c m₀ bits moved counter at)
            ≡ left_from c m₀ bits after (counter_after c.frames c.step counter) (at + f)
        unfolding after_labels
        state-next = rw (bits-next, turn-next)

        pub part-sent-more :
            (counter' at' : ℕ) (buf : List ℕ)
            → Sound c
            → counter' ≡ counter_after c.frames c.step counter
            → at' ≡ at + f
            → buf ≡ put out (16 * k) labels
            → PartSent c m₀ bits buf after counter' at' (k + 1)
        part-sent-more counter' at' buf sound is-counter is_at is-put =
            rw (is-counter, is_at)
            (record {
              filling =
                  rw (← state-next)
                  (filling_more h.filling more labels buf (16 * (k + 1)) labels_next (omega (arith, sent-sixteen sent)) is-put);
              pushes =
                  rw (sent.register, ← drop-drop f at bits)
                  (sym (push_all-scramble c.role moved.register f (drop at bits)) ∙ h.pushes);
              held = rw sent.register (push_all-below _ _ h.held);
              turn = rw sent.z (turned-fit M shape moved.z _);
              below = counter-stays c.frames c.step counter sound.step-most h.below;
              rest = omega (arith, h.rest, rest-next, is-length);
            })

  -- after P frames the data frame is sent
  module _ (all : c.frames ≤ k) where
    pub part-sent-labels : out ≡ data_labels c m₀.register m₀.z bits
    unfolding data_labels
    part-sent-labels = filling_whole h.filling all

    none_left : drop at bits ≡ []
    none_left =
        let e : c.frames - k ≡ 0 = omega arith in
        let rest : at + length_left c counter 0 ≡ length bits = rw e at h.rest in
        drop_of_length-le bits {i = at} (omega (arith, length-left_none c counter))

    pub part-sent-register : moved.register ≡ data_register c m₀.register bits
    part-sent-register = sym (nothing-pushed c.role moved.register) ∙ (rw none_left at h.pushes)

    pub part-sent-turned : moved.z ≡ data_turned c m₀.register m₀.z bits
    unfolding data_turned
    part-sent-turned = ap (λ (t : Sending). t.z) (filling_last h.filling all)

-- The mapping frame that a step gives, the frames before it being sent.
module _ {c : Settings} {m₀ : Moved} {bits out : List ℕ} {moved : Moved} {s t : Frames} {frame : Frame}
    (same : s.settings ≡ c) (h : PartSent c m₀ bits out moved s.counter s.start s.index) (step : Stepped s frame t) where
  step-more : s.index < c.frames
  step-more = rw same at step.more

  step-end : frame.end ≡ s.start + length_next c s.counter
  step-end = rw same at step.end

  step-shape : frame.shape ≡ shape_next c s.counter
  step-shape = rw same at step.shape

  -- it has its bits
  step-length : frame.end - s.start ≡ length_next c s.counter
  step-length = omega (arith, step-end)

  pub step-there : frame.end ≤ length bits
  step-there = omega (arith, step-end, next-there h step-more)

  -- and its labels
  lent-sixteen : length (take (16 * frame.index + 16 - 16 * frame.index) (drop (16 * frame.index) out)) ≡ 16
  lent-sixteen =
      mid_len (16 * frame.index) (16 * frame.index + 16) out (omega (arith, part-sent-length h, step-more, step.index)) ∙ omega arith

  -- it can be sent
  pub step-sendable :
      (m : ℕ) → Sound c → m ≡ ring_count c → Bits bits
      → FrameSendable m frame.shape moved (take (frame.end - frame.start) (drop frame.start bits))
      (take (16 * frame.index + 16 - 16 * frame.index) (drop (16 * frame.index) out))
  step-sendable m sound is_m binary =
      rw step.start
      (frame_sendable h step-more (frame.end - s.start) frame.shape step-length step-shape m _ sound is_m binary lent-sixteen)

  -- and where its labels are put, a frame more is sent
  pub step-sent :
      (m : ℕ) (after : Moved) (labels : List ℕ) → Sound c → m ≡ ring_count c
      → FrameSent m frame.shape c.role moved (take (frame.end - frame.start) (drop frame.start bits)) after labels
      → PartSent c m₀ bits (put_mid (16 * frame.index) (16 * frame.index + 16 - 16 * frame.index) out labels) after
      t.counter t.start t.index
  step-sent m after labels sound is_m sent =
      rw (step.next, step.index)
      (part-sent-more h step-more (frame.end - s.start) frame.shape step-length step-shape m is_m after labels (rw step.start at sent)
      t.counter t.start _ sound (rw same at step.counted) (omega (arith, step-length, rw same at step.on))
      (put_loan out (16 * s.index) (16 * s.index + 16) labels (omega (arith, sent-sixteen sent))))
