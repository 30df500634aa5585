-- What the loop of `receive` holds: the bits of k frames stand in the buffer, and the labels, the counter, the register and Z that are left
-- are those that the specs say. What is done and what is left make the whole, by the laws of a buffer that is filled part by part: a
-- part is a frame's bits, descrambled from where the frames before it left the register. Assumes nothing.
use mathlib.Core.Bool.{true}
use mathlib.Core.List.{List, [], ◌++◌}
use mathlib.Core.Path.{◌≡◌, refl, sym, ap, subst, ◌∙◌}
use Prim.Native.Nat.{ℕ, zero, suc, ◌+◌, ◌*◌, ◌-◌, ◌^◌, ◌≤◌, ◌<◌}
use native.Mathlib.Nat.{sub-zero}
use native.Mathlib.Omega.{arith}
use lib.ListN.{length, get_or, take, drop}
use denote.Ref.{Bor}
use Rattle.std.specs.declared.slice.ChunksExact.{ChunksExact}
use Rattle.std.specs.Prelude.{Some}
use Rattle.std.specs.Slice.Iter.{chunks_exact_steps}
use borrow.Rule.Slice.PartMut.{mid_of, put_mid, mid_len}
use Rattle.laws.specs.Emit.{emit, iter}
use Rattle.laws.proofs.Emits.{Filling, filling_none, filling_more, filling_whole, filling_last, part_room}
use Rattle.laws.proofs.Puts.{put_loan}
use Rattle.line.specs.declared.settings.Settings.{Settings}
use Rattle.line.specs.Switching.{counter_after}
use Rattle.line.proofs.DataFrames.{counter-stays}
use Rattle.line.proofs.Soundness.{Sound}
use Rattle.frame.specs.declared.shape.Shape.{Shape}
use Rattle.frame.specs.Reading.{in_range, bits_read, frame_read}
use Rattle.frame.proofs.Lengths.{next_fits}
use Rattle.scrambler.specs.Scrambler.{descramble, push_all}
use Rattle.scrambler.proofs.Inverse.{length-descramble, push_all-below}
use Rattle.scrambler.proofs.Joins.{push_all-append, descramble-append}
use Rattle.coder.specs.declared.states.Moved.{Moved}
use Rattle.coder.specs.declared.states.State.{State}
use Rattle.coder.specs.Answers.{Receivable}
use Rattle.mapping_frames.specs.Steps.{Stepped}
use Rattle.mapping_frames.specs.declared.Frame.{Frame}
use Rattle.mapping_frames.specs.declared.Frames.{Frames}
use Rattle.reader.specs.OneFrame.{number_at, Ranked, FrameReceived}
use Rattle.reader.specs.Requires.{FrameReceivable}
use Rattle.frame.specs.Next.{shape_next, length_next}
use Rattle.coder.specs.Sending.{ring_count}
use Rattle.coder.specs.Receiving.{Receiving, next_bits, after_bits, receiving_of}
use Rattle.coder.specs.Receiving.{data_received, data_bits, data_read_register, data_read_turned}
use Rattle.coder.proofs.Ranges.{shape-range}
use Rattle.coder.proofs.Received.{Told, ToldNext, told-next, told-length}
use Rattle.reader.proofs.Passes.{sixteen_at, left_at, left_on, sixteen-length, sixteen_is}
use Rattle.reader.proofs.Passes.{sound_of, settled_in}
use Rattle.reader.proofs.Passes.{Paired, paired-more, paired-shape, paired-counted}
use Rattle.reader.proofs.Ranking.{shape-number}

-- what is left to read, and the register
pub record Coming : Type 0 where
  pub left : Receiving
  pub register : ℕ

-- the bits of the next frame, descrambled, and what is left then
unfoldable pub coming_bits : Settings → Coming → List ℕ
coming_bits c s = descramble c.role s.register (next_bits c s.left)

unfoldable pub after_coming : Settings → Coming → Coming
after_coming c s = record { left = after_bits c s.left; register = push_all s.register (next_bits c s.left) }

abbrev pub coming : Receiving → ℕ → Coming
coming left register = record { left = left; register = register }

-- frame by frame they are the bits of all that was received, and so is the register
coming-bits :
    (c : Settings) (k : ℕ) (s : Coming)
    → emit (coming_bits c) (after_coming c) k s ≡ descramble c.role s.register (emit (next_bits c) (after_bits c) k s.left)
unfolding emit coming_bits after_coming descramble
coming-bits c zero s = refl
coming-bits c (suc k) s =
    ap (λ (l : List ℕ). descramble c.role s.register (next_bits c s.left) ++ l) (coming-bits c k (after_coming c s))
    ∙ sym (descramble-append c.role s.register (next_bits c s.left) (emit (next_bits c) (after_bits c) k (after_bits c s.left)))

coming_last :
    (c : Settings) (k : ℕ) (s : Coming)
    → iter (after_coming c) k s
    ≡ coming (iter (after_bits c) k s.left) (push_all s.register (emit (next_bits c) (after_bits c) k s.left))
unfolding emit iter after_coming push_all
coming_last c zero s = refl
coming_last c (suc k) s =
    coming_last c k (after_coming c s)
    ∙ ap (coming (iter (after_bits c) k (after_bits c s.left)))
    (sym (push_all-append s.register (next_bits c s.left) (emit (next_bits c) (after_bits c) k (after_bits c s.left))))

-- k frames are read: their bits are the first `at` of the buffer
pub record PartRead (c : Settings) (labels : List ℕ) (z register k : ℕ) (moved : Moved) (counter at : ℕ) (bits : List ℕ) : Type 0 where
  pub filling :
      Filling (coming_bits c) (after_coming c) [] c.frames (coming (receiving_of z labels) register) k
      (coming (left_at labels k counter moved.z) moved.register) bits at
  pub told : Told c (c.frames - k) (left_at labels k counter moved.z)
  pub below : counter < c.frames
  pub held : moved.register < 2 ^ 23

-- none is
part-read_none :
    (c : Settings) → Sound c → (labels : List ℕ) (z register : ℕ) (bits : List ℕ) → Told c c.frames (receiving_of z labels)
    → register < 2 ^ 23 → length bits ≡ c.bits → PartRead c labels z register 0 (record { register = register; z = z }) 0 0 bits
part-read_none c sound labels z register bits told held size =
    record {
      filling = filling_none (coming_bits c) (after_coming c) c.frames (coming t register) bits (size ∙ sym whole);
      told = rw sub-zero told;
      below = omega (arith, sound.frames-least);
      held = held;
    }
  where
    t : Receiving
    t = receiving_of z labels

    whole : length (emit (coming_bits c) (after_coming c) c.frames (coming t register)) ≡ c.bits
    whole =
        ap length (coming-bits c c.frames (coming t register))
        ∙ (length-descramble c.role register (emit (next_bits c) (after_bits c) c.frames t)
        ∙ (told-length c sound c.frames t told ∙ sound.frame.adds))

-- where a data frame can be received
pub part-read_first :
    (st : State) (c : Settings) (labels bits : List ℕ) → Receivable st c labels bits
    → PartRead c labels st.z st.register 0 (record { register = st.register; z = st.z }) 0 0 bits
part-read_first st c labels bits p =
    let sound = sound_of (settled_in st c p.worked) in
    part-read_none c sound labels st.z st.register bits
    (record { size = p.count; ranges = p.ranges; numbers = p.numbers; steps = p.steps; turn = p.turn }) p.held
    (p.size ∙ sound.user_is)

-- One frame more.
module _ {c : Settings} (sound : Sound c) {labels : List ℕ} {z register k : ℕ} {moved : Moved} {counter at : ℕ} {bits : List ℕ}
    (h : PartRead c labels z register k moved counter at bits) (more : k < c.frames) where
  t : Receiving
  t = left_at labels k counter moved.z

  -- the data frame at its start
  abbrev begun : Coming
  begun = coming (receiving_of z labels) register

  next : ToldNext c sound (c.frames - (k + 1)) t
  unfolding t
  next =
      let e : c.frames - k ≡ suc (c.frames - (k + 1)) = omega arith in
      told-next c sound (c.frames - (k + 1)) t (subst (λ (n : ℕ). Told c n t) e h.told)

  -- its bits have room
  pub frame-room : at + length_next c counter ≤ length bits
  unfolding coming_bits t
  frame-room =
      omega
      (arith, part_room h.filling more, length-descramble c.role moved.register (next_bits c t), next.length_is)

  -- it can be received
  pub frame_receivable :
      (shape : Shape) → shape ≡ shape_next c counter → (number : ℕ) → number ≡ number_at c labels k
      → (end : ℕ) → end ≡ at + length_next c counter → length labels ≡ 16 * c.frames
      → FrameReceivable shape number moved (sixteen_at labels k) (mid_of at (end - at) bits)
  unfolding t
  frame_receivable shape e number is_number end is-end count =
      let fits = next_fits c sound counter in
      let ranges : in_range (ring_count c) c.uncoded 4 (sixteen_at labels k) ≡ true = next.ranges in
      let size = mid_len at end bits (omega (arith, frame-room)) in
      record {
        readable =
            record {
              M = ring_count c;
              limits = rw e fits.limits;
              turn = h.told.turn;
              sixteen = sixteen-length labels c.frames count k more;
              ranges = rw e (shape-range c sound counter (sixteen_at labels k) ∙ ranges);
              ranked = is_number ∙ sym (shape-number c sound labels k counter (ring_count c) shape refl e);
              size = size ∙ rw e (omega (arith, fits.size));
            };
        held = h.held;
        short = omega (arith, size, fits.size, fits.short);
        fits = rw e next.number;
        steps = rw e next.steps;
      }

  -- and then the next is to follow
  module _ (after : Moved) (counter' end : ℕ) (part bits' : List ℕ) (shape : Shape) (number : ℕ)
      (e : shape ≡ shape_next c counter) (is_number : number ≡ number_at c labels k)
      (done : FrameReceived c.role shape number moved (sixteen_at labels k) after part)
      (is-end : end ≡ at + length_next c counter) (counted : counter' ≡ counter_after c.frames c.step counter)
      (is-put : bits' ≡ put_mid at (end - at) bits part) where
    read_is : bits_read shape number moved.z (sixteen_at labels k) ≡ next_bits c t
    unfolding next_bits frame_read t
    read_is =
        let ranked = shape-number c sound labels k counter (ring_count c) (shape_next c counter) refl refl in
        rw (is_number, ← ranked, e)

    part_is : part ≡ coming_bits c (coming t moved.register)
    unfolding coming_bits
    part_is = done.slice ∙ ap (descramble c.role moved.register) read_is

    part-long : length part ≡ length_next c counter
    unfolding coming_bits t
    part-long = ap length part_is ∙ (length-descramble c.role moved.register (next_bits c t) ∙ next.length_is)

    left_is : after_bits c t ≡ left_at labels (k + 1) counter' after.z
    unfolding t
    left_is = left_on labels c k counter moved.z ∙ rw (counted, done.turned)

    register_is : push_all moved.register (next_bits c t) ≡ after.register
    register_is = ap (push_all moved.register) (sym read_is) ∙ sym done.held

    state_is : after_coming c (coming t moved.register) ≡ coming (left_at labels (k + 1) counter' after.z) after.register
    unfolding after_coming
    state_is = λ i. record { left = left_is i; register = register_is i }

    pub part-read-more : PartRead c labels z register (k + 1) after counter' end bits'
    unfolding t
    part-read-more =
        record {
          filling =
              subst (λ (s : Coming). Filling (coming_bits c) (after_coming c) [] c.frames begun (k + 1) s bits' end) state_is
              (filling_more h.filling more part bits' end part_is (omega (arith, part-long, is-end))
              (is-put ∙ put_loan bits at end part (omega (arith, part-long, is-end))));
          told = subst (λ (s : Receiving). Told c (c.frames - (k + 1)) s) left_is next.left;
          below = rw counted (counter-stays c.frames c.step counter sound.step-most h.below);
          held = rw (← register_is) (push_all-below moved.register (next_bits c t) h.held);
        }

-- The frame that a step gives, with its sixteen labels.
module _ {c : Settings} (sound : Sound c) {labels : List ℕ} {z register : ℕ} {moved : Moved} {bits : List ℕ}
    {frames after : Frames} {frame : Frame} {left : ChunksExact ℕ} (p : Paired c labels frames left)
    (h : PartRead c labels z register frames.index moved frames.counter frames.start bits) (step : Stepped frames frame after) where
  step-end : frame.end ≡ frames.start + length_next c frames.counter
  step-end = rw p.same at step.end

  -- its bits have room
  pub step-room : frame.end ≤ length bits
  step-room = omega (arith, step-end, frame-room sound h (paired-more p step))

  module _ (sixteen : Bor (List ℕ)) (next : ChunksExact ℕ) (chunk : chunks_exact_steps left (Some sixteen) next)
      (numbers : List ℕ) (ranked : Ranked c labels numbers) where
    here : sixteen.now ≡ sixteen_at labels frames.index
    here = sixteen_is p.sixteens sixteen next chunk

    found : get_or numbers frame.index 0 ≡ number_at c labels frames.index
    found = rw step.index (ranked.found frames.index (paired-more p step))

    -- it can be received
    pub step-receivable :
        length labels ≡ 16 * c.frames
        → FrameReceivable frame.shape (get_or numbers frame.index 0) moved sixteen.now (take (frame.end - frame.start) (drop frame.start bits))
    step-receivable count =
        rw (here, step.start)
        (frame_receivable sound h (paired-more p step) frame.shape (paired-shape p step) _ found frame.end step-end count)

    -- and then a frame more is read
    pub step-read :
        (then : Moved) (part : List ℕ)
        → FrameReceived c.role frame.shape (get_or numbers frame.index 0) moved sixteen.now then part
        → PartRead c labels z register after.index then after.counter after.start (put_mid frame.start (frame.end - frame.start) bits part)
    step-read then part done =
        let on : after.start ≡ frame.end = rw p.same at step.on ∙ sym step-end in
        rw (step.next, on, step.start)
        (part-read-more sound h (paired-more p step) then after.counter frame.end part _ frame.shape _ (paired-shape p step) found
        (rw here at done) step-end (paired-counted p step) refl)

-- all are
module _ {c : Settings} {labels : List ℕ} {z register k : ℕ} {moved : Moved} {counter at : ℕ} {bits : List ℕ}
    (h : PartRead c labels z register k moved counter at bits) (all : c.frames ≤ k) where
  pub part-read_all : bits ≡ data_bits c register z labels
  unfolding data_bits data_received
  part-read_all = filling_whole h.filling all ∙ coming-bits c c.frames (coming (receiving_of z labels) register)

  last :
      coming (left_at labels k counter moved.z) moved.register
      ≡ coming (iter (after_bits c) c.frames (receiving_of z labels)) (push_all register (data_received c z labels))
  unfolding data_received
  last = filling_last h.filling all ∙ coming_last c c.frames (coming (receiving_of z labels) register)

  pub part-read-register : moved.register ≡ data_read_register c register z labels
  unfolding data_read_register
  part-read-register = ap (λ (s : Coming). s.register) last

  pub part-read-turned : moved.z ≡ data_read_turned c z labels
  unfolding data_read_turned
  part-read-turned = ap (λ (s : Coming). s.left.z) last
