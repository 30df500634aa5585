-- A data frame's labels, mapping frame by mapping frame, as the reader's passes meet them: the sixteen labels of a frame are lent in
-- part, their ranges follow from those of all, and what is left to test after a frame is the test of the others. Assumes nothing.
use mathlib.Core.Bool.{Bool, true, not, ◌&&◌}
use mathlib.Core.List.{List, [], ◌∷◌, ◌++◌}
use mathlib.Core.Logic.{◌⊎◌, inl, inr}
use mathlib.Core.Path.{◌≡◌, refl, sym, ap, subst, ◌∙◌}
use Prim.Native.Nat.{ℕ, zero, suc, ◌+◌, ◌*◌, ◌-◌, ◌≤◌, ◌<◌}
use native.Mathlib.Nat.{sub-zero}
use native.Mathlib.Numerals.{add-one}
use native.Mathlib.Omega.{arith}
use lib.ListN.{length, get_or, take, drop, length-append, length-drop}
use lib.Seq.{drop-drop, length-take-le, take_at, drop_at}
use denote.Ref.{Bor}
use Rattle.std.specs.declared.slice.ChunksExact.{ChunksExact}
use Rattle.std.specs.Prelude.{Some, None}
use Rattle.std.specs.Iterator.{AlwaysYields}
use Rattle.std.specs.List.{list_all}
use Rattle.std.specs.Slice.Iter.{chunks_exact_rest, chunks_exact_size, chunks_exact_steps}
use Rattle.laws.proofs.Bools.{and_parts}
use Rattle.line.specs.declared.settings.Settings.{Settings}
use Rattle.line.specs.Worked.{Accepted}
use Rattle.line.specs.Switching.{counter_after}
use Rattle.line.proofs.Soundness.{Sound, accepted-sound}
use Rattle.frame.specs.declared.shape.Shape.{Shape}
use Rattle.frame.specs.Reading.{in_range, number_fits, steps_fit, frame_read_turned}
use Rattle.coder.specs.declared.states.State.{State}
use Rattle.coder.specs.State.{worked_in}
use Rattle.coder.specs.Answers.{exact}
use Rattle.coder.proofs.Acceptance.{passes-exact}
use Rattle.reader.specs.Requires.{Settled, Ranging}
use Rattle.frame.specs.Next.{shape_next}
use Rattle.frame.specs.Requires as requires
use Rattle.frame.proofs.Sixteen.{rings-fit}
use Rattle.coder.specs.Sending.{ring_count}
use Rattle.coder.specs.Receiving.{Receiving, after_bits, numbers_fit, all_steps_fit}
use Rattle.coder.proofs.Ranges.{frame-ranges, turns-small, turned-small}
use Rattle.mapping_frames.specs.Steps.{Going, Stepped, steps}
use Rattle.mapping_frames.specs.declared.Frame.{Frame}
use Rattle.mapping_frames.specs.declared.Frames.{Frames}
use Rattle.mapping_frames.proofs.Goes.{going_none}

-- settings that were worked out are sound
pub sound_of : {c : Settings} → Settled c → Sound c
sound_of {c} e = accepted-sound e.asked c e.worked

-- and so are those of a state
pub settled_in : (st : State) (c : Settings) → worked_in st ≡ Accepted c → Settled c
settled_in st c e = record { asked = st.asked; worked = e }

-- where the lengths are exact, there are all labels
pub counted_in : (c : Settings) (lent count : ℕ) → exact c lent count ≡ true → count ≡ 16 * c.frames
counted_in c lent count exactly = (passes-exact c lent count (ap not exactly)).1

-- The labels of a data frame.
module _ (labels : List ℕ) where
  -- those of frame k, as they are lent
  abbrev pub sixteen_at : ℕ → List ℕ
  sixteen_at k = take 16 (drop (16 * k) labels)

  -- what is left to read before frame k
  abbrev pub left_at : ℕ → ℕ → ℕ → Receiving
  left_at k counter z = record { labels = drop (16 * k) labels; counter = counter; z = z }

  -- and after it
  abbrev pub left_next : Settings → ℕ → ℕ → Receiving
  left_next c k counter = left_at (k + 1) (counter_after c.frames c.step counter) (frame_read_turned (sixteen_at k))

  sixteen_on : (k : ℕ) → drop 16 (drop (16 * k) labels) ≡ drop (16 * (k + 1)) labels
  sixteen_on k = let e : 16 * k + 16 ≡ 16 * (k + 1) = omega arith in drop-drop 16 (16 * k) labels ∙ rw e

  pub left_on : (c : Settings) (k counter z : ℕ) → after_bits c (left_at k counter z) ≡ left_next c k counter
  unfolding after_bits
  left_on c k counter z = rw sixteen_on

  -- Those of P frames.
  module _ (P : ℕ) (count : length labels ≡ 16 * P) where
    one_off : (k : ℕ) → k < P → P - k ≡ suc (P - (k + 1))
    one_off k more = omega arith

    rest-length : (k : ℕ) → k < P → length (drop (16 * k) labels) ≡ 16 * suc (P - (k + 1))
    rest-length k more = length-drop (16 * k) labels ∙ omega arith

    pub sixteen-length : (k : ℕ) → k < P → length (sixteen_at k) ≡ 16
    sixteen-length k more = length-take-le 16 (drop (16 * k) labels) (omega (arith, rest-length k more))

    -- 10: the ranges of a frame, and of those after it
    ranges-next :
        (M q k : ℕ) → k < P
        → in_range M q (4 * (P - k)) (drop (16 * k) labels)
        ≡ (in_range M q 4 (sixteen_at k) && in_range M q (4 * (P - (k + 1))) (drop (16 * (k + 1)) labels))
    ranges-next M q k more =
        rw (one_off k more) (frame-ranges M q (P - (k + 1)) (drop (16 * k) labels) (rest-length k more) ∙ rw (sixteen_on k))

    range-from :
        (M q : ℕ) → in_range M q (4 * P) labels ≡ true → (k : ℕ) → k ≤ P → in_range M q (4 * (P - k)) (drop (16 * k) labels) ≡ true
    range-from M q all zero h = rw sub-zero all
    range-from M q all (suc k) h =
        subst (λ (n : ℕ). in_range M q (4 * (P - n)) (drop (16 * n) labels) ≡ true) (add-one k)
        (and_parts (in_range M q 4 (sixteen_at k)) _ (sym (ranges-next M q k (omega arith)) ∙ range-from M q all k (omega arith))).1

    frame-range : (M q : ℕ) → in_range M q (4 * P) labels ≡ true → (k : ℕ) → k < P → in_range M q 4 (sixteen_at k) ≡ true
    frame-range M q all k more =
        (and_parts (in_range M q 4 (sixteen_at k)) _ (sym (ranges-next M q k more) ∙ range-from M q all k (omega arith))).0

-- The labels cut into sixteens, as `chunks_exact(16)` cuts them.
unfoldable pub sixteens : ℕ → List ℕ → List (List ℕ)
sixteens zero labels = []
sixteens (suc k) labels = take 16 labels ∷ sixteens k (drop 16 labels)

pub yields_sixteens :
    (k : ℕ) (left : ChunksExact ℕ) (labels : List ℕ)
    → chunks_exact_rest left ≡ labels → chunks_exact_size left ≡ 16 → length labels ≡ 16 * k
    → AlwaysYields chunks_exact_steps (λ x. x.now) left (sixteens k labels)
unfolding sixteens
yields_sixteens zero left labels is_rest is_size long =
    λ x j h. absurd (omega (arith, ap length h.1.0, ap length is_rest, length-append x.now (chunks_exact_rest j), h.1.1))
yields_sixteens (suc k) left labels is_rest is_size long = (
  λ j h. absurd (omega (arith, h.1.0, ap length is_rest)),
  λ x j h.
      let sixteen : length x.now ≡ 16 = h.1.1 ∙ is_size in
      let cut : labels ≡ x.now ++ chunks_exact_rest j = sym is_rest ∙ h.1.0 in (
        rw cut (sym (take_at x.now (chunks_exact_rest j) 16 sixteen)),
        yields_sixteens k j (drop 16 labels) (rw cut (sym (drop_at x.now (chunks_exact_rest j) 16 sixteen))) (h.0 ∙ is_size)
            (length-drop 16 labels ∙ omega (arith, long)),
      ),
)

-- 10: all labels are in their ranges where those of each frame are
pub sixteens-in_range :
    (M q k : ℕ) (labels : List ℕ) → length labels ≡ 16 * k
    → list_all (in_range M q 4) (sixteens k labels) ≡ in_range M q (4 * k) labels
unfolding sixteens in_range
sixteens-in_range M q zero labels long = refl
sixteens-in_range M q (suc k) labels long =
    ap (λ (r : Bool). in_range M q 4 (take 16 labels) && r)
    (sixteens-in_range M q k (drop 16 labels) (length-drop 16 labels ∙ omega (arith, long)))
    ∙ sym (frame-ranges M q k labels long)

-- The labels from frame k on are left, sixteen by sixteen.
pub record Sixteens (labels : List ℕ) (left : ChunksExact ℕ) (k : ℕ) : Type 0 where
  pub size : chunks_exact_size left ≡ 16
  pub rest : chunks_exact_rest left ≡ drop (16 * k) labels

module _ {labels : List ℕ} {left : ChunksExact ℕ} {k : ℕ} (h : Sixteens labels left k) where
  -- the next sixteen are those of frame k
  module _ (sixteen : Bor (List ℕ)) (next : ChunksExact ℕ) (step : chunks_exact_steps left (Some sixteen) next) where
    sixteen-long : length sixteen.now ≡ 16
    sixteen-long = step.1.1 ∙ h.size

    sixteen-first : drop (16 * k) labels ≡ sixteen.now ++ chunks_exact_rest next
    sixteen-first = sym h.rest ∙ step.1.0

    pub sixteen_is : sixteen.now ≡ sixteen_at labels k
    sixteen_is = sym (ap (take 16) sixteen-first ∙ take_at sixteen.now (chunks_exact_rest next) 16 sixteen-long)

    pub sixteens-next : Sixteens labels next (k + 1)
    sixteens-next =
        record {
          size = step.0 ∙ h.size;
          rest =
              sym (drop_at sixteen.now (chunks_exact_rest next) 16 sixteen-long)
              ∙ (sym (ap (drop 16) sixteen-first) ∙ sixteen_on labels k);
        }

  -- and no frame is left where none come
  pub sixteens_end :
      (P : ℕ) → length labels ≡ 16 * P → (next : ChunksExact ℕ) → chunks_exact_steps left None next → P ≤ k
  sixteens_end P count next step =
      omega (arith, step.1.0, h.size, ap length h.rest, length-drop (16 * k) labels)

-- The mapping frames that are left, each with its sixteen labels.
pub record Paired (c : Settings) (labels : List ℕ) (frames : Frames) (left : ChunksExact ℕ) : Type 0 where
  pub going : Going frames
  pub same : frames.settings ≡ c
  pub sixteens : Sixteens labels left frames.index

pub paired_none :
    (c : Settings) (labels : List ℕ) (frames : Frames) (left : ChunksExact ℕ)
    → Sound c → frames ≡ record { settings = c; index = 0; counter = 0; start = 0 }
    → chunks_exact_size left ≡ 16 → chunks_exact_rest left ≡ labels → Paired c labels frames left
paired_none c labels frames left sound all size rest =
    rw all (record { going = going_none c sound; same = refl; sixteens = record { size = size; rest = rest } })

module _ {c : Settings} {labels : List ℕ} {frames : Frames} {left : ChunksExact ℕ} (h : Paired c labels frames left) where
  module _ {frame : Frame} {after : Frames} (step : Stepped frames frame after) where
    pub paired-more : frames.index < c.frames
    paired-more = rw h.same at step.more

    pub paired-shape : frame.shape ≡ shape_next c frames.counter
    paired-shape = rw h.same at step.shape

    pub paired-counted : after.counter ≡ counter_after c.frames c.step frames.counter
    paired-counted = rw h.same at step.counted

    pub paired-next :
        (sixteen : Bor (List ℕ)) (next : ChunksExact ℕ) → chunks_exact_steps left (Some sixteen) next → Going after
        → Paired c labels after next
    paired-next sixteen next chunk going =
        record { going = going; same = step.settings ∙ h.same; sixteens = rw step.next (sixteens-next h.sixteens sixteen next chunk) }

  pub paired_end :
      length labels ≡ 16 * c.frames
      → ((after : Frames) × steps frames None after) ⊎ ((next : ChunksExact ℕ) × chunks_exact_steps left None next)
      → c.frames ≤ frames.index
  paired_end count (inl w) = omega (arith, rw h.same at w.1.0)
  paired_end count (inr w) = sixteens_end h.sixteens c.frames count w.0 w.1

-- A frame of labels that are in their ranges.
module _ {c : Settings} {labels : List ℕ} (g : Ranging c labels) (k : ℕ) (more : k < c.frames) where
  pub ranging_sixteen : length (sixteen_at labels k) ≡ 16
  ranging_sixteen = sixteen-length labels c.frames g.count k more

  pub ranging_frame : in_range (ring_count c) c.uncoded 4 (sixteen_at labels k) ≡ true
  ranging_frame = frame-range labels c.frames g.count (ring_count c) c.uncoded g.ranges k more

  -- its rings can be taken out
  pub rings-taken : requires.RingsFit c.uncoded (sixteen_at labels k)
  rings-taken =
      let sound = sound_of g.settled in
      rings-fit (ring_count c) c.uncoded (sixteen_at labels k) (omega (arith, sound.rings.most)) sound.uncoded-most ranging_sixteen
      ranging_frame

  -- its steps of Z can be looked at, and the last Z is small
  pub stepped_at : (z : ℕ) → z ≤ 3 → requires.Stepped z (sixteen_at labels k)
  stepped_at z turn =
      record {
        turn = turn;
        sixteen = ranging_sixteen;
        turns = turns-small (ring_count c) c.uncoded (sixteen_at labels k) ranging_frame;
      }

  pub turned-next : frame_read_turned (sixteen_at labels k) ≤ 3
  turned-next = turned-small (ring_count c) c.uncoded (sixteen_at labels k) ranging_frame

-- The labels of settings.
module _ (c : Settings) (labels : List ℕ) where
  -- 11: a frame's number, and those after it
  pub number-next :
      (k counter z : ℕ) → k < c.frames
      → numbers_fit c (c.frames - k) (left_at labels k counter z)
      ≡ (number_fits (ring_count c) (shape_next c counter) (sixteen_at labels k)
      && numbers_fit c (c.frames - (k + 1)) (left_next labels c k counter))
  unfolding numbers_fit
  number-next k counter z more =
      let e : c.frames - k ≡ suc (c.frames - (k + 1)) = omega arith in
      rw (e, left_on labels c k counter z)

  pub number_none : (k counter z : ℕ) → c.frames ≤ k → numbers_fit c (c.frames - k) (left_at labels k counter z) ≡ true
  unfolding numbers_fit
  number_none k counter z all = let e : c.frames - k ≡ 0 = omega arith in rw e

  -- 12: a frame's steps, and those after it
  pub steps_next :
      (k counter z : ℕ) → k < c.frames
      → all_steps_fit c (c.frames - k) (left_at labels k counter z)
      ≡ (steps_fit (shape_next c counter).threes z 4 (sixteen_at labels k)
      && all_steps_fit c (c.frames - (k + 1)) (left_next labels c k counter))
  unfolding all_steps_fit
  steps_next k counter z more =
      let e : c.frames - k ≡ suc (c.frames - (k + 1)) = omega arith in
      rw (e, left_on labels c k counter z)

  pub steps_none : (k counter z : ℕ) → c.frames ≤ k → all_steps_fit c (c.frames - k) (left_at labels k counter z) ≡ true
  unfolding all_steps_fit
  steps_none k counter z all = let e : c.frames - k ≡ 0 = omega arith in rw e

-- the numbers don't ask for Z
pub number-any :
    (c : Settings) (k : ℕ) (labels : List ℕ) (counter z z' : ℕ)
    → numbers_fit c k (record { labels = labels; counter = counter; z = z })
    ≡ numbers_fit c k (record { labels = labels; counter = counter; z = z' })
unfolding numbers_fit after_bits
number-any c zero labels counter z z' = refl
number-any c (suc k) labels counter z z' = refl

-- One turn of a pass: the answer about a frame, and what is left to test.
module _ (c : Settings) (labels : List ℕ) (k counter after : ℕ) (more : k < c.frames)
    (counted : after ≡ counter_after c.frames c.step counter) where
  number-turn :
      (M : ℕ) (shape : Shape) (r : Bool) → r ≡ number_fits M shape (sixteen_at labels k) → M ≡ ring_count c → shape ≡ shape_next c counter
      → numbers_fit c (c.frames - k) (left_at labels k counter 0) ≡ (r && numbers_fit c (c.frames - (k + 1)) (left_at labels (k + 1) after 0))
  number-turn M shape r answer m s =
      let next = left_next labels c k counter in
      let any = number-any c (c.frames - (k + 1)) next.labels next.counter next.z 0 in
      number-next c labels k counter 0 more ∙ rw (answer, m, s, counted, any)

  steps-turn :
      (z turned : ℕ) (shape : Shape) (r : Bool) → r ≡ steps_fit shape.threes z 4 (sixteen_at labels k) → shape ≡ shape_next c counter
      → turned ≡ frame_read_turned (sixteen_at labels k)
      → all_steps_fit c (c.frames - k) (left_at labels k counter z)
      ≡ (r && all_steps_fit c (c.frames - (k + 1)) (left_at labels (k + 1) after turned))
  steps-turn z turned shape r answer s t = steps_next c labels k counter z more ∙ rw (answer, s, counted, t)

-- The same where the frame comes with its sixteen labels.
module _ {c : Settings} {labels : List ℕ} {frames : Frames} {left : ChunksExact ℕ} (h : Paired c labels frames left)
    {frame : Frame} {after : Frames} (step : Stepped frames frame after) where
  pub paired-number :
      (r : Bool) → r ≡ number_fits (ring_count c) frame.shape (sixteen_at labels frames.index)
      → numbers_fit c (c.frames - frames.index) (left_at labels frames.index frames.counter 0)
      ≡ (r && numbers_fit c (c.frames - after.index) (left_at labels after.index after.counter 0))
  paired-number r answer =
      rw step.next
      (number-turn c labels frames.index frames.counter after.counter (paired-more h step) (paired-counted h step)
      (ring_count c) frame.shape r answer refl (paired-shape h step))

  pub paired-steps :
      (z turned : ℕ) (r : Bool) → r ≡ steps_fit frame.shape.threes z 4 (sixteen_at labels frames.index)
      → turned ≡ frame_read_turned (sixteen_at labels frames.index)
      → all_steps_fit c (c.frames - frames.index) (left_at labels frames.index frames.counter z)
      ≡ (r && all_steps_fit c (c.frames - after.index) (left_at labels after.index after.counter turned))
  paired-steps z turned r answer is-turned =
      rw step.next
      (steps-turn c labels frames.index frames.counter after.counter (paired-more h step) (paired-counted h step)
      z turned frame.shape r answer (paired-shape h step) is-turned)

-- Z after a frame is one of its labels
pub turned_is : (sixteen : List ℕ) → frame_read_turned sixteen ≡ get_or sixteen 14 0
unfolding frame_read_turned
turned_is sixteen = refl
