-- Demand 2 as one statement about any writer and any reader, that ours meet it, and that no useless version does: a writer or a reader
-- that refuses everything, leaves what it was lent, or whose output is always the same; a writer that codes only the first mapping frame,
-- however it pads the rest; and, of readers of what our writer writes, one that reads only the first mapping frame. (Another writer could
-- put all its bits into the first labels.) So such a version is refused whatever definition is changed along with the code. Assumes
-- nothing.
use mathlib.Core.Bool.{Bool, true, false}
use mathlib.Core.List.{List, ◌++◌}
use mathlib.Core.Path.{◌≡◌, refl, sym, ap, ◌∙◌}
use Prim.Native.Nat.{ℕ, zero, suc, ◌+◌, ◌*◌, ◌-◌, ◌≤◌, ◌<◌}
use native.Mathlib.Nat.{mul-le-mul}
use native.Mathlib.Omega.{arith}
use lib.ListN.{length, get_or, take, replicate, length-append, length-replicate, get_or-replicate}
use lib.Seq.{take_at, get_or-append-add}
use Rattle.bits.specs.Digits.{Bits}
use Rattle.laws.specs.Emit.{emit}
use Rattle.bits.proofs.Digitals.{bits-append}
use Rattle.line.specs.declared.settings.Settings.{Settings}
use Rattle.line.specs.Worked.{Accepted}
use Rattle.frame.specs.Shape.{length_of}
use Rattle.frame.specs.Writing.{frame_labels}
use Rattle.scrambler.specs.Scrambler.{scramble}
use Rattle.scrambler.proofs.Fronts.{take-scramble}
use Rattle.coder.specs.declared.states.State.{State}
use Rattle.coder.specs.Answers.{Answer}
use Rattle.coder.specs.State.{worked_in}
use Rattle.frame.specs.Next.{high_next, shape_next, length_next}
use Rattle.coder.specs.Sending.{ring_count, next_labels, after_labels, sending_of, data_labels}
use Rattle.coder.specs.Chain.{Call, Direction, writing, reading}
use Rattle.coder.proofs.Acceptance.{Taken, settings-sound, acceptance}
use Rattle.coder.proofs.Back.{sends-labels}
use Rattle.coder.proofs.Sent.{frame-sixteen}
use Rattle.coder.proofs.Starting.{Fit}
use Rattle.coder.proofs.Chains.{Undone, Undoes, Fills, fills_sendable, again, reads_undo, writes_undo}

pub record Demand2 (writer reader : Direction) : Type 0 where
  -- from every state that a start answers, every data frame of N bits is taken, and N is answered
  pub takes :
      (st : State) (c : Settings) → Fit st → worked_in st ≡ Accepted c → (call : Call) → Fills c call
      → Taken c call.given (writer.answer st call)
  -- reading what was written gives back the bits, and writing what the reader accepts gives back the labels, with the same answer
  pub reads : Undoes writer reader
  pub writes : Undoes reader writer

-- ours meet it
pub met : Demand2 writing reading
met =
    record {
      takes =
          λ st c fit worked call fills.
          acceptance st c call.given call.lent worked fit.held fit.turn fills.size fills.room fills.binary;
      reads = reads_undo;
      writes = writes_undo;
    }

-- What a useless version does in a state: its output goes by the first n of what it is given, and what comes after them is padded with
-- whatever it likes.
abbrev pub OnlyFront : Direction → State → ℕ → Type 0
OnlyFront way st n =
    (one other : Call) → one.lent ≡ other.lent → take n one.given ≡ take n other.given → way.buffer st one ≡ way.buffer st other

-- one that writes nothing is among them, and one whose output is always the same
pub nothing_written : (way : Direction) (st : State) (n : ℕ) → ((call : Call) → way.buffer st call ≡ call.lent) → OnlyFront way st n
nothing_written way st n leaves one other lent front = leaves one ∙ (lent ∙ sym (leaves other))

pub constant-output :
    (way : Direction) (st : State) (n : ℕ) (output : List ℕ) → ((call : Call) → way.buffer st call ≡ output) → OnlyFront way st n
constant-output way st n output same one other lent front = same one ∙ sym (same other)

-- Two data frames of one line that differ behind the first mapping frame alone: it has zeros, and then come zeros or ones.
bits-replicate : (n bit : ℕ) → bit ≤ 1 → Bits (replicate n bit)
bits-replicate zero bit h = tt
bits-replicate (suc n) bit h = (h, bits-replicate n bit h)

module _ (st : State) (c : Settings) (fit : Fit st) (worked : worked_in st ≡ Accepted c) where
  -- how many bits the first mapping frame has, and how many come behind it
  first : ℕ
  first = length_next c 0

  behind : ℕ
  behind = c.user - first

  some-behind : first < c.user
  unfolding first
  some-behind =
      let sound = settings-sound st c worked in
      let high = sound.high-least in
      let least : (c.high - 1) * 12 ≤ (c.high - 1) * c.frames = mul-le-mul (omega arith) sound.frames-least in
      go (high_next c 0) (omega (arith, sound.fewer, sound.user_is))
    where
      go : (v : Bool) → c.high < c.user → length_of c.high v < c.user
      go true h = h
      go false h = omega arith

  front : List ℕ
  front = replicate first 0

  front_length : length front ≡ first
  unfolding front
  front_length = length-replicate {A = ℕ} first 0

  ending : ℕ → List ℕ
  ending bit = front ++ replicate behind bit

  ending-length : (bit : ℕ) → length (ending bit) ≡ c.user
  unfolding ending behind
  ending-length bit =
      length-append front (replicate (c.user - first) bit)
      ∙ omega (arith, front_length, length-replicate {A = ℕ} (c.user - first) bit, some-behind)

  ending-front : (bit : ℕ) → take first (ending bit) ≡ front
  unfolding ending
  ending-front bit = take_at front (replicate behind bit) first front_length

  ending_last : (bit : ℕ) → get_or (ending bit) (length front + 0) 0 ≡ bit
  unfolding ending behind
  ending_last bit =
      get_or-append-add front (replicate (c.user - first) bit) 0 0
      ∙ get_or-replicate {A = ℕ} (c.user - first) 0 bit 0 (omega (arith, some-behind))

  -- they are not the same
  endings_differ : ending 0 ≡ ending 1 → ⊥
  endings_differ e =
      omega (arith, ending_last 0, ending_last 1, ap (λ (l : List ℕ). get_or l (length front + 0) 0) e)

  -- each given to the writer, with room for its labels
  frame : ℕ → Call
  frame bit = record { given = ending bit; lent = replicate (16 * c.frames) 0 }

  frame-fills : (bit : ℕ) → bit ≤ 1 → Fills c (frame bit)
  unfolding frame ending front
  frame-fills bit h =
      record {
        size = ending-length bit;
        room = length-replicate {A = ℕ} (16 * c.frames) 0;
        binary = bits-append front (replicate behind bit) (bits-replicate first 0 (omega arith)) (bits-replicate behind bit h);
      }

  -- any writer and reader that meet the demand
  module _ (writer reader : Direction) (demand : Demand2 writer reader) where
    accepted : (bit : ℕ) → bit ≤ 1 → (writer.answer st (frame bit)).refusal ≡ 0
    accepted bit h = (demand.takes st c fit worked (frame bit) (frame-fills bit h)).done

    -- a buffer for the bits that are read
    space : List ℕ
    space = replicate c.user 0

    back : (bit : ℕ) → bit ≤ 1 → Undone writer reader st (frame bit) space
    unfolding frame space
    back bit h = demand.reads st (frame bit) space (accepted bit h) (length-replicate {A = ℕ} c.user 0 ∙ sym (ending-length bit))

    -- no such writer, and no such reader, refuses everything
    pub writer-takes-some : ((call : Call) → (writer.answer st call).refusal ≡ 0 → ⊥) → ⊥
    writer-takes-some refuses = refuses (frame 0) (accepted 0 (omega arith))

    pub reader-takes-some : ((call : Call) → (reader.answer st call).refusal ≡ 0 → ⊥) → ⊥
    reader-takes-some refuses =
        let u = back 0 (omega arith) in
        refuses (again writer st (frame 0) space) (ap (λ (r : Answer). r.refusal) u.same ∙ accepted 0 (omega arith))

    -- the two data frames come back, so that what is read for the one is not what is read for the other
    never_same : reader.buffer st (again writer st (frame 0) space) ≡ reader.buffer st (again writer st (frame 1) space) → ⊥
    unfolding frame
    never_same e = endings_differ (sym (back 0 (omega arith)).back ∙ (e ∙ (back 1 (omega arith)).back))

    -- no such reader goes by nothing of what it is given: it neither leaves what it was lent nor always gives the same
    pub reader-looks : OnlyFront reader st 0 → ⊥
    reader-looks only = never_same (only _ _ refl refl)

    -- no such writer goes by the first mapping frame alone
    pub writer-looks-further : OnlyFront writer st (length_next c 0) → ⊥
    unfolding frame first
    writer-looks-further only =
        let labels = only (frame 0) (frame 1) refl (ending-front 0 ∙ sym (ending-front 1)) in
        never_same (ap (λ (l : List ℕ). reader.buffer st (record { given = l; lent = space })) labels)

  -- Our writer's labels of the first mapping frame, which go by the bits of that frame, are the same for both.
  first_labels : List ℕ → List ℕ
  first_labels bits = frame_labels (ring_count c) (shape_next c 0) st.z (scramble c.role st.register bits)

  first-labels : (bit : ℕ) → bit ≤ 1 → take 16 (writing.buffer st (frame bit)) ≡ first_labels front
  unfolding frame data_labels emit next_labels first_labels first
  first-labels bit h =
      let w = fills_sendable st c worked fit.held fit.turn (frame bit) (frame-fills bit h) in
      let frames : c.frames ≡ suc (c.frames - 1) = omega (arith, (settings-sound st c worked).frames-least) in
      let start = sending_of c st.register st.z (ending bit) in
      let parts : ℕ → List ℕ = λ n. emit (next_labels c) (after_labels c) n start in
      let rest = emit (next_labels c) (after_labels c) (c.frames - 1) (after_labels c start) in
      ap (take 16) (sends-labels st (ending bit) (replicate (16 * c.frames) 0) c w ∙ ap parts frames)
      ∙ (take_at (next_labels c start) rest 16 (frame-sixteen _ _ _ _) ∙ rw (take-scramble, ending-front bit))

  -- and so no reader of what our writer writes goes by the first sixteen labels alone
  pub reader-looks-further : (reader : Direction) → Demand2 writing reader → OnlyFront reader st 16 → ⊥
  reader-looks-further reader demand only =
      never_same writing reader demand (only _ _ refl (first-labels 0 (omega arith) ∙ sym (first-labels 1 (omega arith))))
