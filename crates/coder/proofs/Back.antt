-- Writer and reader undo each other, from every state: reading what was written gives back the bits, and writing what was read gives
-- back the labels, with the same number, the same N and the same next state. So the reader accepts exactly the labels that the writer
-- can write from that state. Assumes nothing.
use mathlib.Core.List.{List}
use mathlib.Core.Logic.{◌↔◌}
use mathlib.Core.Path.{◌≡◌, refl, sym, ap, ap₂, subst, ◌∙◌}
use Prim.Native.Nat.{ℕ, ◌^◌, ◌≤◌, ◌<◌}
use lib.ListN.{length, replicate, length-replicate}
use Rattle.line.specs.declared.settings.Settings.{Settings}
use Rattle.line.specs.Worked.{Accepted}
use Rattle.coder.specs.declared.states.State.{State}
use Rattle.coder.specs.State.{worked_in}
use Rattle.coder.specs.Answers.{Answer, coded, written, received, labels_of, bits_of, written_of, labels_after, read_of, bits_after}
use Rattle.coder.specs.Answers.{Sendable, Receivable}
use Rattle.coder.proofs.Sent.{Sent, sent}
use Rattle.coder.proofs.Received.{Received, all-received}
use Rattle.coder.proofs.Acceptance.{settings-sound, sendable_unrefused, sends, written_sendable}
use Rattle.coder.proofs.Acceptance.{receivable_unrefused, receives, read_receivable}

-- Reading what was written.

-- what was written, read into a buffer
pub record ReadBack (st : State) (bits out buffer : List ℕ) : Type 0 where
  pub answer : read_of st (labels_after st bits out) (length buffer) ≡ written_of st bits (length out)
  pub bits_back : bits_after st (labels_after st bits out) buffer ≡ bits

-- bits that the writer can send, with settings c
module _ (st : State) (c : Settings) (bits out : List ℕ) (w : Sendable st c bits out) where
  -- all the bits of the data frame are the user's
  all_user : c.user ≡ c.bits
  all_user = (settings-sound st c w.worked).user_is

  sent_data : Sent c st.register st.z bits (labels_of (Accepted c) st bits)
  sent_data = sent c (settings-sound st c w.worked) st.register st.z w.held w.turn bits w.binary (w.size ∙ all_user)

  -- the reader can receive their labels, and answers the same
  coded_receivable : (buffer : List ℕ) → length buffer ≡ length bits → Receivable st c (labels_of (Accepted c) st bits) buffer
  coded_receivable buffer e =
      record {
        worked = w.worked;
        held = w.held;
        turn = w.turn;
        count = sent_data.size;
        size = e ∙ w.size;
        ranges = sent_data.ranges;
        numbers = sent_data.numbers;
        steps = sent_data.steps;
      }

  same_read : received (Accepted c) st (labels_of (Accepted c) st bits) ≡ written (Accepted c) st bits
  same_read = ap₂ (coded c st) sent_data.registers sent_data.turns

  coded-back : (buffer : List ℕ) → length buffer ≡ length bits → ReadBack st bits out buffer
  unfolding labels_after bits_after
  coded-back buffer e =
      record {
        answer =
            rw (w.worked, sendable_unrefused st bits out c w)
            (receives st (labels_of (Accepted c) st bits) buffer c r ∙ (same_read ∙ sym (sends st bits out c w)));
        bits_back = rw (w.worked, sendable_unrefused st bits out c w, receivable_unrefused st _ buffer c r) sent_data.back;
      }
    where
      r : Receivable st c (labels_of (Accepted c) st bits) buffer
      r = coded_receivable buffer e

  -- the next state has the same settings, and is fit
  pub next-worked : worked_in (written_of st bits (length out)).state ≡ Accepted c
  next-worked = ap (λ (r : Answer). worked_in r.state) (sends st bits out c w) ∙ w.worked

  pub next-held : (written_of st bits (length out)).state.register < 2 ^ 23
  next-held = subst (λ (r : Answer). r.state.register < 2 ^ 23) (sym (sends st bits out c w)) sent_data.register-below

  pub next-turn : (written_of st bits (length out)).state.z ≤ 3
  next-turn = subst (λ (r : Answer). r.state.z ≤ 3) (sym (sends st bits out c w)) sent_data.turn-most

-- for every state, bits and buffers
pub reading-back :
    (st : State) (bits out buffer : List ℕ) → (written_of st bits (length out)).refusal ≡ 0 → length buffer ≡ length bits
    → ReadBack st bits out buffer
reading-back st bits out buffer done e =
    let found = written_sendable st bits out done in
    coded-back st found.0 bits out found.1 buffer e

-- Writing what the reader accepts.

-- what was read, written into a buffer
pub record WrittenBack (st : State) (labels bits buffer : List ℕ) : Type 0 where
  pub answer : written_of st (bits_after st labels bits) (length buffer) ≡ read_of st labels (length bits)
  pub labels-back : labels_after st (bits_after st labels bits) buffer ≡ labels

-- labels that the reader can receive, with settings c
module _ (st : State) (c : Settings) (labels bits : List ℕ) (r : Receivable st c labels bits) where
  pub decoded : Received c st.register st.z labels (bits_of (Accepted c) st labels)
  decoded =
      all-received c (settings-sound st c r.worked) st.register st.z r.turn
      labels r.count r.ranges r.numbers r.steps

  -- the writer can send their bits, and answers the same
  decoded_sendable : (buffer : List ℕ) → length buffer ≡ length labels → Sendable st c (bits_of (Accepted c) st labels) buffer
  decoded_sendable buffer e =
      record {
        worked = r.worked;
        held = r.held;
        turn = r.turn;
        binary = decoded.binary;
        size = decoded.size ∙ sym (settings-sound st c r.worked).user_is;
        labels = e ∙ r.count;
      }

  same_written : written (Accepted c) st (bits_of (Accepted c) st labels) ≡ received (Accepted c) st labels
  same_written = ap₂ (coded c st) decoded.registers decoded.turns

  decoded-back : (buffer : List ℕ) → length buffer ≡ length labels → WrittenBack st labels bits buffer
  unfolding labels_after bits_after
  decoded-back buffer e =
      record {
        answer =
            rw (r.worked, receivable_unrefused st labels bits c r)
            (sends st (bits_of (Accepted c) st labels) buffer c w ∙ (same_written ∙ sym (receives st labels bits c r)));
        labels-back = rw (r.worked, receivable_unrefused st labels bits c r, sendable_unrefused st _ buffer c w) decoded.back;
      }
    where
      w : Sendable st c (bits_of (Accepted c) st labels) buffer
      w = decoded_sendable buffer e

-- for every state, labels and buffers
pub writing-back :
    (st : State) (labels bits buffer : List ℕ) → (read_of st labels (length bits)).refusal ≡ 0 → length buffer ≡ length labels
    → WrittenBack st labels bits buffer
writing-back st labels bits buffer done e =
    let found = read_receivable st labels bits done in
    decoded-back st found.0 labels bits found.1 buffer e

-- The reader accepts exactly the labels that the writer can write from that state.

-- labels that the reader accepts from a state, with some buffer, and labels that the writer writes from it, for some bits
abbrev pub ReadFrom : State → List ℕ → Type 0
ReadFrom st labels = (buffer : List ℕ) × ((read_of st labels (length buffer)).refusal ≡ 0)

abbrev pub WrittenFrom : State → List ℕ → Type 0
WrittenFrom st labels =
    (bits : List ℕ) × (out : List ℕ) × ((written_of st bits (length out)).refusal ≡ 0) × (labels_after st bits out ≡ labels)

pub reads_what_is_written : (st : State) (labels : List ℕ) → ReadFrom st labels ↔ WrittenFrom st labels
reads_what_is_written st labels = (forth, back)
  where
    -- as many zeros as there are labels
    zeros : List ℕ
    zeros = replicate (length labels) 0

    forth : ReadFrom st labels → WrittenFrom st labels
    forth p =
        let b = writing-back st labels p.0 zeros p.1 (length-replicate {A = ℕ} (length labels) 0) in
        (bits_after st labels p.0, zeros, ap (λ (r : Answer). r.refusal) b.answer ∙ p.1, b.labels-back)

    back : WrittenFrom st labels → ReadFrom st labels
    back p =
        let b = reading-back st p.0 p.1 p.0 p.2 refl in
        (p.0, subst (λ (l : List ℕ). (read_of st l (length p.0)).refusal ≡ 0) p.3 (ap (λ (r : Answer). r.refusal) b.answer ∙ p.2))

-- What the lent buffers then hold: the labels of the bits, and the bits of the labels.
pub sends-labels :
    (st : State) (bits out : List ℕ) (c : Settings) → Sendable st c bits out → labels_after st bits out ≡ labels_of (Accepted c) st bits
unfolding labels_after
sends-labels st bits out c w = rw (w.worked, sendable_unrefused st bits out c w)

pub receives_bits :
    (st : State) (labels bits : List ℕ) (c : Settings) → Receivable st c labels bits
    → bits_after st labels bits ≡ bits_of (Accepted c) st labels
unfolding bits_after
receives_bits st labels bits c r = rw (r.worked, receivable_unrefused st labels bits c r)
