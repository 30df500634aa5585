-- The answers of ww_write and ww_read by their ways out: what the coder refuses for the labels that it is lent is what is refused for the
-- bytes, and what it codes is laid out. Assumes nothing.
use mathlib.Core.Bool.{Bool, true, false, not}
use mathlib.Core.List.{List, [], ◌∷◌}
use mathlib.Core.Path.{◌≡◌, refl, sym, ap, ◌∙◌}
use Prim.Native.Nat.{ℕ, ◌*◌}
use native.Mathlib.Omega.{arith}
use lib.ListN.{length, take}
use lib.Seq.{length-take-le, take_all}
use borrow.Author.Tests.{ne_eqb}
use Rattle.laws.specs.Choice.{refusal}
use Rattle.line.specs.declared.settings.Settings.{Settings}
use Rattle.line.specs.Worked.{Worked, Accepted, Refused}
use Rattle.coder.specs.declared.states.State.{State}
use Rattle.coder.specs.declared.states.Coded.{Coded}
use Rattle.coder.specs.State.{worked_in, unfit}
use Rattle.coder.specs.Receiving.{receiving_of, all_in_range, numbers_fit, all_steps_fit}
use Rattle.bits.specs.Digits.{all_bits}
use Rattle.coder.specs.Answers.{exact, write_refusal, written, labels_of, written_of, labels_after, Sendable}
use Rattle.coder.specs.Answers.{read_refusal, received, bits_of, read_of, bits_after, Receivable}
use Rattle.coder.proofs.Acceptance.{settings-sound, passes-exact, sends, written_sendable, receives, read_receivable}
use Rattle.coder.proofs.Back.{sends-labels, receives_bits}
use Rattle.workerwax.specs.Calls.{exact_bytes, state_numbers, write_number, read_number, coded_numbers, WriteCall, ReadCall}
use Rattle.workerwax.specs.Layout.{words, label_bytes, labels_in}
use Rattle.workerwax.specs.Lending.{lent_labels}
use Rattle.refusals.specs.declared.Refusal.{Refusal}
use Rattle.refusals.specs.Numbers.{number}
use Rattle.refusals.proofs.Once.{some_number}
use Rattle.std.specs.Prelude.{Ok, Err}
use Rattle.coder.specs.Answers.{Answer, answered, WriteAnswer, ReadAnswer}
use Rattle.workerwax.proofs.Lends.{LentBytes, lent-some, lent-within, exact_same, length-labels}
use Rattle.workerwax.proofs.Refusals.{written-refusal, read-refusal}
use Rattle.workerwax.proofs.Ways.{as_it_was, filled_up}

-- ww_write: `part` is what the coder is lent.
module _ (st : State) (bits labels answer part : List ℕ) (sized : length part ≡ lent_labels (length labels) (length answer)) where
  pub write_same : write_refusal (worked_in st) st bits (length part) ≡ write_number (worked_in st) st bits (length labels) (length answer)
  write_same = rw sized (go (worked_in st) refl)
    where
      go :
          (w : Worked) → worked_in st ≡ w
          → write_refusal w st bits (lent_labels (length labels) (length answer)) ≡ write_number w st bits (length labels) (length answer)
      go (Refused n) e = refl
      go (Accepted c) e =
          ap (λ (v : Bool). refusal ((unfit st, 7) ∷ (not v, 8) ∷ (not (all_bits bits), 9) ∷ []))
          (exact_same c (settings-sound st c e) (length bits) (length labels) (length answer))

  -- the coder's number is the call's
  pub write_is : (written_of st bits (length part)).refusal ≡ write_number (worked_in st) st bits (length labels) (length answer)
  write_is = written-refusal st bits (length part) ∙ write_same

  pub write-refused :
      (r : ℕ) → r ≡ (written_of st bits (length part)).refusal → (r ≡ 0 → ⊥) → WriteCall st bits labels answer r labels answer
  write-refused r e some =
      let is = e ∙ write_is in
      record { number = is; labels = rw (← is) (as_it_was r _ labels some); next = rw (← is) (as_it_was r _ answer some) }

  module _ (done : (written_of st bits (length part)).refusal ≡ 0) where
    sendable : (c : Settings) × Sendable st c bits part
    sendable = written_sendable st bits part done

    pub write-lent : LentBytes (length labels) (length answer) (length part)
    write-lent =
        let c = sendable.0 in
        let least = (settings-sound st c sendable.1.worked).frames-least in
        rw sized (lent-some (length labels) (length answer) (λ z. omega (arith, z, sized, sendable.1.labels, least)))

    -- what the coder answers and writes is what the call answers and writes
    pub write-coded : written_of st bits (length part) ≡ written (worked_in st) st bits
    write-coded = rw sendable.1.worked (sends st bits part sendable.0 sendable.1)

    pub write-labels : labels_after st bits part ≡ labels_of (worked_in st) st bits
    write-labels = rw sendable.1.worked (sends-labels st bits part sendable.0 sendable.1)

    pub write_done :
        (bytes after : List ℕ) → bytes ≡ label_bytes (labels_after st bits part)
        → after ≡ words (coded_numbers (written_of st bits (length part))) → WriteCall st bits labels answer 0 bytes after
    write_done bytes after is-bytes is-after =
        let zero : write_number (worked_in st) st bits (length labels) (length answer) ≡ 0 = sym write_is ∙ done in
        record {
          number = sym zero;
          labels = is-bytes ∙ (ap label_bytes write-labels ∙ filled_up _ _ labels zero);
          next = is-after ∙ (ap (λ (r : Answer). words (coded_numbers r)) write-coded ∙ filled_up _ _ answer zero);
        }

-- what the writer's result tells of the call
module _ (st : State) (bits labels answer part after : List ℕ) where
  pub write_told :
      (refusal : Refusal) → WriteAnswer st bits part (answered st (Err refusal)) after
      → length part ≡ lent_labels (length labels) (length answer) → WriteCall st bits labels answer (number refusal) labels answer
  write_told refusal told sized =
      write-refused st bits labels answer part sized (number refusal) (ap (λ (x : Answer). x.refusal) told.answer) (some_number refusal)

  module _
      (coded : Coded) (told : WriteAnswer st bits part (answered st (Ok coded)) after)
      (sized : length part ≡ lent_labels (length labels) (length answer)) where
    unrefused : (written_of st bits (length part)).refusal ≡ 0
    unrefused = sym (ap (λ (x : Answer). x.refusal) told.answer)

    pub write_told-lent : LentBytes (length labels) (length answer) (length part)
    write_told-lent = write-lent st bits labels answer part sized unrefused

    pub write_told-done :
        (bytes next : List ℕ) → bytes ≡ label_bytes after → next ≡ words (coded.bits ∷ state_numbers coded.state)
        → WriteCall st bits labels answer 0 bytes next
    write_told-done bytes next laid said =
        write_done st bits labels answer part sized unrefused bytes next (laid ∙ ap label_bytes told.buffer)
        (said ∙ ap (λ (x : Answer). words (coded_numbers x)) told.answer)

-- refusal 8 hides what would be tested behind it
eight-hides :
    (u x y : Bool) (rest more : List (Bool × ℕ)) → x ≡ false → y ≡ false
    → refusal ((u, 7) ∷ (not x, 8) ∷ rest) ≡ refusal ((u, 7) ∷ (not y, 8) ∷ more)
unfolding refusal
eight-hides u x y rest more e f = rw (e, f)

-- ww_read: `given` is what the coder is given.
module _
    (st : State) (labels bits answer given : List ℕ)
    (is_given : given ≡ labels_in (take (2 * lent_labels (length labels) (length answer)) labels)) where
  abbrev lent : ℕ
  lent = lent_labels (length labels) (length answer)

  pub given-length : length given ≡ lent
  given-length =
      ap length is_given
      ∙ length-labels lent (take (2 * lent) labels) (length-take-le (2 * lent) labels (lent-within (length labels) (length answer)))

  -- all labels, wherever some are lent
  pub all-given : (lent ≡ 0 → ⊥) → given ≡ labels_in labels
  all-given some =
      is_given ∙ ap labels_in (take_all (2 * lent) labels (omega (arith, (lent-some (length labels) (length answer) some).half)))

  abbrev tests : (c : Settings) → List ℕ → List (Bool × ℕ)
  tests c read =
      (not (all_in_range c read), 10)
      ∷ (not (numbers_fit c c.frames (receiving_of st.z read)), 11)
      ∷ (not (all_steps_fit c c.frames (receiving_of st.z read)), 12)
      ∷ []

  pub read_same : read_refusal (worked_in st) st given (length bits) ≡ read_number (worked_in st) st labels (length bits) (length answer)
  read_same = go (worked_in st) refl
    where
      exact_is :
          (c : Settings) → worked_in st ≡ Accepted c
          → exact c (length bits) (length given) ≡ exact_bytes c (length bits) (length labels) (length answer)
      exact_is c e = rw given-length (exact_same c (settings-sound st c e) (length bits) (length labels) (length answer))

      some : (c : Settings) → worked_in st ≡ Accepted c → exact_bytes c (length bits) (length labels) (length answer) ≡ true → lent ≡ 0 → ⊥
      some c e f z =
          let both = passes-exact c (length bits) (length given) (ap not (exact_is c e ∙ f)) in
          omega (arith, z, given-length, both.1, (settings-sound st c e).frames-least)

      frame :
          (c : Settings) → worked_in st ≡ Accepted c → (v : Bool) → exact_bytes c (length bits) (length labels) (length answer) ≡ v
          → read_refusal (Accepted c) st given (length bits) ≡ read_number (Accepted c) st labels (length bits) (length answer)
      frame c e false f = eight-hides (unfit st) _ _ (tests c given) (tests c (labels_in labels)) (exact_is c e ∙ f) f
      frame c e true f =
          ap (λ (l : List ℕ). refusal ((unfit st, 7) ∷ (not (exact c (length bits) (length given)), 8) ∷ tests c l))
          (all-given (some c e f))
          ∙ ap (λ (v : Bool). refusal ((unfit st, 7) ∷ (not v, 8) ∷ tests c (labels_in labels))) (exact_is c e)

      go : (w : Worked) → worked_in st ≡ w → read_refusal w st given (length bits) ≡ read_number w st labels (length bits) (length answer)
      go (Refused n) e = refl
      go (Accepted c) e = frame c e (exact_bytes c (length bits) (length labels) (length answer)) refl

  -- the coder's number is the call's
  pub read_is : (read_of st given (length bits)).refusal ≡ read_number (worked_in st) st labels (length bits) (length answer)
  read_is = read-refusal st given (length bits) ∙ read_same

  -- and where it refuses it leaves the bits
  bits_left : (r : ℕ) → r ≡ (read_of st given (length bits)).refusal → (r ≡ 0 → ⊥) → bits_after st given bits ≡ bits
  unfolding bits_after
  bits_left r e some = let other = ne_eqb r 0 some in rw (← (e ∙ read-refusal st given (length bits)), other)

  pub read-refused :
      (r : ℕ) (after : List ℕ) → r ≡ (read_of st given (length bits)).refusal → (r ≡ 0 → ⊥) → after ≡ bits_after st given bits
      → ReadCall st labels bits answer r after answer
  read-refused r after e some is-after =
      let is = e ∙ read_is in
      record {
        number = is;
        bits = is-after ∙ (bits_left r e some ∙ rw (← is) (as_it_was r _ bits some));
        next = rw (← is) (as_it_was r _ answer some);
      }

  module _ (done : (read_of st given (length bits)).refusal ≡ 0) where
    receivable : (c : Settings) × Receivable st c given bits
    receivable = read_receivable st given bits done

    some-lent : lent ≡ 0 → ⊥
    some-lent z =
        let c = receivable.0 in
        let least = (settings-sound st c receivable.1.worked).frames-least in
        omega (arith, z, given-length, receivable.1.count, least)

    pub read-lent : LentBytes (length labels) (length answer) lent
    read-lent = lent-some (length labels) (length answer) some-lent

    pub read_all : given ≡ labels_in labels
    read_all = all-given some-lent

    -- what the coder answers and reads is what the call answers and reads
    pub read-coded : read_of st given (length bits) ≡ received (worked_in st) st (labels_in labels)
    read-coded = rw (receivable.1.worked, ← read_all) (receives st given bits receivable.0 receivable.1)

    pub read-decoded : bits_after st given bits ≡ bits_of (worked_in st) st (labels_in labels)
    read-decoded = rw (receivable.1.worked, ← read_all) (receives_bits st given bits receivable.0 receivable.1)

    pub read_done :
        (after next : List ℕ) → after ≡ bits_after st given bits → next ≡ words (coded_numbers (read_of st given (length bits)))
        → ReadCall st labels bits answer 0 after next
    read_done after next is-after is-next =
        let zero : read_number (worked_in st) st labels (length bits) (length answer) ≡ 0 = sym read_is ∙ done in
        record {
          number = sym zero;
          bits = is-after ∙ (read-decoded ∙ filled_up _ _ bits zero);
          next = is-next ∙ (ap (λ (x : Answer). words (coded_numbers x)) read-coded ∙ filled_up _ _ answer zero);
        }

-- what the reader's result tells of the call
module _ (st : State) (labels bits answer given after : List ℕ) where
  pub read_told :
      (refusal : Refusal) → ReadAnswer st given bits (answered st (Err refusal)) after
      → given ≡ labels_in (take (2 * lent_labels (length labels) (length answer)) labels)
      → ReadCall st labels bits answer (number refusal) after answer
  read_told refusal told is_given =
      read-refused st labels bits answer given is_given (number refusal) after (ap (λ (x : Answer). x.refusal) told.answer) (some_number refusal)
      told.buffer

  module _
      (coded : Coded) (told : ReadAnswer st given bits (answered st (Ok coded)) after)
      (is_given : given ≡ labels_in (take (2 * lent_labels (length labels) (length answer)) labels)) where
    accepted : (read_of st given (length bits)).refusal ≡ 0
    accepted = sym (ap (λ (x : Answer). x.refusal) told.answer)

    pub read_told-lent : LentBytes (length labels) (length answer) (lent_labels (length labels) (length answer))
    read_told-lent = read-lent st labels bits answer given is_given accepted

    pub read_told-done : (next : List ℕ) → next ≡ words (coded.bits ∷ state_numbers coded.state) → ReadCall st labels bits answer 0 after next
    read_told-done next said =
        read_done st labels bits answer given is_given accepted after next told.buffer
        (said ∙ ap (λ (x : Answer). words (coded_numbers x)) told.answer)
