-- A call of ww_write or ww_read that fits its contract, and the coder below it: what the coder was lent or given, that its number is the
-- call's, and what it left where that is 0. Assumes nothing.
use mathlib.Core.List.{List}
use mathlib.Core.Path.{◌≡◌, refl, sym, ap, ◌∙◌}
use Prim.Native.Nat.{ℕ, ◌*◌}
use native.Mathlib.Omega.{arith}
use lib.ListN.{length, take, replicate, length-replicate}
use Rattle.laws.specs.Lists.{Every}
use Rattle.line.specs.declared.settings.Settings.{Settings}
use Rattle.coder.specs.declared.states.State.{State}
use Rattle.coder.specs.Answers.{Answer}
use Rattle.coder.specs.State.{worked_in}
use Rattle.coder.specs.Answers.{written, received, written_of, labels_after, read_of, bits_after, Sendable, Receivable}
use Rattle.coder.proofs.Acceptance.{settings-sound, written_sendable, read_receivable}
use Rattle.coder.proofs.Back.{reading-back}
use Rattle.workerwax.specs.Calls.{write_number, read_number, coded_numbers, WriteCall, ReadCall}
use Rattle.workerwax.specs.Layout.{words, label_bytes, labels_in}
use Rattle.workerwax.specs.Lending.{lent_labels}
use Rattle.workerwax.proofs.Lends.{LentBytes, length-labels}
use Rattle.workerwax.proofs.Coding.{write_is, write-lent, write-coded, write-labels}
use Rattle.workerwax.proofs.Coding.{read_is, read-lent, read_all, read-coded, read-decoded}
use Rattle.workerwax.proofs.Ways.{filled_up}
use Rattle.workerwax.proofs.Undone.{TwoBytes, labels-back, ranges-small}

-- the labels of a data frame that the reader accepts are below 2^16
accepted-small : (st : State) (labels bits : List ℕ) → (read_of st labels (length bits)).refusal ≡ 0 → Every TwoBytes labels
accepted-small st labels bits done =
    let found = read_receivable st labels bits done in
    let c = found.0 in
    let r = found.1 in
    let top = (settings-sound st c r.worked).labels in
    ranges-small _ c.uncoded (4 * c.frames) labels (omega (arith, top)) (omega (arith, r.count)) r.ranges

-- A call of ww_write: as many labels as the coder was lent, and what it leaves where it answers 0.
module _
    (st : State) (bits lent answer : List ℕ) (r : ℕ) (labels after : List ℕ)
    (call : WriteCall st bits lent answer r labels after) where
  abbrev pub part : List ℕ
  part = replicate (lent_labels (length lent) (length answer)) 0

  pub part_length : length part ≡ lent_labels (length lent) (length answer)
  part_length = length-replicate {A = ℕ} (lent_labels (length lent) (length answer)) 0

  pub written-number : r ≡ (written_of st bits (length part)).refusal
  written-number = call.number ∙ sym (write_is st bits lent answer part part_length)

  module _ (zero : r ≡ 0) where
    pub written-zero : (written_of st bits (length part)).refusal ≡ 0
    written-zero = sym written-number ∙ zero

    pub sendable : (c : Settings) × Sendable st c bits part
    sendable = written_sendable st bits part written-zero

    pub written-lent : LentBytes (length lent) (length answer) (length part)
    written-lent = write-lent st bits lent answer part part_length written-zero

    -- what it answered, and the words of that
    pub written_is : written_of st bits (length part) ≡ written (worked_in st) st bits
    written_is = write-coded st bits lent answer part part_length written-zero

    write_unrefused : write_number (worked_in st) st bits (length lent) (length answer) ≡ 0
    write_unrefused = sym call.number ∙ zero

    pub written-answer : after ≡ words (coded_numbers (written_of st bits (length part)))
    written-answer = call.next ∙ (sym (filled_up _ _ answer write_unrefused) ∙ ap (λ (x : Answer). words (coded_numbers x)) (sym written_is))

    -- the labels that it wrote, and that these are what the bytes hold
    pub written-labels : labels ≡ label_bytes (labels_after st bits part)
    written-labels =
        let given = write-labels st bits lent answer part part_length written-zero in
        call.labels ∙ (sym (filled_up _ _ lent write_unrefused) ∙ ap label_bytes (sym given))

    pub written_in : labels_in labels ≡ labels_after st bits part
    written_in =
        let b = reading-back st bits part bits written-zero refl in
        let small = accepted-small st (labels_after st bits part) bits (ap (λ (x : Answer). x.refusal) b.answer ∙ written-zero) in
        ap labels_in written-labels ∙ labels-back (labels_after st bits part) small

-- A call of ww_read: what the coder was given, and what it leaves where it answers 0.
module _
    (st : State) (labels lent answer : List ℕ) (r : ℕ) (bits after : List ℕ)
    (call : ReadCall st labels lent answer r bits after) where
  abbrev pub given : List ℕ
  given = labels_in (take (2 * lent_labels (length labels) (length answer)) labels)

  pub read_number_lem : r ≡ (read_of st given (length lent)).refusal
  read_number_lem = call.number ∙ sym (read_is st labels lent answer given refl)

  module _ (zero : r ≡ 0) where
    pub read-zero : (read_of st given (length lent)).refusal ≡ 0
    read-zero = sym read_number_lem ∙ zero

    pub receivable : (c : Settings) × Receivable st c given lent
    receivable = read_receivable st given lent read-zero

    pub given-lent : LentBytes (length labels) (length answer) (lent_labels (length labels) (length answer))
    given-lent = read-lent st labels lent answer given refl read-zero

    pub read-given : given ≡ labels_in labels
    read-given = read_all st labels lent answer given refl read-zero

    -- two bytes for each label
    pub read-long : length labels ≡ 2 * length given
    read-long =
        let halves = length-labels (lent_labels (length labels) (length answer)) labels given-lent.half in
        omega (arith, given-lent.half, ap length read-given, halves)

    read_unrefused : read_number (worked_in st) st labels (length lent) (length answer) ≡ 0
    read_unrefused = sym call.number ∙ zero

    pub read-bits : bits ≡ bits_after st given lent
    read-bits =
        let back = read-decoded st labels lent answer given refl read-zero in
        call.bits ∙ (sym (filled_up _ _ lent read_unrefused) ∙ sym back)

    -- what it answered, and the words of that
    pub received_is : read_of st given (length lent) ≡ received (worked_in st) st (labels_in labels)
    received_is = read-coded st labels lent answer given refl read-zero

    pub read_answer : after ≡ words (coded_numbers (read_of st given (length lent)))
    read_answer = call.next ∙ (sym (filled_up _ _ answer read_unrefused) ∙ ap (λ (y : Answer). words (coded_numbers y)) (sym received_is))
