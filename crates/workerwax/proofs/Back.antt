-- Demand 2 over the calls that C makes: whatever outcome fits the contracts, ww_read gives back the bits that ww_write was given, and
-- ww_write gives back the bytes of the labels that ww_read accepted, each with the same answer. Assumes nothing.
use mathlib.Core.List.{List}
use mathlib.Core.Path.{◌≡◌, refl, sym, ap, subst, ◌∙◌}
use Prim.Native.Nat.{ℕ, ◌*◌}
use native.Mathlib.Omega.{arith}
use lib.ListN.{length}
use Rattle.bits.specs.Digits.{Bits}
use Rattle.laws.specs.Lists.{Every}
use Rattle.line.specs.declared.settings.Settings.{Settings}
use Rattle.line.specs.Worked.{Accepted}
use Rattle.coder.specs.declared.states.State.{State}
use Rattle.coder.specs.Answers.{Answer}
use Rattle.coder.specs.Answers.{bits_of, written_of, labels_after, read_of, bits_after, Receivable}
use Rattle.coder.proofs.Acceptance.{read_receivable, settings-sound}
use Rattle.coder.proofs.Back.{ReadBack, WrittenBack, reading-back, writing-back, decoded, receives_bits}
use Rattle.workerwax.specs.Calls.{coded_numbers, WriteCall, ReadCall}
use Rattle.workerwax.specs.Layout.{words, label_bytes, labels_in, coded_bytes}
use Rattle.workerwax.proofs.Undone.{Byte, bytes_back, length-bytes}
use Rattle.workerwax.proofs.Below.{part, written-zero, written-lent, written-answer, written-labels, written_in}
use Rattle.workerwax.proofs.Below.{given, read-zero, receivable, read-given, read-long, read-bits, read_answer}
use Rattle.workerwax.proofs.Accepts.{write-accepts, read-accepts}

-- What a call made after the first one gives back: 0, what the first was given, and the first one's answer.
pub record Undone (r : ℕ) (after first next answer : List ℕ) : Type 0 where
  pub done : r ≡ 0
  pub back : after ≡ first
  pub same : next ≡ answer

-- Reading what was written.
pub reads_back :
    (st : State) (bits lent answer labels after : List ℕ) → WriteCall st bits lent answer 0 labels after
    → (buffer room : List ℕ) → length buffer ≡ length bits → length room ≡ coded_bytes
    → (r : ℕ) (back again : List ℕ) → ReadCall st labels buffer room r back again
    → Undone r back bits again after
reads_back st bits lent answer labels after call buffer room size words-room r back again read =
    record {
      done = zero;
      back = read-bits st labels buffer room r back again read zero ∙ (ap (λ (l : List ℕ). bits_after st l buffer) is_given ∙ b.bits_back);
      same =
          read_answer st labels buffer room r back again read zero
          ∙ (ap (λ (x : Answer). words (coded_numbers x)) (ap (λ (l : List ℕ). read_of st l (length buffer)) is_given ∙ b.answer)
          ∙ sym (written-answer st bits lent answer 0 labels after call refl));
    }
  where
    space : List ℕ
    space = part st bits lent answer 0 labels after call

    sent : List ℕ
    sent = labels_after st bits space

    holds : labels_in labels ≡ sent
    holds = written_in st bits lent answer 0 labels after call refl

    b : ReadBack st bits space buffer
    b = reading-back st bits space buffer (written-zero st bits lent answer 0 labels after call refl) size

    -- the reader can receive what was written
    found : (c : Settings) × Receivable st c sent buffer
    found =
        read_receivable st sent buffer
        (ap (λ (x : Answer). x.refusal) b.answer ∙ written-zero st bits lent answer 0 labels after call refl)

    long : length labels ≡ 2 * length sent
    long = ap length (written-labels st bits lent answer 0 labels after call refl) ∙ length-bytes sent

    zero : r ≡ 0
    zero =
        let x = found.1 in
        (read-accepts st labels buffer room r back again read).1 (
          found.0,
          record {
            worked = x.worked;
            held = x.held;
            turn = x.turn;
            count = omega (arith, long, x.count);
            size = x.size;
            answered = words-room;
            ranges = rw holds x.ranges;
            numbers = rw holds x.numbers;
            steps = rw holds x.steps;
          },
        )

    is_given : given st labels buffer room r back again read ≡ sent
    is_given = read-given st labels buffer room r back again read zero ∙ holds

-- Writing what the reader accepts.
pub writes-back :
    (st : State) (labels lent answer bits after : List ℕ) → Every Byte labels → ReadCall st labels lent answer 0 bits after
    → (buffer room : List ℕ) → length buffer ≡ length labels → length room ≡ coded_bytes
    → (r : ℕ) (back again : List ℕ) → WriteCall st bits buffer room r back again
    → Undone r back labels again after
writes-back st labels lent answer bits after bytes call buffer room size words-room r back again write =
    record {
      done = zero;
      back =
          written-labels st bits buffer room r back again write zero
          ∙ (ap label_bytes
          (ap (λ (l : List ℕ). labels_after st l space) is_bits ∙ (b.labels-back ∙ read-given st labels lent answer 0 bits after call refl))
          ∙ bytes_back (length taken) labels long bytes);
      same =
          written-answer st bits buffer room r back again write zero
          ∙ (ap (λ (x : Answer). words (coded_numbers x)) (ap (λ (l : List ℕ). written_of st l (length space)) is_bits ∙ b.answer)
          ∙ sym (read_answer st labels lent answer 0 bits after call refl));
    }
  where
    taken : List ℕ
    taken = given st labels lent answer 0 bits after call

    found : (c : Settings) × Receivable st c taken lent
    found = receivable st labels lent answer 0 bits after call refl

    is_bits : bits ≡ bits_after st taken lent
    is_bits = read-bits st labels lent answer 0 bits after call refl

    -- what was read is the bits of a data frame
    read_out : bits ≡ bits_of (Accepted found.0) st taken
    read_out = is_bits ∙ receives_bits st taken lent found.0 found.1

    long : length labels ≡ 2 * length taken
    long = read-long st labels lent answer 0 bits after call refl

    zero : r ≡ 0
    zero =
        let x = found.1 in
        let d = decoded st found.0 taken lent x in
        let sound = settings-sound st found.0 x.worked in
        (write-accepts st bits buffer room r back again write).1 (
          found.0,
          record {
            worked = x.worked;
            held = x.held;
            turn = x.turn;
            binary = subst Bits (sym read_out) d.binary;
            size = ap length read_out ∙ (d.size ∙ sym sound.user_is);
            room = omega (arith, size, long, x.count);
            answered = words-room;
          },
        )

    space : List ℕ
    space = part st bits buffer room r back again write

    b : WrittenBack st taken lent space
    b =
        let half = (written-lent st bits buffer room r back again write zero).half in
        writing-back st taken lent space (read-zero st labels lent answer 0 bits after call refl) (omega (arith, half, size, long))
