-- What the writer and the reader answer (document 01, "What comes back"), for all inputs. The first refusal that holds is given:
--
--     the settings' own                      9     writer: a data byte above 1
--     7    register 2^23 or more, Z above 3    10    reader: a label out of its range
--     8    a lent length not the exact one     11    reader: a number of rings that the frame can't hold
--                                              12    reader: I3 = 1 where the frame carries none
--
-- A refused call answers its number, 0 bits and the state exactly as given, and every lent buffer is as it was. A success answers 0, N and
-- the next state.
use Rattle.std.specs.Prelude.{Bool, true, not, ◌&&◌, cond, List, [], ◌∷◌, ◌≡◌, ℕ, ◌*◌, ◌^◌, ◌≤◌, ◌<◌, eqb, length, Result, Ok, Err}
use Rattle.refusals.specs.declared.Refusal.{Refusal}
use Rattle.refusals.specs.Numbers.{number}
use Rattle.laws.specs.Choice.{refusal}
use Rattle.bits.specs.Digits.{Bits, all_bits}
use Rattle.line.specs.declared.settings.Settings.{Settings}
use Rattle.line.specs.Worked.{Worked, Accepted, Refused}
use Rattle.coder.specs.declared.states.State.{State}
use Rattle.coder.specs.declared.states.Coded.{Coded}
use Rattle.coder.specs.State.{state_of, worked_in, unfit}
use Rattle.coder.specs.Sending.{data_labels, data_register, data_turned}
use Rattle.coder.specs.Receiving.{receiving_of, data_bits, data_read_register, data_read_turned, all_in_range, numbers_fit, all_steps_fit}

-- as many bytes as the user has bits, and 16·P labels
abbrev pub exact : Settings → ℕ → ℕ → Bool
exact c bits labels = eqb bits c.user && eqb labels (16 * c.frames)

-- the refusals behind the settings' own, in their order; `exact` says whether every lent length is the exact one
abbrev pub write_tests : State → List ℕ → Bool → List (Bool × ℕ)
write_tests st bits exact =
    (unfit st, 7)
    ∷ (not exact, 8)
    ∷ (not (all_bits bits), 9)
    ∷ []

abbrev pub read_tests : Settings → State → List ℕ → Bool → List (Bool × ℕ)
read_tests c st labels exact =
    (unfit st, 7)
    ∷ (not exact, 8)
    ∷ (not (all_in_range c labels), 10)
    ∷ (not (numbers_fit c c.frames (receiving_of st.z labels)), 11)
    ∷ (not (all_steps_fit c c.frames (receiving_of st.z labels)), 12)
    ∷ []

-- the writer's refusal, and the reader's, 0 where the data frame is coded; `lent` is the length of the buffer that is written
abbrev pub write_refusal : Worked → State → List ℕ → ℕ → ℕ
write_refusal (Refused number) st bits lent = number
write_refusal (Accepted c) st bits lent = refusal (write_tests st bits (exact c (length bits) lent))

abbrev pub read_refusal : Worked → State → List ℕ → ℕ → ℕ
read_refusal (Refused number) st labels lent = number
read_refusal (Accepted c) st labels lent = refusal (read_tests c st labels (exact c lent (length labels)))

-- a state with another register and another Z
abbrev pub moved_on : State → ℕ → ℕ → State
moved_on st register z = state_of st.asked register z

-- what the writer and the reader answer: the refusal number, 0 where the data frame is coded, its bits, and the next state; after a
-- refusal 0 bits and the state as it was given
pub record Answer : Type 0 where
  pub refusal : ℕ
  pub bits : ℕ
  pub state : State

-- a coded data frame: N bits, and the state moved on
abbrev pub coded : Settings → State → ℕ → ℕ → Answer
coded c st register z = record { refusal = 0; bits = c.bits; state = moved_on st register z }

-- a refused call: its number, 0 bits, and the state as it was given
abbrev pub refused_with : ℕ → State → Answer
refused_with number st = record { refusal = number; bits = 0; state = st }

-- what the code's result tells of an answer, the state st being given
abbrev pub answered : State → Result Coded Refusal → Answer
answered st (Ok coded) = record { refusal = 0; bits = coded.bits; state = coded.state }
answered st (Err refusal) = refused_with (number refusal) st

-- what a call answers that is not refused
abbrev pub written : Worked → State → List ℕ → Answer
written (Refused number) st bits = refused_with number st
written (Accepted c) st bits = coded c st (data_register c st.register bits) (data_turned c st.register st.z bits)

abbrev pub received : Worked → State → List ℕ → Answer
received (Refused number) st labels = refused_with number st
received (Accepted c) st labels = coded c st (data_read_register c st.register st.z labels) (data_read_turned c st.z labels)

abbrev pub labels_of : Worked → State → List ℕ → List ℕ
labels_of (Refused number) st bits = []
labels_of (Accepted c) st bits = data_labels c st.register st.z bits

abbrev pub bits_of : Worked → State → List ℕ → List ℕ
bits_of (Refused number) st labels = []
bits_of (Accepted c) st labels = data_bits c st.register st.z labels

-- what the writer answers, and what the lent labels are after the call
unfoldable pub written_of : State → List ℕ → ℕ → Answer
written_of st bits lent =
    let number = write_refusal (worked_in st) st bits lent in
    cond (eqb number 0) (written (worked_in st) st bits) (refused_with number st)

unfoldable pub labels_after : State → List ℕ → List ℕ → List ℕ
labels_after st bits out = cond (eqb (write_refusal (worked_in st) st bits (length out)) 0) (labels_of (worked_in st) st bits) out

-- what the reader answers, and what the lent bits are after the call
unfoldable pub read_of : State → List ℕ → ℕ → Answer
read_of st labels lent =
    let number = read_refusal (worked_in st) st labels lent in
    cond (eqb number 0) (received (worked_in st) st labels) (refused_with number st)

unfoldable pub bits_after : State → List ℕ → List ℕ → List ℕ
bits_after st labels bits = cond (eqb (read_refusal (worked_in st) st labels (length bits)) 0) (bits_of (worked_in st) st labels) bits

-- what the writer must answer, and what the lent labels then are
pub record WriteAnswer (st : State) (bits out : List ℕ) (r : Answer) (after : List ℕ) : Type 0 where
  pub answer : r ≡ written_of st bits (length out)
  pub buffer : after ≡ labels_after st bits out

-- what the reader must answer, and what the lent bits then are
pub record ReadAnswer (st : State) (labels bits : List ℕ) (r : Answer) (after : List ℕ) : Type 0 where
  pub answer : r ≡ read_of st labels (length bits)
  pub buffer : after ≡ bits_after st labels bits

-- the calls that the writer answers with 0, and no others (`writer-accepts`), c being the settings of the state: the state is fit, the bits
-- are bits, and the lengths are exact
pub record Sendable (st : State) (c : Settings) (bits out : List ℕ) : Type 0 where
  pub worked : worked_in st ≡ Accepted c
  pub held : st.register < 2 ^ 23
  pub turn : st.z ≤ 3
  pub binary : Bits bits
  pub size : length bits ≡ c.user
  pub labels : length out ≡ 16 * c.frames

-- the calls that the reader answers with 0, and no others (`reader-accepts`): the state is fit, the lengths are exact, and no test refuses
-- the labels
pub record Receivable (st : State) (c : Settings) (labels bits : List ℕ) : Type 0 where
  pub worked : worked_in st ≡ Accepted c
  pub held : st.register < 2 ^ 23
  pub turn : st.z ≤ 3
  pub count : length labels ≡ 16 * c.frames
  pub size : length bits ≡ c.user
  pub ranges : all_in_range c labels ≡ true
  pub numbers : numbers_fit c c.frames (receiving_of st.z labels) ≡ true
  pub steps : all_steps_fit c c.frames (receiving_of st.z labels) ≡ true
