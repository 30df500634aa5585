-- What each call answers to C, for all inputs (document 01, "What comes back"; docs/INTERFACE.md). Of several refusals that hold the one
-- that stands first in the row `order` is given. Each call tests for its own:
--
--     ww_parameters               the settings' own; 8
--     ww_start, ww_short_start    the settings' own; 7; 8
--     ww_map                      13; 8; 14
--     ww_rank                     13; 8; 10; 11
--     ww_write                    the settings' own; 7; 8; 9
--     ww_read                     the settings' own; 7; 8; 10; 11; 12
--     ww_info0_read               8; 9; 16; 17; 18                        (specs/Info)
--     ww_info0_write              8; 18                                   (specs/Info)
--     ww_info1c_read              8; 9; 16; 17; 18                        (specs/Info)
--     ww_info1c_write             8; 18                                   (specs/Info)
--     ww_jp_read                  8; 9; 16; 17; 18                        (specs/Jp)
--     ww_jp_write                 8; 18                                   (specs/Jp)
--
-- 8 is for any slice that is not as long as it has to be, the answer's too. A refused call leaves every slice as it was. A call that
-- answers 0 has filled them:
--
--     ww_parameters               answer   N P b r K q M L                               parameters_bytes
--     ww_start, ww_short_start    answer   role s n shaping mark register Z              start_bytes
--     ww_map                      rings    m1 to m8                                      8 bytes
--     ww_rank                     answer   S                                             rank_bytes
--     ww_write                    labels   16·P labels                                   32·P bytes
--                                 answer   N, and the state that comes next              coded_bytes
--     ww_read                     bits     N bits                                        N bytes
--                                 answer   as ww_write
use Rattle.std.specs.Prelude.{Bool, not, ◌&&◌, cond, List, [], ◌∷◌, ◌≡◌, ℕ, ◌*◌, eqb, length}
use Rattle.laws.specs.Choice.{refusal}
use Rattle.listing.specs.Sets.{of_list}
use Rattle.listing.specs.Number.{number}
use Rattle.rings.specs.Mapping.{rank_refusal}
use Rattle.line.specs.declared.settings.Settings.{Settings}
use Rattle.line.specs.Worked.{Worked, Accepted, Refused}
use Rattle.line.specs.Settings.{number_of, values_of}
use Rattle.coder.specs.declared.states.State.{State}
use Rattle.coder.specs.State.{Started}
use Rattle.coder.specs.Answers.{Answer}
use Rattle.coder.specs.State.{worked_in}
use Rattle.coder.specs.Answers.{write_tests, read_tests, written, received, labels_of, bits_of}
use Rattle.workerwax.specs.Layout.{word, words, label_bytes, labels_in, parameters_bytes, rank_bytes, start_bytes, coded_bytes}

-- every refusal, in the one order in which each call tests for its own: of several that hold the first in this row is given
abbrev pub order : List ℕ
order = 1 ∷ 2 ∷ 3 ∷ 4 ∷ 5 ∷ 6 ∷ 7 ∷ 13 ∷ 8 ∷ 9 ∷ 10 ∷ 11 ∷ 12 ∷ 14 ∷ 16 ∷ 17 ∷ 18 ∷ []

-- a lent slice after a call: what the call gives where it answers 0, and what the slice held where it refuses
abbrev pub filled : ℕ → List ℕ → List ℕ → List ℕ
filled answered given before = cond (eqb answered 0) given before

-- the refusal of a part of the call, in its place among the others: none where it is 0
abbrev pub own : ℕ → Bool × ℕ
own number = (not (eqb number 0), number)

-- ww_parameters: the settings' own refusal, then the answer's length
abbrev pub parameters_number : Worked → ℕ → ℕ
parameters_number worked lent = refusal (own (number_of worked) ∷ (not (eqb lent parameters_bytes), 8) ∷ [])

pub record ParametersCall (worked : Worked) (answer : List ℕ) (r : ℕ) (after : List ℕ) : Type 0 where
  pub number : r ≡ parameters_number worked (length answer)
  pub values : after ≡ filled (parameters_number worked (length answer)) (words (values_of worked)) answer

-- ww_rank: the ranker's own refusals, by both lengths
unfoldable pub rank_number : ℕ → ℕ → List ℕ → ℕ → ℕ
rank_number K M rings lent = rank_refusal (eqb (length rings) 8 && eqb lent rank_bytes) K M rings

pub record RankCall (K M : ℕ) (rings answer : List ℕ) (r : ℕ) (after : List ℕ) : Type 0 where
  pub refusal : r ≡ rank_number K M rings (length answer)
  pub place : after ≡ filled (rank_number K M rings (length answer)) (word (number M (of_list rings))) answer

-- ww_start and ww_short_start: the start's own refusal, then the answer's length
abbrev pub start_number : Started → ℕ → ℕ
start_number begun lent = refusal (own begun.refusal ∷ (not (eqb lent start_bytes), 8) ∷ [])

-- the numbers of a state
abbrev pub state_numbers : State → List ℕ
state_numbers st =
    st.asked.role ∷ st.asked.s ∷ st.asked.n ∷ st.asked.shaping ∷ st.asked.mark ∷ st.register ∷ st.z ∷ []

pub record StartCall (begun : Started) (answer : List ℕ) (r : ℕ) (after : List ℕ) : Type 0 where
  pub number : r ≡ start_number begun (length answer)
  pub state : after ≡ filled (start_number begun (length answer)) (words (state_numbers begun.state)) answer

-- as many bytes as the user has bits, two bytes for each of 16·P labels, and the bytes of the answer
abbrev pub exact_bytes : Settings → ℕ → ℕ → ℕ → Bool
exact_bytes c bits labels answer = eqb bits c.user && (eqb labels (32 * c.frames) && eqb answer coded_bytes)

-- N, and the state that comes next
abbrev pub coded_numbers : Answer → List ℕ
coded_numbers coded = coded.bits ∷ state_numbers coded.state

-- ww_write: settings, state, lengths, bits
abbrev pub write_number : Worked → State → List ℕ → ℕ → ℕ → ℕ
write_number (Refused number) st bits labels answer = number
write_number (Accepted c) st bits labels answer = refusal (write_tests st bits (exact_bytes c (length bits) labels answer))

pub record WriteCall (st : State) (bits lent answer : List ℕ) (r : ℕ) (lentAfter answerAfter : List ℕ) : Type 0 where
  pub number : r ≡ write_number (worked_in st) st bits (length lent) (length answer)
  pub labels :
      lentAfter
      ≡ filled (write_number (worked_in st) st bits (length lent) (length answer)) (label_bytes (labels_of (worked_in st) st bits)) lent
  pub next :
      answerAfter
      ≡ filled (write_number (worked_in st) st bits (length lent) (length answer))
      (words (coded_numbers (written (worked_in st) st bits))) answer

-- ww_read: settings, state, lengths, and the labels that the bytes hold
abbrev pub read_number : Worked → State → List ℕ → ℕ → ℕ → ℕ
read_number (Refused number) st labels bits answer = number
read_number (Accepted c) st labels bits answer =
    refusal (read_tests c st (labels_in labels) (exact_bytes c bits (length labels) answer))

pub record ReadCall (st : State) (labels lent answer : List ℕ) (r : ℕ) (lentAfter answerAfter : List ℕ) : Type 0 where
  pub number : r ≡ read_number (worked_in st) st labels (length lent) (length answer)
  pub bits :
      lentAfter ≡ filled (read_number (worked_in st) st labels (length lent) (length answer)) (bits_of (worked_in st) st (labels_in labels)) lent
  pub next :
      answerAfter
      ≡ filled (read_number (worked_in st) st labels (length lent) (length answer))
      (words (coded_numbers (received (worked_in st) st (labels_in labels)))) answer
