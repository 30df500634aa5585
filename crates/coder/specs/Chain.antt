-- Data frames in a row: the state that a call answers is given to the next, so that register and Z go on and nothing restarts.
--
--     st ── bits ──► st₁ ── bits₁ ──► st₂ ── bits₂ ──► ..
--           │               │                │
--           labels          labels₁          labels₂
use Rattle.std.specs.Prelude.{List, [], ◌∷◌, ◌≡◌, ℕ, length}
use Rattle.coder.specs.declared.states.State.{State}
use Rattle.coder.specs.Answers.{Answer, written_of, labels_after, read_of, bits_after}

-- what a call is given, the bits or the labels of a data frame, and the buffer that it is lent
pub record Call : Type 0 where
  pub given : List ℕ
  pub lent : List ℕ

-- writing or reading: what is answered to a call, and what the lent buffer is after it
pub record Direction : Type 0 where
  pub answer : State → Call → Answer
  pub buffer : State → Call → List ℕ

abbrev pub writing : Direction
writing =
    record {
      answer = λ st call. written_of st call.given (length call.lent);
      buffer = λ st call. labels_after st call.given call.lent;
    }

abbrev pub reading : Direction
reading =
    record {
      answer = λ st call. read_of st call.given (length call.lent);
      buffer = λ st call. bits_after st call.given call.lent;
    }

-- calls in turn: what each lent buffer is after its call, the last state, and that every data frame is accepted
unfoldable pub buffers_in_turn : Direction → State → List Call → List (List ℕ)
buffers_in_turn way st [] = []
buffers_in_turn way st (call ∷ calls) = way.buffer st call ∷ buffers_in_turn way (way.answer st call).state calls

unfoldable pub last_state : Direction → State → List Call → State
last_state way st [] = st
last_state way st (call ∷ calls) = last_state way (way.answer st call).state calls

abbrev pub AllAccepted : Direction → State → List Call → Type 0
AllAccepted way st [] = Unit {0}
AllAccepted way st (call ∷ calls) = ((way.answer st call).refusal ≡ 0) × AllAccepted way (way.answer st call).state calls

-- lists given one after the other, each with the buffer at its place
unfoldable pub calls_of : List (List ℕ) → List (List ℕ) → List Call
calls_of [] buffers = []
calls_of (given ∷ lists) [] = []
calls_of (given ∷ lists) (lent ∷ buffers) = record { given = given; lent = lent } ∷ calls_of lists buffers

-- as many buffers as calls, and each as long as what its call is given
abbrev pub AsLong : List (List ℕ) → List Call → Type 0
AsLong [] [] = Unit {0}
AsLong [] (call ∷ calls) = ⊥
AsLong (buffer ∷ buffers) [] = ⊥
AsLong (buffer ∷ buffers) (call ∷ calls) = (length buffer ≡ length call.given) × AsLong buffers calls
