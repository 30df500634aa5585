-- The state, and the two starts (document 01, "Settings" and "What comes back"). A start is refused by the first that holds of the
-- settings' own refusals and 7, register 2^23 or more or Z above 3. A refused start, which was given no state, answers a state of zeros.
--
--     role   s   n    shaping   mark   register   Z
--     0      5   14   1         1      8388607    3      done
--     0      5   14   1         1      8388608    0      refused 7, all zeros
--     0      5   14   1         2      8388608    0      refused 5, all zeros
use Rattle.std.specs.Prelude.{Bool, cond, ◌||◌, [], ◌∷◌, ℕ, ◌^◌, leb, ltb, eqb, Result, Ok, Err}
use Rattle.refusals.specs.declared.Refusal.{Refusal}
use Rattle.refusals.specs.Numbers.{number}
use Rattle.line.specs.Asked.{asked}
use Rattle.line.specs.Settings.{worked_of}
use Rattle.line.specs.declared.asked.Asked.{Asked}
use Rattle.line.specs.Worked.{Worked, Accepted, Refused}
use Rattle.laws.specs.Choice.{refusal}
use Rattle.coder.specs.declared.states.State.{State}

-- what a start answers: the refusal number, 0 where it is done, and the state; after a refusal a state of zeros
pub record Started : Type 0 where
  pub refusal : ℕ
  pub state : State

abbrev pub state_of : Asked → ℕ → ℕ → State
state_of asked register z = record { asked = asked; register = register; z = z }

abbrev pub zeros : State
zeros = state_of (asked 0 0 0 0 0) 0 0

-- what the code's result tells of it
abbrev pub started : Result State Refusal → Started
started (Ok st) = record { refusal = 0; state = st }
started (Err refusal) = record { refusal = number refusal; state = zeros }

-- the settings of a state, worked out
abbrev pub worked_in : State → Worked
worked_in st = worked_of st.asked

-- 7: register 2^23 or more, or Z above 3
abbrev pub unfit : State → Bool
unfit st = leb (2 ^ 23) st.register || ltb 3 st.z

-- the refusal of a state: the settings' own, then 7
abbrev pub state_refusal_of : Worked → State → ℕ
state_refusal_of (Refused number) st = number
state_refusal_of (Accepted c) st = refusal ((unfit st, 7) ∷ [])

unfoldable pub started_of : State → Started
started_of st =
    let number = state_refusal_of (worked_in st) st in
    record { refusal = number; state = cond (eqb number 0) st zeros }

-- the short start, without shaping, register or Z: it takes 0 for each
unfoldable pub short_started_of : ℕ → ℕ → ℕ → ℕ → Started
short_started_of role s n mark = started_of (state_of (asked role s n 0 mark) 0 0)
