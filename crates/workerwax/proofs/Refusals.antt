-- Every refusal number fits the 32 bits in which C gets it. Each list of tests says so by its numbers alone, so that a refusal may be
-- added to it and nothing here changes. Assumes nothing.
use mathlib.Core.Bool.{Bool, true, false, cond}
use mathlib.Core.List.{List}
use mathlib.Core.Path.{◌≡◌, refl, sym}
use Prim.Native.Nat.{ℕ, ◌-◌, ◌^◌, ◌<◌}
use native.Mathlib.Omega.{arith}
use lib.Dec.{eqb}
use borrow.Author.Tests.{eqb-true}
use Rattle.laws.specs.Choice.{refusal}
use Rattle.laws.proofs.Choices.{within, refusal-most}
use Rattle.rings.specs.Mapping.{map_refusal, rank_refusal, ranked_of}
use Rattle.line.specs.Asked.{asked}
use Rattle.line.specs.declared.asked.Asked.{Asked}
use Rattle.line.specs.Worked.{Worked, Accepted, Refused}
use Rattle.line.specs.Settings.{worked_of, number_of}
use Rattle.line.proofs.Acceptance.{number-most}
use Rattle.sequences.specs.Sequence.{Sequence, fields_tests, sequence_tests, fields_refusal, sequence_refusal}
use Rattle.coder.specs.declared.states.State.{State}
use Rattle.coder.specs.Answers.{Answer}
use Rattle.coder.specs.State.{worked_in, state_refusal_of, started_of, short_started_of}
use Rattle.coder.specs.Answers.{write_refusal, read_refusal, written, received, written_of, read_of}
use Rattle.coder.proofs.Starting.{plain}

-- a refusal out of a list whose numbers fit
narrow-refusal : (tests : List (Bool × ℕ)) → within (2 ^ 32 - 1) tests ≡ true → refusal tests < 2 ^ 32
narrow-refusal tests listed = omega (arith, refusal-most (2 ^ 32 - 1) tests listed)

pub map-narrow : (K M S lent : ℕ) → map_refusal K M S lent < 2 ^ 32
unfolding map_refusal
map-narrow K M S lent = narrow-refusal _ refl

pub rank-narrow : (K M : ℕ) (rings : List ℕ) → (ranked_of K M rings).refusal < 2 ^ 32
unfolding ranked_of rank_refusal
rank-narrow K M rings = narrow-refusal _ refl

pub settings-narrow : (asked : Asked) → number_of (worked_of asked) < 2 ^ 32
settings-narrow asked = omega (arith, number-most asked (2 ^ 32 - 1) refl)

-- of a state
in_narrow : (st : State) → number_of (worked_in st) < 2 ^ 32
in_narrow st = settings-narrow st.asked

pub start-narrow : (st : State) → (started_of st).refusal < 2 ^ 32
unfolding started_of
start-narrow st = go (worked_in st) (in_narrow st)
  where
    go : (w : Worked) → number_of w < 2 ^ 32 → state_refusal_of w st < 2 ^ 32
    go (Refused number) h = h
    go (Accepted c) h = narrow-refusal _ refl

pub short_start-narrow : (role s n mark : ℕ) → (short_started_of role s n mark).refusal < 2 ^ 32
unfolding short_started_of
short_start-narrow role s n mark = start-narrow (plain role s n mark)

-- The writer's and the reader's number is the refusal of their tests.
chosen :
    (number : ℕ) (done : Answer) (st : State) → (number ≡ 0 → done.refusal ≡ number)
    → (cond (eqb number 0) done (record { refusal = number; bits = 0; state = st })).refusal ≡ number
chosen number done st h = go (eqb number 0) refl
  where
    go : (v : Bool) → eqb number 0 ≡ v → (cond v done (record { refusal = number; bits = 0; state = st })).refusal ≡ number
    go true e = h (eqb-true number 0 e)
    go false e = refl

pub written-refusal : (st : State) (bits : List ℕ) (lent : ℕ) → (written_of st bits lent).refusal ≡ write_refusal (worked_in st) st bits lent
unfolding written_of
written-refusal st bits lent = go (worked_in st)
  where
    go :
        (w : Worked)
        → let number = write_refusal w st bits lent in
        (cond (eqb number 0) (written w st bits) (record { refusal = number; bits = 0; state = st })).refusal ≡ number
    go (Refused number) = chosen number (record { refusal = number; bits = 0; state = st }) st (λ e. refl)
    go (Accepted c) = chosen _ (written (Accepted c) st bits) st (λ e. sym e)

pub read-refusal : (st : State) (labels : List ℕ) (lent : ℕ) → (read_of st labels lent).refusal ≡ read_refusal (worked_in st) st labels lent
unfolding read_of
read-refusal st labels lent = go (worked_in st)
  where
    go :
        (w : Worked)
        → let number = read_refusal w st labels lent in
        (cond (eqb number 0) (received w st labels) (record { refusal = number; bits = 0; state = st })).refusal ≡ number
    go (Refused number) = chosen number (record { refusal = number; bits = 0; state = st }) st (λ e. refl)
    go (Accepted c) = chosen _ (received (Accepted c) st labels) st (λ e. sym e)

pub write-narrow : (st : State) (bits : List ℕ) (lent : ℕ) → (written_of st bits lent).refusal < 2 ^ 32
write-narrow st bits lent = omega (arith, written-refusal st bits lent, go (worked_in st) (in_narrow st))
  where
    go : (w : Worked) → number_of w < 2 ^ 32 → write_refusal w st bits lent < 2 ^ 32
    go (Refused number) h = h
    go (Accepted c) h = narrow-refusal _ refl

pub read-narrow : (st : State) (labels : List ℕ) (lent : ℕ) → (read_of st labels lent).refusal < 2 ^ 32
read-narrow st labels lent = omega (arith, read-refusal st labels lent, go (worked_in st) (in_narrow st))
  where
    go : (w : Worked) → number_of w < 2 ^ 32 → read_refusal w st labels lent < 2 ^ 32
    go (Refused number) h = h
    go (Accepted c) h = narrow-refusal _ refl

-- The reader and the writer of a sequence.
pub fields-narrow : (s : Sequence) (bits : List ℕ) → fields_refusal s bits < 2 ^ 32
unfolding fields_tests
fields-narrow s bits = narrow-refusal _ refl

pub sequence-narrow : (s : Sequence) (numbers : List ℕ) (lent : ℕ) → sequence_refusal s numbers lent < 2 ^ 32
unfolding sequence_tests
sequence-narrow s numbers lent = narrow-refusal _ refl
