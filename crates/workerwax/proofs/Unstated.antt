-- An unstated setting is never taken as permission: with a mark above 1 no call answers 0, and every lent slice is as it was.
-- Assumes nothing.
use mathlib.Core.List.{List}
use mathlib.Core.Path.{◌≡◌, refl, sym, ◌∙◌}
use Prim.Native.Nat.{ℕ, ◌<◌}
use lib.ListN.{length}
use Rattle.line.specs.declared.asked.Asked.{Asked}
use Rattle.line.specs.Worked.{Worked, Accepted, Refused}
use Rattle.line.specs.Settings.{worked_of}
use Rattle.line.proofs.Acceptance.{refused-some, unstated-never}
use Rattle.coder.specs.declared.states.State.{State}
use Rattle.coder.specs.State.{state_of, worked_in, state_refusal_of, started_of, short_started_of}
use Rattle.coder.proofs.Starting.{plain}
use Rattle.workerwax.specs.Calls.{filled, parameters_number, start_number, write_number, read_number}
use Rattle.workerwax.specs.Calls.{ParametersCall, StartCall, WriteCall, ReadCall}
use Rattle.workerwax.proofs.Ways.{as_it_was, own-given}

-- such settings are refused
refused-by : (asked : Asked) → 1 < asked.mark → (k : ℕ) × (worked_of asked ≡ Refused k) × (k ≡ 0 → ⊥)
refused-by asked unstated = go (worked_of asked) refl
  where
    go : (w : Worked) → worked_of asked ≡ w → (k : ℕ) × (worked_of asked ≡ Refused k) × (k ≡ 0 → ⊥)
    go (Accepted c) e = absurd (unstated-never asked unstated c e)
    go (Refused k) e = (k, e, refused-some asked k e)

-- a refused call with one slice
abbrev pub Untouched : ℕ → List ℕ → List ℕ → Type 0
Untouched r after before = (r ≡ 0 → ⊥) × (after ≡ before)

-- the number that is given is the settings' own
kept : (r number : ℕ) (given before after : List ℕ) (k : ℕ) → r ≡ number → number ≡ k → (k ≡ 0 → ⊥)
    → after ≡ filled number given before → Untouched r after before
kept r number given before after k is own some e =
    (λ z. some (sym own ∙ (sym is ∙ z)), e ∙ sym (as_it_was number given before (λ z. some (sym own ∙ z))))

pub unstated_parameters :
    (asked : Asked) → 1 < asked.mark → (answer : List ℕ) (r : ℕ) (after : List ℕ)
    → ParametersCall (worked_of asked) answer r after → Untouched r after answer
unstated_parameters asked unstated answer r after call =
    let found = refused-by asked unstated in
    let some = found.2 in
    let own : parameters_number (worked_of asked) (length answer) ≡ found.0 = rw found.1 (own-given found.0 _ some) in
    kept r _ _ answer after found.0 call.number own found.2 call.values

-- a start from a state
started :
    (st : State) → 1 < st.asked.mark → (answer : List ℕ) (r : ℕ) (after : List ℕ)
    → StartCall (started_of st) answer r after → Untouched r after answer
unfolding started_of
started st unstated answer r after call =
    let found = refused-by st.asked unstated in
    let number : state_refusal_of (worked_in st) st ≡ found.0 = rw found.1 in
    let own : start_number (started_of st) (length answer) ≡ found.0 = rw number (own-given found.0 _ found.2) in
    kept r _ _ answer after found.0 call.number own found.2 call.state

pub unstated-start :
    (asked : Asked) (register z : ℕ) → 1 < asked.mark → (answer : List ℕ) (r : ℕ) (after : List ℕ)
    → StartCall (started_of (state_of asked register z)) answer r after → Untouched r after answer
unstated-start asked register z unstated = started (state_of asked register z) unstated

pub unstated-short_start :
    (role s n mark : ℕ) → 1 < mark → (answer : List ℕ) (r : ℕ) (after : List ℕ)
    → StartCall (short_started_of role s n mark) answer r after → Untouched r after answer
unfolding short_started_of
unstated-short_start role s n mark unstated = started (plain role s n mark) unstated

pub unstated-write :
    (st : State) → 1 < st.asked.mark → (bits lent answer : List ℕ) (r : ℕ) (labels after : List ℕ)
    → WriteCall st bits lent answer r labels after → Untouched r labels lent × Untouched r after answer
unstated-write st unstated bits lent answer r labels after call =
    let found = refused-by st.asked unstated in
    let own : write_number (worked_in st) st bits (length lent) (length answer) ≡ found.0 = rw found.1 in (
      kept r _ _ lent labels found.0 call.number own found.2 call.labels,
      kept r _ _ answer after found.0 call.number own found.2 call.next,
    )

pub unstated-read :
    (st : State) → 1 < st.asked.mark → (labels lent answer : List ℕ) (r : ℕ) (bits after : List ℕ)
    → ReadCall st labels lent answer r bits after → Untouched r bits lent × Untouched r after answer
unstated-read st unstated labels lent answer r bits after call =
    let found = refused-by st.asked unstated in
    let own : read_number (worked_in st) st labels (length lent) (length answer) ≡ found.0 = rw found.1 in (
      kept r _ _ lent bits found.0 call.number own found.2 call.bits,
      kept r _ _ answer after found.0 call.number own found.2 call.next,
    )
