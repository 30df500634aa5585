-- Which starts answer 0, and what follows from a start: exactly those with settings that are right, a register below 2^23 and a Z of at
-- most 3, and the state is then the one asked for. From such a state the writer accepts every data frame of N bits, and whatever writer or
-- reader answer, the state in it is again one that a start answers. Assumes nothing.
use mathlib.Core.Bool.{Bool, true, false}
use mathlib.Core.List.{List, []}
use mathlib.Core.Logic.{◌↔◌}
use mathlib.Core.Path.{◌≡◌, refl, sym, ap, subst, ◌∙◌}
use Prim.Native.Nat.{ℕ, ◌*◌, ◌^◌, ◌≤◌, ◌<◌}
use native.Mathlib.Omega.{arith}
use lib.Dec.{eqb}
use lib.ListN.{length, replicate, length-replicate}
use borrow.Author.Tests.{eqb-true, eqb-false}
use Rattle.bits.specs.Digits.{Bits}
use Rattle.laws.proofs.Choices.{no_tests, passed_over, none_first}
use Rattle.line.specs.Asked.{asked}
use Rattle.line.specs.declared.settings.Settings.{Settings}
use Rattle.line.specs.Worked.{Worked, Accepted, Refused}
use Rattle.line.proofs.Acceptance.{Right, accepted-when, refused-some}
use Rattle.coder.specs.declared.states.State.{State}
use Rattle.coder.specs.State.{Started, state_of, worked_in, unfit, state_refusal_of, started_of, short_started_of}
use Rattle.coder.specs.Answers.{Answer, written_of, read_of, bits_after}
use Rattle.coder.proofs.Acceptance.{Taken, fit-passes, passes-fit, acceptance, written_sendable}
use Rattle.coder.proofs.Acceptance.{refused-keeps, refused-read-keeps}
use Rattle.coder.proofs.Back.{next-worked, next-held, next-turn, writing-back}

-- what a state is when a start answers it
pub record Fit (st : State) : Type 0 where
  pub right : Right st.asked
  pub held : st.register < 2 ^ 23
  pub turn : st.z ≤ 3

-- a start that is done: 0, and the state
abbrev pub begun : State → Started
begun st = record { refusal = 0; state = st }

module _ (st : State) where
  -- the settings of such a state are accepted
  pub fit-worked : Fit st → (c : Settings) × (worked_in st ≡ Accepted c)
  fit-worked fit = (accepted-when st.asked).1 fit.right

  pub worked_fit : (c : Settings) → worked_in st ≡ Accepted c → st.register < 2 ^ 23 → st.z ≤ 3 → Fit st
  worked_fit c e held turn =
      record { right = (accepted-when st.asked).0 (c, e); held = held; turn = turn }

  -- it is started with 0, and nothing is changed in it
  pub start-answers : Fit st → started_of st ≡ begun st
  unfolding started_of
  start-answers fit =
      let found = fit-worked fit in
      let none : state_refusal_of (worked_in st) st ≡ 0 =
      ap (λ (w : Worked). state_refusal_of w st) found.1
      ∙ (passed_over (unfit st) 7 [] (fit-passes st fit.held fit.turn) ∙ no_tests)
      in
      rw none

  started-fit : (started_of st).refusal ≡ 0 → Fit st
  unfolding started_of
  started-fit e = go (worked_in st) refl e
    where
      go : (w : Worked) → worked_in st ≡ w → state_refusal_of w st ≡ 0 → Fit st
      go (Refused n) f g = absurd (refused-some st.asked n f g)
      go (Accepted c) f g = let fit = passes-fit st (none_first (unfit st) 6 [] g) in worked_fit c f fit.0 fit.1

  -- and no other is
  pub start-accepts : ((started_of st).refusal ≡ 0) ↔ Fit st
  start-accepts = (started-fit, λ fit. ap (λ (x : Started). x.refusal) (start-answers fit))

-- The short start is the full one with shaping 0, register 0 and Z 0.
module _ (role s n mark : ℕ) where
  -- the state that it asks for
  abbrev pub plain : State
  plain = state_of (asked role s n 0 mark) 0 0

  plain-fit : Right (asked role s n 0 mark) → Fit plain
  plain-fit right = record { right = right; held = omega arith; turn = omega arith }

  pub short_start-answers : Right (asked role s n 0 mark) → short_started_of role s n mark ≡ begun plain
  unfolding short_started_of
  short_start-answers right = start-answers plain (plain-fit right)

  pub short_start-accepts : ((short_started_of role s n mark).refusal ≡ 0) ↔ Right (asked role s n 0 mark)
  unfolding short_started_of
  short_start-accepts = ((λ e. ((start-accepts plain).0 e).right), λ right. (start-accepts plain).1 (plain-fit right))

-- From a start.
module _ (st : State) (done : (started_of st).refusal ≡ 0) where
  -- its state has settings, and the writer takes every data frame of N bits with exact lengths
  pub writes-from_start :
      (c : Settings)
      × (worked_in (started_of st).state ≡ Accepted c)
      × ((bits out : List ℕ) → length bits ≡ c.user → length out ≡ 16 * c.frames → Bits bits
      → Taken c bits (written_of (started_of st).state bits (length out)))
  writes-from_start =
      let fit = (start-accepts st).0 done in
      let found = fit-worked st fit in
      let same : (started_of st).state ≡ st = ap (λ (x : Started). x.state) (start-answers st fit) in (
        found.0,
        ap worked_in same ∙ found.1,
        λ bits out size room binary.
            subst (λ (x : State). Taken found.0 bits (written_of x bits (length out))) (sym same)
            (acceptance st found.0 bits out found.1 fit.held fit.turn size room binary),
      )

-- Whatever the writer answers, its state is again one that a start answers.
written-fit : (st : State) (bits out : List ℕ) → (written_of st bits (length out)).refusal ≡ 0 → Fit (written_of st bits (length out)).state
written-fit st bits out done =
    let found = written_sendable st bits out done in
    worked_fit _ found.0 (next-worked st _ bits out found.1) (next-held st _ bits out found.1) (next-turn st _ bits out found.1)

pub write-stays : (st : State) (bits out : List ℕ) → Fit st → Fit (written_of st bits (length out)).state
write-stays st bits out fit = go (eqb (written_of st bits (length out)).refusal 0) refl
  where
    go : (v : Bool) → eqb (written_of st bits (length out)).refusal 0 ≡ v → Fit (written_of st bits (length out)).state
    go true e = written-fit st bits out (eqb-true _ 0 e)
    go false e = subst Fit (sym (refused-keeps st bits out (eqb-false _ 0 e))) fit

-- and so is the reader's, which is that of the writer for the bits that were read
pub read_stays : (st : State) (labels bits : List ℕ) → Fit st → Fit (read_of st labels (length bits)).state
read_stays st labels bits fit = go (eqb (read_of st labels (length bits)).refusal 0) refl
  where
    space : List ℕ
    space = replicate (length labels) 0

    go : (v : Bool) → eqb (read_of st labels (length bits)).refusal 0 ≡ v → Fit (read_of st labels (length bits)).state
    go true e =
        let done = eqb-true (read_of st labels (length bits)).refusal 0 e in
        let same = (writing-back st labels bits space done (length-replicate {A = ℕ} (length labels) 0)).answer in
        subst (λ (x : Answer). Fit x.state) same
        (written-fit st (bits_after st labels bits) space (ap (λ (x : Answer). x.refusal) same ∙ done))
    go false e = subst Fit (sym (refused-read-keeps st labels bits (eqb-false _ 0 e))) fit
