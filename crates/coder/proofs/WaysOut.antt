-- The ways out of the starts, the writer and the reader: the settings are refused, a later test refuses, or the call is done. Assumes
-- nothing.
use mathlib.Core.Bool.{true, false, cond}
use mathlib.Core.List.{List}
use mathlib.Core.Path.{◌≡◌, refl, ◌∙◌}
use Prim.Native.Nat.{ℕ}
use lib.Dec.{eqb}
use lib.ListN.{length}
use borrow.Author.Tests.{ne_eqb}
use Rattle.std.specs.Prelude.{Ok, Err}
use Rattle.laws.specs.Choice.{refusal}
use Rattle.refusals.specs.declared.Refusal.{Refusal}
use Rattle.refusals.specs.declared.Refusal.TheVariants.{UnfitState}
use Rattle.refusals.specs.Numbers.{number}
use Rattle.refusals.proofs.Once.{some_number}
use Rattle.line.specs.declared.settings.Settings.{Settings}
use Rattle.line.specs.Worked.{Worked, Accepted, Refused}
use Rattle.coder.specs.declared.states.State.{State}
use Rattle.coder.specs.State.{worked_in, unfit, started, started_of}
use Rattle.coder.specs.Answers.{Answer, answered, write_refusal, read_refusal, written, received, labels_of, bits_of}
use Rattle.coder.specs.Answers.{written_of, labels_after, read_of, bits_after, WriteAnswer, ReadAnswer}
use Rattle.coder.proofs.Acceptance.{answer_at}

-- no refusal has the number 0
some : (why : Refusal) → eqb (number why) 0 ≡ false
some why = ne_eqb (number why) 0 (some_number why)

-- A start.
module _ (st : State) where
  pub start-refused : (why : Refusal) → Refused (number why) ≡ worked_in st → started (Err why) ≡ started_of st
  unfolding started_of
  start-refused why worked = rw (← worked, some why)

  module _ (c : Settings) (worked : Accepted c ≡ worked_in st) where
    pub start-unfit : unfit st ≡ true → started (Err UnfitState) ≡ started_of st
    unfolding started_of refusal
    start-unfit u = rw (← worked, u)

    pub start-done : unfit st ≡ false → started (Ok st) ≡ started_of st
    unfolding started_of refusal
    start-done u = rw (← worked, u)

-- What writer and reader have in common: the number of the refusal, and what is answered and made where there is none, each from the
-- settings as they were worked out.
module _ (st : State) (refuses : Worked → ℕ) (done : Worked → Answer) (made : Worked → List ℕ) (lent : List ℕ) where
  record WayOut (r : Answer) (after : List ℕ) : Type 0 where
    answer : r ≡ answer_at (refuses (worked_in st)) (done (worked_in st)) st
    buffer : after ≡ cond (eqb (refuses (worked_in st)) 0) (made (worked_in st)) lent

  refused-way : (w : Worked) (why : Refusal) → w ≡ worked_in st → number why ≡ refuses w → WayOut (answered st (Err why)) lent
  refused-way w why worked is_number =
      record { answer = rw (← worked, ← is_number, some why); buffer = rw (← worked, ← is_number, some why) }

  done-way :
      (w : Worked) (r : Answer) (after : List ℕ) → w ≡ worked_in st → refuses w ≡ 0 → r ≡ done w → after ≡ made w → WayOut r after
  done-way w r after worked none is-done is_made =
      record { answer = is-done ∙ rw (← worked, none); buffer = is_made ∙ rw (← worked, none) }

-- The writer's.
module _ (st : State) (bits out : List ℕ) where
  abbrev WritesOut : Answer → List ℕ → Type 0
  WritesOut = WayOut st (λ w. write_refusal w st bits (length out)) (λ w. written w st bits) (λ w. labels_of w st bits) out

  writes-out : (r : Answer) (after : List ℕ) → WritesOut r after → WriteAnswer st bits out r after
  unfolding written_of labels_after
  writes-out r after way = record { answer = way.answer; buffer = way.buffer }

  pub write-unsettled : (why : Refusal) → Refused (number why) ≡ worked_in st → WriteAnswer st bits out (answered st (Err why)) out
  write-unsettled why worked = writes-out _ _ (refused-way st _ _ _ out (Refused (number why)) why worked refl)

  module _ (c : Settings) (worked : Accepted c ≡ worked_in st) where
    pub write-refused :
        (why : Refusal) → number why ≡ write_refusal (Accepted c) st bits (length out) → WriteAnswer st bits out (answered st (Err why)) out
    write-refused why is_number = writes-out _ _ (refused-way st _ _ _ out (Accepted c) why worked is_number)

    pub write-done :
        (r : Answer) (after : List ℕ)
        → write_refusal (Accepted c) st bits (length out) ≡ 0
        → r ≡ written (Accepted c) st bits
        → after ≡ labels_of (Accepted c) st bits
        → WriteAnswer st bits out r after
    write-done r after none is-done is_made = writes-out r after (done-way st _ _ _ out (Accepted c) r after worked none is-done is_made)

-- The reader's.
module _ (st : State) (labels bits : List ℕ) where
  abbrev ReadsOut : Answer → List ℕ → Type 0
  ReadsOut = WayOut st (λ w. read_refusal w st labels (length bits)) (λ w. received w st labels) (λ w. bits_of w st labels) bits

  reads-out : (r : Answer) (after : List ℕ) → ReadsOut r after → ReadAnswer st labels bits r after
  unfolding read_of bits_after
  reads-out r after way = record { answer = way.answer; buffer = way.buffer }

  pub read-unsettled : (why : Refusal) → Refused (number why) ≡ worked_in st → ReadAnswer st labels bits (answered st (Err why)) bits
  read-unsettled why worked = reads-out _ _ (refused-way st _ _ _ bits (Refused (number why)) why worked refl)

  module _ (c : Settings) (worked : Accepted c ≡ worked_in st) where
    pub read-refused :
        (why : Refusal) → number why ≡ read_refusal (Accepted c) st labels (length bits) → ReadAnswer st labels bits (answered st (Err why)) bits
    read-refused why is_number = reads-out _ _ (refused-way st _ _ _ bits (Accepted c) why worked is_number)

    pub read-done :
        (r : Answer) (after : List ℕ)
        → read_refusal (Accepted c) st labels (length bits) ≡ 0
        → r ≡ received (Accepted c) st labels
        → after ≡ bits_of (Accepted c) st labels
        → ReadAnswer st labels bits r after
    read-done r after none is-done is_made = reads-out r after (done-way st _ _ _ bits (Accepted c) r after worked none is-done is_made)
