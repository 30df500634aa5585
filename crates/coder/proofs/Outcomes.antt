-- At most one outcome fits the contract of the two starts, of the writer and of the reader: at most one is told, and no two outcomes are told
-- alike. Assumes nothing.
use mathlib.Core.List.{List}
use mathlib.Core.Path.{◌≡◌, refl, sym, ◌∙◌}
use Prim.Native.Nat.{ℕ}
use Rattle.std.specs.Prelude.{Result, Ok, Err}
use Rattle.refusals.specs.declared.Refusal.{Refusal}
use Rattle.refusals.specs.Numbers.{code}
use Rattle.refusals.proofs.Once.{told_apart}
use Rattle.coder.specs.declared.states.State.{State}
use Rattle.coder.specs.declared.states.Coded.{Coded}
use Rattle.coder.specs.State.{Started, started, started_of, short_started_of}
use Rattle.coder.specs.Answers.{Answer, answered, WriteAnswer, ReadAnswer}

pub one_start : (st : State) (v w : Started) → v ≡ started_of st → w ≡ started_of st → v ≡ w
one_start st v w p q = p ∙ sym q

pub one_short_start :
    (role s n mark : ℕ) (v w : Started) → v ≡ short_started_of role s n mark → w ≡ short_started_of role s n mark → v ≡ w
one_short_start role s n mark v w p q = p ∙ sym q

pub one_writing :
    (st : State) (bits out : List ℕ) (v w : Answer) (after other : List ℕ)
    → WriteAnswer st bits out v after → WriteAnswer st bits out w other → (v ≡ w) × (after ≡ other)
one_writing st bits out v w after other p q = (p.answer ∙ sym q.answer, p.buffer ∙ sym q.buffer)

pub one_reading :
    (st : State) (labels bits : List ℕ) (v w : Answer) (after other : List ℕ)
    → ReadAnswer st labels bits v after → ReadAnswer st labels bits w other → (v ≡ w) × (after ≡ other)
one_reading st labels bits v w after other p q = (p.answer ∙ sym q.answer, p.buffer ∙ sym q.buffer)

-- no two outcomes of a start are told alike, nor two of the writer or the reader
pub started_once : (v w : Result State Refusal) → started v ≡ started w → v ≡ w
started_once = told_apart started (λ s. s.refusal) (λ s. s.state) numbered (λ _. refl)
  where
    numbered : (v : Result State Refusal) → (started v).refusal ≡ code v
    numbered (Ok st) = refl
    numbered (Err refusal) = refl

pub answered_once : (st : State) (v w : Result Coded Refusal) → answered st v ≡ answered st w → v ≡ w
answered_once st = told_apart (answered st) (λ a. a.refusal) (λ a. record { bits = a.bits; state = a.state }) numbered (λ _. refl)
  where
    numbered : (v : Result Coded Refusal) → (answered st v).refusal ≡ code v
    numbered (Ok coded) = refl
    numbered (Err refusal) = refl
