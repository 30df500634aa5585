-- No two outcomes of the reader are told alike, so at most one fits what is told of it. Assumes nothing.
use mathlib.Core.Path.{◌≡◌, refl}
use Rattle.std.specs.Prelude.{Result, Ok, Err}
use Rattle.refusals.specs.declared.Refusal.{Refusal}
use Rattle.refusals.specs.Numbers.{code}
use Rattle.refusals.proofs.Once.{told_apart}
use Rattle.jp.specs.declared.sequence.JpRead.{JpRead as Heard}
use Rattle.jp.specs.Jp.{told}

pub jp-heard_once : (v w : Result Heard Refusal) → told v ≡ told w → v ≡ w
jp-heard_once = told_apart told (λ a. a.refusal) (λ a. record { fields = a.fields; part = a.part }) numbered (λ _. refl)
  where
    numbered : (v : Result Heard Refusal) → (told v).refusal ≡ code v
    numbered (Ok heard) = refl
    numbered (Err refusal) = refl
