-- No two outcomes of the readers are told alike, so at most one fits what is told of it. Assumes nothing.
use mathlib.Core.List.{List}
use mathlib.Core.Path.{◌≡◌, refl}
use Prim.Native.Nat.{ℕ}
use Rattle.std.specs.Prelude.{Result, Ok, Err}
use Rattle.refusals.specs.declared.Refusal.{Refusal}
use Rattle.refusals.specs.Numbers.{code}
use Rattle.refusals.proofs.Once.{told_apart}
use Rattle.info.specs.declared.info0.Info0.{Info0}
use Rattle.info.specs.declared.info1c.Report.{Report as Heard}
use Rattle.info.specs.Info0.{numbers_told}
use Rattle.info.specs.Info1c.{told}
use Rattle.info.proofs.Rows14.{fields_of}

-- INFO0: by the number and the numbers of the fields
pub info0-heard_once :
    (v w : Result Info0 Refusal) → code v ≡ code w → numbers_told v ≡ numbers_told w → v ≡ w
info0-heard_once v w e f = told_apart both (λ p. p.0) (λ p. fields_of p.1) (λ _. refl) (λ _. refl) v w (pair e f)
  where
    both : Result Info0 Refusal → ℕ × List ℕ
    both v = (code v, numbers_told v)

    pair : {a b : ℕ} {x y : List ℕ} → a ≡ b → x ≡ y → ◌≡◌ {A = ℕ × List ℕ} (a, x) (b, y)
    pair e f = cc

-- INFO1c: by the report
pub info1c-heard_once : (v w : Result Heard Refusal) → told v ≡ told w → v ≡ w
info1c-heard_once =
    told_apart told (λ r. r.refusal) (λ r. record { fields = r.fields; count = r.count; reading = r.reading }) numbered (λ _. refl)
  where
    numbered : (v : Result Heard Refusal) → (told v).refusal ≡ code v
    numbered (Ok heard) = refl
    numbered (Err refusal) = refl
