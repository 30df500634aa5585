-- No two outcomes of the ranker are told alike, so at most one fits its contract. Assumes nothing.
use mathlib.Core.Path.{◌≡◌, refl}
use Prim.Native.Nat.{ℕ}
use Rattle.std.specs.Prelude.{Result, Ok, Err}
use Rattle.refusals.specs.declared.Refusal.{Refusal}
use Rattle.refusals.specs.Numbers.{code}
use Rattle.refusals.proofs.Once.{told_apart}
use Rattle.rings.specs.Mapping.{ranked}

pub ranked_once : (v w : Result ℕ Refusal) → ranked v ≡ ranked w → v ≡ w
ranked_once = told_apart ranked (λ a. a.refusal) (λ a. a.number) numbered (λ _. refl)
  where
    numbered : (v : Result ℕ Refusal) → (ranked v).refusal ≡ code v
    numbered (Ok place) = refl
    numbered (Err reason) = refl
