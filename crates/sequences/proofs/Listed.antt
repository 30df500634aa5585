-- A list is its numbers one by one: so a struct that holds them holds the list. Assumes nothing.
use mathlib.Core.List.{List, [], ◌∷◌}
use mathlib.Core.Path.{◌≡◌, refl, ap}
use Prim.Native.Nat.{ℕ, zero, suc}
use native.Mathlib.Omega.{arith}
use lib.ListN.{length, get_or}

-- f 0, f 1, .., n of them
abbrev pub listed : ℕ → (ℕ → ℕ) → List ℕ
listed zero f = []
listed (suc n) f = f 0 ∷ listed n (λ i. f (suc i))

pub one_by_one : (n : ℕ) (l : List ℕ) → length l ≡ n → listed n (λ i. get_or l i 0) ≡ l
one_by_one zero [] e = refl
one_by_one zero (x ∷ l) e = absurd (omega arith)
one_by_one (suc n) [] e = absurd (omega arith)
one_by_one (suc n) (x ∷ l) e = ap (λ (r : List ℕ). x ∷ r) (one_by_one n l (omega arith))
