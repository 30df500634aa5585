-- The register is linear: fed with a sum it holds the sum. Assumes nothing.
use mathlib.Core.List.{List, [], ◌∷◌, ◌++◌}
use mathlib.Core.Path.{◌≡◌, refl, ap, ap₂, ◌∙◌}
use Prim.Native.Nat.{ℕ, zero, suc, ◌+◌, ◌%◌, ◌≤◌}
use native.Mathlib.Omega.{arith}
use lib.ListN.{length, get_or}
use Rattle.sequences.specs.Register.{add, times, polynomial, step, feed}
use Rattle.sequences.proofs.Adds.{add-pairs}
use Rattle.sequences.proofs.Registers.{length-step}

-- four bits, by pairs either way: they are four lists of one place
pairs : (x y z w : ℕ) → ((x + y) % 2 + (z + w) % 2) % 2 ≡ ((x + z) % 2 + (y + w) % 2) % 2
unfolding add
pairs x y z w = ap (λ (l : List ℕ). get_or l 0 0) (add-pairs (x ∷ []) (y ∷ []) (z ∷ []) (w ∷ []))

-- what is pushed in is 0 twice
add-ends : (r s : List ℕ) → length r ≡ length s → add r s ++ 0 ∷ [] ≡ add (r ++ 0 ∷ []) (s ++ 0 ∷ [])
unfolding add
add-ends [] [] e = refl
add-ends [] (y ∷ s) e = absurd (omega arith)
add-ends (x ∷ r) [] e = absurd (omega arith)
add-ends (x ∷ r) (y ∷ s) e = ap (λ (l : List ℕ). (x + y) % 2 ∷ l) (add-ends r s (omega arith))

-- the polynomial is added where one of the two adds it, and not where both do
times-sum : (f g : ℕ) → f ≤ 1 → g ≤ 1 → times ((f + g) % 2) polynomial ≡ add (times f polynomial) (times g polynomial)
unfolding times add polynomial
times-sum zero zero p q = refl
times-sum zero (suc zero) p q = refl
times-sum (suc zero) zero p q = refl
times-sum (suc zero) (suc zero) p q = refl
times-sum zero (suc (suc g)) p q = absurd (omega arith)
times-sum (suc zero) (suc (suc g)) p q = absurd (omega arith)
times-sum (suc (suc f)) g p q = absurd (omega arith)

-- one bit
step_sum :
    (r s : List ℕ) (a b : ℕ) → length r ≡ 16 → length s ≡ 16
    → step (add r s) ((a + b) % 2) ≡ add (step r a) (step s b)
unfolding add step
step_sum [] s a b k l = absurd (omega arith)
step_sum (t ∷ r) [] a b k l = absurd (omega arith)
step_sum (t ∷ r) (u ∷ s) a b k l =
    let f = (t + a) % 2 in
    let g = (u + b) % 2 in
    let added = ap (λ (x : ℕ). times x polynomial) (pairs t u a b) ∙ times-sum f g (omega arith) (omega arith) in
    ap₂ add (add-ends r s (omega arith)) added
    ∙ add-pairs (r ++ 0 ∷ []) (s ++ 0 ∷ []) (times f polynomial) (times g polynomial)

-- a list of bits
pub feed-sum :
    (r s xs ys : List ℕ) → length r ≡ 16 → length s ≡ 16 → length xs ≡ length ys
    → feed (add r s) (add xs ys) ≡ add (feed r xs) (feed s ys)
unfolding add feed
feed-sum r s [] [] k l e = refl
feed-sum r s [] (y ∷ ys) k l e = absurd (omega arith)
feed-sum r s (x ∷ xs) [] k l e = absurd (omega arith)
feed-sum r s (x ∷ xs) (y ∷ ys) k l e =
    ap (λ (q : List ℕ). feed q (add xs ys)) (step_sum r s x y k l)
    ∙ feed-sum (step r x) (step s y) xs ys (length-step r x k) (length-step s y l) (omega arith)
