-- Equal in all eight keys means the same set (document 01, "The listing order"), for any two sets of eight rings, below an M or not.
-- So of two different sets one comes first. Assumes nothing.
use mathlib.Core.List.{List, [], ◌∷◌}
use mathlib.Core.Path.{◌≡◌, refl, ap, ap₂}
use Prim.Native.Nat.{ℕ, compare, Ordering}
use native.Mathlib.Omega.{arith}
use lib.ListN.{get_or}
use Rattle.laws.specs.Order.{then_by, compare_keys}
use Rattle.laws.proofs.Orders.{by_compare}
use Rattle.listing.specs.Sets.{Eight}
use Rattle.listing.specs.Order.{keys}

-- where no key differs, the first does not, and none of the others
none_differs : (a b : ℕ) (rest : Ordering) → then_by (compare a b) rest ≡ Ordering.eq → (a ≡ b) × (rest ≡ Ordering.eq)
none_differs a b rest =
    by_compare (λ (o : Ordering). then_by o rest ≡ Ordering.eq → (a ≡ b) × (rest ≡ Ordering.eq)) a b
    (λ l e. let z : ◌≡◌ {A = ℕ} 0 1 = cc in absurd (omega arith))
    (λ same e. (same, e))
    (λ l e. let z : ◌≡◌ {A = ℕ} 0 1 = cc in absurd (omega arith))

-- lists of keys that do not differ are the same list
one_list : (ks ls : List ℕ) → compare_keys ks ls ≡ Ordering.eq → ks ≡ ls
unfolding compare_keys
one_list [] [] e = refl
one_list [] (l ∷ ls) e = let z : ◌≡◌ {A = ℕ} 0 1 = cc in absurd (omega arith)
one_list (k ∷ ks) [] e = let z : ◌≡◌ {A = ℕ} 0 1 = cc in absurd (omega arith)
one_list (k ∷ ks) (l ∷ ls) e =
    let first = none_differs k l (compare_keys ks ls) e in
    ap₂ ◌∷◌ first.0 (one_list ks ls first.1)

-- four keys are single rings, and the sums say the other four
pub same_keys : (x y : Eight) → compare_keys (keys x) (keys y) ≡ Ordering.eq → x ≡ y
unfolding keys
same_keys (((a1, a2), (a3, a4)), ((a5, a6), (a7, a8))) (((b1, b2), (b3, b4)), ((b5, b6), (b7, b8))) e =
    let one = one_list _ _ e in
    let key : (i : ℕ) → _ = λ i. ap (λ (l : List ℕ). get_or l i 0) one in
    let key0 = key 0 in
    let key1 = key 1 in
    let key2 = key 2 in
    let key3 = key 3 in
    let key4 = key 4 in
    let key5 = key 5 in
    let key6 = key 6 in
    let key7 = key 7 in
    let at1 : a1 ≡ b1 = omega arith in
    let at2 : a2 ≡ b2 = omega arith in
    let at3 : a3 ≡ b3 = omega arith in
    let at4 : a4 ≡ b4 = omega arith in
    let at5 : a5 ≡ b5 = omega arith in
    let at6 : a6 ≡ b6 = omega arith in
    let at7 : a7 ≡ b7 = omega arith in
    let at8 : a8 ≡ b8 = omega arith in
    cc
