-- Counting once: if of a list each number below n is hit exactly once by f, then as many items have a number below s as s says.
-- With it the laws of `count`, `product`, `up_to` and `Every` that say that each item occurs once in a list put together from all
-- pairs. No sums of indicators, and no exchange of sums. Assumes nothing.
use mathlib.Core.Bool.{Bool, true, false, cond, ◌&&◌}
use mathlib.Core.List.{List, [], ◌∷◌, ◌++◌, map}
use mathlib.Core.Path.{◌≡◌, refl, sym, ap, ap₂, ◌∙◌}
use Prim.Native.Nat.{ℕ, zero, suc, ◌+◌, ◌*◌, ◌≤◌, ◌<◌}
use native.Mathlib.Nat.{suc-mul, zero-mul, zero-add}
use native.Mathlib.Omega.{arith}
use lib.Dec.{ltb, eqb}
use lib.ListN.{length, get_or, length-append, length-map}
use borrow.Author.Tests.{le-ltb, ne_eqb}
use Rattle.laws.specs.Lists.{up_to, product, count, Every}

module _ {X : Type 0} where
  pub count-append : (test : X → Bool) (xs ys : List X) → count test (xs ++ ys) ≡ count test xs + count test ys
  unfolding count
  count-append test [] ys = sym (zero-add (count test ys))
  count-append test (x ∷ xs) ys = let rest = count-append test xs ys in grind arith

  -- tests that agree on every item count the same
  pub count_same :
      (P : X → Type 0) (test test' : X → Bool) → ((x : X) → P x → test x ≡ test' x)
      → (xs : List X) → Every P xs → count test xs ≡ count test' xs
  unfolding count
  count_same P test test' h [] a = refl
  count_same P test test' h (x ∷ xs) a =
      ap₂ (λ (b : Bool) (n : ℕ). cond b (suc n) n) (h x a.0) (count_same P test test' h xs a.1)

  pub count_none : (xs : List X) → count (λ x. false) xs ≡ 0
  unfolding count
  count_none [] = refl
  count_none (x ∷ xs) = count_none xs

  pub count-all : (xs : List X) → count (λ x. true) xs ≡ length xs
  unfolding count
  count-all [] = refl
  count-all (x ∷ xs) = ap suc (count-all xs)

  pub every_append : (P : X → Type 0) (xs ys : List X) → Every P xs → Every P ys → Every P (xs ++ ys)
  every_append P [] ys a b = b
  every_append P (x ∷ xs) ys a b = (a.0, every_append P xs ys a.1 b)

  -- and what holds of two lists together holds of each
  pub every-left : (P : X → Type 0) (xs ys : List X) → Every P (xs ++ ys) → Every P xs
  every-left P [] ys a = tt
  every-left P (x ∷ xs) ys a = (a.0, every-left P xs ys a.1)

  pub every-right : (P : X → Type 0) (xs ys : List X) → Every P (xs ++ ys) → Every P ys
  every-right P [] ys a = a
  every-right P (x ∷ xs) ys a = every-right P xs ys a.1

  pub every_map : {Y : Type 0} (P : Y → Type 0) (f : X → Y) → ((x : X) → P (f x)) → (xs : List X) → Every P (map f xs)
  every_map P f h [] = tt
  every_map P f h (x ∷ xs) = (h x, every_map P f h xs)

  -- what follows item by item
  pub every-imp : (P Q : X → Type 0) → ((x : X) → P x → Q x) → (xs : List X) → Every P xs → Every Q xs
  every-imp P Q h [] a = tt
  every-imp P Q h (x ∷ xs) a = (h x a.0, every-imp P Q h xs a.1)

  -- and what holds at each place; beyond the end stands d
  pub every_at : (P : X → Type 0) (d : X) → P d → (xs : List X) → Every P xs → (i : ℕ) → P (get_or xs i d)
  every_at P d h [] a i = h
  every_at P d h (x ∷ xs) a zero = a.0
  every_at P d h (x ∷ xs) a (suc i) = every_at P d h xs a.1 i

  -- one more number: those below s, and those that are s
  count-split :
      (f : X → ℕ) (s : ℕ) (xs : List X)
      → count (λ x. ltb (f x) (suc s)) xs ≡ count (λ x. ltb (f x) s) xs + count (λ x. eqb (f x) s) xs
  unfolding count
  count-split f s [] = refl
  count-split f s (x ∷ xs) = let rest = count-split f s xs in grind arith

  pub counted :
      (f : X → ℕ) (xs : List X) (n : ℕ) → ((k : ℕ) → k < n → count (λ x. eqb (f x) k) xs ≡ 1)
      → (s : ℕ) → s ≤ n → count (λ x. ltb (f x) s) xs ≡ s
  counted f xs n once zero h =
      count_same (λ x. Unit {0}) (λ x. ltb (f x) 0) (λ x. false) (λ x u. le-ltb (f x) 0 (omega arith)) xs (all xs) ∙ count_none xs
    where
      all : (ys : List X) → Every (λ y. Unit {0}) ys
      all [] = tt
      all (y ∷ ys) = (tt, all ys)
  counted f xs n once (suc s) h =
      let e = counted f xs n once s (omega arith) in
      let o = once s h in
      count-split f s xs ∙ omega arith

  -- as many items have a number below s as the numbers below s have hits, one number after the other
  pub counted_by : (f : X → ℕ) (xs : List X) (hits : ℕ → ℕ)
      → ((k : ℕ) → count (λ x. eqb (f x) k) xs ≡ hits k)
      → (s : ℕ) → count (λ x. ltb (f x) (suc s)) xs ≡ count (λ x. ltb (f x) s) xs + hits s
  counted_by f xs hits h s = count-split f s xs ∙ ap (λ (k : ℕ). count (λ x. ltb (f x) s) xs + k) (h s)

-- the numbers below n: all of them, each once
pub every-up_to : (n m : ℕ) → n ≤ m → Every (λ k. k < m) (up_to n)
unfolding up_to
every-up_to zero m h = tt
every-up_to (suc n) m h = every_append (λ k. k < m) (up_to n) (n ∷ []) (every-up_to n m (omega arith)) (h, tt)

absent-up_to : (n k : ℕ) → n ≤ k → count (eqb k) (up_to n) ≡ 0
unfolding up_to count
absent-up_to zero k h = refl
absent-up_to (suc n) k h =
    count-append (eqb k) (up_to n) (n ∷ [])
    ∙ ap₂ (λ (a : ℕ) (b : Bool). a + cond b 1 0) (absent-up_to n k (omega arith)) (ne_eqb k n (λ e. omega arith))

pub once-up_to : (n k : ℕ) → k < n → count (eqb k) (up_to n) ≡ 1
unfolding up_to count
once-up_to zero k h = absurd (omega arith)
once-up_to (suc n) k h =
    let before = once-up_to n k in
    let absent = absent-up_to n k in
    let parts = count-append (eqb k) (up_to n) (n ∷ []) in
    grind arith

pub length-up_to : (n : ℕ) → length (up_to n) ≡ n
unfolding up_to
length-up_to zero = refl
length-up_to (suc n) = length-append (up_to n) (n ∷ []) ∙ omega (arith, length-up_to n)

-- all pairs out of two lists: every pair is made of an item of each, two tests count a product, and so does the length
module _ {X Y : Type 0} where
  pub every-product :
      (P : X → Type 0) (Q : Y → Type 0) (xs : List X) (ys : List Y) → Every P xs → Every Q ys
      → Every (λ (z : X × Y). P z.0 × Q z.1) (product xs ys)
  unfolding product
  every-product P Q [] ys a b = tt
  every-product P Q (x ∷ xs) ys a b =
      every_append (λ (z : X × Y). P z.0 × Q z.1) (map (λ y. (x, y)) ys) (product xs ys) (head ys b)
      (every-product P Q xs ys a.1 b)
    where
      head : (ys : List Y) → Every Q ys → Every (λ (z : X × Y). P z.0 × Q z.1) (map (λ y. (x, y)) ys)
      head [] b = tt
      head (y ∷ ys) b = ((a.0, b.0), head ys b.1)

  pub count-product :
      (p : X → Bool) (q : Y → Bool) (xs : List X) (ys : List Y)
      → count (λ (z : X × Y). p z.0 && q z.1) (product xs ys) ≡ count p xs * count q ys
  unfolding product count
  count-product p q [] ys = sym (zero-mul (count q ys))
  count-product p q (x ∷ xs) ys =
      count-append (λ (z : X × Y). p z.0 && q z.1) (map (λ y. (x, y)) ys) (product xs ys)
      ∙ (ap₂ (λ (a b : ℕ). a + b) (head ys) (count-product p q xs ys) ∙ go (p x))
    where
      head : (ys : List Y) → count (λ (z : X × Y). p z.0 && q z.1) (map (λ y. (x, y)) ys) ≡ cond (p x) (count q ys) 0
      head [] = grind arith
      head (y ∷ ys) = let rest = head ys in grind arith

      go : (v : Bool) → cond v (count q ys) 0 + count p xs * count q ys ≡ cond v (suc (count p xs)) (count p xs) * count q ys
      go true = omega (arith, suc-mul (count p xs) (count q ys))
      go false = omega arith

  pub length-product : (xs : List X) (ys : List Y) → length (product xs ys) ≡ length xs * length ys
  unfolding product
  length-product [] ys = sym (zero-mul (length ys))
  length-product (x ∷ xs) ys =
      length-append (map (λ y. (x, y)) ys) (product xs ys)
      ∙ omega (arith, length-map {B = X × Y} ys (λ (y : Y). (x, y)), length-product xs ys, suc-mul (length xs) (length ys))
