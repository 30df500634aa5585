-- Laws of comparing: by the way two numbers lie, of sums that share a part, and the packing law. It says that two numbers of the
-- form F b + r, with r inside the room that F leaves for b, compare as b does, and where b is the same as r does. It serves both
-- the blocks of a running sum and the digits of a mixed radix. Assumes nothing.
use mathlib.Core.Logic.{⊎_elim}
use mathlib.Core.Path.{◌≡◌, refl, sym, subst, ◌∙◌}
use Prim.Native.Nat.{ℕ, zero, suc, ◌+◌, ◌*◌, ◌≤◌, ◌<◌, compare, Ordering}
use Prim.Native.Nat.compare
use native.Mathlib.Nat.{not-suc-le-zero, le_of_suc-le-suc, mul-le-mul_right, suc-mul}
use native.Mathlib.Omega.{arith}
use lib.Dec.{ltb}
use borrow.Author.Tests.{lt-ltb, le-ltb}
use Rattle.laws.specs.Order.{then_by, is_less}
use Rattle.laws.proofs.Largests.{tri}

pub compare-less : (a b : ℕ) → a < b → compare a b ≡ Ordering.lt
compare-less a zero h = absurd (not-suc-le-zero h)
compare-less zero (suc b) h = compare.zero-suc b
compare-less (suc a) (suc b) h = compare.suc-suc a b ∙ compare-less a b (le_of_suc-le-suc h)

pub compare_same : (a : ℕ) → compare a a ≡ Ordering.eq
compare_same zero = compare.zero-zero
compare_same (suc a) = compare.suc-suc a a ∙ compare_same a

pub compare-more : (a b : ℕ) → b < a → compare a b ≡ Ordering.gt
compare-more zero b h = absurd (not-suc-le-zero h)
compare-more (suc a) zero h = compare.suc-zero a
compare-more (suc a) (suc b) h = compare.suc-suc a b ∙ compare-more a b (le_of_suc-le-suc h)

-- a comparison is decided by the three ways
pub by_compare :
    (P : Ordering → Type 0) (a b : ℕ)
    → (a < b → P Ordering.lt) → (a ≡ b → P Ordering.eq) → (b < a → P Ordering.gt) → P (compare a b)
by_compare P a b less same more = ⊎_elim first (λ w. ⊎_elim second third w) (tri a b)
  where
    first : a < b → P (compare a b)
    first l = subst P (sym (compare-less a b l)) (less l)

    second : a ≡ b → P (compare a b)
    second e = subst P (sym (subst (λ (k : ℕ). compare a k ≡ Ordering.eq) e (compare_same a))) (same e)

    third : b < a → P (compare a b)
    third l = subst P (sym (compare-more a b l)) (more l)

-- adding the same in front changes nothing
pub compare-add : (c a b : ℕ) → compare (c + a) (c + b) ≡ compare a b
compare-add c a b =
    by_compare (λ (o : Ordering). compare (c + a) (c + b) ≡ o) a b
    (λ l. compare-less (c + a) (c + b) (omega arith))
    (λ e. subst (λ (k : ℕ). compare (c + a) (c + k) ≡ Ordering.eq) e (compare_same (c + a)))
    (λ l. compare-more (c + a) (c + b) (omega arith))

pub is_less-compare : (a b : ℕ) → is_less (compare a b) ≡ ltb a b
is_less-compare a b =
    by_compare (λ (o : Ordering). is_less o ≡ ltb a b) a b
    (λ l. sym (lt-ltb a b l))
    (λ e. sym (le-ltb a b (omega arith)))
    (λ l. sym (le-ltb a b (omega arith)))

pub then_by-assoc : (o p q : Ordering) → then_by (then_by o p) q ≡ then_by o (then_by p q)
then_by-assoc Ordering.lt p q = refl
then_by-assoc Ordering.eq p q = refl
then_by-assoc Ordering.gt p q = refl

-- then_by looks at what comes after only where the first is the same
pub then_by_same : (a b : ℕ) (p q : Ordering) → (a ≡ b → p ≡ q) → then_by (compare a b) p ≡ then_by (compare a b) q
then_by_same a b p q h =
    by_compare (λ (o : Ordering). then_by o p ≡ then_by o q) a b (λ l. refl) h (λ l. refl)

-- the packing law
pub packed :
    (F room : ℕ → ℕ)
    → ((a b : ℕ) → a < b → F a + room a ≤ F b)
    → (a b r s : ℕ) → r < room a → s < room b
    → compare (F a + r) (F b + s) ≡ then_by (compare a b) (compare r s)
packed F room apart a b r s hr hs =
    by_compare (λ (o : Ordering). compare (F a + r) (F b + s) ≡ then_by o (compare r s)) a b
    (λ l. compare-less (F a + r) (F b + s) (let z = apart a b l in omega arith))
    (λ e. subst (λ (k : ℕ). compare (F a + r) (F k + s) ≡ compare r s) e (compare-add (F a) r s))
    (λ l. compare-more (F a + r) (F b + s) (let z = apart b a l in omega arith))

-- digits of a mixed radix: a·c + r with r < c
pub packed-digits :
    (c a b r s : ℕ) → r < c → s < c → compare (a * c + r) (b * c + s) ≡ then_by (compare a b) (compare r s)
packed-digits c a b r s hr hs = packed (λ k. k * c) (λ k. c) apart a b r s hr hs
  where
    apart : (i j : ℕ) → i < j → i * c + c ≤ j * c
    apart i j l = subst (λ (k : ℕ). k ≤ j * c) (suc-mul i c) (mul-le-mul_right c l)
