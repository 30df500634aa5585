-- Sums of lists of bits: they may be taken in any order, zeros add nothing, and what is added twice is gone. Assumes nothing.
use mathlib.Core.List.{List, [], ◌∷◌}
use mathlib.Core.Path.{◌≡◌, refl, sym, ap, ap₂, ◌∙◌}
use Prim.Native.Nat.{ℕ, zero, suc, ◌≤◌}
use native.Mathlib.Omega.{arith}
use lib.ListN.{length, replicate, length-replicate}
use Rattle.bits.specs.Digits.{Bits}
use Rattle.sequences.specs.Register.{add, times}

abbrev pub zeros : ℕ → List ℕ
zeros n = replicate n 0

-- a sum is as long as the longer of the two
pub length-add-long : (xs ys : List ℕ) → length ys ≤ length xs → length (add xs ys) ≡ length xs
unfolding add
length-add-long [] [] l = refl
length-add-long [] (y ∷ ys) l = absurd (omega arith)
length-add-long (x ∷ xs) [] l = refl
length-add-long (x ∷ xs) (y ∷ ys) l = ap suc (length-add-long xs ys (omega arith))

pub length-add : (xs ys : List ℕ) → length xs ≡ length ys → length (add xs ys) ≡ length xs
length-add xs ys e = length-add-long xs ys (omega arith)

pub bits-add : (xs ys : List ℕ) → Bits xs → Bits ys → Bits (add xs ys)
unfolding add
bits-add [] ys h k = k
bits-add (x ∷ xs) [] h k = h
bits-add (x ∷ xs) (y ∷ ys) h k = (omega arith, bits-add xs ys h.1 k.1)

pub bits-replicate : (n b : ℕ) → b ≤ 1 → Bits (replicate n b)
bits-replicate zero b h = tt
bits-replicate (suc n) b h = (h, bits-replicate n b h)

pub length-times : (b : ℕ) (xs : List ℕ) → length (times b xs) ≡ length xs
unfolding times
length-times zero xs = length-replicate (length xs) 0
length-times (suc b) xs = refl

pub bits-times : (b : ℕ) (xs : List ℕ) → Bits xs → Bits (times b xs)
unfolding times
bits-times zero xs h = bits-replicate (length xs) 0 (omega arith)
bits-times (suc b) xs h = h

-- in any order
pub add-nil : (xs : List ℕ) → add xs [] ≡ xs
unfolding add
add-nil [] = refl
add-nil (x ∷ xs) = refl

pub add_comm : (xs ys : List ℕ) → add xs ys ≡ add ys xs
unfolding add
add_comm [] ys = sym (add-nil ys)
add_comm (x ∷ xs) [] = refl
add_comm (x ∷ xs) (y ∷ ys) = ap₂ ◌∷◌ (omega arith) (add_comm xs ys)

pub add_assoc : (xs ys zs : List ℕ) → add (add xs ys) zs ≡ add xs (add ys zs)
unfolding add
add_assoc [] ys zs = refl
add_assoc (x ∷ xs) [] zs = refl
add_assoc (x ∷ xs) (y ∷ ys) [] = refl
add_assoc (x ∷ xs) (y ∷ ys) (z ∷ zs) = ap₂ ◌∷◌ (omega arith) (add_assoc xs ys zs)

-- four lists, by pairs either way
pub add-pairs : (a b c d : List ℕ) → add (add a b) (add c d) ≡ add (add a c) (add b d)
add-pairs a b c d =
    let inner : add b (add c d) ≡ add c (add b d) =
    sym (add_assoc b c d) ∙ (ap (λ (x : List ℕ). add x d) (add_comm b c) ∙ add_assoc c b d) in
    add_assoc a b (add c d) ∙ (ap (add a) inner ∙ sym (add_assoc a c (add b d)))

-- nothing added
pub zeros-add : (n : ℕ) (xs : List ℕ) → Bits xs → n ≤ length xs → add (replicate n 0) xs ≡ xs
unfolding add
zeros-add zero xs h l = refl
zeros-add (suc n) [] h l = absurd (omega arith)
zeros-add (suc n) (x ∷ xs) h l = ap₂ ◌∷◌ (omega (arith, h.0)) (zeros-add n xs h.1 (omega arith))

pub add-zeros : (xs : List ℕ) (n : ℕ) → Bits xs → n ≤ length xs → add xs (replicate n 0) ≡ xs
add-zeros xs n h l = add_comm xs (zeros n) ∙ zeros-add n xs h l

-- what is added twice is gone
add-self : (xs : List ℕ) → add xs xs ≡ zeros (length xs)
unfolding add
add-self [] = refl
add-self (x ∷ xs) = ap₂ ◌∷◌ (omega arith) (add-self xs)

pub add_twice : (xs ys : List ℕ) → Bits ys → length xs ≤ length ys → add xs (add xs ys) ≡ ys
add_twice xs ys h l =
    sym (add_assoc xs xs ys) ∙ (ap (λ (s : List ℕ). add s ys) (add-self xs) ∙ zeros-add (length xs) ys h l)
