-- What stands in the free places, and the sequence around it, undo each other. Assumes nothing.
use mathlib.Core.Bool.{true}
use mathlib.Core.List.{List, [], ◌∷◌, ◌++◌}
use mathlib.Core.Path.{◌≡◌, refl, ap}
use Prim.Native.Nat.{ℕ, zero, suc, ◌≤◌}
use native.Mathlib.Omega.{arith}
use lib.ListN.{length, take, drop}
use Rattle.bits.specs.Digits.{Bits}
use Rattle.bits.proofs.Digitals.{bits_at, bits-drop}
use Rattle.sequences.specs.Picture.{places, free, inside, around, all_hold}

pub length-around : (picture body : List ℕ) → length (around picture body) ≡ length picture
unfolding around
length-around [] body = refl
length-around (place ∷ picture) body =
    let again = length-around picture in
    grind arith

pub length-inside : (picture bits : List ℕ) → length bits ≡ length picture → length (inside picture bits) ≡ free picture
unfolding inside free
length-inside [] bits e = refl
length-inside (place ∷ picture) [] e = absurd (omega arith)
length-inside (place ∷ picture) (bit ∷ bits) e =
    let rest = length-inside picture bits in
    grind arith

pub bits_inside : (picture bits : List ℕ) → Bits bits → Bits (inside picture bits)
unfolding inside
bits_inside [] bits h = tt
bits_inside (place ∷ picture) [] h = tt
bits_inside (place ∷ picture) (bit ∷ bits) h =
    let rest = bits_inside picture bits h.1 in
    grind arith

pub bits-around : (picture body : List ℕ) → Bits body → Bits (around picture body)
unfolding around
bits-around [] body h = tt
bits-around (place ∷ picture) body h =
    let first = bits_at body 0 h in
    let behind = bits-around picture (drop 1 body) (bits-drop 1 body h) in
    let again = bits-around picture body h in
    grind arith

-- the fixed places of the sequence are right
pub held-around : (picture body : List ℕ) → all_hold picture (around picture body) ≡ true
unfolding around all_hold
held-around [] body = refl
held-around (place ∷ picture) body =
    let again = held-around picture in
    grind arith

-- what stands in the free places of the sequence around a body is the body
pub inside-around : (picture body : List ℕ) → length body ≡ free picture → inside picture (around picture body) ≡ body
unfolding around inside free
inside-around [] [] e = refl
inside-around [] (b ∷ body) e = absurd (omega arith)
inside-around (place ∷ picture) [] e =
    let again = inside-around picture in
    grind arith
inside-around (place ∷ picture) (b ∷ body) e =
    let again = inside-around picture in
    grind arith

-- and around what stands in the free places of a sequence whose fixed places are right is the sequence
pub around-inside :
    (picture bits : List ℕ) → length bits ≡ length picture → all_hold picture bits ≡ true → around picture (inside picture bits) ≡ bits
unfolding around inside all_hold
around-inside [] [] e m = refl
around-inside [] (b ∷ bits) e m = absurd (omega arith)
around-inside (place ∷ picture) [] e m = absurd (omega arith)
around-inside (place ∷ picture) (bit ∷ bits) e m =
    let again = around-inside picture bits in
    grind arith

-- of n places no more than n are free
free-most : (n : ℕ) (picture : List ℕ) → free (take n picture) ≤ n
unfolding free
free-most zero picture = omega arith
free-most (suc n) [] = omega arith
free-most (suc n) (place ∷ picture) =
    let rest = free-most n picture in
    grind arith

-- where the first n places are all fixed, nothing of them stands inside
pub all-fixed :
    (n : ℕ) (picture bits : List ℕ) → length bits ≡ length picture → free (take n picture) ≡ 0
    → inside picture bits ≡ inside (drop n picture) (drop n bits)
unfolding free inside
all-fixed zero picture bits e f = refl
all-fixed (suc n) [] bits e f = refl
all-fixed (suc n) (place ∷ picture) [] e f = absurd (omega arith)
all-fixed (suc n) (place ∷ picture) (bit ∷ bits) e f =
    let again = all-fixed n picture bits in
    grind arith

-- and where they are all free, they stand inside as they are
pub all-free :
    (n : ℕ) (picture bits : List ℕ) → length bits ≡ length picture → n ≤ length picture → free (take n picture) ≡ n
    → inside picture bits ≡ take n bits ++ inside (drop n picture) (drop n bits)
unfolding free inside
all-free zero picture bits e l f = refl
all-free (suc n) [] bits e l f = absurd (omega arith)
all-free (suc n) (place ∷ picture) [] e l f = absurd (omega arith)
all-free (suc n) (place ∷ picture) (bit ∷ bits) e l f =
    let again = all-free n picture bits in
    let most = free-most n picture in
    grind arith

-- free places take the front of a body, which is as long
pub around-places :
    (n : ℕ) (picture front body : List ℕ) → length front ≡ n
    → around (places n ++ picture) (front ++ body) ≡ front ++ around picture body
unfolding places around
around-places zero picture [] body e = refl
around-places zero picture (bit ∷ front) body e = absurd (omega arith)
around-places (suc n) picture [] body e = absurd (omega arith)
around-places (suc n) picture (bit ∷ front) body e =
    ap (λ (l : List ℕ). bit ∷ l) (around-places n picture front body (omega arith))
