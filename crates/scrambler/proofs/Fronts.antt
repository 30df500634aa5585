-- The scrambler over the parts of a list: what is scrambled of the whole is what is scrambled of a front, and then of the rest from the
-- register after that front. Assumes nothing.
--
--     scramble r (a ++ b)     scramble r a, then scramble r' b, where r' is r with scramble r a pushed
use mathlib.Core.List.{List, [], ◌∷◌}
use mathlib.Core.Path.{◌≡◌, refl, ap}
use Prim.Native.Nat.{ℕ, zero, suc}
use lib.ListN.{take, drop}
use Rattle.scrambler.specs.Scrambler.{scrambled_bit, push, push_all, scramble}

-- the register after a front of n bits
abbrev pub held_after : ℕ → ℕ → ℕ → List ℕ → ℕ
held_after role register n bits = push_all register (scramble role register (take n bits))

-- a front of what is scrambled is the front scrambled
pub take-scramble : (role register n : ℕ) (bits : List ℕ) → take n (scramble role register bits) ≡ scramble role register (take n bits)
unfolding scramble
take-scramble role register zero bits = refl
take-scramble role register (suc n) [] = refl
take-scramble role register (suc n) (bit ∷ bits) =
    let out = scrambled_bit role register bit in
    ap (λ (l : List ℕ). out ∷ l) (take-scramble role (push register out) n bits)

-- the rest is the rest scrambled, from the register after the front
pub drop-scramble :
    (role register n : ℕ) (bits : List ℕ)
    → drop n (scramble role register bits) ≡ scramble role (held_after role register n bits) (drop n bits)
unfolding scramble push_all
drop-scramble role register zero bits = refl
drop-scramble role register (suc n) [] = refl
drop-scramble role register (suc n) (bit ∷ bits) = drop-scramble role (push register (scrambled_bit role register bit)) n bits

-- and the register after the whole is that after the rest
pub push_all-scramble :
    (role register n : ℕ) (bits : List ℕ)
    → let held = held_after role register n bits in
    push_all register (scramble role register bits) ≡ push_all held (scramble role held (drop n bits))
unfolding scramble push_all
push_all-scramble role register zero bits = refl
push_all-scramble role register (suc n) [] = refl
push_all-scramble role register (suc n) (bit ∷ bits) = push_all-scramble role (push register (scrambled_bit role register bit)) n bits
