-- Lists of bits one after the other: the register after both is that after the second, from where the first left it, and so are the
-- bits that were received. Assumes nothing.
use mathlib.Core.List.{List, [], ◌∷◌, ◌++◌}
use mathlib.Core.Path.{◌≡◌, refl, ap}
use Prim.Native.Nat.{ℕ}
use Rattle.scrambler.specs.Scrambler.{scrambled_bit, push, push_all, descramble}

pub push_all-append : (register : ℕ) (a b : List ℕ) → push_all register (a ++ b) ≡ push_all (push_all register a) b
unfolding push_all
push_all-append register [] b = refl
push_all-append register (bit ∷ a) b = push_all-append (push register bit) a b

pub descramble-append :
    (role register : ℕ) (a b : List ℕ)
    → descramble role register (a ++ b) ≡ descramble role register a ++ descramble role (push_all register a) b
unfolding descramble push_all
descramble-append role register [] b = refl
descramble-append role register (out ∷ a) b =
    ap (λ (l : List ℕ). scrambled_bit role register out ∷ l) (descramble-append role (push register out) a b)
