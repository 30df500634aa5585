-- The check worked out: of no bits, of a single one, and of the nine bytes "123456789", highest bit first, which give 29B1, as every list
-- of such checks has it. Assumes nothing.
use mathlib.Core.List.{List, [], ◌∷◌}
use mathlib.Core.Path.{◌≡◌, refl}
use Prim.Native.Nat.{ℕ}
use Rattle.sequences.specs.Register.{add, times, polynomial, step, feed, crc}

pub of_nothing : crc [] ≡ 1 ∷ 1 ∷ 1 ∷ 1 ∷ 1 ∷ 1 ∷ 1 ∷ 1 ∷ 1 ∷ 1 ∷ 1 ∷ 1 ∷ 1 ∷ 1 ∷ 1 ∷ 1 ∷ []
unfolding crc feed
of_nothing = refl

pub of_one : crc (1 ∷ []) ≡ 1 ∷ 1 ∷ 1 ∷ 1 ∷ 1 ∷ 1 ∷ 1 ∷ 1 ∷ 1 ∷ 1 ∷ 1 ∷ 1 ∷ 1 ∷ 1 ∷ 1 ∷ 0 ∷ []
unfolding crc feed step add times polynomial
of_one = refl

pub of_zero : crc (0 ∷ []) ≡ 1 ∷ 1 ∷ 1 ∷ 0 ∷ 1 ∷ 1 ∷ 1 ∷ 1 ∷ 1 ∷ 1 ∷ 0 ∷ 1 ∷ 1 ∷ 1 ∷ 1 ∷ 1 ∷ []
unfolding crc feed step add times polynomial
of_zero = refl

-- a digit of text is 0011 and then its bits
abbrev digit : ℕ → ℕ → ℕ → ℕ → List ℕ → List ℕ
digit a b c d rest = 0 ∷ 0 ∷ 1 ∷ 1 ∷ a ∷ b ∷ c ∷ d ∷ rest

abbrev pub nine_digits : List ℕ
nine_digits = digit 0 0 0 1
    (digit 0 0 1 0
    (digit 0 0 1 1
    (digit 0 1 0 0
    (digit 0 1 0 1
    (digit 0 1 1 0
    (digit 0 1 1 1
    (digit 1 0 0 0
    (digit 1 0 0 1 []))))))))

pub of_nine_digits : crc nine_digits ≡ 0 ∷ 0 ∷ 1 ∷ 0 ∷ 1 ∷ 0 ∷ 0 ∷ 1 ∷ 1 ∷ 0 ∷ 1 ∷ 1 ∷ 0 ∷ 0 ∷ 0 ∷ 1 ∷ []
unfolding crc feed step add times polynomial
of_nine_digits = refl
