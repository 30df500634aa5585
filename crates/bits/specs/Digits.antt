-- Whole numbers as bits, lowest weight first, and bytes that are bits.
--
--     digits 4 11          1, 1, 0, 1
--     value (1, 1, 0, 1)   11
--     all_bits (1, 2, 0)    false
use Rattle.std.specs.Prelude.{Bool, true, ◌&&◌, List, [], ◌∷◌, ℕ, zero, suc, ◌+◌, ◌*◌, ◌/◌, ◌%◌, ◌≤◌, leb}
use Rattle.laws.specs.Lists.{Every}

-- the number that a list of bits is
unfoldable pub value : List ℕ → ℕ
value [] = 0
value (bit ∷ bits) = bit + 2 * value bits

-- the n lowest bits of x
unfoldable pub digits : ℕ → ℕ → List ℕ
digits zero x = []
digits (suc n) x = x % 2 ∷ digits n (x / 2)

-- a list of bits: every number is 0 or 1
abbrev pub Bits : List ℕ → Type 0
Bits = Every (λ bit. bit ≤ 1)

-- the same as a test of bytes
unfoldable pub all_bits : List ℕ → Bool
all_bits [] = true
all_bits (byte ∷ bytes) = leb byte 1 && all_bits bytes
