-- Whole numbers as bits, highest weight first: as the register of a check is held in a number. (`value` and `digits` of crate `bits` have
-- the lowest first.)
--
--     high_digits 4 11          1, 0, 1, 1
--     high_value (1, 0, 1, 1)   11
use Rattle.std.specs.Prelude.{List, [], ◌∷◌, ℕ, zero, suc, ◌+◌, ◌*◌, ◌/◌, ◌%◌, ◌^◌, length}

-- the number that a list of bits is
unfoldable pub high_value : List ℕ → ℕ
high_value [] = 0
high_value (bit ∷ bits) = bit * 2 ^ length bits + high_value bits

-- the n lowest bits of x
unfoldable pub high_digits : ℕ → ℕ → List ℕ
high_digits zero x = []
high_digits (suc n) x = x / 2 ^ n % 2 ∷ high_digits n x
