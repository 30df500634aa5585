-- Division by x^16 + x^12 + x^5 + 1 over bits, highest power first, as it is done on paper: where the leading bit is 1 the polynomial is
-- added below it. What is left at the end are the last sixteen bits. No answer rests on this page: it says what the check is in other
-- words.
--
--     1 0000 0000 0000 0000      quotient 1      remainder 0001 0000 0010 0001, which is x^12 + x^5 + 1
use Rattle.std.specs.Prelude.{List, [], ◌∷◌, ℕ, zero, suc, replicate}
use Rattle.sequences.specs.Register.{add, times, polynomial}

-- what is left after n steps of the division of n + 16 bits
unfoldable pub remainder : ℕ → List ℕ → List ℕ
remainder zero bits = bits
remainder (suc n) [] = []
remainder (suc n) (bit ∷ bits) = remainder n (add bits (times bit polynomial))

-- the n bits of the quotient
unfoldable pub quotient : ℕ → List ℕ → List ℕ
quotient zero bits = []
quotient (suc n) [] = []
quotient (suc n) (bit ∷ bits) = bit ∷ quotient n (add bits (times bit polynomial))

-- n bits times the polynomial: n + 16 bits
unfoldable pub multiplied : List ℕ → List ℕ
multiplied [] = replicate 16 0
multiplied (bit ∷ bits) = add (times bit (1 ∷ polynomial)) (0 ∷ multiplied bits)
