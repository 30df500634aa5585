-- A number in decimal: its digits as bytes, the most significant first, at least one, and no zero in front of others.
--
--     n       n / 10   n % 10   decimal n
--     0       0        0        48                   0
--     7       0        7        55                   7
--     42      4        2        52, 50               42
--     1176    117      6        49, 49, 55, 54       1176
use Rattle.std.specs.Prelude.{Bool, cond, List, [], ◌∷◌, ◌++◌, ℕ, zero, suc, ◌+◌, ◌*◌, ◌-◌, ◌/◌, ◌%◌, ltb}

-- the byte of a digit
abbrev pub digit : ℕ → ℕ
digit d = 48 + d

abbrev pub one_digit : ℕ → Bool
one_digit n = ltb n 10

-- the digits of n / 10, and then n % 10; where n has one digit, only that. The first number is a limit on how many there are
unfoldable pub digits : ℕ → ℕ → List ℕ
digits zero n = []
digits (suc limit) n = cond (one_digit n) (digit n ∷ []) (digits limit (n / 10) ++ digit (n % 10) ∷ [])

-- no number has more digits than one more than itself
unfoldable pub decimal : ℕ → List ℕ
decimal n = digits (suc n) n

-- the number that digits spell, read from the front: ten times what was read, and the next digit
unfoldable pub read_on : ℕ → List ℕ → ℕ
read_on v [] = v
read_on v (d ∷ ds) = read_on (v * 10 + (d - 48)) ds

abbrev pub value : List ℕ → ℕ
value ds = read_on 0 ds
