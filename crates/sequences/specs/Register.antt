-- The cyclic redundancy check (V.34, clause 10.1.2.3.2; document 02, request 1). A shift register of sixteen bits, highest power first,
-- starts from ones. Each bit is added to the top bit as that leaves, and where the sum is 1 the polynomial x^16 + x^12 + x^5 + 1 is added.
-- Nothing is appended, and what is left is sent highest power first: as the list stands.
--
--     crc ()                                    1111 1111 1111 1111
--     crc (1)                                   1111 1111 1111 1110
--     crc (0)                                   1110 1111 1101 1111
--     crc (the nine bytes "123456789")          0010 1001 1011 0001, which is 29B1
use Rattle.std.specs.Prelude.{List, [], ◌∷◌, ◌++◌, ℕ, zero, suc, ◌+◌, ◌%◌, length, replicate}

-- the sum of two lists of bits, place by place from the front; the longer one goes on alone
unfoldable pub add : List ℕ → List ℕ → List ℕ
add [] ys = ys
add (x ∷ xs) [] = x ∷ xs
add (x ∷ xs) (y ∷ ys) = (x + y) % 2 ∷ add xs ys

-- 0 times a list of bits, or 1 times
unfoldable pub times : ℕ → List ℕ → List ℕ
times zero xs = replicate (length xs) 0
times (suc b) xs = xs

-- x^12 + x^5 + 1, from x^15 down
unfoldable pub polynomial : List ℕ
polynomial = 0 ∷ 0 ∷ 0 ∷ 1 ∷ 0 ∷ 0 ∷ 0 ∷ 0 ∷ 0 ∷ 0 ∷ 1 ∷ 0 ∷ 0 ∷ 0 ∷ 0 ∷ 1 ∷ []

-- the register after one bit
unfoldable pub step : List ℕ → ℕ → List ℕ
step [] bit = []
step (top ∷ rest) bit = add (rest ++ 0 ∷ []) (times ((top + bit) % 2) polynomial)

-- after a list of bits
unfoldable pub feed : List ℕ → List ℕ → List ℕ
feed register [] = register
feed register (bit ∷ bits) = feed (step register bit) bits

-- the check of a list of bits
unfoldable pub crc : List ℕ → List ℕ
crc bits = feed (replicate 16 1) bits
