-- The scrambler (document 01, "Scrambler"; V.34, clause 7). The generating polynomials are 1 + x^-18 + x^-23 at the calling end,
-- role 0, and 1 + x^-5 + x^-23 at the answering end. The register is a whole number below 2^23, and its bit of weight 2^(k − 1) is
-- the output k places back. From a register of 0, the input 1 and then zeros gives ones at
--
--     call      0, 18, 23, ..
--     answer    0, 5, 10, 15, 20, 23, ..
use Rattle.std.specs.Prelude.{cond, List, [], ◌∷◌, ℕ, ◌+◌, ◌*◌, ◌-◌, ◌/◌, ◌%◌, ◌^◌, eqb}

-- the output k places back
unfoldable pub place_back : ℕ → ℕ → ℕ
place_back register k = register / 2 ^ (k - 1) % 2

-- the nearer of the two places: 18 at the calling end, 5 at the answering end
unfoldable pub near_place : ℕ → ℕ
near_place role = cond (eqb role 0) 18 5

-- a bit plus, modulo 2, the outputs at the near place and 23 places back. Added twice they are gone, so the inverse is the same sum
unfoldable pub scrambled_bit : ℕ → ℕ → ℕ → ℕ
scrambled_bit role register bit = (bit + place_back register (near_place role) + place_back register 23) % 2

-- the register after one more output bit
unfoldable pub push : ℕ → ℕ → ℕ
push register bit = (2 * register + bit) % 2 ^ 23

-- after a list of them
unfoldable pub push_all : ℕ → List ℕ → ℕ
push_all register [] = register
push_all register (bit ∷ bits) = push_all (push register bit) bits

-- the outputs for a list of bits
unfoldable pub scramble : ℕ → ℕ → List ℕ → List ℕ
scramble role register [] = []
scramble role register (bit ∷ bits) =
    let out = scrambled_bit role register bit in
    out ∷ scramble role (push register out) bits

-- the bits for a list of received outputs: the register takes what was received
unfoldable pub descramble : ℕ → ℕ → List ℕ → List ℕ
descramble role register [] = []
descramble role register (out ∷ outs) = scrambled_bit role register out ∷ descramble role (push register out) outs
