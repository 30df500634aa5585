-- The picture of a sequence, as text: a character to a place, `0` or `1` where the place is fixed and always holds that bit, and `.` where
-- it is free. As bytes these are 48, 49 and 46, so a fixed place holds its byte modulo 2.
--
--     picture       1 1 0 . . . 0 .
--     sequence      1 1 0 a b c 0 d
--     inside              a b c   d
use Rattle.std.specs.Prelude.{Bool, true, false, ◌&&◌, cond, List, [], ◌∷◌, ℕ, suc, ◌+◌, ◌%◌, eqb, get_or, drop, replicate}

-- the picture of fixed bits, and of n free places
unfoldable pub fixed : List ℕ → List ℕ
fixed [] = []
fixed (bit ∷ bits) = (48 + bit) ∷ fixed bits

unfoldable pub places : ℕ → List ℕ
places n = replicate n 46

-- whether a place is free
abbrev pub is_free : ℕ → Bool
is_free place = eqb place 46

-- how many are
unfoldable pub free : List ℕ → ℕ
free [] = 0
free (place ∷ picture) = cond (is_free place) (suc (free picture)) (free picture)

-- what stands in the free places
unfoldable pub inside : List ℕ → List ℕ → List ℕ
inside [] bits = []
inside (place ∷ picture) [] = []
inside (place ∷ picture) (bit ∷ bits) = cond (is_free place) (bit ∷ inside picture bits) (inside picture bits)

-- the sequence around it
unfoldable pub around : List ℕ → List ℕ → List ℕ
around [] body = []
around (place ∷ picture) body =
    cond (is_free place) (get_or body 0 0 ∷ around picture (drop 1 body)) (place % 2 ∷ around picture body)

-- a place that is free, or holds what it always holds
abbrev pub holds : ℕ → ℕ → Bool
holds place bit = cond (is_free place) true (eqb bit (place % 2))

-- every place does
unfoldable pub all_hold : List ℕ → List ℕ → Bool
all_hold [] bits = true
all_hold (place ∷ picture) [] = false
all_hold (place ∷ picture) (bit ∷ bits) = holds place bit && all_hold picture bits
