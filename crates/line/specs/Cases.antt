-- The cases that document 01 works out on settings: the number that comes back, the values N P b r K q M L, and for two of them
-- the lengths of the mapping frames of a data frame.
use Rattle.std.specs.Prelude.{List, [], ◌∷◌, ◌++◌, ℕ}
use Rattle.line.specs.declared.asked.Asked.{Asked}
use Rattle.line.specs.Worked.{Worked, Accepted, Refused}
use Rattle.line.specs.Asked.{asked}
use Rattle.line.specs.Switching.{frame_lengths}

pub record Case : Type 0 where
  pub asked : Asked
  pub number : ℕ
  pub values : List ℕ

-- the zeros of a refusal
abbrev pub zeros : List ℕ
zeros = 0 ∷ 0 ∷ 0 ∷ 0 ∷ 0 ∷ 0 ∷ 0 ∷ 0 ∷ []

-- the role changes nothing here: it is 0
abbrev pub accepted : ℕ → ℕ → ℕ → ℕ → List ℕ → Case
accepted s n shaping mark values = record { asked = asked 0 s n shaping mark; number = 0; values = values }

abbrev pub refused : ℕ → ℕ → ℕ → ℕ → ℕ → Case
refused s n shaping mark number = record { asked = asked 0 s n shaping mark; number = number; values = zeros }

abbrev pub cases : List Case
cases =
    accepted 4 12 0 0 (1152 ∷ 16 ∷ 72 ∷ 16 ∷ 28 ∷ 4 ∷ 12 ∷ 768 ∷ [])
    ∷ accepted 4 12 1 0 (1152 ∷ 16 ∷ 72 ∷ 16 ∷ 28 ∷ 4 ∷ 14 ∷ 896 ∷ [])
    ∷ refused 4 13 0 0 6
    ∷ accepted 4 13 0 1 (1248 ∷ 16 ∷ 78 ∷ 16 ∷ 26 ∷ 5 ∷ 10 ∷ 1280 ∷ [])
    ∷ refused 4 13 0 2 5
    ∷ accepted 0 1 0 0 (96 ∷ 12 ∷ 8 ∷ 12 ∷ 0 ∷ 0 ∷ 1 ∷ 4 ∷ [])
    ∷ refused 0 10 0 0 3
    ∷ accepted 5 2 0 0 (168 ∷ 15 ∷ 12 ∷ 3 ∷ 0 ∷ 0 ∷ 1 ∷ 4 ∷ [])
    ∷ accepted 5 14 1 1 (1176 ∷ 15 ∷ 79 ∷ 6 ∷ 27 ∷ 5 ∷ 13 ∷ 1664 ∷ [])
    ∷ []

-- the frame lengths of a data frame of accepted settings
unfoldable pub lengths_of : Worked → List ℕ
lengths_of (Accepted c) = frame_lengths c.frames c.high c.step 0 c.frames
lengths_of (Refused number) = []

abbrev pub thrice : List ℕ → List ℕ
thrice lengths = lengths ++ lengths ++ lengths

-- s 5, n 2: low four times, then high, three times over
abbrev pub switching_of_two : List ℕ
switching_of_two = thrice (11 ∷ 11 ∷ 11 ∷ 11 ∷ 12 ∷ [])

-- s 5, n 14: low low high low high, three times over
abbrev pub switching_of_fourteen : List ℕ
switching_of_fourteen = thrice (78 ∷ 78 ∷ 79 ∷ 78 ∷ 79 ∷ [])
