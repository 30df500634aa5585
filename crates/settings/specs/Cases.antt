-- Inputs of the settings program with the lines that it prints: document 01's own example, an unstated mark, inputs of the wrong
-- length, a line feed behind the bytes that it takes among them, and a rate above 28,800 with mark 0.
use Rattle.std.specs.Prelude.{List, [], ◌∷◌, ℕ}

pub record Case : Type 0 where
  pub input : List ℕ
  pub line : List ℕ

abbrev pub case : List ℕ → List ℕ → Case
case input line = record { input = input; line = line }

-- the bytes of `refused`, a space, one digit and a line feed
abbrev pub refused_by : ℕ → List ℕ
refused_by digit = 114 ∷ 101 ∷ 102 ∷ 117 ∷ 115 ∷ 101 ∷ 100 ∷ 32 ∷ digit ∷ 10 ∷ []

abbrev pub cases : List Case
cases =
    -- 1176 15 79 6 27 5 13 1664
    case (0 ∷ 5 ∷ 14 ∷ 1 ∷ 1 ∷ [])
    (49 ∷ 49 ∷ 55 ∷ 54 ∷ 32 ∷ 49 ∷ 53 ∷ 32 ∷ 55 ∷ 57 ∷ 32 ∷ 54 ∷ 32 ∷ 50 ∷ 55 ∷ 32 ∷ 53 ∷ 32 ∷ 49 ∷ 51 ∷ 32 ∷ 49 ∷ 54 ∷ 54 ∷ 52 ∷ 10 ∷ [])
    ∷ case (0 ∷ 5 ∷ 14 ∷ 1 ∷ 2 ∷ []) (refused_by 53)
    ∷ case (0 ∷ 5 ∷ 14 ∷ 1 ∷ []) (refused_by 56)
    ∷ case (0 ∷ 5 ∷ 14 ∷ 1 ∷ 1 ∷ 10 ∷ []) (refused_by 56)
    ∷ case [] (refused_by 56)
    ∷ case (0 ∷ 4 ∷ 13 ∷ 0 ∷ 0 ∷ []) (refused_by 54)
    ∷ []
