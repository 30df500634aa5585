-- The line that the settings program prints (document 01, "Settings program"): of a byte for each setting, role, s, n, shaping and mark,
-- the values N P b r K q M L in decimal with one space between, or `refused` and the number; of any other input `refused 8`. It ends in
-- a line feed.
--
--     input             line
--     0, 5, 14, 1, 1    1176 15 79 6 27 5 13 1664
--     0, 5, 14, 1, 2    refused 5
--     0, 5, 14, 1       refused 8
use Rattle.std.specs.Prelude.{Bool, cond, List, [], ◌∷◌, ◌++◌, ◌≡◌, ℕ, eqb, length, get_or, drop}
use Rattle.line.specs.declared.asked.Asked.{Asked}
use Rattle.line.specs.Worked.{Worked, Accepted, Refused}
use Rattle.line.specs.Asked.{asked}
use Rattle.line.specs.Settings.{worked_of, values_of}
use Rattle.settings.specs.Decimal.{decimal}

-- how many bytes it takes: one for each setting
abbrev pub taken : ℕ
taken = 5

abbrev pub exact_input : List ℕ → Bool
exact_input input = eqb (length input) taken

-- the settings that they ask for
abbrev pub asked_in : List ℕ → Asked
asked_in input = asked (get_or input 0 0) (get_or input 1 0) (get_or input 2 0) (get_or input 3 0) (get_or input 4 0)

-- what is answered: a byte for each setting is worked out, and refusal 8 for any other input
unfoldable pub answer_of : List ℕ → Worked
answer_of input = cond (exact_input input) (worked_of (asked_in input)) (Refused 8)

-- numbers in decimal, each with a space before it
unfoldable pub spaced : List ℕ → List ℕ
spaced [] = []
spaced (n ∷ ns) = 32 ∷ decimal n ++ spaced ns

-- numbers in decimal, with one space between
unfoldable pub joined : List ℕ → List ℕ
joined [] = []
joined (n ∷ ns) = decimal n ++ spaced ns

-- the bytes of `refused`
abbrev pub refused_word : List ℕ
refused_word = 114 ∷ 101 ∷ 102 ∷ 117 ∷ 115 ∷ 101 ∷ 100 ∷ []

-- the text of an answer
unfoldable pub text_of : Worked → List ℕ
text_of (Accepted c) = joined (values_of (Accepted c))
text_of (Refused number) = refused_word ++ spaced (number ∷ [])

-- and a line feed
unfoldable pub ended : List ℕ → List ℕ
ended text = text ++ 10 ∷ []

unfoldable pub line_of : List ℕ → List ℕ
line_of input = ended (text_of (answer_of input))

-- what the entry leaves: the line at the front of the buffer, what the buffer held behind it, and how long the line is
pub record Answers (input before after : List ℕ) (count : ℕ) : Type 0 where
  pub buffer : after ≡ line_of input ++ drop (length (line_of input)) before
  pub counted : count ≡ length (line_of input)
