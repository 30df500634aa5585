-- Every line fits into 40 bytes: no value of accepted settings has more than four digits, and each of the eight has a space or the
-- line feed behind it; nor has a refusal more digits. Assumes nothing.
use mathlib.Core.Bool.{Bool, true, false, cond}
use mathlib.Core.List.{List, [], ◌∷◌}
use mathlib.Core.Path.{◌≡◌, refl, ap}
use Prim.Native.Nat.{ℕ, ◌+◌, ◌≤◌}
use native.Mathlib.Omega.{arith}
use lib.ListN.{length, length-append}
use Rattle.std.proofs.lemmas.Grind.{common_steps}
use Rattle.laws.specs.Lists.{Every}
use Rattle.laws.proofs.Counting.{every-imp}
use Rattle.line.specs.declared.asked.Asked.{Asked}
use Rattle.line.specs.declared.settings.Settings.{Settings}
use Rattle.line.specs.Worked.{Worked, Accepted, Refused}
use Rattle.line.specs.Settings.{worked_of, number_of, values_of}
use Rattle.line.proofs.Acceptance.{number-most}
use Rattle.line.proofs.Soundness.{Sound, accepted-sound, values-most}
use Rattle.settings.specs.Lines.{exact_input, asked_in, answer_of, spaced, refused_word, text_of, ended, line_of}
use Rattle.settings.proofs.Joins.{Short, short-length, joined-short, spaced_one}

-- how long the text of a refusal is, and a text with the line feed
pub refused-length : (number : ℕ) → length (text_of (Refused number)) ≡ 7 + length (spaced (number ∷ []))
unfolding text_of
refused-length number = length-append refused_word (spaced (number ∷ []))

pub ended-length : (text : List ℕ) → length (ended text) ≡ length text + 1
unfolding ended
ended-length text = length-append text (10 ∷ [])

-- what is known of an answer
abbrev Limited : Worked → Type 0
Limited (Accepted c) = Sound c
Limited (Refused number) = Short number

worked-limited : (asked : Asked) → Limited (worked_of asked)
worked-limited asked = go (worked_of asked) refl
  where
    go : (w : Worked) → worked_of asked ≡ w → Limited w
    go (Accepted c) e = accepted-sound asked c e
    go (Refused number) e = omega (arith, ap number_of e, number-most asked 9999 refl)

answer-limited : (input : List ℕ) → Limited (answer_of input)
unfolding answer_of
answer-limited input = go (exact_input input)
  where
    go : (v : Bool) → Limited (cond v (worked_of (asked_in input)) (Refused 8))
    go true = worked-limited (asked_in input)
    go false = omega arith

-- no value has more than four digits
values-short : (c : Settings) → Sound c → Every Short (values_of (Accepted c))
values-short c sound = every-imp (λ v. v ≤ 1664) Short (λ v h. omega arith) (values_of (Accepted c)) (values-most c sound)

text-fits : (w : Worked) → Limited w → length (text_of w) ≤ 39
unfolding text_of
text-fits (Accepted c) z = omega (arith, joined-short (values_of (Accepted c)) (omega arith) (values-short c z))
text-fits (Refused number) h =
    omega (arith, refused-length number, ap length (spaced_one number), short-length number (omega arith))

-- the text of an answer leaves room for the line feed
pub answer-fits : (input : List ℕ) → length (text_of (answer_of input)) ≤ 39
answer-fits input = text-fits (answer_of input) (answer-limited input)

pub line-fits : (input : List ℕ) → length (line_of input) ≤ 40
unfolding line_of
line-fits input = omega (arith, answer-fits input, ended-length (text_of (answer_of input)))

-- what the code that puts a text, and the line feed behind it, relies on
pub ruleset texts = (common_steps, refused-length)

pub ruleset lines = (common_steps, answer-fits)
