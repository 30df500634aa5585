-- Which inputs the settings program answers with a line of values (document 01, "Settings program"): exactly those of a byte for each
-- setting that are right. Of these the line is N P b r K q M L in decimal with one space between, and begins with a digit; of any
-- other it is `refused`, a space and the number, and begins with the letter r, byte 114. So the first byte that is printed tells the
-- two apart, and it does so in whatever buffer fits the contract of `answer`. Assumes nothing.
use mathlib.Core.Bool.{Bool, true, false, cond}
use mathlib.Core.List.{List, [], ◌∷◌, ◌++◌, append_assoc}
use mathlib.Core.Logic.{◌↔◌}
use mathlib.Core.Path.{◌≡◌, refl, sym, ap, ◌∙◌}
use Prim.Native.Nat.{ℕ, ◌≤◌}
use native.Mathlib.Omega.{arith}
use lib.ListN.{length, get_or, drop, get_or-append}
use borrow.Author.Tests.{eqb-true, eq-eqb}
use Rattle.laws.specs.Lists.{Every}
use Rattle.line.specs.declared.settings.Settings.{Settings}
use Rattle.line.specs.Worked.{Worked, Accepted, Refused}
use Rattle.line.specs.Settings.{worked_of, values_of}
use Rattle.line.proofs.Acceptance.{Right, accepted-when as worked-when}
use Rattle.settings.specs.Decimal.{decimal}
use Rattle.settings.specs.Lines.{taken, exact_input, asked_in, answer_of, joined, refused_word, text_of, ended, line_of, Answers}
use Rattle.settings.proofs.Decimals.{Digit, decimal-right}
use Rattle.settings.proofs.Joins.{spaced_one}
use Rattle.settings.proofs.Fitting.{ended-length}

-- a byte for each setting, and these are right
pub record Stated (input : List ℕ) : Type 0 where
  pub exact : length input ≡ taken
  pub right : Right (asked_in input)

-- the test of the length
exact-passes : (input : List ℕ) → length input ≡ taken → exact_input input ≡ true
exact-passes input e = eq-eqb (length input) taken e

passes-exact : (input : List ℕ) → exact_input input ≡ true → length input ≡ taken
passes-exact input e = eqb-true (length input) taken e

-- such an input is answered as it is worked out
exact-worked : (input : List ℕ) → length input ≡ taken → answer_of input ≡ worked_of (asked_in input)
unfolding answer_of
exact-worked input e = rw (exact-passes input e)

-- and nothing else is accepted
accepted-exact : (input : List ℕ) (c : Settings) → answer_of input ≡ Accepted c → length input ≡ taken
unfolding answer_of
accepted-exact input c e = go (exact_input input) refl e
  where
    go : (v : Bool) → exact_input input ≡ v → cond v (worked_of (asked_in input)) (Refused 8) ≡ Accepted c → length input ≡ taken
    go true p q = passes-exact input p
    go false p q = cc

-- accepted exactly when it should be
pub accepted-when : (input : List ℕ) → ((c : Settings) × (answer_of input ≡ Accepted c)) ↔ Stated input
accepted-when input = (forth, back)
  where
    forth : (c : Settings) × (answer_of input ≡ Accepted c) → Stated input
    forth p =
        let exact = accepted-exact input p.0 p.1 in
        record { exact = exact; right = (worked-when _).0 (p.0, sym (exact-worked input exact) ∙ p.1) }

    back : Stated input → (c : Settings) × (answer_of input ≡ Accepted c)
    back s = let p = (worked-when _).1 s.right in (p.0, exact-worked input s.exact ∙ p.1)

-- the line of each kind of answer
accepted-line : (input : List ℕ) (c : Settings) → answer_of input ≡ Accepted c → line_of input ≡ ended (joined (values_of (Accepted c)))
unfolding line_of text_of
accepted-line input c e = ap (λ (w : Worked). ended (text_of w)) e

refused-line : (input : List ℕ) (number : ℕ) → answer_of input ≡ Refused number → line_of input ≡ ended (refused_word ++ 32 ∷ decimal number)
unfolding line_of text_of
refused-line input number e =
    ap (λ (w : Worked). ended (text_of w)) e ∙ ap (λ (ds : List ℕ). ended (refused_word ++ ds)) (spaced_one number)

-- what is printed of an input: the values of its settings, or `refused`, a space and the number of its answer
pub record Printed (input : List ℕ) : Type 0 where
  pub values : Stated input → (c : Settings) × (answer_of input ≡ Accepted c) × (line_of input ≡ ended (joined (values_of (Accepted c))))
  pub refused :
      (Stated input → ⊥)
      → (number : ℕ) × (answer_of input ≡ Refused number) × (line_of input ≡ ended (refused_word ++ 32 ∷ decimal number))

pub printed_is : (input : List ℕ) → Printed input
printed_is input =
    record {
      values = λ s. let p = (accepted-when input).1 s in (p.0, p.1, accepted-line input p.0 p.1);
      refused = λ h. let p = number h (answer_of input) refl in (p.0, p.1, refused-line input p.0 p.1);
    }
  where
    number : (Stated input → ⊥) → (w : Worked) → answer_of input ≡ w → (k : ℕ) × (answer_of input ≡ Refused k)
    number h (Accepted c) e = absurd (h ((accepted-when input).0 (c, e)))
    number h (Refused k) e = (k, e)

-- a line of values begins with a digit
first_digit : (ds rest : List ℕ) → 1 ≤ length ds → Every Digit ds → Digit (get_or (ds ++ rest) 0 0)
first_digit [] rest some each = absurd (omega arith)
first_digit (d ∷ ds) rest some each = each.0

pub values_first : (c : Settings) → Digit (get_or (ended (joined (values_of (Accepted c)))) 0 0)
unfolding ended joined
values_first c =
    let n = decimal-right c.bits in
    rw append_assoc (first_digit (decimal c.bits) _ n.some n.each)

-- the line begins with another byte than r exactly when the input is a byte for each setting and these are right
pub printed-when : (input : List ℕ) → (get_or (line_of input) 0 0 ≡ 114 → ⊥) ↔ Stated input
unfolding ended
printed-when input = go (answer_of input) refl
  where
    first : (line : List ℕ) → line_of input ≡ line → get_or (line_of input) 0 0 ≡ get_or line 0 0
    first line e = ap (λ (bytes : List ℕ). get_or bytes 0 0) e

    go : (w : Worked) → answer_of input ≡ w → (get_or (line_of input) 0 0 ≡ 114 → ⊥) ↔ Stated input
    go (Accepted c) e = (
      (λ h. (accepted-when input).0 (c, e)),
      (λ s z. omega (arith, values_first c, first _ (accepted-line input c e))),
    )
    go (Refused number) e = (
      (λ h. absurd (h (first _ (refused-line input number e)))),
      (λ s h. let p = (accepted-when input).1 s in cc),
    )

-- and so does the buffer after a call of `answer`, whatever outcome fits its contract
pub outcome-when :
    (input before after : List ℕ) (count : ℕ) → Answers input before after count → (get_or after 0 0 ≡ 114 → ⊥) ↔ Stated input
unfolding line_of
outcome-when input before after count a = rw first (printed-when input)
  where
    first : get_or after 0 0 ≡ get_or (line_of input) 0 0
    first =
        ap (λ (bytes : List ℕ). get_or bytes 0 0) a.buffer
        ∙ get_or-append (line_of input) (drop (length (line_of input)) before) 0 0 (omega (arith, ended-length (text_of (answer_of input))))
