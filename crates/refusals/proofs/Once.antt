-- The numbers of the refusals: none is 0 and no two are the same. So at most one outcome is told by a number. Assumes nothing.
use mathlib.Core.Path.{◌≡◌, refl, sym, ap, ◌∙◌}
use Prim.Native.Nat.{ℕ, ◌<◌}
use native.Mathlib.Omega.{arith}
use Rattle.std.specs.Prelude.{Result, Ok, Err, List, [], ◌∷◌, get_or, ⊤}
use Rattle.refusals.specs.declared.Refusal.{Refusal}
use Rattle.refusals.specs.declared.Refusal.TheVariants.{
  UnknownRole,
  UnknownRate,
  DataRateOutOfRange,
  UnknownShaping,
  UnstatedMark,
  DeniedDataRate,
  UnfitState,
  WrongLength,
  NotABit,
  OutOfRange,
  UnsentRings,
  UnsentStep,
  NotPermitted,
  NumberTooLarge,
  WrongPicture,
  WrongCheck,
  FieldOutOfRange,
}
use Rattle.refusals.specs.Numbers.{number, code}

-- no refusal has the number 0
pub numbered : (refusal : Refusal) → 0 < number refusal
numbered UnknownRole = omega arith
numbered _ = omega arith

pub some_number : (refusal : Refusal) → number refusal ≡ 0 → ⊥
some_number refusal e = omega (arith, numbered refusal)

-- the refusals by number; none has 0 or 15, and the first stands for it there
named : ℕ → Refusal
named number = get_or names number UnknownRole
  where
    names : List Refusal
    names =
        UnknownRole
        ∷ UnknownRole
        ∷ UnknownRate
        ∷ DataRateOutOfRange
        ∷ UnknownShaping
        ∷ UnstatedMark
        ∷ DeniedDataRate
        ∷ UnfitState
        ∷ WrongLength
        ∷ NotABit
        ∷ OutOfRange
        ∷ UnsentRings
        ∷ UnsentStep
        ∷ NotPermitted
        ∷ NumberTooLarge
        ∷ UnknownRole
        ∷ WrongPicture
        ∷ WrongCheck
        ∷ FieldOutOfRange
        ∷ []

named-number : (refusal : Refusal) → named (number refusal) ≡ refusal
unfolding named
named-number UnknownRole = refl
named-number _ = refl

-- so no two have the same
pub number_once : (q r : Refusal) → number q ≡ number r → q ≡ r
number_once q r e = sym (named-number q) ∙ ap named e ∙ named-number r

-- Of an outcome a number and a value are told, in a record of some kind: the number is that of the outcome, and the value that of an `Ok`. Then
-- no two outcomes are told alike, so that at most one fits a contract that says what is told.
pub told_apart :
    {A B : Type 0} (told : Result A Refusal → B) (no_of : B → ℕ) (value : B → A)
    → ((v : Result A Refusal) → no_of (told v) ≡ code v)
    → ((x : A) → value (told (Ok x)) ≡ x)
    → (v w : Result A Refusal) → told v ≡ told w → v ≡ w
told_apart told no_of value is held (Ok x) (Ok y) e = ap Ok (sym (held x) ∙ ap value e ∙ held y)
told_apart told no_of value is held (Ok x) (Err r) e =
    let same = sym (is (Ok x)) ∙ ap no_of e ∙ is (Err r) in
    let some = numbered r in
    absurd (omega arith)
told_apart told no_of value is held (Err q) (Ok y) e =
    let same = sym (is (Err q)) ∙ ap no_of e ∙ is (Ok y) in
    let some = numbered q in
    absurd (omega arith)
told_apart told no_of value is held (Err q) (Err r) e = ap Err (number_once q r (sym (is (Err q)) ∙ ap no_of e ∙ is (Err r)))

-- at most one outcome that holds no value is told by a number
pub code_once : (v w : Result ⊤ Refusal) → code v ≡ code w → v ≡ w
code_once (Ok x) (Ok y) e = refl
code_once (Ok x) (Err r) e = let some = numbered r in grind (arith, e)
code_once (Err q) (Ok y) e = let some = numbered q in grind (arith, e)
code_once (Err q) (Err r) e = ap Err (number_once q r e)
