-- The mark comes from the line: what ww_info0_read answers for it is bit 25 of the sequence, so it is 0 or 1. No call that is made with it
-- refuses it as unstated, whatever else it is asked. Assumes nothing.
use mathlib.Core.Bool.{Bool, true, false, cond}
use mathlib.Core.List.{List, [], ◌∷◌}
use mathlib.Core.Path.{◌≡◌, refl, sym, ap, ◌∙◌}
use Prim.Native.Nat.{ℕ, ◌≤◌}
use native.Mathlib.Omega.{arith}
use lib.ListN.{length, get_or}
use borrow.Author.Tests.{le-ltb}
use Rattle.laws.specs.Choice.{refusal}
use Rattle.laws.specs.Lists.{Every}
use Rattle.laws.proofs.Counting.{every_append}
use Rattle.line.specs.Asked.{asked}
use Rattle.line.specs.declared.asked.Asked.{Asked}
use Rattle.line.specs.Settings.{refusals, settings_refusal, worked_of}
use Rattle.sequences.specs.Sequence.{FieldsAnswer}
use Rattle.sequences.specs.Table.{fields_in}
use Rattle.sequences.proofs.Tables.{length-fields_in}
use Rattle.sequences.proofs.Trips.{answer-fields}
use Rattle.info.specs.Info0.{info0, numbers_of}
use Rattle.info.proofs.Rows14.{fields_of, numbers_of-fields_of}
use Rattle.info.proofs.Marks.{mark_is_bit_25, mark_is_stated}
use Rattle.coder.specs.State.{state_of, unfit, started_of, short_started_of}
use Rattle.workerwax.specs.Calls.{ParametersCall, StartCall}
use Rattle.workerwax.specs.Info.{Info0ReadCall}
use Rattle.workerwax.specs.Layout.{words, numbers_in, parameters_bytes, start_bytes, info0_bytes}
use Rattle.workerwax.proofs.Infos.{read-zero}
use Rattle.workerwax.proofs.Carried.{info0-says}
use Rattle.workerwax.proofs.InOrder.{length_test, parameters_tests, parameters_listed, start_tests, start-listed}

-- A refusal with 5 is that of a test with this number, and one that fails gives none.
abbrev Passes : Bool × ℕ → Type 0
Passes test = test.1 ≡ 5 → test.0 ≡ false

never_five : (tests : List (Bool × ℕ)) → Every Passes tests → refusal tests ≡ 5 → ⊥
unfolding refusal
never_five [] h e = omega (arith, e)
never_five (test ∷ tests) h e = go test.0 h.0 (never_five tests h.1) e
  where
    go : (v : Bool) → (test.1 ≡ 5 → v ≡ false) → (refusal tests ≡ 5 → ⊥) → cond v test.1 (refusal tests) ≡ 5 → ⊥
    go true fails later five = let z : ◌≡◌ {A = ℕ} 0 1 = ap (λ (v : Bool). cond v 0 1) (fails five) in omega arith
    go false fails later five = later five

other : (v : Bool) (n : ℕ) → (n ≡ 5 → ⊥) → Passes (v, n)
other v n h e = absurd (h e)

-- the settings' tests, with a mark that is stated
stated-passes : (a : Asked) → a.mark ≤ 1 → Every Passes (refusals a)
stated-passes a h = (
  other _ 1 (λ e. omega arith),
  (
    other _ 2 (λ e. omega arith),
    (other _ 3 (λ e. omega arith), (other _ 4 (λ e. omega arith), ((λ e. le-ltb 1 a.mark h), (other _ 6 (λ e. omega arith), tt)))),
  ),
)

length-passes : (size lent : ℕ) → Every Passes (length_test size lent)
length-passes size lent = (other _ 8 (λ e. omega arith), tt)

-- the mark among the fields that were answered
abbrev pub mark_in : List ℕ → ℕ
mark_in fields = get_or (numbers_in fields) 11 0

module _ (bits lent : List ℕ) (r : ℕ) (fields : List ℕ) (call : Info0ReadCall bits lent r fields) (zero : r ≡ 0) where
  abbrev numbers : List ℕ
  numbers = fields_in info0.table bits

  -- what the reader answered, by its names
  answer : FieldsAnswer info0 bits 0 (numbers_of (fields_of numbers))
  unfolding info0
  answer =
      let none = ((read-zero info0 info0_bytes words bits lent r fields call).0 zero).1 in
      rw (numbers_of-fields_of numbers (length-fields_in info0.table bits)) (answer-fields info0 bits none)

  mark-found : mark_in fields ≡ (fields_of numbers).mark
  mark-found = ap (λ (l : List ℕ). get_or l 11 0) (info0-says bits lent r fields call zero)

  pub mark_of_bit_25 : mark_in fields ≡ get_or bits 25 0
  mark_of_bit_25 = mark-found ∙ mark_is_bit_25 bits 0 (fields_of numbers) answer refl

  pub mark-stated : mark_in fields ≤ 1
  mark-stated = omega (arith, mark-found, mark_is_stated bits 0 (fields_of numbers) answer refl)

  module _ (role s n shaping : ℕ) where
    abbrev wanted : Asked
    wanted = asked role s n shaping (mark_in fields)

    pub never-unstated : settings_refusal wanted ≡ 5 → ⊥
    unfolding settings_refusal
    never-unstated = never_five (refusals wanted) (stated-passes wanted mark-stated)

    pub never-unstated_parameters :
        (answer : List ℕ) (v : ℕ) (after : List ℕ) → ParametersCall (worked_of wanted) answer v after → v ≡ 5 → ⊥
    never-unstated_parameters answer v after made five =
        let size = length answer in
        never_five (parameters_tests wanted size)
        (every_append Passes (refusals wanted) (length_test parameters_bytes size) (stated-passes wanted mark-stated)
        (length-passes parameters_bytes size))
        (sym (made.number ∙ parameters_listed wanted size) ∙ five)

    pub never-unstated-start :
        (register z : ℕ) (answer : List ℕ) (v : ℕ) (after : List ℕ) → StartCall (started_of (state_of wanted register z)) answer v after
        → v ≡ 5 → ⊥
    never-unstated-start register z answer v after made five =
        let size = length answer in
        let st = state_of wanted register z in
        never_five (start_tests st size)
        (every_append Passes (refusals wanted) ((unfit st, 7) ∷ length_test start_bytes size) (stated-passes wanted mark-stated)
        (other (unfit st) 7 (λ e. omega arith), length-passes start_bytes size))
        (sym (made.number ∙ start-listed st size) ∙ five)

  pub never-unstated-short_start :
      (role s n : ℕ) (answer : List ℕ) (v : ℕ) (after : List ℕ) → StartCall (short_started_of role s n (mark_in fields)) answer v after
      → v ≡ 5 → ⊥
  unfolding short_started_of
  never-unstated-short_start role s n answer v after made five = never-unstated-start role s n 0 0 0 answer v after made five
