-- What the work-out's result tells: the settings of the rate that s names where no refusal holds, and otherwise the first refusal. At most
-- one result fits its contract, since no two refusals have the same number. Assumes nothing.
use mathlib.Core.Path.{◌≡◌, sym, ap, subst, ◌∙◌}
use native.Mathlib.Omega.{arith}
use borrow.Author.Tests.{ne_eqb}
use Rattle.std.specs.Prelude.{Option, Some, Result, Ok, Err}
use Rattle.refusals.specs.declared.Refusal.{Refusal}
use Rattle.refusals.specs.Numbers.{number}
use Rattle.refusals.proofs.Once.{numbered, number_once}
use Rattle.line.specs.declared.asked.Asked.{Asked}
use Rattle.line.specs.declared.rate.SymbolRate.{SymbolRate}
use Rattle.line.specs.declared.settings.Settings.{Settings}
use Rattle.line.specs.Rates.{symbol_rate}
use Rattle.line.specs.Requires.{InRange}
use Rattle.line.specs.Settings.{settings_refusal, settings_of, worked_of}
use Rattle.line.specs.Worked.{Accepted, Refused, told}
use Rattle.line.proofs.Acceptance.{Within, unrefused_right, unrefused_is, known-accepted}
use Rattle.line.proofs.Rows.{in-range}

-- at most one result tells the same
pub told_once : (v w : Result Settings Refusal) → told v ≡ told w → v ≡ w
told_once (Ok c) (Ok d) e = cc
told_once (Ok c) (Err r) e = cc
told_once (Err q) (Ok d) e = cc
told_once (Err q) (Err r) e = let same : number q ≡ number r = cc in ap Err (number_once q r same)

-- and so at most one fits the contract
pub one_result : (asked : Asked) (v w : Result Settings Refusal) → told v ≡ worked_of asked → told w ≡ worked_of asked → v ≡ w
one_result asked v w p q = told_once v w (p ∙ sym q)

-- what is told where a refusal holds, and where none does
pub refused-told : (asked : Asked) (refusal : Refusal) → number refusal ≡ settings_refusal asked → Refused (number refusal) ≡ worked_of asked
unfolding worked_of
refused-told asked refusal e = rw (← e, ne_eqb (number refusal) 0 (λ z. omega (arith, numbered refusal)))

module _ (asked : Asked) (rate : SymbolRate) (named : symbol_rate asked.s ≡ Some rate) (none : settings_refusal asked ≡ 0) where
  -- n is in the range of the rate
  pub ranged : InRange rate asked.n
  ranged = in-range asked.s rate asked.n named within.0 within.1
    where
      within : Within (Some rate) asked.n
      within = subst (λ (r : Option SymbolRate). Within r asked.n) named (unrefused_right asked none).range

  pub accepted-told : (c : Settings) → c ≡ settings_of asked rate → Accepted c ≡ worked_of asked
  accepted-told c e = ap Accepted e ∙ sym (unrefused_is asked none ∙ known-accepted asked rate named)

pub ruleset outcomes = (refused-told, ranged, accepted-told)
