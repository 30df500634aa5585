-- The cases of specs/Cases.antt, shown from the definitions by one theorem over the list. Assumes nothing.
use mathlib.Core.Path.{◌≡◌, refl}
use Rattle.laws.specs.Choice.{refusal}
use Rattle.laws.specs.Lists.{Every}
use Rattle.laws.specs.Smallest.{smallest}
use Rattle.line.specs.Rates.{symbol_rate, row_of}
use Rattle.line.specs.Numbers.{bits_of, high_of, step_of, uncoded_of, shell_of, minimum_of, nearest_of, expanded_of, points_of}
use Rattle.line.specs.Settings.{settings_refusal, shaping_of, settings_of, accepted_of, worked_of}
use Rattle.settings.specs.Decimal.{digits, decimal}
use Rattle.settings.specs.Lines.{answer_of, spaced, joined, text_of, ended, line_of}
use Rattle.settings.specs.Cases.{Case, cases}

pub worked-cases : Every (λ (c : Case). line_of c.input ≡ c.line) cases
unfolding line_of ended text_of joined spaced answer_of decimal digits
    worked_of accepted_of settings_of settings_refusal refusal symbol_rate row_of smallest
    bits_of high_of step_of uncoded_of shell_of shaping_of minimum_of nearest_of expanded_of points_of
worked-cases = (refl, (refl, (refl, (refl, (refl, (refl, tt))))))
