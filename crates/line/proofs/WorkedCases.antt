-- The cases that document 01 works out on settings, shown from the definitions by one theorem over the list, and the two
-- switching sequences that it gives. Assumes nothing.
use mathlib.Core.Path.{◌≡◌, refl}
use Rattle.laws.specs.Choice.{refusal}
use Rattle.laws.specs.Lists.{Every}
use Rattle.laws.specs.Smallest.{smallest}
use Rattle.line.specs.Asked.{asked}
use Rattle.line.specs.Rates.{symbol_rate, row_of}
use Rattle.line.specs.Numbers.{bits_of, high_of, step_of, uncoded_of, shell_of, minimum_of, nearest_of, expanded_of, points_of}
use Rattle.line.specs.Settings.{settings_refusal, shaping_of, settings_of, accepted_of, worked_of, number_of, values_of}
use Rattle.line.specs.Switching.{counter_after, frame_bits, frame_lengths}
use Rattle.line.specs.Cases.{Case, cases, lengths_of, switching_of_two, switching_of_fourteen}

-- what is shown of a case
abbrev pub Holds : Case → Type 0
Holds c = (number_of (worked_of c.asked) ≡ c.number) × (values_of (worked_of c.asked) ≡ c.values)

pub worked-cases : Every Holds cases
unfolding worked_of accepted_of settings_of settings_refusal refusal symbol_rate row_of smallest
    bits_of high_of step_of uncoded_of shell_of shaping_of minimum_of nearest_of expanded_of points_of
worked-cases = (
  (refl, refl),
  (
    (refl, refl),
    ((refl, refl), ((refl, refl), ((refl, refl), ((refl, refl), ((refl, refl), ((refl, refl), ((refl, refl), tt))))))),
  ),
)

pub switching-cases :
    (lengths_of (worked_of (asked 0 5 2 0 0)) ≡ switching_of_two) × (lengths_of (worked_of (asked 0 5 14 1 1)) ≡ switching_of_fourteen)
unfolding worked_of accepted_of settings_of settings_refusal refusal symbol_rate row_of smallest lengths_of frame_lengths frame_bits counter_after
    bits_of high_of step_of uncoded_of shell_of shaping_of minimum_of nearest_of expanded_of points_of
switching-cases = (refl, refl)
