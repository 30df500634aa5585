-- What a work-out comes to: the settings, or the number of the refusal.
use Rattle.std.specs.Prelude.{ℕ, Result, Ok, Err}
use Rattle.refusals.specs.declared.Refusal.{Refusal}
use Rattle.refusals.specs.Numbers.{number}
use Rattle.line.specs.declared.settings.Settings.{Settings}

pub data Worked : Type 0 where
  Accepted : Settings → Worked
  Refused : ℕ → Worked

-- what the code's result tells of it
abbrev pub told : Result Settings Refusal → Worked
told (Ok c) = Accepted c
told (Err refusal) = Refused (number refusal)
