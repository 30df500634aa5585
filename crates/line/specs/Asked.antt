-- The settings as they are asked for (document 01, "Settings"). Where the numbers come from outside they are put together here, once.
use Rattle.std.specs.Prelude.{ℕ}
use Rattle.line.specs.declared.asked.Asked.{Asked}

abbrev pub asked : ℕ → ℕ → ℕ → ℕ → ℕ → Asked
asked role s n shaping mark = record { role = role; s = s; n = n; shaping = shaping; mark = mark }
