-- What the workers of this crate ask of their callers. No promise rests on this page: a public entry asks nothing.
use Rattle.std.specs.Prelude.{ℕ, ◌≤◌}
use Rattle.line.specs.declared.rate.SymbolRate.{SymbolRate}

-- n in the range of a symbol rate, and P, as the divisions and the table of ring counts take them
pub record InRange (rate : SymbolRate) (n : ℕ) : Type 0 where
  pub least : 1 ≤ n
  pub most : n ≤ 14
  pub fewest : 12 ≤ rate.p
  pub fullest : rate.p ≤ 16
