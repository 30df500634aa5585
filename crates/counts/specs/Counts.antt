-- The counts of an M as the code holds them.
use Rattle.std.specs.Prelude.{◌≡◌, ℕ}
use Rattle.counts.specs.Rows.{Rows}
use Rattle.counts.specs.declared.rows.Counts.{Counts}

-- c holds the counts of M
pub record CountsOf (M : ℕ) (c : Counts) : Type 0 where
  pub of : c.m ≡ M
  pub rows : Rows M c.pairs c.fours c.lighter
