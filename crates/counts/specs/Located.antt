-- A place among running sums: where it lies, and what is left of it there. With f = 0, 1, 9, 37, 93, the lighter eights of M = 2
--
--     r      0   1   8   9   36   37
--     at     0   1   1   2   2    3
--     rest   0   0   7   0   27   0
use Rattle.std.specs.Prelude.{ℕ, ◌-◌}
use Rattle.laws.specs.Largest.{largest}
use Rattle.counts.specs.declared.places.Located.{Located}

-- the largest place up to n whose f is at most r, and what r is above it
unfoldable pub located_of : (ℕ → ℕ) → ℕ → ℕ → Located
located_of f r n = record { at = largest f r n; rest = r - f (largest f r n) }
