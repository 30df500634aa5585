-- The rows of the counts of an M: rows of numbers, for p = 0, 1, 2 and on. For M = 2
--
--     pairs      1   2   1   0   0 ..                          g2
--     fours      1   4   6   4   1   0   0 ..                  g4
--     lighter    0   1   9   37  93  163 219 247 255           z8, as far as 8(M − 1)
use Rattle.std.specs.Prelude.{List, ◌≡◌, ℕ, ◌*◌, ◌-◌, ◌≤◌, get_or}
use Rattle.listing.specs.Counts.{g2, g4, z8}

-- what a row says at p: 0 beyond its end
abbrev pub at : List ℕ → ℕ → ℕ
at row p = get_or row p 0

-- the M of the table
pub record Known (M : ℕ) : Type 0 where
  pub low : 1 ≤ M
  pub high : M ≤ 18

-- two rows are those of the fours and of the lighter eights of M
pub record EightRows (M : ℕ) (fourRow lighterRow : List ℕ) : Type 0 where
  pub known : Known M
  pub fours : at fourRow ≡ g4 M
  pub lighter : (p : ℕ) → p ≤ 8 * (M - 1) → at lighterRow p ≡ z8 M p

-- and a third is that of the pairs
pub record Rows (M : ℕ) (pairRow fourRow lighterRow : List ℕ) : Type 0 where
  pub pairs : at pairRow ≡ g2 M
  pub eights : EightRows M fourRow lighterRow
