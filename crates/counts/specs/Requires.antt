-- What the workers of this crate ask of their callers. No promise rests on this page: a public entry asks nothing.
use Rattle.std.specs.Prelude.{List, ℕ, suc, ◌^◌, ◌≤◌, ◌<◌, length}
use Rattle.listing.specs.Counts.{lighter}
use Rattle.counts.specs.Rows.{at}

-- what has to hold where the row's products g(p)·g(t − p) are summed over p < b
pub record Summable (row : List ℕ) (t b : ℕ) : Type 0 where
  pub inside : t < length row
  pub up_to : b ≤ suc t
  pub fits : lighter (at row) t b < 2 ^ 64

-- what has to hold where r is located among those sums
pub record Locatable (row : List ℕ) (t r : ℕ) : Type 0 where
  pub inside : t < length row
  pub below : r < lighter (at row) t (suc t)
  pub fits : lighter (at row) t (suc t) < 2 ^ 64

-- what has to hold where s is located in a row of running sums, up to the place `top`
pub record Ascending (row : List ℕ) (top s : ℕ) : Type 0 where
  pub inside : top < length row
  pub start : at row 0 ≤ s
  pub rises : (p q : ℕ) → p ≤ q → q ≤ top → at row p ≤ at row q
