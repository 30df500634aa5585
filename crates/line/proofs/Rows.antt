-- The table of symbol rates: s names a row exactly where it is at most 5, and what one computed test finds in each row holds of
-- every rate that s names. Assumes nothing.
use mathlib.Core.Bool.{Bool, true}
use mathlib.Core.List.{List, [], ◌∷◌}
use mathlib.Core.Path.{◌≡◌, refl, sym, ap, ◌∙◌}
use Prim.Native.Nat.{ℕ, zero, suc, ◌≤◌, ◌<◌}
use native.Mathlib.Nat.{le_of_suc-le-suc}
use native.Mathlib.Omega.{arith}
use lib.Dec.{leb}
use lib.ListN.{length}
use borrow.Author.Tests.{leb-true}
use Rattle.laws.proofs.Tables.{passes_below, at_each}
use Rattle.line.specs.declared.rate.SymbolRate.{SymbolRate}
use Rattle.std.specs.Prelude.{Option, Some, None}
use Rattle.std.proofs.lemmas.Bool.Decides.{nat_tests}
use Rattle.line.specs.Rates.{rates, row_of, symbol_rate}
use Rattle.line.specs.Requires.{InRange}

past-rows : (rows : List SymbolRate) (s : ℕ) → length rows ≤ s → row_of rows s ≡ None
unfolding row_of
past-rows [] s h = refl
past-rows (row ∷ rows) zero h = absurd (omega arith)
past-rows (row ∷ rows) (suc s) h = past-rows rows s (le_of_suc-le-suc h)

pub unknown-above : (s : ℕ) → 5 < s → symbol_rate s ≡ None
unfolding symbol_rate
unknown-above s h = past-rows rates s h

known-row : (rows : List SymbolRate) (s : ℕ) (rate : SymbolRate) → row_of rows s ≡ Some rate → s < length rows
unfolding row_of
known-row [] s rate e = cc
known-row (row ∷ rows) zero rate e = omega arith
known-row (row ∷ rows) (suc s) rate e = omega (arith, known-row rows s rate e)

pub known-below : (s : ℕ) (rate : SymbolRate) → symbol_rate s ≡ Some rate → s < 6
unfolding symbol_rate
known-below s rate e = known-row rates s rate e

unknown-row : (rows : List SymbolRate) (s : ℕ) → row_of rows s ≡ None → length rows ≤ s
unfolding row_of
unknown-row [] s e = omega arith
unknown-row (row ∷ rows) zero e = cc
unknown-row (row ∷ rows) (suc s) e = omega (arith, unknown-row rows s e)

pub above-unknown : (s : ℕ) → symbol_rate s ≡ None → 5 < s
unfolding symbol_rate
above-unknown s e = unknown-row rates s e

-- what a number of the table names, and what one past it: `search` takes it for the code's table and its tests
pub ruleset rows = (nat_tests, unknown-above, known-below, above-unknown)

-- a test of a rate, passed where there is none
abbrev pub on_known : (SymbolRate → Bool) → Option SymbolRate → Bool
on_known test (Some rate) = test rate
on_known test None = true

-- what is computed of each row holds of the rate that s names
pub each_row :
    (test : SymbolRate → Bool) → passes_below (λ s. on_known test (symbol_rate s)) 6 ≡ true
    → (s : ℕ) (rate : SymbolRate) → symbol_rate s ≡ Some rate → test rate ≡ true
each_row test passes s rate e =
    sym (ap (on_known test) e) ∙ at_each (λ s. on_known test (symbol_rate s)) 6 passes s (known-below s rate e)

-- a rate and n in its range have what the work-out relies on
pub in-range : (s : ℕ) (rate : SymbolRate) (n : ℕ) → symbol_rate s ≡ Some rate → rate.least ≤ n → n ≤ rate.most → InRange rate n
unfolding passes_below symbol_rate row_of
in-range s rate n e from to =
    record {
      least = omega (arith, leb-true 1 rate.least (each_row (λ r. leb 1 r.least) refl s rate e));
      most = omega (arith, leb-true rate.most 14 (each_row (λ r. leb r.most 14) refl s rate e));
      fewest = leb-true 12 rate.p (each_row (λ r. leb 12 r.p) refl s rate e);
      fullest = leb-true rate.p 16 (each_row (λ r. leb r.p 16) refl s rate e);
    }
