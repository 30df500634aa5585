-- The symbol rates (document 01, "Each symbol rate carries its own J and P, and its range of n"; V.34, Tables 1, 7 and 8).
--
--     s    symbols/s   J   P    n
--     0    2400        7   12   1 to 9
--     1    2743        8   12   2 to 11
--     2    2800        7   14   2 to 11
--     3    3000        7   15   2 to 12
--     4    3200        7   16   2 to 13
--     5    3429        8   15   2 to 14
use Rattle.std.specs.Prelude.{List, [], ◌∷◌, ℕ, zero, suc, Option, Some, None}
use Rattle.line.specs.declared.rate.SymbolRate.{SymbolRate}

abbrev pub rate : ℕ → ℕ → ℕ → ℕ → SymbolRate
rate J P least most = record { j = J; p = P; least = least; most = most }

abbrev pub rates : List SymbolRate
rates = rate 7 12 1 9 ∷ rate 8 12 2 11 ∷ rate 7 14 2 11 ∷ rate 7 15 2 12 ∷ rate 7 16 2 13 ∷ rate 8 15 2 14 ∷ []

-- row s of a table of rates
unfoldable pub row_of : List SymbolRate → ℕ → Option SymbolRate
row_of [] s = None
row_of (row ∷ rows) zero = Some row
row_of (row ∷ rows) (suc s) = row_of rows s

unfoldable pub symbol_rate : ℕ → Option SymbolRate
symbol_rate s = row_of rates s
