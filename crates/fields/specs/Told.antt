-- What is told of the reader's outcome: the numbers of the fields, which are zeros after a refusal.
use Rattle.std.specs.Prelude.{List, ℕ, Result, Ok, Err, replicate}
use Rattle.refusals.specs.declared.Refusal.{Refusal}

-- of n fields
abbrev pub numbers_told : ℕ → Result (List ℕ) Refusal → List ℕ
numbers_told n (Ok numbers) = numbers
numbers_told n (Err refusal) = replicate n 0
