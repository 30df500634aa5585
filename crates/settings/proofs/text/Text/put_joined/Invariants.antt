-- The numbers passed are put.
use Rattle.std.proofs.Common.{◌≡◌, ◌++◌, take}
use Rattle.settings.specs.Lines.{spaced}
use Rattle.settings.proofs.text.Text.put_joined.Given as goal

abbrev pub invariant-loop-number : goal.invariant-loop-number
invariant-loop-number l = l.self ≡ l.initial.self ++ spaced (take l.number-index l.rest)
