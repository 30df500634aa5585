-- At most one outcome fits the contract of `answer`: the line, what the buffer holds behind it, and the count. Assumes nothing.
use mathlib.Core.List.{List}
use mathlib.Core.Path.{◌≡◌, sym, ◌∙◌}
use Prim.Native.Nat.{ℕ}
use Rattle.settings.specs.Lines.{Answers}

pub one_outcome :
    (input before after after' : List ℕ) (count count' : ℕ)
    → Answers input before after count → Answers input before after' count' → (after ≡ after') × (count ≡ count')
one_outcome input before after after' count count' a b = (a.buffer ∙ sym b.buffer, a.counted ∙ sym b.counted)
