-- The scrambler and its inverse over slices: as many bits as are given, at the start of a slice that is at least as long.
use Rattle.std.specs.Prelude.{Bool, true, false, List, ◌++◌, ◌≡◌, ℕ, length, drop}
use Rattle.scrambler.specs.Scrambler.{scramble, descramble, push_all}

-- what the slice then holds, and the register after
pub record Scrambled (role register : ℕ) (bits out : List ℕ) (after : ℕ) (held-now : List ℕ) : Type 0 where
  pub slice : held-now ≡ scramble role register bits ++ drop (length bits) out
  pub held : after ≡ push_all register (scramble role register bits)

pub record Descrambled (role register : ℕ) (outs bits : List ℕ) (after : ℕ) (held-now : List ℕ) : Type 0 where
  pub slice : held-now ≡ descramble role register outs ++ drop (length outs) bits
  pub held : after ≡ push_all register outs

-- either one
abbrev pub Passed : Bool → ℕ → ℕ → List ℕ → List ℕ → ℕ → List ℕ → Type 0
Passed false = Scrambled
Passed true = Descrambled
