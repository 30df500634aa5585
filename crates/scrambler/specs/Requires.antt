-- What the workers of this crate ask of their callers. No promise rests on this page: a public entry asks nothing.
use Rattle.std.specs.Prelude.{List, ℕ, ◌^◌, ◌≤◌, ◌<◌, length}
use Rattle.bits.specs.Digits.{Bits}

-- of a part that is scrambled or descrambled: the register is one, the bits are bits, and there is room
pub record Part (register : ℕ) (bits out : List ℕ) : Type 0 where
  pub small : register < 2 ^ 23
  pub binary : Bits bits
  pub room : length bits ≤ length out
