-- The test of bytes: it passes lists of bits and no others, and it goes byte by byte. Assumes nothing.
use mathlib.Core.Bool.{Bool, true, false, ◌&&◌}
use mathlib.Core.List.{List, [], ◌∷◌}
use mathlib.Core.Path.{◌≡◌, refl, ap}
use Prim.Native.Nat.{ℕ, ◌+◌, ◌≤◌, ◌<◌}
use native.Mathlib.Numerals.{add-one}
use native.Mathlib.Omega.{arith}
use lib.Dec.{leb}
use lib.ListN.{length, get_or, drop, drop_of_length-le}
use lib.Seq.{drop-cons}
use Rattle.bits.specs.Digits.{Bits, all_bits}

-- every byte is a bit
pub all-bits : (bytes : List ℕ) → all_bits bytes ≡ true → Bits bytes
unfolding all_bits
all-bits [] e = tt
all-bits (byte ∷ bytes) e = let rest = all-bits bytes in grind arith

pub bits-all : (bytes : List ℕ) → Bits bytes → all_bits bytes ≡ true
unfolding all_bits
bits-all [] h = refl
bits-all (byte ∷ bytes) h = let rest = bits-all bytes h.1 in grind arith

-- byte i is tested, and then those after it
module _ (bytes : List ℕ) (i : ℕ) where
  tested : i < length bytes → all_bits (drop i bytes) ≡ leb (get_or bytes i 0) 1 && all_bits (drop (i + 1) bytes)
  unfolding all_bits
  tested h = rw (add-one, drop-cons bytes i 0)

  pub no_byte : length bytes ≤ i → all_bits (drop i bytes) ≡ true
  unfolding all_bits
  no_byte h = ap all_bits (drop_of_length-le bytes h)

-- a turn of the test: a byte above 1 lowers the flag, and another leaves it
pub next-byte :
    (bytes : List ℕ) (i : ℕ) (good after : Bool)
    → i < length bytes
    → (1 < get_or bytes i 0 → after ≡ false)
    → (get_or bytes i 0 ≤ 1 → after ≡ good)
    → (after && all_bits (drop (i + 1) bytes)) ≡ (good && all_bits (drop i bytes))
next-byte bytes i good after here high low = let test = tested bytes i here in grind arith
