-- From bits to labels (document 01, "Parsing", "Differential coding" and "Labels"; clauses 9.3, 9.5 and 9.6.1). For each 4D symbol four
-- numbers are written: 2^q·ring + q bits for the first 2D symbol, the same for the second, Z, I1. Z is what it was, plus I2 + 2·I3,
-- modulo 4, and goes on from symbol to symbol and from frame to frame. For q = 1, rings 2 and 0, Z before 3 and the bits 1 0 1 1 0:
--
--     I1 = 1, I2 = 0, I3 = 1, then 1 and 0     2·2 + 1 = 5, 2·0 + 0 = 0, Z = (3 + 0 + 2) mod 4 = 1, I1 = 1
use Rattle.std.specs.Prelude.{Bool, cond, List, [], ◌∷◌, ℕ, ◌+◌, ◌*◌, ◌-◌, ◌%◌, ◌^◌, ltb, get_or, take, drop}
use Rattle.bits.specs.Digits.{value}
use Rattle.laws.specs.Emit.{emit, iter}
use Rattle.listing.specs.Number.{rings_of}
use Rattle.listing.specs.Sets.{as_list}
use Rattle.frame.specs.declared.shape.Shape.{Shape}
use Rattle.frame.specs.declared.symbol.Symbol.{Symbol}
use Rattle.frame.specs.Shape.{symbol_length}

-- a 4D symbol out of the bits at the head of a list; `three` says whether it carries I3
unfoldable pub symbol_of : ℕ → Bool → List ℕ → Symbol
symbol_of q three bits =
    let rest = drop (cond three 3 2) bits in
    record {
      i1 = get_or bits 0 0;
      i2 = get_or bits 1 0;
      i3 = cond three (get_or bits 2 0) 0;
      first = value (take q rest);
      second = value (take q (drop q rest));
    }

-- Z after a symbol
unfoldable pub turned : ℕ → Symbol → ℕ
turned z symbol = (z + symbol.i2 + 2 * symbol.i3) % 4

-- what is left to write of a frame: the bits, the rings, how many of the next symbols carry I3, and Z
pub record Writing : Type 0 where
  pub bits : List ℕ
  pub rings : List ℕ
  pub threes : ℕ
  pub z : ℕ

-- the four numbers that are written for a symbol, in their order: both 2D labels, Z, I1
unfoldable pub four_numbers : ℕ → ℕ → ℕ → ℕ → List ℕ
four_numbers first second z i1 = first ∷ second ∷ z ∷ i1 ∷ []

-- the next symbol, its four labels, and what is left then
abbrev pub next_symbol : ℕ → Writing → Symbol
next_symbol q w = symbol_of q (ltb 0 w.threes) w.bits

unfoldable pub symbol_labels : ℕ → Writing → List ℕ
symbol_labels q w =
    let symbol = next_symbol q w in
    four_numbers
    (2 ^ q * get_or w.rings 0 0 + symbol.first)
    (2 ^ q * get_or w.rings 1 0 + symbol.second)
    (turned w.z symbol)
    symbol.i1

unfoldable pub after_symbol : ℕ → Writing → Writing
after_symbol q w =
    record {
      bits = drop (symbol_length q (ltb 0 w.threes)) w.bits;
      rings = drop 2 w.rings;
      threes = w.threes - 1;
      z = turned w.z (next_symbol q w);
    }

-- a frame at its start, its rings being known: the bits of S are passed over
unfoldable pub frame_start : Shape → List ℕ → ℕ → List ℕ → Writing
frame_start shape rings z bits = record { bits = drop shape.shell bits; rings = rings; threes = shape.threes; z = z }

-- the sixteen labels of a frame whose rings are known, and Z after it
unfoldable pub labels_written : Shape → List ℕ → ℕ → List ℕ → List ℕ
labels_written shape rings z bits =
    emit (symbol_labels shape.uncoded) (after_symbol shape.uncoded) 4 (frame_start shape rings z bits)

unfoldable pub turn_written : Shape → List ℕ → ℕ → List ℕ → ℕ
turn_written shape rings z bits = (iter (after_symbol shape.uncoded) 4 (frame_start shape rings z bits)).z

-- the rings of a frame: those of S, the number that its first bits are (clause 9.4)
abbrev pub frame_rings : ℕ → Shape → List ℕ → List ℕ
frame_rings M shape bits = as_list (rings_of M (value (take shape.shell bits)))

-- the sixteen labels of a frame, and Z after it
unfoldable pub frame_labels : ℕ → Shape → ℕ → List ℕ → List ℕ
frame_labels M shape z bits = labels_written shape (frame_rings M shape bits) z bits

unfoldable pub frame_turned : ℕ → Shape → ℕ → List ℕ → ℕ
frame_turned M shape z bits = turn_written shape (frame_rings M shape bits) z bits
