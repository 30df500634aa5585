-- From labels back to bits, and when sixteen labels are accepted (document 01, "What comes back"):
--
--     10    a 2D label not below M·2^q, Z above 3, I1 above 1
--     11    the number of the eight rings is 2^k or more, where k is how many bits of S the frame has
--     12    the Z step gives I3 = 1 where the symbol carries none
--
-- A 2D label is a ring and q bits: ring = label / 2^q, and the bits are the rest. The Z step I2 + 2·I3 is Z less the Z before, modulo 4.
use Rattle.std.specs.Prelude.{Bool, true, cond, ◌&&◌, ◌||◌, List, [], ◌∷◌, ◌++◌, ℕ, zero, suc, ◌+◌, ◌*◌, ◌-◌, ◌/◌, ◌%◌, ◌^◌, leb, ltb, get_or, drop}
use Rattle.bits.specs.Digits.{digits}
use Rattle.laws.specs.Emit.{emit}
use Rattle.listing.specs.Number.{number}
use Rattle.listing.specs.Sets.{of_list}
use Rattle.frame.specs.declared.shape.Shape.{Shape}
use Rattle.frame.specs.declared.symbol.Symbol.{Symbol}

-- the symbol that four labels say, Z before them being z
unfoldable pub symbol_read : ℕ → ℕ → List ℕ → Symbol
symbol_read q z labels =
    let step = (get_or labels 2 0 + 4 - z) % 4 in
    record {
      i1 = get_or labels 3 0;
      i2 = step % 2;
      i3 = step / 2;
      first = get_or labels 0 0 % 2 ^ q;
      second = get_or labels 1 0 % 2 ^ q;
    }

-- its bits
unfoldable pub symbol_bits : ℕ → Bool → Symbol → List ℕ
symbol_bits q three symbol =
    symbol.i1 ∷ symbol.i2 ∷ (cond three (symbol.i3 ∷ []) [] ++ (digits q symbol.first ++ digits q symbol.second))

-- what is left to read of a frame: the labels, how many of the next symbols carry I3, and Z
pub record Reading : Type 0 where
  pub labels : List ℕ
  pub threes : ℕ
  pub z : ℕ

unfoldable pub read_bits : ℕ → Reading → List ℕ
read_bits q r = symbol_bits q (ltb 0 r.threes) (symbol_read q r.z r.labels)

unfoldable pub after_read : ℕ → Reading → Reading
after_read q r = record { labels = drop 4 r.labels; threes = r.threes - 1; z = get_or r.labels 2 0 }

-- the eight rings of sixteen labels: two for each symbol
unfoldable pub rings_read : ℕ → ℕ → List ℕ → List ℕ
rings_read q zero labels = []
rings_read q (suc k) labels = get_or labels 0 0 / 2 ^ q ∷ get_or labels 1 0 / 2 ^ q ∷ rings_read q k (drop 4 labels)

-- their number
unfoldable pub number_read : ℕ → Shape → List ℕ → ℕ
number_read M shape labels = number M (of_list (rings_read shape.uncoded 4 labels))

-- the bits of a frame whose rings have a known number
unfoldable pub bits_read : Shape → ℕ → ℕ → List ℕ → List ℕ
bits_read shape number z labels =
    digits shape.shell number
    ++ emit (read_bits shape.uncoded) (after_read shape.uncoded) 4 (record { labels = labels; threes = shape.threes; z = z })

-- the bits of a frame, and Z after it
unfoldable pub frame_read : ℕ → Shape → ℕ → List ℕ → List ℕ
frame_read M shape z labels = bits_read shape (number_read M shape labels) z labels

unfoldable pub frame_read_turned : List ℕ → ℕ
frame_read_turned labels = get_or labels 14 0

-- 10: the labels of k symbols are all in their ranges
unfoldable pub in_range : ℕ → ℕ → ℕ → List ℕ → Bool
in_range M q zero labels = true
in_range M q (suc k) labels =
    (ltb (get_or labels 0 0) (M * 2 ^ q) && (ltb (get_or labels 1 0) (M * 2 ^ q) && (leb (get_or labels 2 0) 3 && leb (get_or labels 3 0) 1)))
    && in_range M q k (drop 4 labels)

-- the same of one symbol, its labels standing from `at` on and `top` being M·2^q
abbrev pub in_range_at : ℕ → List ℕ → ℕ → Bool
in_range_at top labels at =
    ltb (get_or labels at 0) top
    && (ltb (get_or labels (at + 1) 0) top && (leb (get_or labels (at + 2) 0) 3 && leb (get_or labels (at + 3) 0) 1))

-- 11: the number can be written with the bits of S that the frame has
abbrev pub shell_holds : Shape → ℕ → Bool
shell_holds shape number = ltb number (2 ^ shape.shell)

unfoldable pub number_fits : ℕ → Shape → List ℕ → Bool
number_fits M shape labels = shell_holds shape (number_read M shape labels)

-- 12: no I3 of 1 where the symbol carries none
unfoldable pub steps_fit : ℕ → ℕ → ℕ → List ℕ → Bool
steps_fit threes z zero labels = true
steps_fit threes z (suc k) labels =
    (ltb 0 threes || ltb ((get_or labels 2 0 + 4 - z) % 4) 2) && steps_fit (threes - 1) (get_or labels 2 0) k (drop 4 labels)
