-- Where the bits of a mapping frame go (document 01, "Parsing"; clause 9.3). A frame has, in order, the bits of S, and then for each
-- of four 4D symbols I1, I2, I3, q bits for the first 2D symbol and q for the second. Where b is above 12 a high frame has K bits of
-- S and a low one K − 1, the top one then being 0. Where b is at most 12 there is no S and no q bit, and of f bits the first f − 8
-- symbols carry I3, which is 0 for the others.
--
--     b    K    q    frame   bits   of S   symbols with I3
--     79   27   5    high    79     27     4
--     79   27   5    low     78     26     4
--     12   0    0    high    12     0      4
--     12   0    0    low     11     0      3
--     8    0    0    high    8      0      0
use Rattle.std.specs.Prelude.{Bool, cond, ℕ, ◌+◌, ◌*◌, ◌-◌, ◌^◌, ◌≤◌, ◌<◌, leb}
use Rattle.line.specs.declared.settings.Settings.{Settings}
use Rattle.frame.specs.declared.shape.Shape.{Shape}
use Rattle.frame.specs.declared.symbol.Symbol.{Symbol}

-- the bits of a high or a low frame
abbrev pub length_of : ℕ → Bool → ℕ
length_of b high = cond high b (b - 1)

unfoldable pub shape_of : Settings → Bool → Shape
shape_of c high =
    let b = c.high in
    cond (leb b 12)
    (record { shell = 0; threes = length_of b high - 8; uncoded = 0 })
    (record { shell = cond high c.shell (c.shell - 1); threes = 4; uncoded = c.uncoded })

-- the bits of a 4D symbol
abbrev pub symbol_length : ℕ → Bool → ℕ
symbol_length q three = cond three 3 2 + 2 * q

-- the parts of a symbol are in their ranges; I3 is 0 where it is not carried
pub record SymbolFits (q : ℕ) (three : Bool) (s : Symbol) : Type 0 where
  pub i1 : s.i1 ≤ 1
  pub i2 : s.i2 ≤ 1
  pub i3 : s.i3 ≤ cond three 1 0
  pub first : s.first < 2 ^ q
  pub second : s.second < 2 ^ q

-- the bits of a frame
unfoldable pub frame_length : Shape → ℕ
frame_length shape = shape.shell + (8 + shape.threes + 8 * shape.uncoded)
