-- INFO1c once more, bit by bit as V.34's Table 15 prints it, with no picture and no table: what its fields may be, what bits 12 to 88 are,
-- and the whole sequence. proofs/Rows15 shows that it is the same.
--
--     bits   12 to 14    power                        bits   43 to 51    the block of 2800
--           15 to 17    extra                               52 to 60    the block of 3000
--            18 to 24    md                                  61 to 69    the block of 3200
--            25 to 33    the block of 2400                   70 to 78    the block of 3429
--            34 to 42    the block of 2743                   79 to 88    the count, bit 88 its sign
--
-- A block is the carrier, four bits of filter and four of rate. All numbers have their lowest weight first.
use Rattle.std.specs.Prelude.{List, [], ◌∷◌, ◌++◌, ℕ, ◌-◌, ◌≤◌, ℤ, pos, negsuc, ◌≤ℤ◌}
use Rattle.bits.specs.Digits.{digits}
use Rattle.info.specs.Frame.{sent}
use Rattle.info.specs.declared.info1c.Block.{Block}
use Rattle.info.specs.declared.info1c.Info1c.{Info1c}

-- what a block may be
pub record SayableBlock (b : Block) : Type 0 where
  pub carrier : b.carrier ≤ 1
  pub filter : b.filter ≤ 10
  pub rate : b.rate ≤ 14

-- what the fields may be, and the count: −512 to 511
pub record Sayable (f : Info1c) (count : ℤ) : Type 0 where
  pub power : f.power ≤ 7
  pub extra : f.extra ≤ 7
  pub md : f.md ≤ 127
  pub at2400 : SayableBlock f.at_2400
  pub at2743 : SayableBlock f.at_2743
  pub at2800 : SayableBlock f.at_2800
  pub at3000 : SayableBlock f.at_3000
  pub at3200 : SayableBlock f.at_3200
  pub at3429 : SayableBlock f.at_3429
  pub least : negsuc 511 ≤ℤ count
  pub most : count ≤ℤ pos 511

-- the nine bits of a block
abbrev pub said_block : Block → List ℕ
said_block b = b.carrier ∷ (digits 4 b.filter ++ digits 4 b.rate)

-- the ten bits of the count: nine of count, or of count + 512 where it is negative, and then its sign
abbrev pub said_count : ℤ → List ℕ
said_count (pos n) = digits 9 n ++ 0 ∷ []
said_count (negsuc n) = digits 9 (511 - n) ++ 1 ∷ []

-- bits 12 to 88
abbrev pub said : Info1c → ℤ → List ℕ
said f count =
    digits 3 f.power
    ++ (digits 3 f.extra
    ++ (digits 7 f.md
    ++ (said_block f.at_2400
    ++ (said_block f.at_2743
    ++ (said_block f.at_2800
    ++ (said_block f.at_3000 ++ (said_block f.at_3200 ++ (said_block f.at_3429 ++ said_count count))))))))

-- all 109
abbrev pub sequence15 : Info1c → ℤ → List ℕ
sequence15 f count = sent (said f count)
