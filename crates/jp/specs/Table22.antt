-- Jp once more, bit by bit as V.92's Table 22 prints it, with no picture and no table: what its fields may be, and the whole sequence.
-- proofs/Rows22 shows that it is the same.
--
--     bits    0 to 16    frame sync: seventeen ones (the row prints sixteen)
--             17         start bit: 0
--             18 to 33   fraction, lowest weight first
--             34         start bit: 0
--             35 to 46   reserved
--             47         1: this is Jp
--             48         training
--             49         renegotiation
--             50         reserved
--             51         start bit: 0
--             52 to 67   the check of bits 18 to 33 and 35 to 50
--             68 to 71   fill: 0000
use Rattle.std.specs.Prelude.{List, [], ◌∷◌, ◌++◌, ℕ, ◌≤◌, get_or, take, drop, replicate}
use Rattle.bits.specs.Digits.{digits}
use Rattle.sequences.specs.Register.{crc}
use Rattle.jp.specs.declared.sequence.Jp.{Jp}

-- what the fields may be
pub record Sayable (f : Jp) : Type 0 where
  pub fraction : f.fraction ≤ 65535
  pub training : f.training ≤ 1
  pub renegotiation : f.renegotiation ≤ 1

-- a sequence has the fields, and something in its reserved places: in bits 35 to 46, as a number, and in bit 50
pub record Content : Type 0 where
  pub fields : Jp
  pub reserved : ℕ
  pub last_reserved : ℕ

pub record Receivable (c : Content) : Type 0 where
  pub fields : Sayable c.fields
  pub reserved : c.reserved ≤ 4095
  pub last_reserved : c.last_reserved ≤ 1

-- of what is sent they hold 0
abbrev pub sent : Jp → Content
sent f = record { fields = f; reserved = 0; last_reserved = 0 }

-- bits 18 to 33, and bits 35 to 50
abbrev pub first16 : Content → List ℕ
first16 c = digits 16 c.fields.fraction

abbrev pub second16 : Content → List ℕ
second16 c = digits 12 c.reserved ++ 1 ∷ c.fields.training ∷ c.fields.renegotiation ∷ c.last_reserved ∷ []

-- all 72
abbrev pub sequence22 : Content → List ℕ
sequence22 c =
    replicate 17 1
    ++ (0 ∷ first16 c)
    ++ (0 ∷ second16 c)
    ++ (0 ∷ crc (first16 c ++ second16 c))
    ++ replicate 4 0

-- the thirteen reserved bits of a sequence
abbrev pub reserved_in : List ℕ → List ℕ
reserved_in bits = take 12 (drop 35 bits) ++ get_or bits 50 0 ∷ []
