-- INFO1c (V.34, Table 15): the frame around 77 bits, and what these say. `up_to first width most` is a field of so many bits from the first
-- one on, lowest weight first, that may be 0 to the most. The last field is the count of the frequency offset, as the number of its ten
-- bits.
use Rattle.std.specs.Prelude.{cond, List, [], ◌∷◌, ◌++◌, ℕ, ◌+◌, eqb, ℤ, pos, get_or, replicate, Float, Option, None, Result, Ok, Err}
use Rattle.refusals.specs.Numbers.{number}
use Rattle.refusals.specs.declared.Refusal.{Refusal}
use Rattle.sequences.specs.Sequence.{Sequence, fields_refusal, fields_read}
use Rattle.sequences.specs.declared.Field.{Field}
use Rattle.sequences.specs.Table.{up_to}
use Rattle.offset.specs.Hertz.{reading_of}
use Rattle.offset.specs.Signed.{signed, unsigned}
use Rattle.info.specs.Frame.{framed}
use Rattle.info.specs.declared.info1c.Block.{Block}
use Rattle.info.specs.declared.info1c.Info1c.{Info1c}
use Rattle.info.specs.declared.info1c.Report.{Report as Heard}

-- the block of a symbol rate, nine bits
unfoldable pub block : ℕ → List Field
block first =
    up_to first 1 1  -- carrier: 1 high, 0 low
    ∷ up_to (first + 1) 4 10  -- pre-emphasis filter
    ∷ up_to (first + 5) 4 14  -- highest data rate in steps of 2,400 bit/s; 0: this symbol rate can't be used
    ∷ []

unfoldable pub info1c : Sequence
info1c =
    record {
      picture = framed 77;
      table =
          up_to 12 3 7  -- least power reduction of the answer modem, in dB
          ∷ up_to 15 3 7  -- further reduction that would be accepted, in dB
          ∷ up_to 18 7 127  -- length of the call modem's signal MD, in units of 35 ms
          ∷ (block 25  -- symbol rate 2400
          ++ (block 34  -- 2743
          ++ (block 43  -- 2800
          ++ (block 52  -- 3000
          ++ (block 61  -- 3200
          ++ (block 70  -- 3429
          ++ up_to 79 10 1023  -- frequency offset in steps of 0.02 Hz, its ten bits
          ∷ []))))));
    }

-- the fields by their names, in the order of the table, and the number of the count
abbrev pub block_numbers : Block → List ℕ
block_numbers b = b.carrier ∷ b.filter ∷ b.rate ∷ []

abbrev pub numbers_of : Info1c → ℕ → List ℕ
numbers_of f count =
    f.power
    ∷ f.extra
    ∷ f.md
    ∷ (block_numbers f.at_2400
    ++ (block_numbers f.at_2743
    ++ (block_numbers f.at_2800
    ++ (block_numbers f.at_3000
    ++ (block_numbers f.at_3200
    ++ (block_numbers f.at_3429
    ++ count
    ∷ []))))))

-- and back
abbrev pub block_of : List ℕ → ℕ → Block
block_of numbers place =
    record { carrier = get_or numbers place 0; filter = get_or numbers (place + 1) 0; rate = get_or numbers (place + 2) 0 }

abbrev pub fields_of : List ℕ → Info1c
fields_of numbers =
    record {
      power = get_or numbers 0 0;
      extra = get_or numbers 1 0;
      md = get_or numbers 2 0;
      at_2400 = block_of numbers 3;
      at_2743 = block_of numbers 6;
      at_2800 = block_of numbers 9;
      at_3000 = block_of numbers 12;
      at_3200 = block_of numbers 15;
      at_3429 = block_of numbers 18;
    }

abbrev pub count_of : List ℕ → ℤ
count_of numbers = signed 512 (get_or numbers 21 0)

-- the number of a count: that of its ten bits. It goes by the count alone, so nothing is rounded on the way
abbrev pub count_bits : ℤ → ℕ
count_bits count = unsigned 512 count

-- What the reader says: a refusal number, the fields, the count, and the reading, if there is one.
pub record Report : Type 0 where
  pub refusal : ℕ
  pub fields : Info1c
  pub count : ℤ
  pub reading : Option Float

-- The report of the reader, from its refusal number and the numbers of the fields, which are zeros after a refusal. Then there is no
-- reading either: a blank is not 0 Hz.
abbrev pub report_of : ℕ → List ℕ → Report
report_of refusal numbers =
    record {
      refusal = refusal;
      fields = fields_of numbers;
      count = count_of numbers;
      reading = cond (eqb refusal 0) (reading_of (count_of numbers)) None;
    }

abbrev pub report : List ℕ → Report
report bits = report_of (fields_refusal info1c bits) (fields_read info1c bits)

-- what is told of the reader's outcome
abbrev pub told : Result Heard Refusal → Report
told (Ok r) = record { refusal = 0; fields = r.fields; count = r.count; reading = r.reading }
told (Err r) = record { refusal = number r; fields = fields_of (replicate 22 0); count = pos 0; reading = None }
