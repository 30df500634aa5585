-- Jp (V.92, Table 22): frame sync, three times a start bit and sixteen bits, and fill. The first sixteen bits are the fraction, the next hold
-- the sizes among what is reserved, and the last are the check.
--
--     sync                   fraction               reserved     47 48 49 50      check                fill
--     11111111111111111    0 1010001100101101     0 000000000000 1  1  0  0     0 1111000001110001     0000
--                            46277                                  8  4 points
--
-- `up_to first width most` is a field of so many bits from the first one on, lowest weight first, that may be 0 to the most. Bit 47 may be
-- nothing but 1: with 0 the sequence is Jd, which says something else.
use Rattle.std.specs.Prelude.{List, [], ◌∷◌, ◌++◌, ℕ, get_or, replicate, Float, Result, Ok, Err}
use Rattle.refusals.specs.Numbers.{number}
use Rattle.refusals.specs.declared.Refusal.{Refusal}
use Rattle.sequences.specs.Picture.{fixed, places}
use Rattle.sequences.specs.Sequence.{Sequence, fields_refusal, fields_read}
use Rattle.sequences.specs.Table.{up_to}
use Rattle.jp.specs.Part.{part_of}
use Rattle.jp.specs.declared.sequence.Jp.{Jp}
use Rattle.jp.specs.declared.sequence.JpRead.{JpRead as Heard}

-- a start bit, and sixteen bits behind it
unfoldable pub start_and_sixteen : List ℕ
start_and_sixteen = fixed (0 ∷ []) ++ places 16

unfoldable pub jp : Sequence
jp =
    record {
      picture = fixed (replicate 17 1) ++ (start_and_sixteen ++ (start_and_sixteen ++ (start_and_sixteen ++ fixed (replicate 4 0))));
      table =
          up_to 18 16 65535  -- fraction of a symbol, in 65,536ths
          ∷ up_to 35 12 4095  -- reserved
          ∷ record { first = 47; width = 1; least = 1; most = 1 }  -- 1: this is Jp
          ∷ up_to 48 1 1  -- constellation size in training: 0 four points, 1 eight
          ∷ up_to 49 1 1  -- and in rate renegotiations
          ∷ up_to 50 1 1  -- reserved
          ∷ [];
    }

-- The fields by their names, in the order of the table,
-- with what stands in the reserved places: in bits 35 to 46, and in bit 50.
abbrev pub numbers_of : Jp → ℕ → ℕ → List ℕ
numbers_of f reserved last_reserved = f.fraction ∷ reserved ∷ 1 ∷ f.training ∷ f.renegotiation ∷ last_reserved ∷ []

-- what is written has 0 there
abbrev pub sent_numbers : Jp → List ℕ
sent_numbers f = numbers_of f 0 0

-- and what is read is not looked at there
abbrev pub fields_of : List ℕ → Jp
fields_of numbers = record { fraction = get_or numbers 0 0; training = get_or numbers 3 0; renegotiation = get_or numbers 4 0 }

-- what the reader says: a refusal number, the fields, and the float of their fraction
pub record JpRead : Type 0 where
  pub refusal : ℕ
  pub fields : Jp
  pub part : Float

-- The reader answers its refusal number, and the fields with the float of their fraction. The numbers of the fields are zeros after a refusal.
abbrev pub says : ℕ → Jp → JpRead
says refusal f = record { refusal = refusal; fields = f; part = part_of f.fraction }

abbrev pub answer_of : ℕ → List ℕ → JpRead
answer_of refusal numbers = says refusal (fields_of numbers)

abbrev pub answer : List ℕ → JpRead
answer bits = answer_of (fields_refusal jp bits) (fields_read jp bits)

-- what is told of the reader's outcome
abbrev pub told : Result Heard Refusal → JpRead
told (Ok heard) = record { refusal = 0; fields = heard.fields; part = heard.part }
told (Err refusal) = answer_of (number refusal) (replicate 6 0)
