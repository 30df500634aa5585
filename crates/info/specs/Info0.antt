-- INFO0 (V.34, Table 14): the frame around seventeen bits, and what these say. `up_to first width most` is a field of so many bits from the
-- first one on, lowest weight first, that may be 0 to the most.
use Rattle.std.specs.Prelude.{List, [], ◌∷◌, ℕ, Result, Ok, Err, replicate}
use Rattle.refusals.specs.declared.Refusal.{Refusal}
use Rattle.sequences.specs.Sequence.{Sequence}
use Rattle.sequences.specs.Table.{up_to}
use Rattle.info.specs.Frame.{framed}
use Rattle.info.specs.declared.info0.Info0.{Info0}

unfoldable pub info0 : Sequence
info0 =
    record {
      picture = framed 17;
      table =
          up_to 12 1 1  -- symbol rate 2743 supported
          ∷ up_to 13 1 1  -- 2800 supported
          ∷ up_to 14 1 1  -- 3429 supported
          ∷ up_to 15 1 1  -- can send at the low carrier with 3000
          ∷ up_to 16 1 1  -- at the high carrier with 3000
          ∷ up_to 17 1 1  -- at the low carrier with 3200
          ∷ up_to 18 1 1  -- at the high carrier with 3200
          ∷ up_to 19 1 1  -- 0: sending with 3429 is disabled
          ∷ up_to 20 1 1  -- can reduce its power below the nominal one
          ∷ up_to 21 3 5  -- largest difference of the symbol rates of both directions, in steps
          ∷ up_to 24 1 1  -- a CME modem
          ∷ up_to 25 1 1  -- the mark: takes constellations of up to 1664 points
          ∷ up_to 26 2 2  -- transmit clock: 0 internal, 1 synchronised to receive, 2 external; 3 is reserved
          ∷ up_to 28 1 1  -- acknowledges an INFO0, in error recovery
          ∷ [];
    }

-- the fields by their names, in the order of the table
abbrev pub numbers_of : Info0 → List ℕ
numbers_of f =
    f.support_2743
    ∷ f.support_2800
    ∷ f.support_3429
    ∷ f.low_3000
    ∷ f.high_3000
    ∷ f.low_3200
    ∷ f.high_3200
    ∷ f.allowed_3429
    ∷ f.reduction
    ∷ f.difference
    ∷ f.cme
    ∷ f.mark
    ∷ f.clock
    ∷ f.acknowledged
    ∷ []

-- what is told of the reader's outcome: zeros after a refusal
abbrev pub numbers_told : Result Info0 Refusal → List ℕ
numbers_told (Ok f) = numbers_of f
numbers_told (Err refusal) = replicate 14 0
