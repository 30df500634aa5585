-- Writing what is accepted: sixteen labels that no test refuses are read to as many bits as the frame has, and those bits are written
-- to the same labels and the same Z. For any M, any shape and Z up to 3. Assumes nothing.
use mathlib.Core.Bool.{true}
use mathlib.Core.List.{List, ◌++◌}
use mathlib.Core.Path.{◌≡◌, sym, ap, ap₂, ◌∙◌}
use Prim.Native.Nat.{ℕ, ◌+◌, ◌*◌, ◌^◌, ◌≤◌, ◌<◌}
use lib.ListN.{length, take, length-append}
use lib.Seq.{take_at, drop_at}
use borrow.Author.Tests.{ltb-true}
use Rattle.bits.specs.Digits.{value, digits, Bits}
use Rattle.laws.specs.Emit.{emit, iter}
use Rattle.bits.proofs.Digitals.{length_digits, bits-digits, bits-append, value-digits}
use Rattle.listing.specs.Number.{rings_of}
use Rattle.listing.specs.Sets.{as_list, of_list}
use Rattle.listing.proofs.Agree.{rings_of-number}
use Rattle.frame.specs.declared.shape.Shape.{Shape}
use Rattle.frame.specs.Shape.{frame_length}
use Rattle.frame.specs.Writing.{Writing, symbol_labels, after_symbol, frame_start, labels_written}
use Rattle.frame.specs.Writing.{turn_written, frame_rings, frame_labels, frame_turned}
use Rattle.frame.specs.Reading.{Reading, read_bits, after_read, rings_read, number_read, bits_read}
use Rattle.frame.specs.Reading.{frame_read, frame_read_turned, in_range, number_fits, steps_fit}
use Rattle.frame.proofs.InTurn.{reading, SymbolsRead, write_again, four_symbols, symbols_read}
use Rattle.frame.proofs.Sixteen.{eight-below}
use Rattle.frame.proofs.Written.{last_turn}

pub record Accepted (M : ℕ) (shape : Shape) (z : ℕ) (labels bits : List ℕ) : Type 0 where
  pub binary : Bits bits
  pub size : length bits ≡ frame_length shape
  pub back : frame_labels M shape z bits ≡ labels
  pub turn : frame_turned M shape z bits ≡ frame_read_turned labels

-- The labels of a frame.
module _ (M : ℕ) (shape : Shape) (z : ℕ) (labels : List ℕ) where
  abbrev q : ℕ
  q = shape.uncoded

  abbrev start : Reading
  start = reading labels shape.threes z

  -- the number of the rings, and the bits after those of S
  abbrev S : ℕ
  S = number_read M shape labels

  abbrev symbols_bits : List ℕ
  symbols_bits = emit (read_bits q) (after_read q) 4 start

  -- labels that no test refuses
  module _
      (threes : shape.threes ≤ 4) (small : z ≤ 3)
      (sixteen : length labels ≡ 16) (ranges : in_range M shape.uncoded 4 labels ≡ true)
      (fits : number_fits M shape labels ≡ true) (steps : steps_fit shape.threes z 4 labels ≡ true)
    where
      symbols : SymbolsRead q 4 start symbols_bits
      symbols = symbols_read M q 4 labels shape.threes z (record { size = sixteen; ranges = ranges; steps = steps; turn = small })

      S-below : S < 2 ^ shape.shell
      unfolding number_fits
      S-below = ltb-true S (2 ^ shape.shell) fits

      -- the number of the rings gives them back
      rings-back : as_list (rings_of M S) ≡ rings_read q 4 labels
      unfolding number_read of_list rings_read
      rings-back = ap as_list (rings_of-number M (of_list (rings_read q 4 labels)) (eight-below M q labels ranges))

      -- what is written starts where reading did
      start_again :
          let bits = frame_read M shape z labels in
          frame_start shape (frame_rings M shape bits) z bits ≡ write_again q 4 start symbols_bits
      unfolding frame_start frame_read bits_read
      start_again =
          λ i. record {
            bits = drop_at (digits shape.shell S) symbols_bits shape.shell (length_digits shape.shell S) i;
            rings = (ap (λ (n : ℕ). as_list (rings_of M n)) number-back ∙ rings-back) i;
            threes = shape.threes;
            z = z;
          }
        where
          number-back : value (take shape.shell (digits shape.shell S ++ symbols_bits)) ≡ S
          number-back =
              ap value (take_at (digits shape.shell S) symbols_bits shape.shell (length_digits shape.shell S))
              ∙ value-digits shape.shell S S-below

      pub accepted : Accepted M shape z labels (frame_read M shape z labels)
      unfolding frame_length labels_written turn_written frame_labels frame_turned frame_read bits_read
      accepted =
          record {
            binary = bits-append (digits shape.shell S) symbols_bits (bits-digits shape.shell S) symbols.binary;
            size = length-append (digits shape.shell S) symbols_bits ∙ ap₂ ◌+◌ (length_digits shape.shell S) symbols_size;
            back = ap (emit (symbol_labels q) (after_symbol q) 4) start_again ∙ symbols.back;
            turn =
                ap (λ (w : Writing). (iter (after_symbol q) 4 w).z) start_again
                ∙ (symbols.turn ∙ sym (last_turn q shape.threes z labels));
          }
        where
          symbols_size : length symbols_bits ≡ 8 + shape.threes + 8 * q
          symbols_size = symbols.size ∙ four_symbols q shape.threes threes
