-- Reading what was written: the labels of a frame's bits are sixteen, they are accepted, and reading them gives those bits and the same
-- Z. For any M, any shape whose S has room among the M^8 sets, and Z up to 3. Assumes nothing.
use mathlib.Core.Bool.{true}
use mathlib.Core.List.{List, ◌++◌}
use mathlib.Core.Path.{◌≡◌, refl, sym, ap, ap₂, ◌∙◌}
use Prim.Native.Nat.{ℕ, ◌^◌, ◌≤◌, ◌<◌}
use native.Mathlib.Nat.{lt_of_lt_of_le}
use native.Mathlib.Omega.{arith}
use lib.ListN.{length, take, length-drop, take-append-drop}
use lib.Seq.{get_or-drop}
use borrow.Author.Tests.{lt-ltb}
use Rattle.bits.specs.Digits.{value, digits, Bits}
use Rattle.laws.specs.Emit.{iter}
use Rattle.bits.proofs.Digitals.{bits-drop, value-take-below, digits_value-take}
use Rattle.listing.specs.Number.{number, rings_of}
use Rattle.listing.specs.Sets.{Eight, Below8, as_list, of_list}
use Rattle.listing.proofs.Agree.{rings-below, number_of-rings}
use Rattle.frame.specs.declared.shape.Shape.{Shape}
use Rattle.frame.specs.Shape.{frame_length}
use Rattle.frame.specs.Writing.{Writing, frame_start, labels_written, turn_written, frame_rings, frame_labels, frame_turned}
use Rattle.frame.specs.Reading.{after_read, number_read, bits_read, frame_read, frame_read_turned, in_range, number_fits, steps_fit}
use Rattle.frame.proofs.InTurn.{RingsBelow, reading, ToWrite, SymbolsWritten, four_symbols, symbols_written}

-- the eight rings of a set, one after the other
pub rings-listed : (M : ℕ) (x : Eight) → Below8 M x → RingsBelow M (as_list x)
rings-listed M x b = (b.0.0.0, (b.0.0.1, (b.0.1.0, (b.0.1.1, (b.1.0.0, (b.1.0.1, (b.1.1.0, (b.1.1.1, tt))))))))

-- Z after four symbols is the fifteenth label
pub last_turn : (q threes z : ℕ) (labels : List ℕ) → frame_read_turned labels ≡ (iter (after_read q) 4 (reading labels threes z)).z
unfolding iter after_read frame_read_turned
last_turn q threes z labels = sym (simp get_or-drop)

pub record Written (M : ℕ) (shape : Shape) (z : ℕ) (bits labels : List ℕ) : Type 0 where
  pub sixteen : length labels ≡ 16
  pub ranges : in_range M shape.uncoded 4 labels ≡ true
  pub number_fits_lem : number_fits M shape labels ≡ true
  pub steps : steps_fit shape.threes z 4 labels ≡ true
  pub back : frame_read M shape z labels ≡ bits
  pub turn : frame_read_turned labels ≡ frame_turned M shape z bits
  pub turn-most : frame_turned M shape z bits ≤ 3

-- The bits of a frame.
module _ (M : ℕ) (shape : Shape) (z : ℕ) (bits : List ℕ) where
  abbrev q : ℕ
  q = shape.uncoded

  abbrev S : ℕ
  S = value (take shape.shell bits)

  abbrev start : Writing
  start = frame_start shape (frame_rings M shape bits) z bits

  abbrev labels : List ℕ
  labels = frame_labels M shape z bits

  module _
      (threes : shape.threes ≤ 4) (small : z ≤ 3) (room : 2 ^ shape.shell ≤ M ^ 8)
      (binary : Bits bits) (size : length bits ≡ frame_length shape)
    where
      S-below : S < 2 ^ shape.shell
      S-below = value-take-below shape.shell bits binary

      S-room : S < M ^ 8
      S-room = lt_of_lt_of_le S-below room

      -- four symbols are left after S
      left : ToWrite M q 4 start
      unfolding frame_start frame_length
      left =
          record {
            binary = bits-drop shape.shell bits binary;
            size = length-drop shape.shell bits ∙ omega (arith, size, four_symbols q shape.threes threes);
            rings = rings-listed M (rings_of M S) (rings-below M S S-room);
            pairs = refl;
            turn = small;
          }

      symbols : SymbolsWritten M q 4 start labels
      unfolding labels_written frame_labels
      symbols = symbols_written M q 4 start left

      -- the rings that are read are those of S, so their number is S
      number_is : number_read M shape labels ≡ S
      unfolding number_read frame_start of_list
      number_is =
          ap (λ (l : List ℕ). number M (of_list l)) symbols.rings
          ∙ number_of-rings M S S-room

      -- its bits are those that S was
      shell_back : digits shape.shell (number_read M shape labels) ≡ take shape.shell bits
      unfolding frame_length
      shell_back = rw number_is (digits_value-take shape.shell bits (omega (arith, size)) binary)

      pub written : Written M shape z bits (frame_labels M shape z bits)
      unfolding number_fits frame_read bits_read turn_written frame_turned frame_start
      written =
          record {
            sixteen = symbols.size;
            ranges = symbols.ranges;
            number_fits_lem = rw number_is (lt-ltb S (2 ^ shape.shell) S-below);
            steps = symbols.steps;
            back = ap₂ ◌++◌ shell_back symbols.back ∙ take-append-drop shape.shell bits;
            turn = last_turn q shape.threes z labels ∙ symbols.turn;
            turn-most = symbols.most;
          }
