-- What the loop of `read_frame` holds: the bits of S and of j symbols stand in the buffer, and what is left to read is what the specs say.
-- Assumes nothing.
use mathlib.Core.List.{List, ◌++◌}
use mathlib.Core.Path.{◌≡◌, sym, ap, ◌∙◌}
use Prim.Native.Nat.{ℕ, ◌+◌, ◌*◌, ◌-◌, ◌≤◌, ◌<◌}
use native.Mathlib.Nat.{sub-zero}
use native.Mathlib.Omega.{arith}
use lib.Dec.{ltb}
use lib.ListN.{length, get_or, take, drop, length-append}
use lib.Seq.{get_or-drop, drop-drop, take_at}
use Rattle.laws.specs.Emit.{emit}
use Rattle.laws.specs.Put.{put, Put}
use Rattle.laws.proofs.Emits.{Filling, filling_front, filling_more, filling_whole, filling_last, part_room}
use Rattle.bits.specs.Digits.{digits}
use Rattle.bits.proofs.Digitals.{length_digits}
use Rattle.frame.specs.Reading.{Reading, symbol_read, symbol_bits, read_bits, after_read, frame_read_turned}
use Rattle.frame.specs.Shape.{symbol_length}
use Rattle.frame.specs.declared.symbol.Symbol.{Symbol}
use Rattle.frame.proofs.InTurn.{reading, still, four_symbols, read_length}
use Rattle.frame.proofs.Symbols.{length-symbol_bits}
use Rattle.frame.proofs.Written.{last_turn}

module _ (q threes shell number : ℕ) (labels : List ℕ) where
  -- what is left to read before the j-th symbol
  abbrev reading_at : ℕ → ℕ → Reading
  reading_at j z = reading (drop (4 * j) labels) (threes - j) z

  reading-next : (j z : ℕ) → after_read q (reading_at j z) ≡ reading_at (j + 1) (get_or labels (4 * j + 2) 0)
  unfolding after_read
  reading-next j z =
      let four : 4 * j + 4 ≡ 4 * (j + 1) = omega arith in
      let e : threes - j - 1 ≡ threes - (j + 1) = omega arith in
      simp (get_or-drop, drop-drop, four, e)

  -- the bits of S, and those of the four symbols
  pub whole_length :
      (z : ℕ) → threes ≤ 4
      → length (digits shell number ++ emit (read_bits q) (after_read q) 4 (reading labels threes z)) ≡ shell + (8 + threes + 8 * q)
  whole_length z few =
      length-append (digits shell number) _
      ∙ omega (arith, length_digits shell number, read_length q 4 (reading labels threes z), four_symbols q threes few)

  pub record ReadUpTo (z₀ : ℕ) (bits : List ℕ) (at z j : ℕ) : Type 0 where
    pub filling : Filling (read_bits q) (after_read q) (digits shell number) 4 (reading labels threes z₀) j (reading_at j z) bits at
    pub turn : z ≤ 3

  -- the bits of S are put, and all symbols are left
  pub read_none :
      (z : ℕ) (bits after : List ℕ)
      → z ≤ 3
      → threes ≤ 4
      → length after ≡ shell + (8 + threes + 8 * q)
      → after ≡ put bits 0 (digits shell number)
      → ReadUpTo z after shell z 0
  read_none z bits after turn few size is-put =
      record {
        filling =
            rw sub-zero
            (filling_front _ _ (digits shell number) 4 (reading labels threes z) after shell (omega arith)
            (size ∙ sym (whole_length z few)) front);
        turn = turn;
      }
    where
      front : take shell after ≡ digits shell number
      front = rw is-put (take_at (digits shell number) _ shell (length_digits shell number))

module _ {q threes shell number : ℕ} {labels : List ℕ} {z₀ at z j : ℕ} {bits : List ℕ}
    (h : ReadUpTo q threes shell number labels z₀ bits at z j) where
  -- the next symbol, as the code reads it
  module _ (more : j < 4) (symbol : Symbol) (is-next : symbol ≡ symbol_read q z (drop (4 * j) labels)) where
    is_part : symbol_bits q (ltb j threes) symbol ≡ read_bits q (reading_at q threes shell number labels j z)
    unfolding read_bits
    is_part = rw (is-next, still)

    -- its bits have room
    pub symbol_room : at + symbol_length q (ltb j threes) ≤ length bits
    symbol_room = omega (arith, part_room h.filling more, ap length is_part, length-symbol_bits q (ltb j threes) symbol)

    -- and where they are put, a symbol more is read
    pub read_more :
        (after : List ℕ) (at' z' : ℕ)
        → Put (symbol_bits q (ltb j threes) symbol) bits after at at'
        → z' ≡ get_or labels (4 * j + 2) 0
        → z' ≤ 3
        → ReadUpTo q threes shell number labels z₀ after at' z' (j + 1)
    read_more after at' z' put is-turn turn =
        record {
          filling =
              rw (is-turn, ← reading-next q threes shell number labels j z)
              (filling_more h.filling more _ after at' is_part put.place put.buffer);
          turn = turn;
        }

  -- after four symbols the frame is read, and Z is the last one among the labels
  pub read_all :
      4 ≤ j
      → (bits ≡ digits shell number ++ emit (read_bits q) (after_read q) 4 (reading labels threes z₀)) × (z ≡ frame_read_turned labels)
  read_all all =
      (filling_whole h.filling all, ap (λ (r : Reading). r.z) (filling_last h.filling all) ∙ sym (last_turn q threes z₀ labels))
