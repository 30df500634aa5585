-- What the loop of `write_frame` holds: the labels of j symbols stand in the output, and the bits, the rings, the symbols with I3 and Z
-- that are left are those that the specs say. Assumes nothing.
use mathlib.Core.List.{List, []}
use mathlib.Core.Path.{◌≡◌, refl, sym, ap, ◌∙◌}
use Prim.Native.Nat.{ℕ, ◌+◌, ◌*◌, ◌-◌, ◌^◌, ◌≤◌, ◌<◌}
use native.Mathlib.Nat.{sub-zero, add-zero}
use native.Mathlib.Omega.{arith}
use lib.Dec.{ltb}
use lib.ListN.{length, get_or, drop}
use lib.Seq.{get_or-drop, drop-drop}
use Rattle.laws.specs.Emit.{emit, iter}
use Rattle.laws.specs.Put.{put}
use Rattle.laws.proofs.Emits.{Filling, filling_none, filling_more, filling_whole, filling_last, emit-length}
use Rattle.frame.specs.Shape.{symbol_length, frame_length}
use Rattle.frame.specs.Writing.{Writing, symbol_of, turned, four_numbers, symbol_labels, after_symbol}
use Rattle.frame.specs.Writing.{frame_start, labels_written, turn_written}
use Rattle.frame.specs.declared.shape.Shape.{Shape}
use Rattle.frame.specs.declared.symbol.Symbol.{Symbol}
use Rattle.frame.proofs.Symbols.{turned-most}
use Rattle.frame.proofs.InTurn.{still, symbols_length, four_symbols, bits-next}

-- a symbol has four labels, and a frame sixteen
four : (q : ℕ) (w : Writing) → length (symbol_labels q w) ≡ 4
unfolding symbol_labels four_numbers
four q w = refl

pub sixteen-labels : (q : ℕ) (w : Writing) → length (emit (symbol_labels q) (after_symbol q) 4 w) ≡ 16
sixteen-labels q w = emit-length (symbol_labels q) (after_symbol q) 4 (four q) 4 w

module _ (shape : Shape) (bits ring : List ℕ) where
  -- what is left after j symbols, from the bit at `at` on
  abbrev pub left_of : ℕ → ℕ → ℕ → Writing
  left_of at z j = record { bits = drop at bits; rings = drop (2 * j) ring; threes = shape.threes - j; z = z }

  -- the labels of j symbols are written, as many bits are left as the other symbols take, and Z is one of four
  pub record WrittenUpTo (z₀ : ℕ) (out : List ℕ) (at z j : ℕ) : Type 0 where
    pub filling :
        Filling (symbol_labels shape.uncoded) (after_symbol shape.uncoded) [] 4 (left_of shape.shell z₀ 0) j
        (left_of at z j) out (4 * j)
    pub rest : at + symbols_length shape.uncoded (shape.threes - j) (4 - j) ≡ length bits
    pub turn : z ≤ 3

  pub write_none :
      (z : ℕ) (out : List ℕ)
      → z ≤ 3
      → shape.threes ≤ 4
      → length bits ≡ frame_length shape
      → length out ≡ 16
      → WrittenUpTo z out shape.shell z 0
  unfolding frame_length
  write_none z out turn threes size sixteen =
      record {
        filling = filling_none _ _ 4 _ out (sixteen ∙ sym (sixteen-labels shape.uncoded _));
        rest = rw (sub-zero shape.threes) (omega (arith, four_symbols shape.uncoded shape.threes threes));
        turn = turn;
      }

  start : (z : ℕ) → left_of shape.shell z 0 ≡ frame_start shape ring z bits
  unfolding frame_start
  start z = rw sub-zero

module _ {shape : Shape} {bits ring : List ℕ} {z₀ at z j : ℕ} {out : List ℕ} (h : WrittenUpTo shape bits ring z₀ out at z j) where
  pub sixteen : length out ≡ 16
  sixteen = h.filling.size ∙ sixteen-labels shape.uncoded _

  module _ (more : j < 4) where
    -- the next symbol has its bits
    pub bits-there : at + symbol_length shape.uncoded (ltb j shape.threes) ≤ length bits
    bits-there = omega (arith, h.rest, bits-next shape.uncoded shape.threes j more)

    -- the next symbol as the code finds it, its labels, and where the bits after it start
    module _ (first second at' z' : ℕ) (symbol : Symbol)
        (is-next : symbol ≡ symbol_of shape.uncoded (ltb j shape.threes) (drop at bits))
        (is-first : first ≡ 2 ^ shape.uncoded * get_or ring (2 * j) 0 + symbol.first)
        (is-second : second ≡ 2 ^ shape.uncoded * get_or ring (2 * j + 1) 0 + symbol.second)
        (is_turned : z' ≡ turned z symbol)
        (is_at : at' ≡ at + symbol_length shape.uncoded (ltb j shape.threes)) where
      next-labels : four_numbers first second z' symbol.i1 ≡ symbol_labels shape.uncoded (left_of shape bits ring at z j)
      unfolding symbol_labels
      next-labels = rw (is_turned, is-first, is-second, is-next, still) (simp (get_or-drop, add-zero))

      next-left : after_symbol shape.uncoded (left_of shape bits ring at z j) ≡ left_of shape bits ring at' z' (j + 1)
      unfolding after_symbol
      next-left =
          let rings : 2 * j + 2 ≡ 2 * (j + 1) = omega arith in
          let threes : shape.threes - j - 1 ≡ shape.threes - (j + 1) = omega arith in
          rw (is_at, is_turned, is-next, still) (simp (drop-drop, rings, threes))

      -- where its labels are put, a symbol more is written
      pub write-more :
          (after : List ℕ)
          → after ≡ put out (4 * j) (four_numbers first second z' symbol.i1)
          → WrittenUpTo shape bits ring z₀ after at' z' (j + 1)
      unfolding four_numbers
      write-more after is-put =
          record {
            filling = rw (← next-left) (filling_more h.filling more _ after (4 * (j + 1)) next-labels (omega arith) is-put);
            rest = omega (arith, h.rest, bits-next shape.uncoded shape.threes j more);
            turn = omega (arith, turned-most z symbol);
          }

  -- after four symbols the frame is written
  pub write_all : 4 ≤ j → (out ≡ labels_written shape ring z₀ bits) × (z ≡ turn_written shape ring z₀ bits)
  unfolding labels_written turn_written
  write_all all =
      let begun = start shape bits ring z₀ in (
        filling_whole h.filling all ∙ ap (emit _ _ 4) begun,
        ap (λ (w : Writing). w.z) (filling_last h.filling all ∙ ap (iter _ 4) begun),
      )
