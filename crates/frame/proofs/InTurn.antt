-- Symbols one after the other: k symbols written and read again give their bits and rings back, and k symbols read and written again
-- give their labels back. By induction over k, for any bits, rings, symbols with I3 and Z. Assumes nothing.
use mathlib.Core.Bool.{Bool, true, ◌&&◌, ◌||◌}
use mathlib.Core.List.{List, [], ◌∷◌, ◌++◌}
use mathlib.Core.Path.{◌≡◌, refl, sym, ap, ap₂, ◌∙◌}
use Prim.Native.Nat.{ℕ, zero, suc, ◌+◌, ◌*◌, ◌-◌, ◌/◌, ◌%◌, ◌^◌, ◌≤◌, ◌<◌}
use native.Mathlib.Nat.{div-lt_iff_lt-mul}
use native.Mathlib.Omega.{arith}
use lib.Dec.{ltb, leb}
use lib.ListN.{length, get_or, take, drop, length-append, length-drop, take-append-drop}
use lib.Pow.{pow_pos}
use lib.Seq.{drop_at}
use borrow.Author.Tests.{ltb-true, lt-ltb, leb-true, le-leb}
use Rattle.bits.specs.Digits.{Bits}
use Rattle.std.proofs.lemmas.List.{nil_from_length}
use Rattle.laws.specs.Emit.{emit, iter}
use Rattle.laws.specs.Lists.{Every}
use Rattle.laws.proofs.Bools.{and_parts, same_test}
use Rattle.bits.proofs.Digitals.{bits-append, bits-drop}
use Rattle.frame.specs.declared.symbol.Symbol.{Symbol}
use Rattle.frame.specs.Shape.{symbol_length, SymbolFits}
use Rattle.frame.specs.Writing.{Writing, symbol_of, turned, next_symbol, four_numbers, symbol_labels, after_symbol}
use Rattle.frame.specs.Reading.{Reading, symbol_read, symbol_bits, read_bits, after_read, rings_read, in_range, steps_fit}
use Rattle.frame.proofs.Symbols.{of_fits, bits_of, length-symbol_bits, bits-symbol_bits, of_bits, four_labels, ring_of}
use Rattle.frame.proofs.Symbols.{turned-most, read-labels, label-below, step_fits, read_fits, turned-read, labels-read}

-- the bits of k symbols, of which the first `threes` carry I3
unfoldable pub symbols_length : ℕ → ℕ → ℕ → ℕ
symbols_length q threes zero = 0
symbols_length q threes (suc k) = symbol_length q (ltb 0 threes) + symbols_length q (threes - 1) k

-- and of the four symbols of a frame
pub four_symbols : (q threes : ℕ) → threes ≤ 4 → symbols_length q threes 4 ≡ 8 + threes + 8 * q
unfolding symbols_length
four_symbols q zero h = omega arith
four_symbols q (suc zero) h = omega arith
four_symbols q (suc (suc zero)) h = omega arith
four_symbols q (suc (suc (suc zero))) h = omega arith
four_symbols q (suc (suc (suc (suc zero)))) h = omega arith
four_symbols q (suc (suc (suc (suc (suc n))))) h = absurd (omega arith)

-- of the t symbols with I3 some are left after j symbols if j is below t
pub still : (t j : ℕ) → ltb 0 (t - j) ≡ ltb j t
still t j =
    same_test (ltb 0 (t - j)) (ltb j t)
    (λ e. let h = ltb-true 0 (t - j) e in lt-ltb j t (omega arith))
    (λ e. let h = ltb-true j t e in lt-ltb 0 (t - j) (omega arith))

-- before the j-th of four symbols its bits are left, and those of the others
pub bits-next :
    (q threes j : ℕ) → j < 4
    → symbols_length q (threes - j) (4 - j) ≡ symbol_length q (ltb j threes) + symbols_length q (threes - (j + 1)) (4 - (j + 1))
unfolding symbols_length
bits-next q threes j h =
    let turn : 4 - j ≡ suc (4 - (j + 1)) = omega arith in
    let e : threes - j - 1 ≡ threes - (j + 1) = omega arith in
    rw turn (simp (still, e))

-- what is read of k symbols has as many bits
pub read_length : (q k : ℕ) (r : Reading) → length (emit (read_bits q) (after_read q) k r) ≡ symbols_length q r.threes k
unfolding emit symbols_length read_bits after_read
read_length q zero r = refl
read_length q (suc k) r =
    length-append (read_bits q r) _ ∙ ap₂ ◌+◌ (length-symbol_bits q (ltb 0 r.threes) _) (read_length q k (after_read q r))

-- rings that are all below M
abbrev pub RingsBelow : ℕ → List ℕ → Type 0
RingsBelow M = Every (λ ring. ring < M)

-- labels in their ranges have rings below M
pub rings-below : (M q k : ℕ) (labels : List ℕ) → in_range M q k labels ≡ true → RingsBelow M (rings_read q k labels)
unfolding in_range rings_read
rings-below M q zero labels e = tt
rings-below M q (suc k) labels e =
    let all = and_parts _ (in_range M q k (drop 4 labels)) e in
    let first = and_parts (ltb (get_or labels 0 0) (M * 2 ^ q)) _ all.0 in
    let second = and_parts (ltb (get_or labels 1 0) (M * 2 ^ q)) _ first.1 in
    (ring-less M q _ first.0, (ring-less M q _ second.0, rings-below M q k (drop 4 labels) all.1))
  where
    ring-less : (M q x : ℕ) → ltb x (M * 2 ^ q) ≡ true → x / 2 ^ q < M
    ring-less M q x e = (div-lt_iff_lt-mul (pow_pos q)).1 (ltb-true _ _ e)

-- the rings of one symbol, and what is left
record Two (M : ℕ) (rings : List ℕ) : Type 0 where
  first : get_or rings 0 0 < M
  second : get_or rings 1 0 < M
  others : RingsBelow M (drop 2 rings)
  whole : get_or rings 0 0 ∷ get_or rings 1 0 ∷ drop 2 rings ≡ rings

two_rings : (M : ℕ) (rings : List ℕ) → 2 ≤ length rings → RingsBelow M rings → Two M rings
two_rings M [] h b = absurd (omega arith)
two_rings M (r ∷ []) h b = absurd (omega arith)
two_rings M (r₁ ∷ r₂ ∷ rings) h b = record { first = b.0; second = b.1.0; others = b.1.1; whole = refl }

-- labels as they are read: the first `threes` symbols carry I3, and Z was z
abbrev pub reading : List ℕ → ℕ → ℕ → Reading
reading labels threes z = record { labels = labels; threes = threes; z = z }

-- Writing k symbols and reading them.

-- what is left to write is k symbols
pub record ToWrite (M q k : ℕ) (w : Writing) : Type 0 where
  pub binary : Bits w.bits
  pub size : length w.bits ≡ symbols_length q w.threes k
  pub rings : RingsBelow M w.rings
  pub pairs : length w.rings ≡ 2 * k
  pub turn : w.z ≤ 3

-- what holds of the labels of k symbols that were written
pub record SymbolsWritten (M q k : ℕ) (w : Writing) (labels : List ℕ) : Type 0 where
  pub size : length labels ≡ 4 * k
  pub ranges : in_range M q k labels ≡ true
  pub rings : rings_read q k labels ≡ w.rings
  pub steps : steps_fit w.threes w.z k labels ≡ true
  pub back : emit (read_bits q) (after_read q) k (reading labels w.threes w.z) ≡ w.bits
  pub turn : (iter (after_read q) k (reading labels w.threes w.z)).z ≡ (iter (after_symbol q) k w).z
  pub most : (iter (after_symbol q) k w).z ≤ 3

module _ (M q : ℕ) where
  to_write-next : (k : ℕ) (w : Writing) → ToWrite M q (suc k) w → ToWrite M q k (after_symbol q w)
  unfolding after_symbol symbols_length
  to_write-next k w l =
      record {
        binary = bits-drop (symbol_length q (ltb 0 w.threes)) w.bits l.binary;
        size = length-drop (symbol_length q (ltb 0 w.threes)) w.bits ∙ omega (arith, l.size);
        rings = (two_rings M w.rings (omega (arith, l.pairs)) l.rings).others;
        pairs = length-drop 2 w.rings ∙ omega (arith, l.pairs);
        turn = turned-most w.z (next_symbol q w);
      }

  -- one symbol before those whose labels are `labels`
  written_next :
      (k : ℕ) (w : Writing) (labels : List ℕ) → ToWrite M q (suc k) w → SymbolsWritten M q k (after_symbol q w) labels
      → SymbolsWritten M q (suc k) w (symbol_labels q w ++ labels)
  unfolding symbol_labels four_numbers after_symbol in_range rings_read steps_fit emit iter read_bits after_read symbols_length
  written_next k w labels l rest =
      record {
        size = omega (arith, rest.size);
        ranges = ap₂ ◌&&◌ (ap₂ ◌&&◌ first (ap₂ ◌&&◌ second (ap₂ ◌&&◌ third (le-leb _ 1 fits.i1)))) rest.ranges;
        rings = (λ i. ring_of q ring₁ fits.first i ∷ ring_of q ring₂ fits.second i ∷ rest.rings i) ∙ two.whole;
        steps = ap₂ ◌&&◌ (step_fits q three w.z s fits l.turn) rest.steps;
        back = ap₂ ◌++◌ (ap (symbol_bits q three) same ∙ taken) rest.back ∙ take-append-drop (symbol_length q three) w.bits;
        turn = rest.turn;
        most = rest.most;
      }
    where
      three : Bool
      three = ltb 0 w.threes

      s : Symbol
      s = next_symbol q w

      ring₁ : ℕ
      ring₁ = get_or w.rings 0 0

      ring₂ : ℕ
      ring₂ = get_or w.rings 1 0

      fits : SymbolFits q three s
      fits = of_fits q three w.bits l.binary

      two : Two M w.rings
      two = two_rings M w.rings (omega (arith, l.pairs)) l.rings

      first : ltb (2 ^ q * ring₁ + s.first) (M * 2 ^ q) ≡ true
      first = lt-ltb _ _ (label-below M q _ _ two.first fits.first)

      second : ltb (2 ^ q * ring₂ + s.second) (M * 2 ^ q) ≡ true
      second = lt-ltb _ _ (label-below M q _ _ two.second fits.second)

      third : leb (turned w.z s) 3 ≡ true
      third = le-leb _ 3 (turned-most w.z s)

      same : symbol_read q w.z (four_labels q ring₁ ring₂ w.z s labels) ≡ s
      same = read-labels q three ring₁ ring₂ w.z s labels fits l.turn

      taken : symbol_bits q three s ≡ take (symbol_length q three) w.bits
      taken = bits_of q three w.bits l.binary (omega (arith, l.size))

  pub symbols_written : (k : ℕ) (w : Writing) → ToWrite M q k w → SymbolsWritten M q k w (emit (symbol_labels q) (after_symbol q) k w)
  unfolding emit iter in_range rings_read steps_fit symbols_length
  symbols_written zero w l =
      record {
        size = refl;
        ranges = refl;
        rings = sym (nil_from_length w.rings l.pairs);
        steps = refl;
        back = sym (nil_from_length w.bits l.size);
        turn = refl;
        most = l.turn;
      }
  symbols_written (suc k) w l = written_next k w _ l (symbols_written k (after_symbol q w) (to_write-next k w l))

-- Reading k symbols and writing them.

-- what is left to read is the labels of k symbols
pub record ToRead (M q k : ℕ) (r : Reading) : Type 0 where
  pub size : length r.labels ≡ 4 * k
  pub ranges : in_range M q k r.labels ≡ true
  pub steps : steps_fit r.threes r.z k r.labels ≡ true
  pub turn : r.z ≤ 3

-- bits as they are written, with the rings, the I3 and the Z of what was read
abbrev pub write_again : ℕ → ℕ → Reading → List ℕ → Writing
write_again q k r bits = record { bits = bits; rings = rings_read q k r.labels; threes = r.threes; z = r.z }

-- what holds of the bits of k symbols that were read
pub record SymbolsRead (q k : ℕ) (r : Reading) (bits : List ℕ) : Type 0 where
  pub binary : Bits bits
  pub size : length bits ≡ symbols_length q r.threes k
  pub back : emit (symbol_labels q) (after_symbol q) k (write_again q k r bits) ≡ r.labels
  pub turn : (iter (after_symbol q) k (write_again q k r bits)).z ≡ (iter (after_read q) k r).z

-- the ranges and the step of one symbol, and what is left
module _ (M q k : ℕ) (a b next one : ℕ) (labels : List ℕ) (threes z : ℕ) where
  abbrev whole : Reading
  whole = reading (a ∷ b ∷ next ∷ one ∷ labels) threes z

  abbrev others : Reading
  others = reading labels (threes - 1) next

  record One : Type 0 where
    turned_to : next ≤ 3
    bit : one ≤ 1
    step : (ltb 0 threes || ltb ((next + 4 - z) % 4) 2) ≡ true
    left : ToRead M q k others

  one_to_read : ToRead M q (suc k) whole → One
  unfolding in_range steps_fit
  one_to_read t =
      let g = and_parts _ _ t.ranges in
      let g₁ = and_parts (ltb a (M * 2 ^ q)) _ g.0 in
      let g₂ = and_parts (ltb b (M * 2 ^ q)) _ g₁.1 in
      let g₃ = and_parts _ _ g₂.1 in
      let s = and_parts _ _ t.steps in
      record {
        turned_to = leb-true _ _ g₃.0;
        bit = leb-true _ _ g₃.1;
        step = s.0;
        left = record { size = omega (arith, t.size); ranges = g.1; steps = s.1; turn = leb-true _ _ g₃.0 };
      }

  -- one symbol before those whose bits are `bits`
  read_next :
      (bits : List ℕ) → ToRead M q (suc k) whole → SymbolsRead q k others bits
      → SymbolsRead q (suc k) whole (read_bits q whole ++ bits)
  unfolding read_bits symbols_length rings_read emit iter symbol_labels four_numbers after_symbol after_read
  read_next bits t rest =
      record {
        binary = bits-append (symbol_bits q three s) bits (bits-symbol_bits q three s fits) rest.binary;
        size = length-append (symbol_bits q three s) bits ∙ ap₂ ◌+◌ (length-symbol_bits q three s) rest.size;
        back = (λ i. four (same i) (emit (symbol_labels q) (after_symbol q) k (after i))) ∙ (ap (four s) rest.back ∙ again);
        turn = ap (λ (w : Writing). (iter (after_symbol q) k w).z) after ∙ rest.turn;
      }
    where
      three : Bool
      three = ltb 0 threes

      s : Symbol
      s = symbol_read q z (a ∷ b ∷ next ∷ one ∷ labels)

      four : Symbol → List ℕ → List ℕ
      four = four_labels q (a / 2 ^ q) (b / 2 ^ q) z

      o : One
      o = one_to_read t

      fits : SymbolFits q three s
      fits = read_fits q a b next one z labels three o.bit o.step

      same : symbol_of q three (symbol_bits q three s ++ bits) ≡ s
      same = of_bits q three s fits bits

      again : four s labels ≡ a ∷ b ∷ next ∷ one ∷ labels
      again = labels-read q a b next one z labels t.turn o.turned_to labels

      after : after_symbol q (write_again q (suc k) whole (read_bits q whole ++ bits)) ≡ write_again q k others bits
      after =
          λ i. record {
            bits = drop_at (symbol_bits q three s) bits (symbol_length q three) (length-symbol_bits q three s) i;
            rings = rings_read q k labels;
            threes = threes - 1;
            z = (ap (turned z) same ∙ turned-read q a b next one z labels t.turn o.turned_to) i;
          }

module _ (M q : ℕ) where
  pub symbols_read :
      (k : ℕ) (labels : List ℕ) (threes z : ℕ) → ToRead M q k (reading labels threes z)
      → SymbolsRead q k (reading labels threes z) (emit (read_bits q) (after_read q) k (reading labels threes z))
  unfolding emit iter rings_read symbols_length after_read
  symbols_read zero labels threes z t =
      record { binary = tt; size = refl; back = sym (nil_from_length labels t.size); turn = refl }
  symbols_read (suc k) [] threes z t = absurd (omega (arith, t.size))
  symbols_read (suc k) (a ∷ []) threes z t = absurd (omega (arith, t.size))
  symbols_read (suc k) (a ∷ b ∷ []) threes z t = absurd (omega (arith, t.size))
  symbols_read (suc k) (a ∷ b ∷ c ∷ []) threes z t = absurd (omega (arith, t.size))
  symbols_read (suc k) (a ∷ b ∷ next ∷ one ∷ labels) threes z t =
      read_next M q k a b next one labels threes z _ t
      (symbols_read k labels (threes - 1) next (one_to_read M q k a b next one labels threes z t).left)
