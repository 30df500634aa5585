-- What holds of all accepted settings: what the eight rings, the frames and the labels ask of K, M, q, b, r, P and N. Most of it holds
-- of any rate in range; what only the table knows is one test each, computed at all 65 pairs of s and n. Assumes nothing.
use mathlib.Core.Bool.{Bool, true, ◌||◌}
use mathlib.Core.Path.{◌≡◌, refl, sym, subst, ◌∙◌}
use Prim.Native.Nat.{ℕ, zero, suc, ◌+◌, ◌*◌, ◌-◌, ◌^◌, ◌≤◌, ◌<◌}
use native.Mathlib.Omega.{arith}
use lib.Dec.{leb}
use Rattle.std.proofs.lemmas.Bool.Decides.{nat_tests}
use borrow.Author.Tests.{leb-true, le-ltb, lt-leb}
use Rattle.laws.specs.Lists.{Every}
use Rattle.laws.specs.Smallest.{smallest}
use Rattle.laws.proofs.Tables.{passes_below, at_each}
use Rattle.line.specs.declared.asked.Asked.{Asked}
use Rattle.line.specs.declared.rate.SymbolRate.{SymbolRate}
use Rattle.std.specs.Prelude.{Option, Some, None}
use Rattle.line.specs.declared.settings.Settings.{Settings}
use Rattle.line.specs.Worked.{Accepted}
use Rattle.line.specs.Rates.{symbol_rate, row_of}
use Rattle.line.specs.Numbers.{bits_of, high_of, step_of, uncoded_of, shell_of, minimum_of, nearest_of, expanded_of, points_of}
use Rattle.line.specs.Settings.{outside, shaping_of, rings_of_shaping, settings_of, worked_of, values_of}
use Rattle.line.specs.Switching.{counter_at, frame_bits}
use Rattle.line.proofs.Acceptance.{Within, Right, accepted-when, right_unrefused, unrefused_is, known-accepted}
use Rattle.line.proofs.Divisions.{divided, bits-least, uncoded_is, shell_is, shell_below}
use Rattle.line.proofs.DataFrames.{DataFrame, data_frame}
use Rattle.line.proofs.Rings.{Permitted, rings-permitted}
use Rattle.line.proofs.Rows.{on_known, known-below, in-range}

pub record Sound (c : Settings) : Type 0 where
  pub end : c.role ≤ 1
  pub bits_most : c.bits ≤ 1248
  -- all N bits are the user's
  pub user_is : c.user ≡ c.bits
  pub frames-least : 12 ≤ c.frames
  pub frames-most : c.frames ≤ 16
  -- b, the smallest with b·P at least N, is 8 to 79
  pub holds : c.bits ≤ c.high * c.frames
  pub fewer : (c.high - 1) * c.frames < c.bits
  pub high-least : 8 ≤ c.high
  pub high-most : c.high ≤ 79
  -- r, and the switching sequence
  pub step-some : 1 ≤ c.step
  pub step-most : c.step ≤ c.frames
  pub step_is : c.step + (c.high - 1) * c.frames ≡ c.bits
  pub frame : DataFrame c.bits c.frames c.high c.step
  -- a data frame with a low frame has b of at least 9, so that no frame has fewer than 8 bits
  pub low-least : c.step < c.frames → 9 ≤ c.high
  -- K and q: none where b is at most 12, and otherwise a frame's bits
  pub shell_most : c.shell ≤ 31
  pub uncoded-most : c.uncoded ≤ 5
  pub plain : c.high ≤ 12 → (c.shell ≡ 0) × (c.uncoded ≡ 0)
  pub shaped : 12 < c.high → (1 ≤ c.shell) × (c.shell + 4 * (3 + 2 * c.uncoded) ≡ c.high)
  -- M and L, and labels below 416
  pub rings : Permitted c.shell (rings_of_shaping c.shaping)
  pub points-are : c.points ≡ 4 * rings_of_shaping c.shaping * 2 ^ c.uncoded
  pub labels : rings_of_shaping c.shaping * 2 ^ c.uncoded ≤ 416

-- a test computed at each n in the range of each rate
abbrev pub at_pair : (SymbolRate → ℕ → Bool) → ℕ → ℕ → Bool
at_pair test s n = outside (symbol_rate s) n || on_known (λ rate. test rate n) (symbol_rate s)

abbrev pub at_each_pair : (SymbolRate → ℕ → Bool) → Bool
at_each_pair test = passes_below (λ s. passes_below (at_pair test s) 15) 6

-- holds of every rate that s names and n in its range
each-pair :
    (test : SymbolRate → ℕ → Bool) → at_each_pair test ≡ true
    → (s n : ℕ) (rate : SymbolRate) → symbol_rate s ≡ Some rate → rate.least ≤ n → n ≤ rate.most → n ≤ 14 → test rate n ≡ true
each-pair test passes s n rate e from to few =
    sym chosen
    ∙ at_each (at_pair test s) 15 (at_each (λ s. passes_below (at_pair test s) 15) 6 passes s (known-below s rate e)) n (omega arith)
  where
    chosen : at_pair test s n ≡ test rate n
    chosen = rw (e, le-ltb n rate.least from, le-ltb rate.most n to)

-- N, b, r of a rate and n; K, q and M of both shapings follow
bits : SymbolRate → ℕ → ℕ
bits rate n = bits_of rate.j n

high : SymbolRate → ℕ → ℕ
high rate n = high_of (bits rate n) rate.p

step : SymbolRate → ℕ → ℕ
step rate n = step_of (bits rate n) rate.p (high rate n)

labels_of : ℕ → SymbolRate → ℕ → ℕ
labels_of shaping rate n = rings_of_shaping (shaping_of shaping (shell_of (high rate n))) * 2 ^ uncoded_of (high rate n)

-- what only the table knows
record Tabled (rate : SymbolRate) (n : ℕ) : Type 0 where
  bits_most : bits rate n ≤ 1248
  high-least : 8 ≤ high rate n
  high-most : high rate n ≤ 79
  low-least : step rate n < rate.p → 9 ≤ high rate n
  minimum_labels : labels_of 0 rate n ≤ 416
  expanded_labels : labels_of 1 rate n ≤ 416

tabled :
    (s n : ℕ) (rate : SymbolRate) → symbol_rate s ≡ Some rate → rate.least ≤ n → n ≤ rate.most → Tabled rate n
unfolding passes_below symbol_rate row_of bits high step labels_of smallest
    bits_of high_of step_of uncoded_of shell_of shaping_of minimum_of nearest_of expanded_of
tabled s n rate e from to =
    record {
      bits_most = leb-true (bits rate n) 1248 (here (λ r k. leb (bits r k) 1248) refl);
      high-least = leb-true 8 (high rate n) (here (λ r k. leb 8 (high r k)) refl);
      high-most = leb-true (high rate n) 79 (here (λ r k. leb (high r k) 79) refl);
      low-least = λ l. low l (here (λ r k. leb r.p (step r k) || leb 9 (high r k)) refl);
      minimum_labels = leb-true (labels_of 0 rate n) 416 (here (λ r k. leb (labels_of 0 r k) 416) refl);
      expanded_labels = leb-true (labels_of 1 rate n) 416 (here (λ r k. leb (labels_of 1 r k) 416) refl);
    }
  where
    here : (test : SymbolRate → ℕ → Bool) → at_each_pair test ≡ true → test rate n ≡ true
    here test passes = each-pair test passes s n rate e from to (in-range s rate n e from to).most

    low : step rate n < rate.p → (leb rate.p (step rate n) || leb 9 (high rate n)) ≡ true → 9 ≤ high rate n
    low l t = leb-true 9 (high rate n) (rw (lt-leb rate.p (step rate n) l) at t)

-- a shaping is one of the two
either : (shaping : ℕ) (P : ℕ → Type 0) → shaping ≤ 1 → P 0 → P 1 → P shaping
either zero P h a b = a
either (suc zero) P h a b = b
either (suc (suc k)) P h a b = absurd (omega arith)

-- the settings of a rate that s names and n in its range
settings-sound :
    (asked : Asked) (rate : SymbolRate) → asked.role ≤ 1 → asked.shaping ≤ 1
    → symbol_rate asked.s ≡ Some rate → rate.least ≤ asked.n → asked.n ≤ rate.most → Sound (settings_of asked rate)
unfolding settings_of bits high step labels_of points_of
settings-sound asked rate end kind e from to =
    let n = asked.n in
    let i = in-range asked.s rate n e from to in
    let t = tabled asked.s n rate e from to in
    let d = divided (bits rate n) rate.p (bits-least rate.j n i.least) (omega arith) in
    let b = high rate n in
    let q = uncoded_is b in
    let k = shell_is b in
    record {
      end = end;
      bits_most = t.bits_most;
      user_is = refl;
      frames-least = i.fewest;
      frames-most = i.fullest;
      holds = d.holds;
      fewer = d.fewer;
      high-least = t.high-least;
      high-most = t.high-most;
      step-some = d.some;
      step-most = d.most;
      step_is = d.whole;
      frame =
          data_frame (bits rate n) rate.p b (step rate n) d.some d.most (omega (arith, t.high-least)) (omega (arith, d.whole));
      low-least = t.low-least;
      shell_most = omega (arith, shell_below b);
      uncoded-most = omega (arith, q, t.high-most);
      plain = λ h. (omega (arith, k), omega (arith, q));
      shaped = λ h. (omega (arith, k), omega (arith, q, k));
      rings = rings-permitted asked.shaping (shell_of b) (shell_below b);
      points-are = refl;
      labels = either asked.shaping (λ v. labels_of v rate n ≤ 416) kind t.minimum_labels t.expanded_labels;
    }

-- n of right settings is at most 14
pub rate-most : (asked : Asked) → Right asked → asked.n ≤ 14
rate-most asked right = go (symbol_rate asked.s) refl right.range
  where
    go : (rate : Option SymbolRate) → symbol_rate asked.s ≡ rate → Within rate asked.n → asked.n ≤ 14
    go (Some rate) e w = (in-range asked.s rate asked.n e w.0 w.1).most
    go None e w = absurd w

-- all accepted settings are sound
pub accepted-sound : (asked : Asked) (c : Settings) → worked_of asked ≡ Accepted c → Sound c
accepted-sound asked c e = go (symbol_rate asked.s) refl right.range
  where
    right : Right asked
    right = (accepted-when asked).0 (c, e)

    go : (rate : Option SymbolRate) → symbol_rate asked.s ≡ rate → Within rate asked.n → Sound c
    go (Some rate) f w = subst Sound same (settings-sound asked rate right.end right.kind f w.0 w.1)
      where
        same : settings_of asked rate ≡ c
        same =
            let u = unrefused_is asked (right_unrefused asked right) in
            let v = known-accepted asked rate f in
            cc
    go None f w = absurd w

-- none of their values N P b r K q M L is above 1,664
pub values-most : (c : Settings) → Sound c → Every (λ value. value ≤ 1664) (values_of (Accepted c))
values-most c z = (
  omega (arith, z.bits_most),
  (
    omega (arith, z.frames-most),
    (
      omega (arith, z.high-most),
      (
        omega (arith, z.step-most, z.frames-most),
        (
          omega (arith, z.shell_most),
          (omega (arith, z.uncoded-most), (omega (arith, z.rings.most), (omega (arith, z.points-are, z.labels), tt))),
        ),
      ),
    ),
  ),
)

-- and no frame of theirs has fewer than 8 bits, or more than b
pub frame-between :
    (c : Settings) → Sound c → (k : ℕ)
    → (8 ≤ frame_bits c.frames c.high c.step (counter_at c.frames c.step k))
    × (frame_bits c.frames c.high c.step (counter_at c.frames c.step k) ≤ c.high)
unfolding frame_bits
frame-between c z k = (grind (arith, nat_tests), grind (arith, nat_tests))
