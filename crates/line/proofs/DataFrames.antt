-- Switching, for any P, b and r with 1 ≤ r ≤ P and 1 ≤ b. Over k frames from a counter c, the high ones times P and the counter then
-- add up to c + k·r. So a data frame of P frames has r high ones and ends with the counter at 0: its lengths add up to
-- (b − 1)·P + r, each is b or b − 1, and the last one is high. Assumes nothing.
use mathlib.Core.Bool.{Bool, true, false, cond}
use mathlib.Core.Logic.{◌⊎◌, inl, inr}
use mathlib.Core.Path.{◌≡◌, refl, sym, ap, ◌∙◌}
use Prim.Native.Nat.{ℕ, zero, suc, ◌+◌, ◌*◌, ◌-◌, ◌≤◌, ◌<◌}
use native.Mathlib.Nat.{suc-mul, zero-mul, one-mul, add-mul, mul_comm, mul-div_cancel}
use native.Mathlib.Nat.{suc-add, add-suc, add-zero, zero-add, le_of_suc-le-suc, div-eq_of_lt-le}
use native.Mathlib.Omega.{arith}
use Rattle.std.proofs.lemmas.Bool.Decides.{nat_tests}
use lib.ListN.{length, get_or}
use Rattle.laws.specs.Sum.{sum}
use Rattle.laws.specs.Lists.{Every}
use Rattle.laws.proofs.Sums.{sum-zero, sum-suc}
use Rattle.line.specs.Switching.{is_high, counter_after, counter_at, frame_bits, frame_lengths, total}

-- 1 where frame k is high, and else 0
pub high_at : ℕ → ℕ → ℕ → ℕ
high_at P r k = cond (is_high P r (counter_at P r k)) 1 0

-- one frame: the counter stays below P
pub counter-stays : (P r c : ℕ) → r ≤ P → c < P → counter_after P r c < P
unfolding counter_after
counter-stays P r c fits below = grind (arith, nat_tests)

module _ (P b r : ℕ) (fits : r ≤ P) where
  -- one frame: what is taken off the counter is P where the frame is high, and the frame then has a bit more
  step-adds : (c : ℕ) → cond (is_high P r c) 1 0 * P + counter_after P r c ≡ c + r
  unfolding counter_after
  step-adds c = grind (arith, nat_tests)

  step-bits : (c : ℕ) → 1 ≤ b → frame_bits P b r c ≡ (b - 1) + cond (is_high P r c) 1 0
  unfolding frame_bits
  step-bits c h = grind (arith, nat_tests)

  -- before every frame the counter is below P
  pub counter-below : 1 ≤ P → (k : ℕ) → counter_at P r k < P
  unfolding counter_at
  counter-below h zero = omega arith
  counter-below h (suc k) = counter-stays P r (counter_at P r k) fits (counter-below h k)

  -- k frames
  pub frames-add : (k : ℕ) → sum (high_at P r) k * P + counter_at P r k ≡ k * r
  unfolding counter_at high_at sum
  frames-add zero = omega (arith, zero-mul P, zero-mul r)
  frames-add (suc k) =
      omega (
        arith,
        frames-add k,
        step-adds (counter_at P r k),
        suc-mul k r,
        add-mul (sum (high_at P r) k) (cond (is_high P r (counter_at P r k)) 1 0) P,
      )

  pub bits-add : 1 ≤ b → (k : ℕ) → sum (λ i. frame_bits P b r (counter_at P r i)) k ≡ k * (b - 1) + sum (high_at P r) k
  unfolding high_at sum
  bits-add h zero = omega (arith, zero-mul (b - 1))
  bits-add h (suc k) = omega (arith, bits-add h k, step-bits (counter_at P r k) h, suc-mul k (b - 1))

  -- the list of k lengths from frame i on: how many, each by its counter, and their sum
  pub lengths-count : (c k : ℕ) → length (frame_lengths P b r c k) ≡ k
  unfolding frame_lengths
  lengths-count c zero = refl
  lengths-count c (suc k) = ap suc (lengths-count (counter_after P r c) k)

  lengths-from : (i k j : ℕ) → j < k → get_or (frame_lengths P b r (counter_at P r i) k) j 0 ≡ frame_bits P b r (counter_at P r (i + j))
  unfolding frame_lengths counter_at
  lengths-from i zero j h = absurd (omega arith)
  lengths-from i (suc k) zero h = ap (λ (m : ℕ). frame_bits P b r (counter_at P r m)) (sym (add-zero i))
  lengths-from i (suc k) (suc j) h =
      lengths-from (suc i) k j (le_of_suc-le-suc h)
      ∙ ap (λ (m : ℕ). frame_bits P b r (counter_at P r m)) (suc-add i j ∙ sym (add-suc i j))

  total-from :
      (i k : ℕ)
      → sum (λ i. frame_bits P b r (counter_at P r i)) i + total (frame_lengths P b r (counter_at P r i) k)
      ≡ sum (λ i. frame_bits P b r (counter_at P r i)) (i + k)
  unfolding frame_lengths counter_at total
  total-from i zero = rw (add-zero i) (add-zero _)
  total-from i (suc k) =
      rw (sym (suc-add i k ∙ sym (add-suc i k)))
      (omega (arith, total-from (suc i) k, sum-suc (λ i. frame_bits P b r (counter_at P r i)) i))

  -- frame j of a data frame has the length that the counter before it gives
  pub length_at : (k j : ℕ) → j < k → get_or (frame_lengths P b r 0 k) j 0 ≡ frame_bits P b r (counter_at P r j)
  unfolding counter_at
  length_at k j h = lengths-from 0 k j h ∙ ap (λ (m : ℕ). frame_bits P b r (counter_at P r m)) (zero-add j)

  pub total_is : (k : ℕ) → total (frame_lengths P b r 0 k) ≡ sum (λ i. frame_bits P b r (counter_at P r i)) k
  unfolding counter_at
  total_is k =
      omega (
        arith,
        total-from 0 k,
        sum-zero (λ i. frame_bits P b r (counter_at P r i)),
        ap (sum (λ i. frame_bits P b r (counter_at P r i))) (zero-add k),
      )

  pub each-length : (c k : ℕ) → Every (λ x. (x ≡ b) ⊎ (x ≡ b - 1)) (frame_lengths P b r c k)
  unfolding frame_lengths frame_bits
  each-length c zero = tt
  each-length c (suc k) = (go (is_high P r c), each-length (counter_after P r c) k)
    where
      go : (v : Bool) → (cond v b (b - 1) ≡ b) ⊎ (cond v b (b - 1) ≡ b - 1)
      go true = inl refl
      go false = inr refl

-- what holds of the P frames of a data frame of N bits
pub record DataFrame (N P b r : ℕ) : Type 0 where
  pub frames : length (frame_lengths P b r 0 P) ≡ P
  pub adds : total (frame_lengths P b r 0 P) ≡ N
  pub each : Every (λ x. (x ≡ b) ⊎ (x ≡ b - 1)) (frame_lengths P b r 0 P)
  pub highs : sum (high_at P r) P ≡ r
  pub below : (k : ℕ) → counter_at P r k < P
  pub ends : counter_at P r P ≡ 0
  pub last : get_or (frame_lengths P b r 0 P) (P - 1) 0 ≡ b

module _ (N P b r : ℕ) (some : 1 ≤ r) (fits : r ≤ P) (high : 1 ≤ b) (whole : (b - 1) * P + r ≡ N) where
  -- as many high frames as r says, since the counter then is below P
  highs_are : sum (high_at P r) P ≡ r
  highs_are =
      let c = counter-below P b r fits (omega arith) P in
      let s = frames-add P b r fits P in
      sym
      (div-eq_of_lt-le P
      (omega (arith, mul_comm r P))
      (omega (arith, mul_comm r P, add-mul (sum (high_at P r) P) 1 P, one-mul P)))
      ∙ mul-div_cancel r (omega arith)

  ends_at_zero : counter_at P r P ≡ 0
  ends_at_zero = omega (arith, frames-add P b r fits P, ap (λ (k : ℕ). k * P) highs_are, mul_comm r P)

  -- a low frame leaves the counter at r or more
  last_is_high : (k : ℕ) → counter_at P r (suc k) ≡ 0 → frame_bits P b r (counter_at P r k) ≡ b
  unfolding counter_at counter_after frame_bits
  last_is_high k e = go (is_high P r (counter_at P r k)) e
    where
      go : (v : Bool) → cond v (counter_at P r k + r - P) (counter_at P r k + r) ≡ 0 → cond v b (b - 1) ≡ b
      go true z = refl
      go false z = absurd (omega arith)

  pub data_frame : DataFrame N P b r
  data_frame =
      record {
        frames = lengths-count P b r fits 0 P;
        adds = total_is P b r fits P ∙ bits-add P b r fits high P ∙ omega (arith, highs_are, mul_comm (b - 1) P);
        each = each-length P b r fits 0 P;
        highs = highs_are;
        below = counter-below P b r fits (omega arith);
        ends = ends_at_zero;
        last = length_at P b r fits P (P - 1) (omega arith) ∙ last_is_high (P - 1) (ap (counter_at P r) before_last ∙ ends_at_zero);
      }
    where
      before_last : suc (P - 1) ≡ P
      before_last = omega arith
