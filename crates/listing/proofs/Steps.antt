-- The counts of fours one after the other, for every M: from g4 at t to g4 at t + 1 by three sums of pairs, and no product. Let G(n) be how
-- many pairs weigh less than n, and let a difference below 0 be 0. Then
--
--     g4(t + 1) + 2·G(t + 2 − M)  =  g4(t) + G(t + 2) + G(t + 2 − 2M)
--
-- since g2 rises by one M − 1 times, and then falls by one M times. For M = 2
--
--     t          0   1   2   3   4
--     g2         1   2   1   0   0
--     G          0   1   3   4   4
--     g4         1   4   6   4   1
--
-- Assumes nothing.
use mathlib.Core.Path.{◌≡◌, refl, ap, ◌∙◌}
use Prim.Native.Nat.{ℕ, zero, suc, ◌+◌, ◌*◌, ◌-◌, ◌≤◌, ◌<◌}
use native.Mathlib.Nat.{zero-mul, suc-mul, mul-one, mul-zero, suc-sub-suc}
use native.Mathlib.Decide.{dec_le}
use native.Mathlib.Omega.{arith}
use Rattle.laws.specs.Sum.{sum}
use Rattle.laws.proofs.Sums.{sum-zero, sum-suc, sum_same}
use Rattle.laws.proofs.Convolution.{sum-front}
use Rattle.listing.specs.Counts.{g2, g4, lighter}
use Rattle.listing.proofs.CountLaws.{g2-ends}
use Rattle.listing.proofs.Pairs.{g2-low, g2-high}

-- 1 where v is below k, and otherwise 0
unfoldable below : ℕ → ℕ → ℕ
below k v = 1 - (suc v - k)

is_below : (k v : ℕ) → v < k → below k v ≡ 1
unfolding below
is_below k v h = let none : suc v - k ≡ 0 = omega arith in rw none

not-below : (k v : ℕ) → k ≤ v → below k v ≡ 0
unfolding below
not-below k v h = omega arith

-- g2 rises by one as long as v is below M − 1, and then falls by one as long as v is below 2M − 1
module _ (M v : ℕ) (some : 1 ≤ M) where
  rises : v < M - 1 → g2 M (suc v) + below (2 * M - 1) v ≡ g2 M v + 2 * below (M - 1) v
  rises h =
      omega (arith, g2-low M (suc v) (omega arith), g2-low M v (omega arith), is_below (2 * M - 1) v (omega arith), is_below (M - 1) v h)

  turns : v ≡ M - 1 → g2 M (suc v) + below (2 * M - 1) v ≡ g2 M v + 2 * below (M - 1) v
  turns h =
      omega (
        arith,
        g2-high M (suc v) (omega arith),
        g2-low M v (omega arith),
        is_below (2 * M - 1) v (omega arith),
        not-below (M - 1) v (omega arith),
      )

  falls : M ≤ v → v < 2 * M - 1 → g2 M (suc v) + below (2 * M - 1) v ≡ g2 M v + 2 * below (M - 1) v
  falls h l =
      omega (arith, g2-high M (suc v) (omega arith), g2-high M v (omega arith), is_below (2 * M - 1) v l, not-below (M - 1) v (omega arith))

  ends : 2 * M - 1 ≤ v → g2 M (suc v) + below (2 * M - 1) v ≡ g2 M v + 2 * below (M - 1) v
  ends h =
      omega (
        arith,
        g2-ends M (suc v) (omega arith),
        g2-ends M v (omega arith),
        not-below (2 * M - 1) v h,
        not-below (M - 1) v (omega arith),
      )

  g2-step : g2 M (suc v) + below (2 * M - 1) v ≡ g2 M v + 2 * below (M - 1) v
  g2-step =
      elim (dec_le (suc v) (M - 1)) [
        | yes h ↦ rises h
        | no h ↦ elim (dec_le M v) [
          | no k ↦ turns (omega arith)
          | yes k ↦ elim (dec_le (2 * M - 1) v) [
            | yes l ↦ ends l
            | no l ↦ falls k (omega arith)
          ]
        ]
      ]

-- an equation multiplied, and summed
times-each : (a x y z w : ℕ) → x + y ≡ z + 2 * w → a * x + a * y ≡ a * z + 2 * (a * w)
times-each zero x y z w e = omega (arith, zero-mul x, zero-mul y, zero-mul z, zero-mul w)
times-each (suc a) x y z w e = omega (arith, e, times-each a x y z w e, suc-mul a x, suc-mul a y, suc-mul a z, suc-mul a w)

sum-each :
    (x y z w : ℕ → ℕ) (n : ℕ) → ((p : ℕ) → p < n → x p + y p ≡ z p + 2 * w p) → sum x n + sum y n ≡ sum z n + 2 * sum w n
unfolding sum
sum-each x y z w zero h = refl
sum-each x y z w (suc n) h = omega (arith, sum-each x y z w n (λ p l. h p (omega arith)), h n (omega arith))

-- the last k numbers of a sum, picked out by `below`, and the others
module _ (g : ℕ → ℕ) (k n : ℕ) where
  abbrev picked : ℕ → ℕ
  picked p = g p * below k (suc n - suc p)

  abbrev later : ℕ → ℕ
  later p = g (suc p)

  abbrev picked_later : ℕ
  picked_later = sum (λ p. later p * below k (n - suc p)) n

  front : sum picked (suc n) ≡ g 0 * below k (suc n - 1) + picked_later
  front =
      sum-front picked n
      ∙ ap (λ (x : ℕ). picked 0 + x)
      (sum_same (λ p. picked (suc p)) (λ p. later p * below k (n - suc p)) n (λ p l. rw suc-sub-suc))

  -- the first is not among the last k
  without : picked_later + sum later (n - k) ≡ sum later n → k ≤ n → sum picked (suc n) + sum g (suc n - k) ≡ sum g (suc n)
  without rest h =
      let off : suc n - k ≡ suc (n - k) = omega arith in
      let first : g 0 * below k (suc n - 1) ≡ 0 = ap (λ (x : ℕ). g 0 * x) (not-below k (suc n - 1) (omega arith)) ∙ mul-zero (g 0) in
      rw off (omega (arith, front, first, rest, sum-front g (n - k), sum-front g n))

  -- all are
  within : picked_later + sum later (n - k) ≡ sum later n → n < k → sum picked (suc n) + sum g (suc n - k) ≡ sum g (suc n)
  within rest h =
      let off : suc n - k ≡ 0 = omega arith in
      let less : n - k ≡ 0 = omega arith in
      let first : g 0 * below k (suc n - 1) ≡ g 0 = ap (λ (x : ℕ). g 0 * x) (is_below k (suc n - 1) (omega arith)) ∙ mul-one (g 0) in
      let none : sum later (n - k) ≡ 0 = rw less (sum-zero later) in
      rw off (omega (arith, front, first, rest, none, sum-zero g, sum-front g n))

last_numbers : (g : ℕ → ℕ) (k n : ℕ) → sum (λ p. g p * below k (n - suc p)) n + sum g (n - k) ≡ sum g n
last_numbers g k zero = let none : 0 - k ≡ 0 = omega arith in rw none (omega (arith, sum-zero (λ p. g p * below k (0 - suc p)), sum-zero g))
last_numbers g k (suc n) =
    let rest = last_numbers (later g k n) k n in
    elim (dec_le k n) [ yes h ↦ without g k n rest h | no h ↦ within g k n rest (omega arith) ]

-- how the four equations go together
combined :
    (a b c d e f g h i : ℕ) → a ≡ b + c → b + d ≡ e + 2 * f → f + g ≡ h → d + i ≡ h
    → (w : ℕ) → w ≡ h + c → a + 2 * g ≡ e + w + i
combined a b c d e f g h i one two three four w five = omega arith

-- The step.
module _ (M t : ℕ) (some : 1 ≤ M) where
  abbrev last_of : ℕ → ℕ
  last_of k = sum (λ p. g2 M p * below k (t - p)) (suc t)

  last-of : (k : ℕ) → last_of k + sum (g2 M) (suc t - k) ≡ sum (g2 M) (suc t)
  last-of k =
      ap (λ (x : ℕ). x + sum (g2 M) (suc t - k))
      (sum_same (λ p. g2 M p * below k (t - p)) (λ p. g2 M p * below k (suc t - suc p)) (suc t) (λ p l. rw suc-sub-suc))
      ∙ last_numbers (g2 M) k (suc t)

  abbrev stepped : ℕ
  stepped = sum (λ p. g2 M p * g2 M (suc (t - p))) (suc t)

  balance : stepped + last_of (2 * M - 1) ≡ g4 M t + 2 * last_of (M - 1)
  unfolding g4 lighter
  balance = sum-each _ _ _ _ (suc t) (λ p l. times-each (g2 M p) _ _ _ _ (g2-step M (t - p) some))

  -- the last product of g4 at t + 1 has one pair of weight 0
  next : g4 M (suc t) ≡ stepped + g2 M (suc t)
  unfolding g4 lighter
  next =
      let last : suc t - suc t ≡ 0 = omega arith in
      let one : g2 M (suc t) * g2 M (suc t - suc t) ≡ g2 M (suc t) =
      rw last (ap (λ (x : ℕ). g2 M (suc t) * x) (g2-low M 0 some) ∙ mul-one (g2 M (suc t))) in
      sum-suc (λ p. g2 M p * g2 M (suc t - p)) (suc t)
      ∙ omega (arith, one, sum_same (λ p. g2 M p * g2 M (suc t - p)) (λ p. g2 M p * g2 M (suc (t - p))) (suc t) each)
    where
      each : (p : ℕ) → p < suc t → g2 M p * g2 M (suc t - p) ≡ g2 M p * g2 M (suc (t - p))
      each p l = let off : suc t - p ≡ suc (t - p) = omega arith in ap (λ (v : ℕ). g2 M p * g2 M v) off

  pub g4-step : g4 M (suc t) + 2 * sum (g2 M) (t + 2 - M) ≡ g4 M t + sum (g2 M) (t + 2) + sum (g2 M) (t + 2 - 2 * M)
  g4-step =
      let one : suc t - (M - 1) ≡ t + 2 - M = omega arith in
      let two : suc t - (2 * M - 1) ≡ t + 2 - 2 * M = omega arith in
      let all : t + 2 ≡ suc (suc t) = omega arith in
      let short : last_of (M - 1) + sum (g2 M) (t + 2 - M) ≡ sum (g2 M) (suc t) = rw one at (last-of (M - 1)) in
      let long : last_of (2 * M - 1) + sum (g2 M) (t + 2 - 2 * M) ≡ sum (g2 M) (suc t) = rw two at (last-of (2 * M - 1)) in
      let whole : sum (g2 M) (t + 2) ≡ sum (g2 M) (suc t) + g2 M (suc t) = rw all (sum-suc (g2 M) (suc t)) in
      combined _ _ _ _ _ _ _ _ _ next balance short long _ whole
