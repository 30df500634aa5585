-- When what the code has found is what `located_of` says. Assumes nothing.
use mathlib.Core.Path.{◌≡◌, subst, ap}
use Prim.Native.Nat.{ℕ, suc, ◌+◌, ◌*◌, ◌-◌, ◌≤◌, ◌<◌}
use native.Mathlib.Numerals.{add-one}
use native.Mathlib.Omega.{arith}
use Rattle.laws.specs.Largest.{largest}
use Rattle.laws.proofs.Largests.{largest_is}
use Rattle.laws.proofs.Rising.{RisesTo, largest-top, largest-below}
use Rattle.listing.specs.Counts.{lighter}
use Rattle.listing.proofs.Bounds.{lighter-more}
use Rattle.counts.specs.Located.{located_of}

-- the largest place, with what r is above it
pub located_is :
    (f : ℕ → ℕ) (r n b rest : ℕ) → largest f r n ≡ b → f b + rest ≡ r → record { at = b; rest = rest } ≡ located_of f r n
unfolding located_of
located_is f r n b rest e h = rw e (ap (λ (k : ℕ). record { at = b; rest = k }) (omega arith))

-- a first weight whose product reaches above r is the one that is found
pub located-within :
    (g : ℕ → ℕ) (t r b rest : ℕ)
    → b ≤ t
    → lighter g t b + rest ≡ r
    → rest < g b * g (t - b)
    → record { at = b; rest = rest } ≡ located_of (lighter g t) r t
located-within g t r b rest h e l = located_is (lighter g t) r t b rest found e
  where
    found : largest (lighter g t) r t ≡ b
    found = unfold lighter in largest_is (λ p. g p * g (t - p)) r t b h (record { from = omega arith; to = omega arith })

-- the last first weight is the one that is found where r is below the whole sum
pub located_last :
    (g : ℕ → ℕ) (t r b rest : ℕ)
    → b ≤ t
    → t ≤ b
    → lighter g t b + rest ≡ r
    → r < lighter g t (suc t)
    → record { at = b; rest = rest } ≡ located_of (lighter g t) r t
located_last g t r b rest h k e l =
    located-within g t r b rest h e (omega (arith, lighter-more g t b, subst (λ (n : ℕ). r < lighter g t n) one_more l))
  where
    one_more : suc t ≡ b + 1
    one_more = omega arith

-- a place of a rising row that is small enough, before one that is not
pub located-rising :
    (f : ℕ → ℕ) (s top a : ℕ)
    → RisesTo f top
    → a < top
    → f a ≤ s
    → s < f (a + 1)
    → record { at = a; rest = s - f a } ≡ located_of f s top
located-rising f s top a rises h k l =
    located_is f s top a (s - f a) (largest-below f s top a rises h k (rw add-one at l)) (omega arith)

-- the last place of a row, where it is small enough
pub located-top :
    (f : ℕ → ℕ) (s top a : ℕ) → a ≤ top → top ≤ a → f a ≤ s → record { at = a; rest = s - f a } ≡ located_of f s top
located-top f s top a h l k = located_is f s top a (s - f a) (rw (← same) (largest-top f s a k)) (omega arith)
  where
    same : a ≡ top
    same = omega arith
