-- What the check notices: bits followed by their check, with a burst of up to sixteen places turned, do not leave 0. A single wrong bit is
-- a burst of one. Assumes nothing.
use mathlib.Core.List.{List, [], ◌∷◌, ◌++◌}
use mathlib.Core.Path.{◌≡◌, refl, sym, ap, ◌∙◌}
use Prim.Native.Nat.{ℕ, zero, suc, ◌-◌, ◌≤◌}
use native.Mathlib.Omega.{arith}
use lib.ListN.{length, get_or, replicate}
use Rattle.bits.specs.Digits.{Bits}
use Rattle.sequences.specs.Register.{add, times, polynomial, step, feed, crc}
use Rattle.sequences.proofs.Adds.{zeros, add-zeros, zeros-add, bits-replicate}
use Rattle.sequences.proofs.Linear.{feed-sum}
use Rattle.sequences.proofs.Own.{only_part, own-leaves-zero}
use Rattle.sequences.proofs.Registers.{feed-nil, feed-append, length-feed, bits-feed, ones, bits-ones}

step_none : step (zeros 16) 0 ≡ zeros 16
unfolding step times add polynomial
step_none = refl

-- a register of zeros stays so while zeros come
still : (n : ℕ) → feed (zeros 16) (zeros n) ≡ zeros 16
unfolding feed
still zero = refl
still (suc n) = ap (λ (r : List ℕ). feed r (zeros n)) step_none ∙ still n

-- and comes to be so by zeros only from zeros
only-still : (r : List ℕ) (n : ℕ) → Bits r → length r ≡ 16 → feed r (zeros n) ≡ zeros 16 → r ≡ zeros 16
only-still r zero h l e = sym (feed-nil r) ∙ e
only-still r (suc n) h l e =
    let next = feed r (0 ∷ []) in
    let rest = sym (feed-append r (0 ∷ []) (zeros n)) ∙ e in
    let after = only-still next n (bits-feed r (0 ∷ []) h) (length-feed r (0 ∷ []) l) rest in
    only_part r (0 ∷ []) 15 h (omega arith, tt) l refl after

-- a burst: any sixteen places or fewer, with a first one that is turned, between places that are not
burst_seen :
    (before after : ℕ) (burst : List ℕ) → Bits burst → length burst ≤ 15
    → feed (zeros 16) (zeros before ++ ((1 ∷ burst) ++ zeros after)) ≡ zeros 16 → ⊥
burst_seen before after burst h l e =
    let wrong : List ℕ = 1 ∷ burst in
    let middle = feed (zeros 16) wrong in
    let none = bits-replicate 16 0 (omega arith) in
    let whole : feed (zeros 16) (zeros before ++ (wrong ++ zeros after)) ≡ feed middle (zeros after) =
    feed-append (zeros 16) (zeros before) (wrong ++ zeros after)
    ∙ (ap (λ (r : List ℕ). feed r (wrong ++ zeros after)) (still before) ∙ feed-append (zeros 16) wrong (zeros after)) in
    let empty : middle ≡ zeros 16 =
    only-still middle after (bits-feed (zeros 16) wrong none) (length-feed (zeros 16) wrong refl) (sym whole ∙ e) in
    let same : zeros 16 ≡ wrong ++ zeros (15 - length burst) =
    only_part (zeros 16) wrong (15 - length burst) none (omega arith, h) refl (omega arith) empty in
    let top : ◌≡◌ {A = ℕ} 0 1 = ap (λ (x : List ℕ). get_or x 0 0) same in
    omega arith

-- the theorem
pub burst_noticed :
    (bits : List ℕ) (before after : ℕ) (burst : List ℕ) → Bits burst → length burst ≤ 15
    → length (bits ++ crc bits) ≡ length (zeros before ++ ((1 ∷ burst) ++ zeros after))
    → feed (replicate 16 1) (add (bits ++ crc bits) (zeros before ++ ((1 ∷ burst) ++ zeros after))) ≡ zeros 16 → ⊥
burst_noticed bits before after burst h l e z =
    let own = bits ++ crc bits in
    let turned = zeros before ++ ((1 ∷ burst) ++ zeros after) in
    let left = feed (zeros 16) turned in
    let sum : feed ones (add own turned) ≡ add (feed ones own) left =
    ap (λ (r : List ℕ). feed r (add own turned)) (sym (add-zeros ones 16 bits-ones (omega arith)))
    ∙ feed-sum ones (zeros 16) own turned refl refl e in
    let binary = bits-feed (zeros 16) turned (bits-replicate 16 0 (omega arith)) in
    let only : add (zeros 16) left ≡ left = zeros-add 16 left binary (omega (arith, length-feed (zeros 16) turned refl)) in
    burst_seen before after burst h l
    (sym only ∙ (ap (λ (r : List ℕ). add r left) (sym (own-leaves-zero bits)) ∙ (sym sum ∙ z)))

-- a single wrong bit
pub bit_noticed :
    (bits : List ℕ) (before after : ℕ) → length (bits ++ crc bits) ≡ length (zeros before ++ ((1 ∷ []) ++ zeros after))
    → feed (replicate 16 1) (add (bits ++ crc bits) (zeros before ++ ((1 ∷ []) ++ zeros after))) ≡ zeros 16 → ⊥
bit_noticed bits before after e z = burst_noticed bits before after [] tt (omega arith) e z
