-- Bits followed by their own check leave 0, and no other sixteen bits behind them do: sixteen bits leave 0 exactly where each of them is
-- the register's top bit as that leaves, so that the polynomial is never added. Assumes nothing.
use mathlib.Core.List.{List, [], ◌∷◌, ◌++◌, append_assoc, append-nil}
use mathlib.Core.Path.{◌≡◌, refl, sym, subst, ap, ap₂, ◌∙◌}
use Prim.Native.Nat.{ℕ, zero, suc, ◌+◌, ◌%◌, ◌<◌}
use native.Mathlib.Numerals.{add-one}
use native.Mathlib.Omega.{arith}
use lib.ListN.{length, get_or, take, replicate, length-append, length-replicate, get_or-replicate, replicate-append-replicate}
use lib.Seq.{get_or-append-add, take_at}
use Rattle.bits.specs.Digits.{Bits}
use Rattle.bits.proofs.Digitals.{bits-append}
use Rattle.sequences.specs.Register.{add, times, polynomial, step, feed, crc}
use Rattle.sequences.proofs.Adds.{zeros, add-zeros, bits-replicate}
use Rattle.sequences.proofs.Registers.{length-polynomial, length_up, bits_up, length-step, bits-step}
use Rattle.sequences.proofs.Registers.{feed-append, length-feed, bits-feed, ones, bits-ones, length-crc, bits-crc}

-- what is left of a check once m of its bits were fed: the others, and m zeros
length-left : (c : List ℕ) (m n : ℕ) → length c + m ≡ n → length (c ++ zeros m) ≡ n
length-left c m n e = length-append c (zeros m) ∙ (ap (λ (k : ℕ). length c + k) (length-replicate m 0) ∙ e)

one_more-zero : (c : List ℕ) (m : ℕ) → (c ++ zeros m) ++ 0 ∷ [] ≡ c ++ zeros (suc m)
one_more-zero c m =
    append_assoc c (zeros m) (0 ∷ []) ∙ ap (λ (z : List ℕ). c ++ z) (replicate-append-replicate m 1 0 ∙ ap zeros (add-one m))

-- a bit that is the top bit only moves the register up
moved_up : (t b : ℕ) (r : List ℕ) → Bits r → length r ≡ 15 → (t + b) % 2 ≡ 0 → step (t ∷ r) b ≡ r ++ 0 ∷ []
unfolding step times
moved_up t b r h l e =
    ap (λ (f : ℕ). add (r ++ 0 ∷ []) (times f polynomial)) e
    ∙ add-zeros (r ++ 0 ∷ []) (length polynomial) (bits_up r h) (omega (arith, length_up r l, length-polynomial))

-- so a register is emptied by its own bits
own-part : (c : List ℕ) (m : ℕ) → Bits c → length c + m ≡ 16 → feed (c ++ zeros m) c ≡ zeros 16
unfolding feed
own-part [] m h e = let all : m ≡ 16 = omega arith in ap zeros all
own-part (b ∷ c) m h e =
    let binary = bits-append c (zeros m) h.1 (bits-replicate m 0 (omega arith)) in
    let long = length-left c m 15 (omega arith) in
    ap (λ (r : List ℕ). feed r c) (moved_up b b (c ++ zeros m) binary long (omega arith) ∙ one_more-zero c m)
    ∙ own-part c (suc m) h.1 (omega arith)

-- a bit that is not the top bit leaves a 1 below, since the polynomial ends in 1
at_sum : (xs ys : List ℕ) (i : ℕ) → i < length xs → i < length ys → get_or (add xs ys) i 0 ≡ (get_or xs i 0 + get_or ys i 0) % 2
unfolding add
at_sum [] ys i k l = absurd (omega arith)
at_sum (x ∷ xs) [] i k l = absurd (omega arith)
at_sum (x ∷ xs) (y ∷ ys) zero k l = refl
at_sum (x ∷ xs) (y ∷ ys) (suc i) k l = at_sum xs ys i (omega arith) (omega arith)

polynomial_last : get_or polynomial 15 0 ≡ 1
unfolding polynomial
polynomial_last = refl

-- where m zeros stand behind others, of sixteen in all, the last is 0
last_zero : (c : List ℕ) (m : ℕ) → length c + suc m ≡ 16 → get_or (c ++ zeros (suc m)) 15 0 ≡ 0
last_zero c m e =
    subst (λ (n : ℕ). get_or (c ++ zeros (suc m)) n 0 ≡ 0) (omega arith)
    (get_or-append-add c (zeros (suc m)) m 0 ∙ get_or-replicate (suc m) m 0 0 (omega arith))

step_last : (t b f : ℕ) (r : List ℕ) → length r ≡ 15 → (t + b) % 2 ≡ suc f → get_or (step (t ∷ r) b) 15 0 ≡ 1
unfolding step times
step_last t b f r l e =
    let up = r ++ 0 ∷ [] in
    ap (λ (g : ℕ). get_or (add up (times g polynomial)) 15 0) e
    ∙ (at_sum up polynomial 15 (omega (arith, length_up r l)) (omega (arith, length-polynomial))
    ∙ omega (arith, last_zero r 0 (omega arith), polynomial_last))

-- so only its own bits empty a register
pub only_part : (r c : List ℕ) (m : ℕ) → Bits r → Bits c → length r ≡ 16 → length c + m ≡ 16 → feed r c ≡ zeros 16 → r ≡ c ++ zeros m
unfolding feed
only_part r [] m h k l e z = let all : 16 ≡ m = omega arith in z ∙ ap zeros all
only_part [] (b ∷ c) m h k l e z = absurd (omega arith)
only_part (t ∷ r) (b ∷ c) m h k l e z =
    let after = only_part (step (t ∷ r) b) c (suc m) (bits-step (t ∷ r) b h) k.1 (length-step (t ∷ r) b l) (omega arith) z in
    go ((t + b) % 2) refl after
  where
    short : length r ≡ 15
    short = omega arith

    go : (f : ℕ) → (t + b) % 2 ≡ f → step (t ∷ r) b ≡ c ++ zeros (suc m) → t ∷ r ≡ (b ∷ c) ++ zeros m
    go (suc f) s after =
        let one = sym (step_last t b f r short s) ∙ (ap (λ (x : List ℕ). get_or x 15 0) after ∙ last_zero c m (omega arith)) in
        absurd (omega arith)
    go zero s after =
        let left = c ++ zeros m in
        let both : r ++ 0 ∷ [] ≡ left ++ 0 ∷ [] = sym (moved_up t b r h.1 short s) ∙ (after ∙ sym (one_more-zero c m)) in
        let long = length-left c m 15 (omega arith) in
        let rest : r ≡ left = sym (take_at r (0 ∷ []) 15 short) ∙ (ap (take 15) both ∙ take_at left (0 ∷ []) 15 long) in
        let top : t ≡ b = omega (arith, h.0, k.0) in
        ap₂ ◌∷◌ top rest

-- the theorem, over bits of any length
module _ (bits : List ℕ) where
  pub own-leaves-zero : feed (replicate 16 1) (bits ++ crc bits) ≡ zeros 16
  unfolding crc
  own-leaves-zero =
      let register : feed ones bits ≡ crc bits ++ [] = sym (append-nil (crc bits)) in
      feed-append ones bits (crc bits)
      ∙ (ap (λ (r : List ℕ). feed r (crc bits)) register ∙ own-part (crc bits) 0 (bits-crc bits) (omega (arith, length-crc bits)))

  pub only-own-leaves-zero : (c : List ℕ) → Bits c → length c ≡ 16 → feed (replicate 16 1) (bits ++ c) ≡ zeros 16 → c ≡ crc bits
  unfolding crc
  only-own-leaves-zero c h l e =
      let binary = bits-feed ones bits bits-ones in
      let emptied = sym (feed-append ones bits c) ∙ e in
      sym (only_part (feed ones bits) c 0 binary h (length-feed ones bits refl) (omega arith) emptied ∙ append-nil c)
