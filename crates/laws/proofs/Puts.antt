-- Laws of `put` and `Put`: nothing put leaves the buffer; a store, a run of stores and a loan that comes back each put a part; a part put
-- behind a part is the two put at once; how long the buffer is, and what it starts with. Assumes nothing.
use mathlib.Core.List.{List, [], ◌∷◌, ◌++◌, append_assoc, append-nil}
use mathlib.Core.Path.{◌≡◌, sym, ap, ap₂, ◌∙◌}
use Prim.Native.Nat.{ℕ, suc, ◌+◌, ◌-◌, ◌≤◌, ◌<◌}
use native.Mathlib.Nat.{add-zero, zero-add, add_assoc}
use native.Mathlib.Numerals.{add-one}
use native.Mathlib.Omega.{arith}
use lib.ListN.{length, take, drop, set, take-append-drop, length-append, length-drop, drop_of_length-le}
use lib.Seq.{length-take-le, set_split, take_at, drop_at, drop-drop, sets, sets-eq}
use borrow.Rule.Slice.PartMut.{put_mid}
use Rattle.laws.specs.Put.{put, Put}

-- nothing
pub put-nothing : (buffer : List ℕ) (at : ℕ) → put buffer at [] ≡ buffer
put-nothing buffer at = rw (add-zero, take-append-drop at buffer)

-- by one store
pub put-store : (buffer : List ℕ) (at x : ℕ) → at < length buffer → set buffer at x ≡ put buffer at (x ∷ [])
put-store buffer at x h = rw (add-one, set_split buffer at x h)

-- by stores one after the other
pub put-stores : (buffer : List ℕ) (at : ℕ) (part : List ℕ) → at + length part ≤ length buffer → sets buffer at part ≡ put buffer at part
put-stores buffer at part h = sets-eq part buffer at h ∙ append_assoc (take at buffer) part (drop (at + length part) buffer)

-- and by four of them
pub four-stores :
    (buffer : List ℕ) (at a b c d : ℕ)
    → at + 4 ≤ length buffer
    → set (set (set (set buffer at a) (at + 1) b) (at + 2) c) (at + 3) d ≡ put buffer at (a ∷ b ∷ c ∷ d ∷ [])
four-stores buffer at a b c d room =
    let second : at + 1 ≡ suc at = omega arith in
    let third : at + 2 ≡ suc (suc at) = omega arith in
    let fourth : at + 3 ≡ suc (suc (suc at)) = omega arith in
    rw (second, third, fourth) (put-stores buffer at (a ∷ b ∷ c ∷ d ∷ []) room)

-- by a loan of the places from `at` to `end`
pub put_loan :
    (buffer : List ℕ) (at end : ℕ) (part : List ℕ) → end ≡ at + length part → put_mid at (end - at) buffer part ≡ put buffer at part
put_loan buffer at end part h =
    let same : at + (end - at) ≡ at + length part = omega arith in
    ap (λ (rest : List ℕ). take at buffer ++ (part ++ rest)) (drop-drop (end - at) at buffer ∙ ap (λ (n : ℕ). drop n buffer) same)

-- A part at a place inside the buffer.
module _ (buffer : List ℕ) (at : ℕ) (part : List ℕ) (inside : at ≤ length buffer) where
  front_length : length (take at buffer ++ part) ≡ at + length part
  front_length = length-append (take at buffer) part ∙ ap (λ (n : ℕ). n + length part) (length-take-le at buffer inside)

  regroup : put buffer at part ≡ (take at buffer ++ part) ++ drop (at + length part) buffer
  regroup = sym (append_assoc (take at buffer) part (drop (at + length part) buffer))

  -- where the part has room the buffer keeps its length
  pub length-put : at + length part ≤ length buffer → length (put buffer at part) ≡ length buffer
  length-put room =
      ap length regroup
      ∙ length-append (take at buffer ++ part) (drop (at + length part) buffer)
      ∙ omega (arith, front_length, length-drop (at + length part) buffer)

  -- as far as the part goes it is what it was, and then the part
  pub take_put : take (at + length part) (put buffer at part) ≡ take at buffer ++ part
  take_put = ap (take (at + length part)) regroup ∙ take_at (take at buffer ++ part) _ (at + length part) front_length

  -- and behind it what it was
  drop-put : (n : ℕ) → drop (at + length part + n) (put buffer at part) ≡ drop (at + length part + n) buffer
  drop-put n =
      sym (drop-drop n (at + length part) (put buffer at part))
      ∙ ap (drop n) (ap (drop (at + length part)) regroup ∙ drop_at (take at buffer ++ part) _ (at + length part) front_length)
      ∙ drop-drop n (at + length part) buffer

  -- a part behind the part
  pub put-behind : (more : List ℕ) → put (put buffer at part) (at + length part) more ≡ put buffer at (part ++ more)
  put-behind more =
      ap₂ (λ (x y : List ℕ). x ++ (more ++ y)) take_put (drop-put (length more))
      ∙ rw (append_assoc (take at buffer) part, append_assoc part more, length-append part more, add_assoc at (length part) (length more))

-- a store, and the rest of the part behind it
pub put_first :
    (buffer : List ℕ) (at x : ℕ) (rest : List ℕ)
    → at < length buffer
    → put (set buffer at x) (at + 1) rest ≡ put buffer at (x ∷ rest)
put_first buffer at x rest h = rw (put-store buffer at x h) (put-behind buffer at (x ∷ []) (omega arith) rest)

-- The same of a part and the place behind it: nothing, and a part behind a part.
pub put_none : {b : List ℕ} {at : ℕ} → Put [] b b at at
put_none {b} {at} = record { buffer = sym (put-nothing b at); place = sym (add-zero at) }

pub put-more :
    {s t a b c : List ℕ} {at k m : ℕ} → at ≤ length a → Put s a b at k → Put t b c k m → Put (s ++ t) a c at m
put-more {s} {t} {a} {b} {c} {at} {k} {m} inside p q =
    record {
      buffer = q.buffer ∙ rw (p.place, p.buffer) (put-behind a at s inside t);
      place = omega (arith, p.place, q.place, length-append s t);
    }

-- at the front, and where it is the whole
pub put_front : {s a b : List ℕ} {k : ℕ} → Put s a b 0 k → b ≡ s ++ drop (length s) a
put_front {s} {a} p = p.buffer ∙ ap (λ (n : ℕ). s ++ drop n a) (zero-add (length s))

pub put_whole : {s a b : List ℕ} {k : ℕ} → Put s a b 0 k → length a ≡ length s → b ≡ s
put_whole {s} {a} p size =
    let short : length a ≤ length s = omega arith in
    put_front p ∙ ap (λ (l : List ℕ). s ++ l) (drop_of_length-le a short) ∙ append-nil s
