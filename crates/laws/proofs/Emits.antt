-- Laws of `emit` and `iter`, and a buffer that is filled part by part: what is done and what is left make the whole. Parts may differ in
-- length, and a front may stand before them. Assumes nothing.
use mathlib.Core.List.{List, [], ◌++◌, append_assoc, append-nil}
use mathlib.Core.Path.{◌≡◌, refl, sym, ap, ◌∙◌}
use Prim.Native.Nat.{ℕ, zero, suc, ◌+◌, ◌*◌, ◌-◌, ◌≤◌, ◌<◌}
use native.Mathlib.Nat.{sub-zero, suc-mul}
use native.Mathlib.Omega.{arith}
use lib.ListN.{length, take, length-append}
use lib.Seq.{length-take-le, take_all}
use Rattle.laws.specs.Emit.{emit, iter}
use Rattle.laws.specs.Put.{put}
use Rattle.laws.proofs.Puts.{length-put, take_put}

module _ {S : Type 0} (next : S → S) where
  -- steps are taken one run after the other
  pub iter-add : (m n : ℕ) (s : S) → iter next (m + n) s ≡ iter next n (iter next m s)
  unfolding iter
  iter-add zero n s = let e : 0 + n ≡ n = omega arith in rw e
  iter-add (suc m) n s = let e : suc m + n ≡ suc (m + n) = omega arith in rw e (iter-add m n (next s))

module _ {S : Type 0} (out : S → List ℕ) (next : S → S) where
  -- and so are parts
  pub emit-add : (m n : ℕ) (s : S) → emit out next (m + n) s ≡ emit out next m s ++ emit out next n (iter next m s)
  unfolding emit iter
  emit-add zero n s = let e : 0 + n ≡ n = omega arith in rw e
  emit-add (suc m) n s =
      let e : suc m + n ≡ suc (m + n) = omega arith in
      rw e (ap (λ (l : List ℕ). out s ++ l) (emit-add m n (next s)) ∙ sym (append_assoc (out s) _ _))

  -- parts of one length
  pub emit-length : (k : ℕ) → ((s : S) → length (out s) ≡ k) → (n : ℕ) (s : S) → length (emit out next n s) ≡ n * k
  unfolding emit
  emit-length k each zero s = omega arith
  emit-length k each (suc n) s =
      length-append (out s) (emit out next n (next s)) ∙ omega (arith, each s, emit-length k each n (next s), suc-mul n k)

  -- the buffer, which is as long as the whole, holds the whole as far as `at`: a front, and i parts out of `total`; those from s on are
  -- left
  pub record Filling (front : List ℕ) (total : ℕ) (s₀ : S) (i : ℕ) (s : S) (buf : List ℕ) (at : ℕ) : Type 0 where
    pub up_to : i ≤ total
    pub within : at ≤ length buf
    pub size : length buf ≡ length (front ++ emit out next total s₀)
    pub made : take at buf ++ emit out next (total - i) s ≡ front ++ emit out next total s₀
    pub ends : iter next (total - i) s ≡ iter next total s₀

  -- after the front, before the parts
  pub filling_front :
      (front : List ℕ) (total : ℕ) (s₀ : S) (buf : List ℕ) (at : ℕ)
      → at ≤ length buf
      → length buf ≡ length (front ++ emit out next total s₀)
      → take at buf ≡ front
      → Filling front total s₀ 0 s₀ buf at
  filling_front front total s₀ buf at within size is_front =
      record { up_to = omega arith; within = within; size = size; made = rw (sub-zero, is_front); ends = rw sub-zero }

  -- with no front: nothing is done, all is left
  pub filling_none :
      (total : ℕ) (s₀ : S) (buf : List ℕ) → length buf ≡ length (emit out next total s₀) → Filling [] total s₀ 0 s₀ buf 0
  filling_none total s₀ buf size = filling_front [] total s₀ buf 0 (omega arith) size refl

module _ {S : Type 0} {out : S → List ℕ} {next : S → S} {front : List ℕ} {total : ℕ} {s₀ : S} {i : ℕ} {s : S} {buf : List ℕ} {at : ℕ}
    (f : Filling out next front total s₀ i s buf at) where
  -- a part more
  module _ (more : i < total) where
    one_off : total - i ≡ suc (total - (i + 1))
    one_off = omega arith

    part_off : emit out next (total - i) s ≡ out s ++ emit out next (total - (i + 1)) (next s)
    unfolding emit
    part_off = rw one_off

    step-off : iter next (total - (i + 1)) (next s) ≡ iter next (total - i) s
    unfolding iter
    step-off = rw one_off

    -- has room
    pub part_room : at + length (out s) ≤ length buf
    part_room =
        let whole = length-append (take at buf) (emit out next (total - i) s) in
        let left = ap length part_off ∙ length-append (out s) (emit out next (total - (i + 1)) (next s)) in
        omega (arith, ap length f.made, length-take-le at buf f.within)

    -- and where it is put, the next is to follow
    pub filling_more :
        (part after : List ℕ) (end : ℕ)
        → part ≡ out s
        → end ≡ at + length part
        → after ≡ put buf at part
        → Filling out next front total s₀ (i + 1) (next s) after end
    filling_more part after end is-out is-end is-put =
        let room : at + length part ≤ length buf = rw is-out part_room in
        let size : length after ≡ length buf = ap length is-put ∙ length-put buf at part f.within room in
        let done : take end after ≡ take at buf ++ part = rw (is-end, is-put) (take_put buf at part f.within) in
        let rest = emit out next (total - (i + 1)) (next s) in
        record {
          up_to = omega arith;
          within = omega arith;
          size = size ∙ f.size;
          made =
              ap (λ (l : List ℕ). l ++ rest) done
              ∙ append_assoc (take at buf) part rest
              ∙ ap (λ (l : List ℕ). take at buf ++ l) (ap (λ (l : List ℕ). l ++ rest) is-out ∙ sym part_off)
              ∙ f.made;
          ends = step-off ∙ f.ends;
        }

  -- nothing is left: the buffer is the whole, and s is the state after it
  module _ (all : total ≤ i) where
    none_left : total - i ≡ 0
    none_left = omega arith

    pub filling_whole : buf ≡ front ++ emit out next total s₀
    unfolding emit
    filling_whole =
        let done : take at buf ≡ front ++ emit out next total s₀ = sym (append-nil (take at buf)) ∙ (rw none_left at f.made) in
        let long : length buf ≤ at = omega (arith, ap length done, f.size, length-take-le at buf f.within) in
        sym (take_all at buf long) ∙ done

    pub filling_last : s ≡ iter next total s₀
    unfolding iter
    filling_last = rw none_left at f.ends
