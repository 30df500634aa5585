-- A picture place by place: one step of each loop over it, and the invariants of the loops that fill a slice. Assumes nothing.
use mathlib.Core.Bool.{Bool, ◌&&◌, cond}
use mathlib.Core.List.{List, [], ◌∷◌}
use mathlib.Core.Path.{◌≡◌, refl, sym, ap, ap₂, ◌∙◌}
use Prim.Native.Nat.{ℕ, suc, ◌+◌, ◌%◌, ◌≤◌, ◌<◌}
use native.Mathlib.Numerals.{add-one}
use native.Mathlib.Omega.{arith}
use lib.ListN.{length, get_or, drop, set, length-set, drop_of_length-le}
use lib.Seq.{drop-cons, drop-drop, get_or-drop}
use borrow.Author.Tests.{eq-eqb, ne_eqb}
use Rattle.std.specs.List.{list_all, zip}
use Rattle.laws.specs.Put.{put}
use Rattle.laws.proofs.Puts.{put-nothing, put_first, put_whole}
use Rattle.sequences.specs.Picture.{is_free, holds, free, inside, around, all_hold}
use Rattle.sequences.proofs.Pictures.{length-inside, length-around}

-- what stands at a place and behind it
pub at_place : (l : List ℕ) (i : ℕ) → i < length l → drop i l ≡ get_or l i 0 ∷ drop (i + 1) l
at_place l i h = drop-cons l i 0 h ∙ ap (λ (k : ℕ). get_or l i 0 ∷ drop k l) (sym (add-one i))

pub at_front : (l : List ℕ) (i : ℕ) → get_or (drop i l) 0 0 ≡ get_or l i 0
at_front l i = let e : i + 0 ≡ i = omega arith in get_or-drop i l 0 0 ∙ ap (λ (n : ℕ). get_or l n 0) e

-- a part that is as long as the slice
pub put-over : (slice part : List ℕ) → length slice ≡ length part → put slice 0 part ≡ part
put-over slice part e = put_whole {s = part} {a = slice} (record { buffer = refl; place = refl }) e

-- the test of places and bits in pairs
pub holds-all :
    (picture bits : List ℕ) → length bits ≡ length picture → list_all (λ p. holds p.0 p.1) (zip picture bits) ≡ all_hold picture bits
unfolding all_hold
holds-all [] bits e = refl
holds-all (place ∷ picture) [] e = absurd (omega arith)
holds-all (place ∷ picture) (bit ∷ bits) e =
    let rest : length bits ≡ length picture = omega arith in
    ap (λ (v : Bool). holds place bit && v) (holds-all picture bits rest)

-- place i, and those behind it
module _ (picture : List ℕ) (i : ℕ) where
  abbrev place_at : ℕ
  place_at = get_or picture i 0

  abbrev later : List ℕ
  later = drop (i + 1) picture

  free-next : i < length picture → free (drop i picture) ≡ cond (is_free place_at) (suc (free later)) (free later)
  unfolding free
  free-next h = ap free (at_place picture i h)

  module _ (bits : List ℕ) where
    inside-next :
        i < length picture → i < length bits
        → inside (drop i picture) (drop i bits)
        ≡ cond (is_free place_at) (get_or bits i 0 ∷ inside later (drop (i + 1) bits)) (inside later (drop (i + 1) bits))
    unfolding inside
    inside-next h k = ap₂ inside (at_place picture i h) (at_place bits i k)

    inside_none : length picture ≤ i → inside (drop i picture) (drop i bits) ≡ []
    unfolding inside
    inside_none h = ap (λ (p : List ℕ). inside p (drop i bits)) (drop_of_length-le picture h)

  module _ (body : List ℕ) (k : ℕ) where
    around-next :
        i < length picture
        → around (drop i picture) (drop k body)
        ≡ cond (is_free place_at) (get_or body k 0 ∷ around later (drop (k + 1) body)) (place_at % 2 ∷ around later (drop k body))
    unfolding around
    around-next h =
        ap (λ (p : List ℕ). around p (drop k body)) (at_place picture i h)
        ∙ ap₂ (λ (b : ℕ) (r : List ℕ). cond (is_free place_at) (b ∷ around later r) (place_at % 2 ∷ around later (drop k body)))
        (at_front body k) (drop-drop 1 k body)

    around_none : length picture ≤ i → around (drop i picture) (drop k body) ≡ []
    unfolding around
    around_none h = ap (λ (p : List ℕ). around p (drop k body)) (drop_of_length-le picture h)

  -- a free place, and a fixed one
  free-here : i < length picture → place_at ≡ 46 → free (drop i picture) ≡ suc (free later)
  free-here h e = free-next h ∙ ap (λ (v : Bool). cond v (suc (free later)) (free later)) (eq-eqb place_at 46 e)

  fixed-here : i < length picture → (place_at ≡ 46 → ⊥) → free (drop i picture) ≡ free later
  fixed-here h e = free-next h ∙ ap (λ (v : Bool). cond v (suc (free later)) (free later)) (ne_eqb place_at 46 e)

-- The invariant of `take_inside` at place i, k bits being taken: once what stands in the free places from i on is put, what stands in all
-- of them is.
pub record Gathered (picture bits body₀ body : List ℕ) (k i : ℕ) : Type 0 where
  pub up_to : i ≤ length picture
  pub room : length body₀ ≡ free picture
  pub same : length body ≡ length body₀
  pub place : k + free (drop i picture) ≡ free picture
  pub list : put body k (inside (drop i picture) (drop i bits)) ≡ put body₀ 0 (inside picture bits)

pub gathered_none : (picture bits body : List ℕ) → length body ≡ free picture → Gathered picture bits body body 0 0
gathered_none picture bits body h = record { up_to = omega arith; room = h; same = refl; place = omega arith; list = refl }

module _ (picture bits body₀ body : List ℕ) (k i : ℕ)
    (t : Gathered picture bits body₀ body k i)
    (lengths : length bits ≡ length picture) where
  module _ (h : i < length picture) where
    abbrev bit : ℕ
    bit = get_or bits i 0

    abbrev left : List ℕ
    left = inside (drop (i + 1) picture) (drop (i + 1) bits)

    -- what stands in the places that are left, where place i is free or not
    abbrev inside-from : Bool → List ℕ
    inside-from v = cond v (bit ∷ left) left

    pub gathered_room : get_or picture i 0 ≡ 46 → k < length body
    gathered_room e = omega (arith, free-here picture i h e, t.place, t.room, t.same)

    pub gathered_free : get_or picture i 0 ≡ 46 → Gathered picture bits body₀ (set body k (get_or bits i 0)) (k + 1) (i + 1)
    gathered_free e =
        let here = inside-next picture i bits h (omega arith) ∙ ap inside-from (eq-eqb (place_at picture i) 46 e) in
        record {
          up_to = omega arith;
          room = t.room;
          same = length-set body k bit ∙ t.same;
          place = omega (arith, free-here picture i h e, t.place);
          list = put_first body k bit left (gathered_room e) ∙ (ap (put body k) (sym here) ∙ t.list);
        }

    pub gathered_fixed : (get_or picture i 0 ≡ 46 → ⊥) → Gathered picture bits body₀ body k (i + 1)
    gathered_fixed e =
        let here = inside-next picture i bits h (omega arith) ∙ ap inside-from (ne_eqb (place_at picture i) 46 e) in
        record {
          up_to = omega arith;
          room = t.room;
          same = t.same;
          place = omega (arith, fixed-here picture i h e, t.place);
          list = ap (put body k) (sym here) ∙ t.list;
        }

  pub gathered_all : length picture ≤ i → body ≡ inside picture bits
  gathered_all h =
      sym (put-nothing body k)
      ∙ (ap (put body k) (sym (inside_none picture i bits h))
      ∙ (t.list ∙ put-over body₀ (inside picture bits) (t.room ∙ sym (length-inside picture bits lengths))))

-- The invariant of `put_around` at place i, k bits being used: once what belongs into the places from i on is put, the whole sequence is.
pub record Framed (picture body bits₀ bits : List ℕ) (k i : ℕ) : Type 0 where
  pub up_to : i ≤ length picture
  pub room : length bits₀ ≡ length picture
  pub same : length bits ≡ length bits₀
  pub place : k + free (drop i picture) ≡ length body
  pub list : put bits i (around (drop i picture) (drop k body)) ≡ put bits₀ 0 (around picture body)

pub framed_none :
    (picture body bits : List ℕ) → length bits ≡ length picture → length body ≡ free picture → Framed picture body bits bits 0 0
framed_none picture body bits h l = record { up_to = omega arith; room = h; same = refl; place = omega arith; list = refl }

module _ (picture body bits₀ bits : List ℕ) (k i : ℕ) (t : Framed picture body bits₀ bits k i) where
  module _ (h : i < length picture) where
    -- the sequence in the places that are left, where place i is free or not
    abbrev behind-free : List ℕ
    behind-free = around (drop (i + 1) picture) (drop (k + 1) body)

    abbrev behind-fixed : List ℕ
    behind-fixed = around (drop (i + 1) picture) (drop k body)

    abbrev around-from : Bool → List ℕ
    around-from v = cond v (get_or body k 0 ∷ behind-free) (place_at picture i % 2 ∷ behind-fixed)

    bits-room : i < length bits
    bits-room = omega (arith, t.room, t.same)

    pub framed-room : get_or picture i 0 ≡ 46 → k < length body
    framed-room e = omega (arith, free-here picture i h e, t.place)

    pub framed-free : get_or picture i 0 ≡ 46 → Framed picture body bits₀ (set bits i (get_or body k 0)) (k + 1) (i + 1)
    framed-free e =
        let here = around-next picture i body k h ∙ ap around-from (eq-eqb (place_at picture i) 46 e) in
        record {
          up_to = omega arith;
          room = t.room;
          same = length-set bits i (get_or body k 0) ∙ t.same;
          place = omega (arith, free-here picture i h e, t.place);
          list = put_first bits i (get_or body k 0) behind-free bits-room ∙ (ap (put bits i) (sym here) ∙ t.list);
        }

    pub framed_fixed : (get_or picture i 0 ≡ 46 → ⊥) → Framed picture body bits₀ (set bits i (get_or picture i 0 % 2)) k (i + 1)
    framed_fixed e =
        let here = around-next picture i body k h ∙ ap around-from (ne_eqb (place_at picture i) 46 e) in
        record {
          up_to = omega arith;
          room = t.room;
          same = length-set bits i (place_at picture i % 2) ∙ t.same;
          place = omega (arith, fixed-here picture i h e, t.place);
          list = put_first bits i (place_at picture i % 2) behind-fixed bits-room ∙ (ap (put bits i) (sym here) ∙ t.list);
        }

  pub framed-all : length picture ≤ i → bits ≡ around picture body
  framed-all h =
      sym (put-nothing bits i)
      ∙ (ap (put bits i) (sym (around_none picture i body k h))
      ∙ (t.list ∙ put-over bits₀ (around picture body) (t.room ∙ sym (length-around picture body))))
