-- A list cut into fours, as `chunks_exact(4)` cuts sixteen labels, and the ranges of the labels four by four. Assumes nothing.
use mathlib.Core.Bool.{◌&&◌}
use mathlib.Core.List.{List, [], ◌∷◌, ◌++◌}
use mathlib.Core.Path.{◌≡◌, refl, sym, ap, ap₂, ◌∙◌}
use Prim.Native.Nat.{ℕ, zero, suc, ◌+◌, ◌*◌, ◌-◌, ◌^◌, ◌≤◌, ◌<◌}
use native.Mathlib.Omega.{arith}
use lib.ListN.{length, get_or, set, take, drop, length-append, length-drop}
use lib.Seq.{get_or-drop, drop-drop, length-take-le, take_at, drop_at}
use borrow.Rule.Slice.PartMut.{put_mid}
use Rattle.laws.specs.Put.{put}
use Rattle.laws.proofs.Puts.{put_loan}
use Rattle.std.specs.declared.slice.ChunksExact.{ChunksExact}
use Rattle.std.specs.Slice.Iter.{chunks_exact_rest, chunks_exact_size, chunks_exact_steps}
use Rattle.std.specs.declared.iter.Enumerate.{Enumerate}
use Rattle.std.specs.Iterator.{AlwaysYields}
use Rattle.std.specs.Iterator.Adapters.{enumerate_source, enumerate_count, enumerate_steps}
use Rattle.std.specs.Prelude.{Some, None}
use denote.Ref.{Bor}
use Rattle.std.specs.List.{list_all}
use Rattle.std.proofs.lemmas.List.{get_or-take}
use Rattle.frame.specs.Reading.{symbol_read, in_range, in_range_at}

unfoldable pub fours : ℕ → List ℕ → List (List ℕ)
fours zero l = []
fours (suc k) l = take 4 l ∷ fours k (drop 4 l)

-- what the iterator gives
pub yields_fours :
    (k : ℕ) (s : ChunksExact ℕ) (l : List ℕ)
    → chunks_exact_rest s ≡ l
    → chunks_exact_size s ≡ 4
    → length l ≡ 4 * k
    → AlwaysYields chunks_exact_steps (λ x. x.now) s (fours k l)
unfolding fours
yields_fours zero s l is_rest is_size long =
    λ x j h. absurd (omega (arith, ap length h.1.0, ap length is_rest, length-append x.now (chunks_exact_rest j), h.1.1))
yields_fours (suc k) s l is_rest is_size long = (
  λ j h. absurd (omega (arith, h.1.0, ap length is_rest)),
  λ x j h.
      let four : length x.now ≡ 4 = h.1.1 ∙ is_size in
      let cut : l ≡ x.now ++ chunks_exact_rest j = sym is_rest ∙ h.1.0 in (
        rw cut (sym (take_at x.now (chunks_exact_rest j) 4 four)),
        yields_fours k j (drop 4 l) (rw cut (sym (drop_at x.now (chunks_exact_rest j) 4 four))) (h.0 ∙ is_size) (length-drop 4 l ∙ omega (arith, long)),
      ),
)

-- what four labels say, out of the four alone
module _ (l : List ℕ) where
  zeroth : get_or (take 4 l) 0 0 ≡ get_or l 0 0
  zeroth = get_or-take 4 l 0 0 (omega arith)

  first : get_or (take 4 l) 1 0 ≡ get_or l 1 0
  first = get_or-take 4 l 1 0 (omega arith)

  second : get_or (take 4 l) 2 0 ≡ get_or l 2 0
  second = get_or-take 4 l 2 0 (omega arith)

  third : get_or (take 4 l) 3 0 ≡ get_or l 3 0
  third = get_or-take 4 l 3 0 (omega arith)

  one_four : (top : ℕ) → in_range_at top (take 4 l) 0 ≡ in_range_at top l 0
  one_four top = rw (zeroth, first, second, third)

  pub symbol-four : (q z n : ℕ) → n ≡ 4 → symbol_read q z (take n l) ≡ symbol_read q z l
  unfolding symbol_read
  symbol-four q z n e = rw (e, zeroth, first, second, third)

-- and the Z among them
pub turn-four : (labels : List ℕ) (n at : ℕ) → n ≡ 4 → get_or (take n (drop at labels)) 2 0 ≡ get_or labels (at + 2) 0
turn-four labels n at e = rw e (second (drop at labels) ∙ get_or-drop at labels 2 0)

-- The labels from the j-th four on are left, four by four, j being what is counted.
pub record FoursLeft (labels : List ℕ) (left : Enumerate (ChunksExact ℕ)) : Type 0 where
  pub size : chunks_exact_size (enumerate_source left) ≡ 4
  pub rest : chunks_exact_rest (enumerate_source left) ≡ drop (4 * enumerate_count left) labels

module _ {labels : List ℕ} {left : Enumerate (ChunksExact ℕ)} (h : FoursLeft labels left) where
  -- the next four are those of symbol j
  module _ (j : ℕ) (four : Bor (List ℕ)) (next : Enumerate (ChunksExact ℕ))
      (step : enumerate_steps chunks_exact_steps left (Some (j, four)) next) where
    pub four-long : length four.now ≡ 4
    four-long = step.0.1.1 ∙ h.size

    four-first : drop (4 * enumerate_count left) labels ≡ four.now ++ chunks_exact_rest (enumerate_source next)
    four-first = sym h.rest ∙ step.0.1.0

    pub four_is : four.now ≡ take 4 (drop (4 * enumerate_count left) labels)
    four_is = sym (ap (take 4) four-first ∙ take_at four.now (chunks_exact_rest (enumerate_source next)) 4 four-long)

    -- and its Z is among them
    pub turn_is : get_or four.now 2 0 ≡ get_or labels (4 * enumerate_count left + 2) 0
    turn_is = rw four_is (turn-four labels 4 (4 * enumerate_count left) refl)

    pub fours-next : FoursLeft labels next
    fours-next =
        let e : 4 * enumerate_count left + 4 ≡ 4 * enumerate_count next = omega (arith, step.2) in
        record {
          size = step.0.0 ∙ h.size;
          rest =
              sym (drop_at four.now (chunks_exact_rest (enumerate_source next)) 4 four-long)
              ∙ (sym (ap (drop 4) four-first) ∙ (drop-drop 4 (4 * enumerate_count left) labels ∙ rw e));
        }

    -- of 4k labels there are k fours
    pub four-more : (k : ℕ) → length labels ≡ 4 * k → enumerate_count left < k
    four-more k long =
        omega (
          arith,
          four-long,
          ap length four-first,
          length-append four.now (chunks_exact_rest (enumerate_source next)),
          length-drop (4 * enumerate_count left) labels,
        )

  pub fours_end :
      (k : ℕ) → length labels ≡ 4 * k → (next : Enumerate (ChunksExact ℕ)) → enumerate_steps chunks_exact_steps left None next
      → k ≤ enumerate_count left
  fours_end k long next step = omega (arith, step.0.1.0, h.size, ap length h.rest, length-drop (4 * enumerate_count left) labels)

pub fours-in_range :
    (M q k : ℕ) (l : List ℕ) → list_all (λ four. in_range_at (M * 2 ^ q) four 0) (fours k l) ≡ in_range M q k l
unfolding fours in_range
fours-in_range M q zero l = refl
fours-in_range M q (suc k) l = ap₂ ◌&&◌ (one_four l (M * 2 ^ q)) (fours-in_range M q k (drop 4 l))

-- four out of many
pub length-four : (labels : List ℕ) (n at : ℕ) → n ≡ 4 → at + 4 ≤ length labels → length (take n (drop at labels)) ≡ 4
length-four labels n at e room = rw e (length-take-le 4 (drop at labels) (omega (arith, length-drop at labels)))

-- a loan of four places that are all stored to puts the four there
module _ (a b c d : ℕ) where
  all_stored : (l : List ℕ) → length l ≡ 4 → set (set (set (set l 0 a) 1 b) 2 c) 3 d ≡ a ∷ b ∷ c ∷ d ∷ []
  all_stored [] e = absurd (omega arith)
  all_stored (_ ∷ []) e = absurd (omega arith)
  all_stored (_ ∷ _ ∷ []) e = absurd (omega arith)
  all_stored (_ ∷ _ ∷ _ ∷ []) e = absurd (omega arith)
  all_stored (_ ∷ _ ∷ _ ∷ _ ∷ []) e = refl
  all_stored (_ ∷ _ ∷ _ ∷ _ ∷ _ ∷ l) e = absurd (omega arith)

  pub loan-four :
      (out : List ℕ) (at end : ℕ) → end ≡ at + 4 → at + 4 ≤ length out
      → put_mid at (end - at) out (set (set (set (set (take (end - at) (drop at out)) 0 a) 1 b) 2 c) 3 d) ≡ put out at (a ∷ b ∷ c ∷ d ∷ [])
  loan-four out at end e room =
      ap (put_mid at (end - at) out) (all_stored _ (length-four out (end - at) at (omega arith) room))
      ∙ put_loan out at end (a ∷ b ∷ c ∷ d ∷ []) e
