-- The numbers of the frames' rings, which the pass of 11 finds one after the other and which are read from then on. Assumes nothing.
use mathlib.Core.Bool.{Bool, true}
use mathlib.Core.List.{List}
use mathlib.Core.Path.{◌≡◌, refl, sym, ap, ◌∙◌}
use Prim.Native.Nat.{ℕ, ◌+◌, ◌≤◌, ◌<◌}
use native.Mathlib.Decide.{dec_lt}
use native.Mathlib.Omega.{arith}
use lib.ListN.{length, get_or, set, length-set}
use lib.Seq.{get_or-set_same, get_or-set_other}
use Rattle.line.specs.declared.settings.Settings.{Settings}
use Rattle.line.proofs.Soundness.{Sound}
use Rattle.frame.specs.declared.shape.Shape.{Shape}
use Rattle.listing.specs.Number.{number}
use Rattle.listing.specs.Sets.{Below8, of_list}
use Rattle.frame.specs.Reading.{rings_read, number_read, in_range, shell_holds, number_fits}
use Rattle.frame.proofs.Lengths.{next_fits}
use Rattle.frame.proofs.Sixteen.{eight-below}
use Rattle.reader.specs.OneFrame.{number_at, Ranked}
use Rattle.frame.specs.Next.{shape_next}
use Rattle.coder.specs.Sending.{ring_count}
use Rattle.reader.proofs.Passes.{sixteen_at}

-- Of a frame's shape the number asks for q alone, which is that of the settings.
pub shape-number :
    (c : Settings) → Sound c → (labels : List ℕ) (k counter M : ℕ) (shape : Shape) → M ≡ ring_count c → shape ≡ shape_next c counter
    → number_read M shape (sixteen_at labels k) ≡ number_at c labels k
unfolding number_read
shape-number c sound labels k counter M shape m e = rw (m, e, (next_fits c sound counter).uncoded)

-- The rings of frame k, as the pass takes them out of its labels: they are below M, and their number is the frame's.
module _ (c : Settings) (labels : List ℕ) (k m : ℕ) (ring : List ℕ) (is_m : m ≡ ring_count c)
    (is_read : ring ≡ rings_read c.uncoded 4 (sixteen_at labels k)) where
  pub taken-below : in_range (ring_count c) c.uncoded 4 (sixteen_at labels k) ≡ true → Below8 m (of_list ring)
  taken-below ranges = rw (is_m, is_read) (eight-below (ring_count c) c.uncoded (sixteen_at labels k) ranges)

  pub taken-number : number m (of_list ring) ≡ number_at c labels k
  taken-number = rw (is_m, is_read)

-- those of k frames are found
pub record FirstRanked (c : Settings) (labels numbers : List ℕ) (k : ℕ) : Type 0 where
  pub size : length numbers ≡ 16
  pub done : (i : ℕ) → i < k → get_or numbers i 0 ≡ number_at c labels i

pub ranked_none : (c : Settings) (labels numbers : List ℕ) → length numbers ≡ 16 → FirstRanked c labels numbers 0
ranked_none c labels numbers size = record { size = size; done = λ i l. absurd (omega arith) }

-- and one more
pub ranked-more :
    (c : Settings) (labels numbers : List ℕ) (k number : ℕ) → FirstRanked c labels numbers k → k < 16 → number ≡ number_at c labels k
    → FirstRanked c labels (set numbers k number) (k + 1)
ranked-more c labels numbers k number h room e = record { size = length-set numbers k number ∙ h.size; done = done }
  where
    there : get_or (set numbers k number) k 0 ≡ number
    there = get_or-set_same numbers k number 0 (omega (arith, h.size))

    done : (i : ℕ) → i < k + 1 → get_or (set numbers k number) i 0 ≡ number_at c labels i
    done i l =
        elim (dec_lt i k) [
          | yes q ↦ get_or-set_other numbers k i number 0 (omega arith) ∙ h.done i q
          | no q ↦ (let same : i ≡ k = omega arith in rw same (there ∙ e))
        ]

-- all are
pub ranked-all :
    (c : Settings) → Sound c → (labels numbers : List ℕ) (k : ℕ) → FirstRanked c labels numbers k → c.frames ≤ k
    → Ranked c labels numbers
ranked-all c sound labels numbers k h all =
    record { room = omega (arith, h.size, sound.frames-most); found = λ i l. h.done i (omega arith) }

-- 11: whether a frame's number fits, its shape being the next one
pub number-fits_is :
    (c : Settings) → Sound c → (labels : List ℕ) (k counter : ℕ) (shape : Shape) (number : ℕ) (r : Bool) → shape ≡ shape_next c counter
    → number ≡ number_at c labels k → r ≡ shell_holds shape number → r ≡ number_fits (ring_count c) shape (sixteen_at labels k)
unfolding number_fits
number-fits_is c sound labels k counter shape number r is-shape is_number holds =
    holds ∙ ap (shell_holds shape) (is_number ∙ sym (shape-number c sound labels k counter (ring_count c) shape refl is-shape))
