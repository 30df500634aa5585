-- The rows of z8 for M = 1 to n, one after the other, as the table has them for n = 18: where each stands, and what it says.
-- Assumes nothing.
use mathlib.Core.List.{List, [], ◌++◌}
use mathlib.Core.Logic.{⊎_elim}
use mathlib.Core.Path.{◌≡◌, refl, ap, subst, ◌∙◌}
use Prim.Native.Nat.{ℕ, zero, suc, ◌+◌, ◌*◌, ◌-◌, ◌≤◌, ◌<◌}
use native.Mathlib.Nat.{suc-mul, mul-suc, eq-or-lt_of_le, le_of_suc-le-suc, not-suc-le-zero}
use native.Mathlib.Omega.{arith}
use lib.ListN.{get_or, length, length-append, get_or-append}
use lib.Seq.{get_or-append-add}
use Rattle.listing.specs.Counts.{z8}
use Rattle.listing.proofs.CountLaws.{z8_list, length_z8_list, z8_list_at}

-- the row of M = b + 1 has 8b + 1 numbers
unfoldable pub rows : ℕ → List ℕ
rows zero = []
rows (suc b) = rows b ++ z8_list (suc b) (8 * b + 1)

-- 4b² − 3b numbers stand before it
abbrev pub start : ℕ → ℕ
start b = 4 * (b * b) - 3 * b

-- said without the difference, since 4(b + 1)² − 3(b + 1) is 4b² − 3b and 8b + 1
pub length-rows : (b : ℕ) → length (rows b) + 3 * b ≡ 4 * (b * b)
unfolding rows
length-rows zero = refl
length-rows (suc b) =
    omega (
      arith,
      length-append (rows b) (z8_list (suc b) (8 * b + 1)),
      length_z8_list (suc b) (8 * b + 1),
      length-rows b,
      suc-mul b (suc b),
      mul-suc b b,
    )

-- the place of M = b + 1 and p is among the rows up to n, and has z8
pub record Stands (n b p : ℕ) : Type 0 where
  pub inside : start b + p < length (rows n)
  pub says : get_or (rows n) (start b + p) 0 ≡ z8 (suc b) p

-- in the last row by what the row holds, and in an earlier one because later rows move nothing
pub stands : (n b p : ℕ) → b < n → p ≤ 8 * b → Stands n b p
unfolding rows
stands zero b p l h = absurd (not-suc-le-zero l)
stands (suc n) b p l h =
    ⊎_elim
    (λ e. subst (λ (k : ℕ). Stands (suc k) b p) e last)
    (λ k. earlier (stands n b p k h))
    (eq-or-lt_of_le (le_of_suc-le-suc l))
  where
    last : Stands (suc b) b p
    last = record {
      inside =
          omega (
            arith,
            length-append (rows b) (z8_list (suc b) (8 * b + 1)),
            length_z8_list (suc b) (8 * b + 1),
            length-rows b,
          );
      says =
          ap (λ (k : ℕ). get_or (rows (suc b)) (k + p) 0) (omega (arith, length-rows b))
          ∙ (get_or-append-add (rows b) (z8_list (suc b) (8 * b + 1)) p 0 ∙ z8_list_at (suc b) (8 * b + 1) p (omega arith));
    }

    earlier : Stands n b p → Stands (suc n) b p
    earlier s = record {
      inside = omega (arith, s.inside, length-append (rows n) (z8_list (suc n) (8 * n + 1)));
      says = get_or-append (rows n) (z8_list (suc n) (8 * n + 1)) 0 (start b + p) s.inside ∙ s.says;
    }
