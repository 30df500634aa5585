-- Numbers with spaces between: a list put together from two, and what the code needs of it, that the numbers up to one more are those
-- before and that one, that they have room, and that the first stands before the others. With it how long such a text is where no
-- number is above 9999. Assumes nothing.
use mathlib.Core.List.{List, [], ◌∷◌, ◌++◌, append-nil, append_assoc}
use mathlib.Core.Path.{◌≡◌, refl, sym, ap, ◌∙◌}
use Prim.Native.Nat.{ℕ, ◌+◌, ◌*◌, ◌≤◌, ◌<◌}
use native.Mathlib.Numerals.{add-one}
use native.Mathlib.Omega.{arith}
use lib.ListN.{length, take, drop, get_or, length-append, take-append-drop}
use lib.Seq.{take-suc}
use Rattle.std.proofs.lemmas.Grind.{common_steps}
use Rattle.laws.specs.Lists.{Every}
use Rattle.settings.specs.Decimal.{decimal}
use Rattle.settings.specs.Lines.{spaced, joined}
use Rattle.settings.proofs.Decimals.{decimal-length}

pub spaced_none : spaced [] ≡ []
unfolding spaced
spaced_none = refl

pub spaced_one : (n : ℕ) → spaced (n ∷ []) ≡ 32 ∷ decimal n
unfolding spaced
spaced_one n = ap (λ (ds : List ℕ). 32 ∷ ds) (append-nil (decimal n))

spaced-append : (ms ns : List ℕ) → spaced (ms ++ ns) ≡ spaced ms ++ spaced ns
unfolding spaced
spaced-append [] ns = refl
spaced-append (m ∷ ms) ns =
    ap (λ (ds : List ℕ). 32 ∷ decimal m ++ ds) (spaced-append ms ns)
    ∙ ap (λ (ds : List ℕ). 32 ∷ ds) (sym (append_assoc (decimal m) (spaced ms) (spaced ns)))

module _ (ns : List ℕ) (i : ℕ) (h : i < length ns) where
  -- the numbers up to one more
  pub spaced-more : spaced (take (i + 1) ns) ≡ spaced (take i ns) ++ spaced (get_or ns i 0 ∷ [])
  spaced-more = rw add-one (ap spaced (take-suc ns i 0 h) ∙ spaced-append (take i ns) (get_or ns i 0 ∷ []))

  -- have room where all have
  pub spaced-room : length (spaced (take i ns)) + length (spaced (get_or ns i 0 ∷ [])) ≤ length (spaced ns)
  spaced-room =
      omega (
        arith,
        ap length spaced-more,
        length-append (spaced (take i ns)) (spaced (get_or ns i 0 ∷ [])),
        ap (λ (ms : List ℕ). length (spaced ms)) (take-append-drop (i + 1) ns),
        ap length (spaced-append (take (i + 1) ns) (drop (i + 1) ns)),
        length-append (spaced (take (i + 1) ns)) (spaced (drop (i + 1) ns)),
      )

-- the first number, and the others behind it
pub joined_first : (n : ℕ) (ns : List ℕ) → joined (n ∷ ns) ≡ decimal n ++ spaced ns
unfolding joined
joined_first n ns = refl

pub joined_none : joined [] ≡ []
unfolding joined
joined_none = refl

pub ruleset pieces = (common_steps, spaced_none, spaced_one, spaced-more, spaced-room, joined_none, joined_first)

-- numbers of at most four digits
abbrev pub Short : ℕ → Type 0
Short n = n ≤ 9999

pub short-length : (n : ℕ) → Short n → length (decimal n) ≤ 4
short-length n h = decimal-length 3 n (omega arith)

spaced-short : (ns : List ℕ) → Every Short ns → length (spaced ns) ≤ 5 * length ns
unfolding spaced
spaced-short [] short = omega arith
spaced-short (n ∷ ns) short =
    omega (arith, short-length n short.0, spaced-short ns short.1, length-append (decimal n) (spaced ns))

pub joined-short : (ns : List ℕ) → 1 ≤ length ns → Every Short ns → length (joined ns) + 1 ≤ 5 * length ns
unfolding joined
joined-short [] h short = absurd (omega arith)
joined-short (n ∷ ns) h short =
    omega (arith, short-length n short.0, spaced-short ns short.1, length-append (decimal n) (spaced ns))
