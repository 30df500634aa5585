-- A double in the bytes of an answer: two numbers of 32 bits, the lower half of its bit pattern first, are the eight bytes of the pattern,
-- lowest first. Assumes nothing.
use mathlib.Core.List.{List, [], ◌∷◌, ◌++◌, append-nil}
use mathlib.Core.Path.{◌≡◌, refl, sym, ap, ap₂, ◌∙◌}
use Prim.Native.Nat.{ℕ, zero, suc, ◌+◌, ◌*◌, ◌/◌, ◌%◌}
use native.Mathlib.Nat.{add-mul-mod_self_left, div-div-eq-div-mul}
use native.Mathlib.Omega.{arith}
use Rattle.workerwax.specs.Layout.{word, words, halves}

-- so many bytes of a number, lowest first
abbrev pub lowest_first : ℕ → ℕ → List ℕ
lowest_first zero n = []
lowest_first (suc k) n = n % 256 ∷ lowest_first k (n / 256)

-- the two halves of a number are its eight bytes
word_lowest : (n : ℕ) → word n ≡ lowest_first 4 n
unfolding word
word_lowest n = rw (div-div-eq-div-mul n 256 256, div-div-eq-div-mul n 65536 256)

-- whatever stands above so many bytes does not show in them
abbrev above : ℕ → ℕ → ℕ
above zero n = n
above (suc k) n = 256 * above k n

lowest_alone : (k m n : ℕ) → lowest_first k (m + above k n) ≡ lowest_first k m
lowest_alone zero m n = refl
lowest_alone (suc k) m n =
    let next : (m + 256 * above k n) / 256 ≡ m / 256 + above k n = omega arith in
    ap₂ ◌∷◌ (add-mul-mod_self_left m 256 (above k n)) (ap (lowest_first k) next ∙ lowest_alone k (m / 256) n)

pub halves_lowest : (n : ℕ) → words (halves n) ≡ lowest_first 8 n
unfolding words
halves_lowest n =
    let upper : n / 4294967296 ≡ n / 256 / 256 / 256 / 256 = omega arith in
    let whole : n ≡ n % 4294967296 + above 4 (n / 4294967296) = omega arith in
    let lower = ap (lowest_first 4) whole ∙ lowest_alone 4 (n % 4294967296) (n / 4294967296) in
    ap₂ ◌++◌ (word_lowest (n % 4294967296) ∙ sym lower)
    (append-nil (word (n / 4294967296)) ∙ (word_lowest (n / 4294967296) ∙ ap (lowest_first 4) upper))
