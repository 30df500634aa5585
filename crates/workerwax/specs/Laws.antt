-- What a layout has to hold to be put and taken number by number, for both: numbers of four bytes, and labels of two.
use Rattle.std.specs.Prelude.{List, [], ◌∷◌, ◌++◌, ◌≡◌, ℕ, length, refl}
use Rattle.std.proofs.Common.{ap, arith}
use Rattle.std.specs.Int.{w16, w32, to_le_bytes, from_le_bytes}
use Rattle.workerwax.specs.Layout.{word, words, numbers_in, label_bytes, labels_in}

-- Numbers, four bytes each.
pub words_none : words [] ≡ []
unfolding words
words_none = refl

pub words_more : (n : ℕ) (others : List ℕ) → words (n ∷ others) ≡ word n ++ words others
unfolding words
words_more n others = refl

pub no_numbers : numbers_in [] ≡ []
unfolding numbers_in
no_numbers = refl

pub numbers_more :
    (front rest : List ℕ) → length front ≡ 4 → numbers_in (front ++ rest) ≡ from_le_bytes w32 front ∷ numbers_in rest
unfolding numbers_in
numbers_more (a ∷ b ∷ c ∷ d ∷ []) rest size =
    ap (λ (n : ℕ). n ∷ numbers_in rest) (omega arith)
numbers_more [] rest size = absurd (omega arith)
numbers_more (a ∷ []) rest size = absurd (omega arith)
numbers_more (a ∷ b ∷ []) rest size = absurd (omega arith)
numbers_more (a ∷ b ∷ c ∷ []) rest size = absurd (omega arith)
numbers_more (a ∷ b ∷ c ∷ d ∷ e ∷ more) rest size = absurd (omega arith)

-- Labels, two bytes each.
pub no_label_bytes : label_bytes [] ≡ []
unfolding label_bytes
no_label_bytes = refl

pub label_bytes_more : (n : ℕ) (others : List ℕ) → label_bytes (n ∷ others) ≡ to_le_bytes w16 n ++ label_bytes others
unfolding label_bytes
label_bytes_more n others = refl

pub no_labels : labels_in [] ≡ []
unfolding labels_in
no_labels = refl

pub labels_more :
    (front rest : List ℕ) → length front ≡ 2 → labels_in (front ++ rest) ≡ from_le_bytes w16 front ∷ labels_in rest
unfolding labels_in
labels_more (low ∷ high ∷ []) rest size = ap (λ (n : ℕ). n ∷ labels_in rest) (omega arith)
labels_more [] rest size = absurd (omega arith)
labels_more (low ∷ []) rest size = absurd (omega arith)
labels_more (low ∷ high ∷ other ∷ more) rest size = absurd (omega arith)
