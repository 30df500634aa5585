-- Bytes there and back: numbers below 2^32 and labels below 2^16 are read back as they were laid out, and bytes that are taken as numbers
-- or as labels are laid out again as they were. Assumes nothing.
use mathlib.Core.Bool.{Bool, true, ◌&&◌}
use mathlib.Core.List.{List, [], ◌∷◌, ◌++◌}
use mathlib.Core.Path.{◌≡◌, refl, ap, ap₂}
use Prim.Native.Nat.{ℕ, zero, suc, ◌+◌, ◌*◌, ◌/◌, ◌%◌, ◌^◌, ◌≤◌, ◌<◌}
use native.Mathlib.Omega.{arith}
use Rattle.std.proofs.lemmas.Bool.Decides.{nat_tests}
use lib.Dec.{leb, ltb}
use lib.ListN.{length, get_or}
use Rattle.laws.specs.Lists.{Every}
use Rattle.frame.specs.Reading.{in_range}
use Rattle.workerwax.specs.Layout.{word, words, numbers_in, label_bytes, labels_in}

-- Numbers.
abbrev pub FourBytes : ℕ → Type 0
FourBytes n = n < 4294967296

-- a number is what its four bytes say
bytes_of : (n : ℕ) → FourBytes n → n % 256 + 256 * (n / 256 % 256) + 65536 * (n / 65536 % 256) + 16777216 * (n / 16777216 % 256) ≡ n
bytes_of n h = omega (arith, h)

pub numbers-back : (ns : List ℕ) → Every FourBytes ns → numbers_in (words ns) ≡ ns
unfolding words word numbers_in
numbers-back [] h = refl
numbers-back (n ∷ ns) h = ap₂ (λ (x : ℕ) (xs : List ℕ). x ∷ xs) (bytes_of n h.0) (numbers-back ns h.1)

pub number-back : (n : ℕ) → FourBytes n → numbers_in (word n) ≡ n ∷ []
unfolding word numbers_in
number-back n h = ap (λ (x : ℕ). x ∷ []) (bytes_of n h)

abbrev pub Byte : ℕ → Type 0
Byte b = b < 256

pub bytes-each : (bytes : List ℕ) → ((i : ℕ) → Byte (get_or bytes i 0)) → Every Byte bytes
bytes-each [] h = tt
bytes-each (b ∷ bytes) h = (h 0, bytes-each bytes (λ i. h (suc i)))

-- the four bytes of a number that was taken from four bytes
word_back :
    (a b c d : ℕ) → Byte a → Byte b → Byte c → Byte d → word (a + 256 * b + 65536 * c + 16777216 * d) ≡ a ∷ b ∷ c ∷ d ∷ []
unfolding word
word_back a b c d p q r t =
    let n = a + 256 * b + 65536 * c + 16777216 * d in
    let first : n % 256 ≡ a = omega (arith, p) in
    let second : n / 256 % 256 ≡ b = omega (arith, p, q) in
    let third : n / 65536 % 256 ≡ c = omega (arith, p, q, r) in
    let last : n / 16777216 % 256 ≡ d = omega (arith, p, q, r, t) in
    rw (first, second, third, last)

pub words_back : (k : ℕ) (bytes : List ℕ) → length bytes ≡ 4 * k → Every Byte bytes → words (numbers_in bytes) ≡ bytes
unfolding words numbers_in
words_back zero [] e h = refl
words_back zero (a ∷ bytes) e h = absurd (omega arith)
words_back (suc k) [] e h = absurd (omega arith)
words_back (suc k) (a ∷ []) e h = absurd (omega arith)
words_back (suc k) (a ∷ b ∷ []) e h = absurd (omega arith)
words_back (suc k) (a ∷ b ∷ c ∷ []) e h = absurd (omega arith)
words_back (suc k) (a ∷ b ∷ c ∷ d ∷ bytes) e h =
    ap₂ ◌++◌ (word_back a b c d h.0 h.1.0 h.1.1.0 h.1.1.1.0) (words_back k bytes (omega arith) h.1.1.1.1)

pub length-numbers : (k : ℕ) (bytes : List ℕ) → length bytes ≡ 4 * k → length (numbers_in bytes) ≡ k
unfolding numbers_in
length-numbers zero [] e = refl
length-numbers zero (a ∷ bytes) e = absurd (omega arith)
length-numbers (suc k) [] e = absurd (omega arith)
length-numbers (suc k) (a ∷ []) e = absurd (omega arith)
length-numbers (suc k) (a ∷ b ∷ []) e = absurd (omega arith)
length-numbers (suc k) (a ∷ b ∷ c ∷ []) e = absurd (omega arith)
length-numbers (suc k) (a ∷ b ∷ c ∷ d ∷ bytes) e = ap suc (length-numbers k bytes (omega arith))

pub numbers-short : (bytes : List ℕ) → Every Byte bytes → Every FourBytes (numbers_in bytes)
unfolding numbers_in
numbers-short [] h = tt
numbers-short (a ∷ []) h = tt
numbers-short (a ∷ b ∷ []) h = tt
numbers-short (a ∷ b ∷ c ∷ []) h = tt
numbers-short (a ∷ b ∷ c ∷ d ∷ bytes) h = (omega (arith, h.0, h.1.0, h.1.1.0, h.1.1.1.0), numbers-short bytes h.1.1.1.1)

-- Labels.
abbrev pub TwoBytes : ℕ → Type 0
TwoBytes label = label < 65536

pub labels-back : (labels : List ℕ) → Every TwoBytes labels → labels_in (label_bytes labels) ≡ labels
unfolding label_bytes labels_in
labels-back [] h = refl
labels-back (label ∷ labels) h =
    let both : label % 256 + 256 * (label / 256 % 256) ≡ label = omega (arith, h.0) in
    ap₂ (λ (x : ℕ) (xs : List ℕ). x ∷ xs) both (labels-back labels h.1)

pub bytes_back : (k : ℕ) (bytes : List ℕ) → length bytes ≡ 2 * k → Every Byte bytes → label_bytes (labels_in bytes) ≡ bytes
unfolding label_bytes labels_in
bytes_back zero [] e h = refl
bytes_back zero (a ∷ bytes) e h = absurd (omega arith)
bytes_back (suc k) [] e h = absurd (omega arith)
bytes_back (suc k) (a ∷ []) e h = absurd (omega arith)
bytes_back (suc k) (a ∷ b ∷ bytes) e h =
    let low : (a + 256 * b) % 256 ≡ a = omega (arith, h.0) in
    let high : (a + 256 * b) / 256 % 256 ≡ b = omega (arith, h.0, h.1.0) in
    ap₂ (λ (x : ℕ) (xs : List ℕ). x ∷ xs) low (ap₂ (λ (x : ℕ) (xs : List ℕ). x ∷ xs) high (bytes_back k bytes (omega arith) h.1.1))

pub length-bytes : (labels : List ℕ) → length (label_bytes labels) ≡ 2 * length labels
unfolding label_bytes
length-bytes [] = refl
length-bytes (label ∷ labels) = omega (arith, length-bytes labels)

-- the four labels of a symbol
symbol-small :
    (top a b z i : ℕ) (rest : Bool) → top ≤ 65536 → ((ltb a top && (ltb b top && (leb z 3 && leb i 1))) && rest) ≡ true
    → (TwoBytes a × TwoBytes b × TwoBytes z × TwoBytes i) × (rest ≡ true)
symbol-small top a b z i rest most h =
    ((grind (arith, nat_tests), grind (arith, nat_tests), grind (arith, nat_tests), grind (arith, nat_tests)), grind (arith, nat_tests))

-- labels that are in their ranges are below 2^16
pub ranges-small :
    (M q k : ℕ) (labels : List ℕ) → M * 2 ^ q ≤ 65536 → length labels ≡ 4 * k → in_range M q k labels ≡ true → Every TwoBytes labels
unfolding in_range
ranges-small M q zero [] top e h = tt
ranges-small M q zero (a ∷ labels) top e h = absurd (omega arith)
ranges-small M q (suc k) [] top e h = absurd (omega arith)
ranges-small M q (suc k) (a ∷ []) top e h = absurd (omega arith)
ranges-small M q (suc k) (a ∷ b ∷ []) top e h = absurd (omega arith)
ranges-small M q (suc k) (a ∷ b ∷ z ∷ []) top e h = absurd (omega arith)
ranges-small M q (suc k) (a ∷ b ∷ z ∷ i ∷ labels) top e h =
    let small = symbol-small (M * 2 ^ q) a b z i (in_range M q k labels) top h in
    let rest = ranges-small M q k labels top (omega arith) small.1 in
    (small.0.0, (small.0.1, (small.0.2, (small.0.3, rest))))

-- The worked layouts of specs/Layout.
pub worked_layouts :
    (words (1176 ∷ 15 ∷ []) ≡ 152 ∷ 4 ∷ 0 ∷ 0 ∷ 15 ∷ 0 ∷ 0 ∷ 0 ∷ []) × (label_bytes (415 ∷ 3 ∷ []) ≡ 159 ∷ 1 ∷ 3 ∷ 0 ∷ [])
    × (labels_in (159 ∷ 1 ∷ 3 ∷ 0 ∷ []) ≡ 415 ∷ 3 ∷ [])
unfolding word words label_bytes labels_in
worked_layouts = (refl, refl, refl)
