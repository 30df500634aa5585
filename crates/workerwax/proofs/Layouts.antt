-- Numbers and labels put into bytes one after the other, and taken out of bytes: what each step adds to what is done, and that what is
-- done and what is left make the whole. Assumes nothing.
use mathlib.Core.List.{List, [], ◌∷◌, ◌++◌, append_assoc, append-nil}
use mathlib.Core.Path.{◌≡◌, refl, sym, ap, ap₂, ◌∙◌}
use Prim.Native.Nat.{ℕ, suc, ◌+◌, ◌*◌, ◌-◌, ◌≤◌, ◌<◌}
use native.Mathlib.Nat.{mul-le-mul_left}
use native.Mathlib.Numerals.{add-one}
use native.Mathlib.Omega.{arith}
use lib.ListN.{length, take, drop, get_or, set, length-append}
use lib.Seq.{take-suc, take-suc-set, drop-cons, take_at, drop-length}
use borrow.Rule.Slice.PartMut.{put_mid, post_of, Post-is}
use Rattle.std.proofs.lemmas.Slice.{take-put_mid}
use Rattle.workerwax.specs.Layout.{word, words}

-- The numbers before a place are put, and what is left makes the whole.
module _ {A : Type 0} (wide : ℕ) (bytes_of : A → List ℕ) (laid : List A → List ℕ) where
  pub put-more :
      ((n : A) (others : List A) → laid (n ∷ others) ≡ bytes_of n ++ laid others) → (i k : ℕ) (out bytes : List ℕ) (numbers : List A) (n : A)
      → i < length numbers → n ≡ get_or numbers i n → bytes ≡ bytes_of n → length bytes ≡ wide → length out ≡ wide * length numbers
      → take (wide * i) out ++ laid (drop i numbers) ≡ laid numbers
      → take (wide * (i + 1)) (put_mid (wide * i) k out bytes) ++ laid (drop (i + 1) numbers) ≡ laid numbers
  put-more more i k out bytes numbers n here item said size room before =
      let below : i ≤ length numbers = omega arith in
      let within : wide * i ≤ length out = omega (arith, room, mul-le-mul_left wide below) in
      let place : wide * (i + 1) ≡ wide * i + length bytes = omega (arith, size) in
      let off : drop i numbers ≡ n ∷ drop (i + 1) numbers = rw add-one (drop-cons numbers i n here ∙ ap (λ (x : A). x ∷ drop (suc i) numbers) (sym item)) in
      let front : take (wide * (i + 1)) (put_mid (wide * i) k out bytes) ≡ take (wide * i) out ++ bytes = take-put_mid (wide * i) k out bytes _ place within in
      let whole : laid (drop i numbers) ≡ bytes ++ laid (drop (i + 1) numbers) =
      ap laid off ∙ (more n (drop (i + 1) numbers) ∙ ap (λ (b : List ℕ). b ++ laid (drop (i + 1) numbers)) (sym said)) in
      ap (λ (b : List ℕ). b ++ laid (drop (i + 1) numbers)) front
      ∙ (append_assoc (take (wide * i) out) bytes (laid (drop (i + 1) numbers))
      ∙ (ap (λ (b : List ℕ). take (wide * i) out ++ b) (sym whole) ∙ before))

-- The numbers before a place are taken, and what is left makes the whole.
module _ {A : Type 0} (wide : ℕ) (number_in : List ℕ → A) (held : List ℕ → List A) where
  pub take_more :
      ((front rest : List ℕ) → length front ≡ wide → held (front ++ rest) ≡ number_in front ∷ held rest) → (i : ℕ)
      (all left front rest : List ℕ) (numbers : List A) (n : A) → i < length numbers → left ≡ front ++ rest → length front ≡ wide
      → n ≡ number_in front → take i numbers ++ held left ≡ held all → take (i + 1) (set numbers i n) ++ held rest ≡ held all
  take_more more i all left front rest numbers n here parts size read before =
      let stored : take (i + 1) (set numbers i n) ≡ take i numbers ++ n ∷ [] = rw add-one (take-suc-set numbers i n here) in
      let next : held left ≡ n ∷ held rest = ap held parts ∙ (more front rest size ∙ ap (λ (x : A). x ∷ held rest) (sym read)) in
      ap (λ (l : List A). l ++ held rest) stored
      ∙ (append_assoc (take i numbers) (n ∷ []) (held rest)
      ∙ (ap (λ (l : List A). take i numbers ++ l) (sym next) ∙ before))

-- Numbers, one after the other.
pub length-word : (n : ℕ) → length (word n) ≡ 4
unfolding word
length-word n = refl

pub words_append : (ms ns : List ℕ) → words (ms ++ ns) ≡ words ms ++ words ns
unfolding words
words_append [] ns = refl
words_append (m ∷ ms) ns = ap (λ (l : List ℕ). word m ++ l) (words_append ms ns) ∙ sym (append_assoc (word m) (words ms) (words ns))

pub words_one : (n : ℕ) → words (n ∷ []) ≡ word n
unfolding words
words_one n = append-nil (word n)

-- the words of one number more
pub words_more : (ns : List ℕ) (i : ℕ) → i < length ns → words (take (i + 1) ns) ≡ words (take i ns) ++ word (get_or ns i 0)
words_more ns i h =
    ap words (rw add-one (take-suc ns i 0 h))
    ∙ (words_append (take i ns) (get_or ns i 0 ∷ []) ∙ ap (λ (l : List ℕ). words (take i ns) ++ l) (words_one (get_or ns i 0)))

pub length-words : (ns : List ℕ) → length (words ns) ≡ 4 * length ns
unfolding words
length-words [] = refl
length-words (n ∷ ns) = omega (arith, length-append (word n) (words ns), length-word n, length-words ns)

-- A part put behind the front makes both.
pub two_parts :
    (k : ℕ) (front rest back : List ℕ) → length front ≡ k
    → put_mid k (length (front ++ rest) - k) (front ++ rest) back ≡ front ++ back
two_parts k front rest back e =
    let all = front ++ rest in
    let within : k ≤ length all = omega (arith, length-append front rest) in
    let none : post_of k (length all - k) all ≡ [] = Post-is k (length all) all within ∙ drop-length all in
    ap₂ (λ (f b : List ℕ). f ++ (back ++ b)) (take_at front rest k e) none ∙ ap (λ (b : List ℕ). front ++ b) (append-nil back)
