-- Laws of `refusal`: a refusal whose test fails is passed over, one whose test holds is given, and where none is given each test
-- failed. The one that is given is no larger than the largest of the list. Assumes nothing.
use mathlib.Core.Bool.{Bool, true, false, ◌&&◌, cond}
use mathlib.Core.List.{List, [], ◌∷◌, ◌++◌}
use mathlib.Core.Path.{◌≡◌, refl, sym, ap, ◌∙◌}
use Prim.Native.Nat.{ℕ, suc, ◌≤◌}
use native.Mathlib.Omega.{arith}
use lib.Dec.{leb}
use Rattle.laws.specs.Choice.{refusal}

pub no_tests : refusal [] ≡ 0
unfolding refusal
no_tests = refl

pub passed_over : (b : Bool) (n : ℕ) (rest : List (Bool × ℕ)) → b ≡ false → refusal ((b, n) ∷ rest) ≡ refusal rest
unfolding refusal
passed_over b n rest e = ap (λ (v : Bool). cond v n (refusal rest)) e

pub given : (b : Bool) (n : ℕ) (rest : List (Bool × ℕ)) → b ≡ true → refusal ((b, n) ∷ rest) ≡ n
unfolding refusal
given b n rest e = ap (λ (v : Bool). cond v n (refusal rest)) e

-- where no refusal is given, the first test failed, and none of the others is given
pub none_first : (b : Bool) (n : ℕ) (rest : List (Bool × ℕ)) → refusal ((b, suc n) ∷ rest) ≡ 0 → b ≡ false
unfolding refusal
none_first true n rest e = absurd (omega arith)
none_first false n rest e = refl

pub none_rest : (b : Bool) (n : ℕ) (rest : List (Bool × ℕ)) → refusal ((b, suc n) ∷ rest) ≡ 0 → refusal rest ≡ 0
none_rest b n rest e = sym (passed_over b (suc n) rest (none_first b n rest e)) ∙ e

-- a refusal that is given is given whatever tests follow
pub given-before : (tests more : List (Bool × ℕ)) → (refusal tests ≡ 0 → ⊥) → refusal (tests ++ more) ≡ refusal tests
unfolding refusal
given-before [] more h = absurd (h refl)
given-before (test ∷ tests) more h = let later = given-before tests more in grind arith

-- Whether each listed number is 1 to m. It is computed from the numbers alone, so that a list may grow and no proof changes.
abbrev pub within : ℕ → List (Bool × ℕ) → Bool
within m [] = true
within m (test ∷ tests) = (leb 1 test.1 && leb test.1 m) && within m tests

-- and where none is given, those that follow decide; no listed number is 0
pub none_before :
    (m : ℕ) (tests more : List (Bool × ℕ)) → within m tests ≡ true → refusal tests ≡ 0 → refusal (tests ++ more) ≡ refusal more
unfolding refusal
none_before m [] more listed none = refl
none_before m (t ∷ tests) more listed none = let later = none_before m tests more in grind arith

-- where no listed number is above m, the one that is given is not
pub refusal-most : (m : ℕ) (tests : List (Bool × ℕ)) → within m tests ≡ true → refusal tests ≤ m
unfolding refusal
refusal-most m [] listed = omega arith
refusal-most m (t ∷ tests) listed = let later = refusal-most m tests in grind arith
