-- How many labels the coder is lent: at most 256, and half as many as there are bytes wherever it is not 0. So the coder's test of its own
-- lengths is the test of every length. Assumes nothing.
use mathlib.Core.List.{List, [], ◌∷◌}
use mathlib.Core.Path.{◌≡◌, refl, ap}
use Prim.Native.Nat.{ℕ, zero, suc, ◌*◌, ◌≤◌}
use native.Mathlib.Omega.{arith}
use lib.ListN.{length}
use Rattle.std.proofs.lemmas.Bool.Decides.{nat_tests}
use Rattle.line.specs.declared.settings.Settings.{Settings}
use Rattle.line.proofs.Soundness.{Sound}
use Rattle.coder.specs.Answers.{exact}
use Rattle.workerwax.specs.Calls.{exact_bytes}
use Rattle.workerwax.specs.Layout.{labels_in, coded_bytes}
use Rattle.workerwax.specs.Lending.{lent_labels}

pub record LentBytes (labels answer lent : ℕ) : Type 0 where
  pub answered : answer ≡ coded_bytes
  pub most : labels ≤ 512
  pub half : labels ≡ 2 * lent

module _ (labels answer : ℕ) where
  pub lent-some : (lent_labels labels answer ≡ 0 → ⊥) → LentBytes labels answer (lent_labels labels answer)
  unfolding lent_labels
  lent-some some =
      record { answered = grind (arith, nat_tests); most = grind (arith, nat_tests); half = grind (arith, nat_tests) }

  pub lent-within : 2 * lent_labels labels answer ≤ labels
  unfolding lent_labels
  lent-within = grind (arith, nat_tests)

  pub lent-exact : (k : ℕ) → answer ≡ coded_bytes → k ≤ 256 → labels ≡ 2 * k → lent_labels labels answer ≡ k
  unfolding lent_labels
  lent-exact k e most half = grind (arith, nat_tests)

-- the coder's own test, and the test of every length
pub exact_same :
    (c : Settings) → Sound c → (bits labels answer : ℕ) → exact c bits (lent_labels labels answer) ≡ exact_bytes c bits labels answer
unfolding lent_labels
exact_same c sound bits labels answer = grind (arith, nat_tests, sound.frames-least, sound.frames-most)

-- as many labels as lent are in twice as many bytes
pub length-labels : (k : ℕ) (bytes : List ℕ) → length bytes ≡ 2 * k → length (labels_in bytes) ≡ k
unfolding labels_in
length-labels zero [] e = refl
length-labels zero (a ∷ bytes) e = absurd (omega arith)
length-labels (suc k) [] e = absurd (omega arith)
length-labels (suc k) (a ∷ []) e = absurd (omega arith)
length-labels (suc k) (a ∷ b ∷ bytes) e = ap suc (length-labels k bytes (omega arith))
