-- What a reader notices. A sequence whose fixed places are right and whose free places differ from those of an accepted one by a burst, up
-- to sixteen places in a row of which the first is turned, is refused with 17; so is one that differs at a single free place. Assumes
-- nothing.
use mathlib.Core.Bool.{true}
use mathlib.Core.List.{List, ◌∷◌, ◌++◌}
use mathlib.Core.Path.{◌≡◌, sym, ap, ◌∙◌}
use Prim.Native.Nat.{ℕ, suc, ◌+◌, ◌≤◌}
use native.Mathlib.Omega.{arith}
use lib.ListN.{length, take, length-append, length-replicate}
use Rattle.bits.specs.Digits.{Bits}
use Rattle.bits.proofs.Tested.{bits-all}
use Rattle.sequences.specs.Register.{add, feed}
use Rattle.sequences.specs.Picture.{free, inside, all_hold}
use Rattle.sequences.specs.Sequence.{Sequence, is_sealed, fields_refusal}
use Rattle.sequences.specs.Table.{bit_count}
use Rattle.sequences.proofs.Adds.{zeros}
use Rattle.sequences.proofs.Bursts.{burst_noticed}
use Rattle.sequences.proofs.Given.{check_is_17}
use Rattle.sequences.proofs.Pictures.{length-inside}
use Rattle.sequences.proofs.Registers.{ones}
use Rattle.sequences.proofs.Sequences.{own-check, sealed-leaves-zero, unsealed, reads}

-- a burst of turned places: the first is turned, of up to fifteen behind it some, and none before and after
abbrev pub turned : ℕ → List ℕ → ℕ → List ℕ
turned before burst after = zeros before ++ ((1 ∷ burst) ++ zeros after)

length-turned : (before : ℕ) (burst : List ℕ) (after : ℕ) → length (turned before burst after) ≡ before + (suc (length burst) + after)
length-turned before burst after =
    let all = length-append (zeros before) ((1 ∷ burst) ++ zeros after) in
    let rest = length-append burst (zeros after) in
    omega (arith, length-replicate {A = ℕ} before 0, length-replicate {A = ℕ} after 0)

module _ (s : Sequence) (bits got : List ℕ) (before : ℕ) (burst : List ℕ) (after : ℕ)
    (accepted : fields_refusal s bits ≡ 0)
    (long : length got ≡ length s.picture)
    (binary : Bits got)
    (held : all_hold s.picture got ≡ true)
    (some : Bits burst)
    (few : length burst ≤ 15)
    (room : before + (suc (length burst) + after) ≡ free s.picture)
    (differ : inside s.picture got ≡ add (inside s.picture bits) (turned before burst after)) where
  abbrev n : ℕ
  n = bit_count s.table

  -- with a burst the bits do not leave 0
  broken : is_sealed n (inside s.picture got) ≡ true → ⊥
  broken e =
      let b = inside s.picture bits in
      let r = reads s bits accepted in
      let own = own-check n b r.1.closed in
      let size = length-inside s.picture bits r.0 ∙ (sym room ∙ sym (length-turned before burst after)) in
      let other = differ ∙ ap (λ (x : List ℕ). add x (turned before burst after)) own in
      burst_noticed (take n b) before after burst some few (sym (ap length own) ∙ size)
      (sym (ap (feed ones) other) ∙ sealed-leaves-zero n (inside s.picture got) e)

  pub burst_refused : fields_refusal s got ≡ 17
  burst_refused = check_is_17 s got long (bits-all got binary) held (unsealed n (inside s.picture got) broken)
