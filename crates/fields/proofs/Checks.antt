-- The check of a list of bits as the loop of the code works it out: bit by bit, from the register of ones on. Assumes nothing.
use mathlib.Core.Bool.{Bool, true, false, cond}
use mathlib.Core.List.{List, [], ◌∷◌, ◌++◌, map, append-nil}
use mathlib.Core.Path.{◌≡◌, refl, sym, subst, ap, ap₂, ◌∙◌}
use Prim.Native.Nat.{ℕ, ◌+◌, ◌^◌, ◌≤◌, ◌<◌}
use native.Mathlib.Nat.{mod-eq_of_lt}
use native.Mathlib.Omega.{arith}
use lib.Dec.{eqb}
use lib.ListN.{length, take, drop_of_length-le}
use Rattle.std.specs.List.{filter, zip}
use Rattle.laws.specs.Put.{put}
use Rattle.bits.specs.Digits.{Bits}
use Rattle.sequences.specs.Picture.{inside}
use Rattle.sequences.specs.Register.{step, feed, crc}
use Rattle.sequences.specs.Sequence.{sealed}
use Rattle.sequences.proofs.Registers.{ones, length-step, bits-step, length-crc, bits-crc, feed-nil, feed-cons, feed-append}
use Rattle.fields.specs.Weights.{high_value, high_digits}
use Rattle.fields.proofs.Weights.{high_value-below, high_value-high_digits, high_digits-high_value, bits-high_digits, length-high_digits}

-- the register is the check of the bits that came
pub record Fed (register : ℕ) (came : List ℕ) : Type 0 where
  pub small : register < 65536
  pub held : high_digits 16 register ≡ crc came

pub fed_none : Fed 65535 []
unfolding crc feed high_digits
fed_none = record { small = omega arith; held = refl }

pub fed-more :
    (register bit next : ℕ) (came : List ℕ)
    → Fed register came → next ≡ high_value (step (high_digits 16 register) bit) → Fed next (came ++ bit ∷ [])
unfolding crc
fed-more register bit next came f e =
    let before = high_digits 16 register in
    let after = step before bit in
    let long = length-step before bit (length-high_digits 16 register) in
    let binary = bits-step before bit (bits-high_digits 16 register) in
    let below : high_value after < 2 ^ 16 = subst (λ (n : ℕ). high_value after < 2 ^ n) long (high_value-below after binary) in
    record {
      small = omega arith;
      held =
          ap (high_digits 16) e
          ∙ high_digits-high_value 16 after long binary
          ∙ ap (λ (r : List ℕ). step r bit) f.held
          ∙ sym (feed-append ones came (bit ∷ []) ∙ feed-cons (feed ones came) bit [] ∙ feed-nil (step (feed ones came) bit));
    }

pub fed_all : (register : ℕ) (came : List ℕ) → Fed register came → register ≡ high_value (crc came)
fed_all register came f =
    let small : register < 2 ^ 16 = f.small in
    sym (mod-eq_of_lt small) ∙ (sym (high_value-high_digits 16 register) ∙ ap high_value f.held)

-- a check put behind the bits that it is of
pub sealed_by_put :
    (body : List ℕ) (at check : ℕ)
    → at + 16 ≡ length body → Bits (take at body) → check ≡ high_value (crc (take at body))
    → put body at (high_digits 16 check) ≡ sealed (take at body)
unfolding sealed
sealed_by_put body at check room binary e =
    let bits = take at body in
    let own : high_digits 16 check ≡ crc bits = ap (high_digits 16) e ∙ high_digits-high_value 16 (crc bits) (length-crc bits) (bits-crc bits) in
    let end : length body ≤ at + length (high_digits 16 check) = omega (arith, length-high_digits 16 check) in
    ap (λ (l : List ℕ). bits ++ l) (ap₂ ◌++◌ own (drop_of_length-le body end) ∙ append-nil (crc bits))

-- what stands in the free places, out of the pairs of a place and its bit; nothing cites it: it is for a chain over these pairs
pub inside-chosen : (picture bits : List ℕ) → map (λ p. p.1) (filter (λ p. eqb p.0 46) (zip picture bits)) ≡ inside picture bits
unfolding inside
inside-chosen [] bits = refl
inside-chosen (place ∷ picture) [] = refl
inside-chosen (place ∷ picture) (bit ∷ bits) = by (eqb place 46) (inside-chosen picture bits)
  where
    free : List (ℕ × ℕ)
    free = filter (λ p. eqb p.0 46) (zip picture bits)

    by :
        (v : Bool) → map (λ p. p.1) free ≡ inside picture bits
        → map (λ p. p.1) (cond v ((place, bit) ∷ free) free) ≡ cond v (bit ∷ inside picture bits) (inside picture bits)
    by true rest = ap (λ (l : List ℕ). bit ∷ l) rest
    by false rest = rest

-- The loop over picture and sequence: once what is left of both is fed, so is what stands in the free places of the whole.
pub record Inward (picture bits : List ℕ) (register : ℕ) (places rest : List ℕ) : Type 0 where
  pub count : length places ≡ length rest
  pub small : register < 65536
  pub held : feed (high_digits 16 register) (inside places rest) ≡ crc (inside picture bits)

pub inward_none : (picture bits : List ℕ) → length picture ≡ length bits → Inward picture bits 65535 picture bits
unfolding crc high_digits
inward_none picture bits e = record { count = e; small = omega arith; held = refl }

module _ (picture bits : List ℕ) (register place bit : ℕ) (places rest : List ℕ) (t : Inward picture bits register (place ∷ places) (bit ∷ rest)) where
  pub inward_fixed : eqb place 46 ≡ false → Inward picture bits register places rest
  unfolding inside
  inward_fixed f =
      record {
        count = omega (arith, t.count);
        small = t.small;
        held =
            sym (ap (λ (v : Bool). feed (high_digits 16 register) (cond v (bit ∷ inside places rest) (inside places rest))) f)
            ∙ t.held;
      }

  pub inward-free :
      (next : ℕ) → eqb place 46 ≡ true → next ≡ high_value (step (high_digits 16 register) bit) → Inward picture bits next places rest
  unfolding inside
  inward-free next f e =
      let before = high_digits 16 register in
      let after = step before bit in
      let long = length-step before bit (length-high_digits 16 register) in
      let binary = bits-step before bit (bits-high_digits 16 register) in
      let below : high_value after < 2 ^ 16 = subst (λ (n : ℕ). high_value after < 2 ^ n) long (high_value-below after binary) in
      record {
        count = omega (arith, t.count);
        small = omega arith;
        held =
            ap (λ (r : List ℕ). feed r (inside places rest)) (ap (high_digits 16) e ∙ high_digits-high_value 16 after long binary)
            ∙ sym (feed-cons before bit (inside places rest))
            ∙ sym (ap (λ (v : Bool). feed before (cond v (bit ∷ inside places rest) (inside places rest))) f)
            ∙ t.held;
      }

pub inward_all : (picture bits : List ℕ) (register : ℕ) → Inward picture bits register [] [] → register ≡ high_value (crc (inside picture bits))
unfolding inside
inward_all picture bits register t =
    let small : register < 2 ^ 16 = t.small in
    sym (mod-eq_of_lt small)
    ∙ (sym (high_value-high_digits 16 register) ∙ ap high_value (sym (feed-nil (high_digits 16 register)) ∙ t.held))
