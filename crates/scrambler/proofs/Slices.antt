-- The scrambler and its inverse over slices, as one loop. Each turn adds two places of the register to the next bit; what the register then
-- takes is the sum on the way out, and the bit itself on the way back. What is done of the slice and what is left make the whole.
-- Assumes nothing.
use mathlib.Core.List.{List, [], ◌∷◌, ◌++◌, append_assoc, append-nil}
use mathlib.Core.Bool.{Bool, true, false, cond}
use mathlib.Core.Path.{◌≡◌, refl, sym, ap, ap₂, ◌∙◌}
use Prim.Native.Nat.{ℕ, ◌+◌, ◌^◌, ◌≤◌, ◌<◌}
use native.Mathlib.Numerals.{add-one}
use native.Mathlib.Omega.{arith}
use lib.ListN.{length, get_or, take, drop, set, length-set, take-append-drop, drop_of_length-le}
use lib.Seq.{take-suc-set, drop-set-lt, drop-cons}
use Rattle.scrambler.specs.Parts.{Scrambled, Descrambled, Passed}
use Rattle.scrambler.specs.Scrambler.{scrambled_bit, push, push_all, scramble, descramble}
use Rattle.scrambler.proofs.Inverse.{push-below}

-- what the register takes: the sum on the way out, and on the way back what was received
abbrev pub taken : Bool → ℕ → ℕ → ℕ → ℕ
taken back role register bit = cond back bit (scrambled_bit role register bit)

module _ (back : Bool) (role : ℕ) where
  -- the bits that a pass over `bits` gives, and the register after it
  unfoldable pub passed : ℕ → List ℕ → List ℕ
  passed register [] = []
  passed register (bit ∷ bits) = scrambled_bit role register bit ∷ passed (push register (taken back role register bit)) bits

  unfoldable pub passed_held : ℕ → List ℕ → ℕ
  passed_held register [] = register
  passed_held register (bit ∷ bits) = passed_held (push register (taken back role register bit)) bits

  -- i bits are done
  pub record Going (register : ℕ) (bits out₀ out : List ℕ) (held i : ℕ) : Type 0 where
    pub up_to : i ≤ length bits
    pub size : length out ≡ length out₀
    pub small : held < 2 ^ 23
    pub made : take i out ++ passed held (drop i bits) ≡ passed register bits
    pub ends : passed_held held (drop i bits) ≡ passed_held register bits
    pub kept : drop (length bits) out ≡ drop (length bits) out₀

  module _ (register : ℕ) (bits out₀ : List ℕ) where
    -- none is
    pub going_none : register < 2 ^ 23 → Going register bits out₀ out₀ register 0
    going_none small = record { up_to = omega arith; size = refl; small = small; made = refl; ends = refl; kept = refl }

    module _ (out : List ℕ) (held i : ℕ) (g : Going register bits out₀ out held i) where
      -- one more is
      module _ (more : i < length bits) where
        next : drop i bits ≡ get_or bits i 0 ∷ drop (i + 1) bits
        next = drop-cons bits i 0 more ∙ ap (λ (k : ℕ). get_or bits i 0 ∷ drop k bits) (sym (add-one i))

        pub going_more :
            (v t held' : ℕ) → length bits ≤ length out → v ≡ scrambled_bit role held (get_or bits i 0) → t ≡ taken back role held (get_or bits i 0)
            → held' ≡ push held t → Going register bits out₀ (set out i v) held' (i + 1)
        unfolding passed passed_held
        going_more v t held' room is-bit is-taken is-pushed =
            let is_held : held' ≡ push held (taken back role held (get_or bits i 0)) = is-pushed ∙ ap (push held) is-taken in
            let stored = ap (λ (k : ℕ). take k (set out i v)) (add-one i) ∙ take-suc-set out i v (omega (arith, room)) in
            record {
              up_to = omega arith;
              size = length-set out i v ∙ g.size;
              small = rw is_held (push-below held _);
              made =
                  ap (λ (l : List ℕ). l ++ passed held' (drop (i + 1) bits)) stored
                  ∙ (append_assoc (take i out) (v ∷ []) (passed held' (drop (i + 1) bits))
                  ∙ (rw (is-bit, is_held) (ap (λ (l : List ℕ). take i out ++ passed held l) (sym next)) ∙ g.made));
              ends = rw is_held (ap (passed_held held) (sym next)) ∙ g.ends;
              kept = drop-set-lt (length bits) out i v more ∙ g.kept;
            }

      -- all are
      module _ (all : length bits ≤ i) where
        none : drop i bits ≡ []
        none = drop_of_length-le bits all

        pub going_whole : out ≡ passed register bits ++ drop (length bits) out₀
        unfolding passed
        going_whole =
            let same : i ≡ length bits = omega (arith, g.up_to) in
            let front = sym (append-nil (take i out)) ∙ (ap (λ (l : List ℕ). take i out ++ passed held l) (sym none) ∙ g.made) in
            sym (take-append-drop (length bits) out) ∙ ap₂ ◌++◌ (ap (λ (k : ℕ). take k out) (sym same) ∙ front) g.kept

        pub going_last : held ≡ passed_held register bits
        unfolding passed_held
        going_last = ap (passed_held held) (sym none) ∙ g.ends

-- on the way out the register takes the sum
out-passed : (role register : ℕ) (bits : List ℕ) → passed false role register bits ≡ scramble role register bits
unfolding passed scramble
out-passed role register [] = refl
out-passed role register (bit ∷ bits) = ap (λ (l : List ℕ). scrambled_bit role register bit ∷ l) (out-passed role (push register (scrambled_bit role register bit)) bits)

out-held :
    (role register : ℕ) (bits : List ℕ) → passed_held false role register bits ≡ push_all register (scramble role register bits)
unfolding passed_held push_all scramble
out-held role register [] = refl
out-held role register (bit ∷ bits) = out-held role (push register (scrambled_bit role register bit)) bits

pub scrambled :
    (role register : ℕ) (bits out₀ out : List ℕ) (held i : ℕ)
    → Going false role register bits out₀ out held i → length bits ≤ i → Scrambled role register bits out₀ held out
scrambled role register bits out₀ out held i g all =
    record {
      slice =
          going_whole false role register bits out₀ out held i g all
          ∙ ap (λ (l : List ℕ). l ++ drop (length bits) out₀) (out-passed role register bits);
      held = going_last false role register bits out₀ out held i g all ∙ out-held role register bits;
    }

-- and on the way back what was received
back-passed : (role register : ℕ) (outs : List ℕ) → passed true role register outs ≡ descramble role register outs
unfolding passed descramble
back-passed role register [] = refl
back-passed role register (out ∷ outs) = ap (λ (l : List ℕ). scrambled_bit role register out ∷ l) (back-passed role (push register out) outs)

back-held : (role register : ℕ) (outs : List ℕ) → passed_held true role register outs ≡ push_all register outs
unfolding passed_held push_all
back-held role register [] = refl
back-held role register (out ∷ outs) = back-held role (push register out) outs

pub descrambled :
    (role register : ℕ) (outs bits₀ bits : List ℕ) (held i : ℕ)
    → Going true role register outs bits₀ bits held i → length outs ≤ i → Descrambled role register outs bits₀ held bits
descrambled role register outs bits₀ bits held i g all =
    record {
      slice =
          going_whole true role register outs bits₀ bits held i g all
          ∙ ap (λ (l : List ℕ). l ++ drop (length outs) bits₀) (back-passed role register outs);
      held = going_last true role register outs bits₀ bits held i g all ∙ back-held role register outs;
    }

pub whole :
    (back : Bool) (role register : ℕ) (bits out₀ out : List ℕ) (held i : ℕ)
    → Going back role register bits out₀ out held i → length bits ≤ i → Passed back role register bits out₀ held out
whole false = scrambled
whole true = descrambled
