-- Where each refusal is given: the first test that fails decides, in the order 8, 9, 16, 17, 18. Assumes nothing.
use mathlib.Core.Bool.{Bool, true, false, not}
use mathlib.Core.List.{List, ◌∷◌}
use mathlib.Core.Path.{◌≡◌, ap, ◌∙◌}
use Prim.Native.Nat.{ℕ}
use lib.ListN.{length}
use borrow.Author.Tests.{eq-eqb, ne_eqb}
use Rattle.laws.specs.Choice.{refusal}
use Rattle.laws.proofs.Choices.{no_tests, passed_over, given}
use Rattle.bits.specs.Digits.{all_bits}
use Rattle.sequences.specs.Picture.{inside, all_hold}
use Rattle.sequences.specs.Sequence.{Sequence, is_sealed, is_long, fields_tests, sequence_tests, fields_refusal, sequence_refusal}
use Rattle.sequences.specs.Table.{fields_in, in_range, bit_count}

module _ (s : Sequence) where
  -- the test of a length, passed
  past_8 : (n : ℕ) → n ≡ length s.picture → (rest : List (Bool × ℕ)) → refusal ((not (is_long s n), 8) ∷ rest) ≡ refusal rest
  past_8 n e rest = passed_over (not (is_long s n)) 8 rest (ap not (eq-eqb n (length s.picture) e))

  -- the reader
  module _ (bits : List ℕ) where
    pub length_is_8 : (length bits ≡ length s.picture → ⊥) → fields_refusal s bits ≡ 8
    unfolding fields_tests
    length_is_8 h = given _ 8 _ (ap not (ne_eqb (length bits) (length s.picture) h))

    module _ (long : length bits ≡ length s.picture) where
      pub byte_is_9 : all_bits bits ≡ false → fields_refusal s bits ≡ 9
      unfolding fields_tests
      byte_is_9 h = past_8 (length bits) long _ ∙ given _ 9 _ (ap not h)

      module _ (binary : all_bits bits ≡ true) where
        past_9 : (rest : List (Bool × ℕ)) → refusal ((not (is_long s (length bits)), 8) ∷ (not (all_bits bits), 9) ∷ rest) ≡ refusal rest
        past_9 rest = past_8 (length bits) long _ ∙ passed_over (not (all_bits bits)) 9 rest (ap not binary)

        pub place_is_16 : all_hold s.picture bits ≡ false → fields_refusal s bits ≡ 16
        unfolding fields_tests
        place_is_16 h = past_9 _ ∙ given _ 16 _ (ap not h)

        module _ (held : all_hold s.picture bits ≡ true) where
          pub check_is_17 : is_sealed (bit_count s.table) (inside s.picture bits) ≡ false → fields_refusal s bits ≡ 17
          unfolding fields_tests
          check_is_17 h = past_9 _ ∙ (passed_over _ 16 _ (ap not held) ∙ given _ 17 _ (ap not h))

          module _ (closed : is_sealed (bit_count s.table) (inside s.picture bits) ≡ true) where
            pub field_is_18 : in_range s.table (fields_in s.table bits) ≡ false → fields_refusal s bits ≡ 18
            unfolding fields_tests
            field_is_18 h =
                past_9 _ ∙ (passed_over _ 16 _ (ap not held) ∙ (passed_over _ 17 _ (ap not closed) ∙ given _ 18 _ (ap not h)))

            pub read_is_0 : in_range s.table (fields_in s.table bits) ≡ true → fields_refusal s bits ≡ 0
            unfolding fields_tests
            read_is_0 h =
                past_9 _
                ∙ (passed_over _ 16 _ (ap not held)
                ∙ (passed_over _ 17 _ (ap not closed) ∙ (passed_over _ 18 _ (ap not h) ∙ no_tests)))

  -- the writer
  module _ (numbers : List ℕ) (lent : ℕ) where
    pub lent_is_8 : (lent ≡ length s.picture → ⊥) → sequence_refusal s numbers lent ≡ 8
    unfolding sequence_tests
    lent_is_8 h = given _ 8 _ (ap not (ne_eqb lent (length s.picture) h))

    module _ (long : lent ≡ length s.picture) where
      pub number_is_18 : in_range s.table numbers ≡ false → sequence_refusal s numbers lent ≡ 18
      unfolding sequence_tests
      number_is_18 h = past_8 lent long _ ∙ given _ 18 _ (ap not h)
