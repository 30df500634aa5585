-- What the reader answers where the sequence is accepted, and where it is refused. Assumes nothing.
use mathlib.Core.List.{List}
use mathlib.Core.Path.{◌≡◌, refl, sym, ap, ap₂}
use Prim.Native.Nat.{ℕ, ◌≤◌}
use native.Mathlib.Omega.{arith}
use lib.ListN.{replicate}
use Rattle.sequences.specs.Sequence.{fields_refusal, FieldsAnswer}
use Rattle.sequences.specs.Table.{up_to, fields_in}
use Rattle.sequences.proofs.Sequences.{reads}
use Rattle.sequences.proofs.Tables.{range_at}
use Rattle.sequences.proofs.Trips.{fields-accepted, answer-fields, answer-zeros}
use Rattle.jp.specs.Jp.{jp, fields_of, answer_of, answer}

module _ (bits : List ℕ) where
  pub answer-read : fields_refusal jp bits ≡ 0 → answer bits ≡ answer_of 0 (fields_in jp.table bits)
  answer-read read = ap₂ answer_of read (sym (answer-fields jp bits read).fields)

  pub answer-refused :
      (fields_refusal jp bits ≡ 0 → ⊥) → answer bits ≡ answer_of (fields_refusal jp bits) (replicate 6 0)
  unfolding jp
  answer-refused refused =
      ap (answer_of (fields_refusal jp bits)) (sym (answer-zeros jp bits (fields_refusal jp bits) refl refused).fields)

  pub fraction-held : fields_refusal jp bits ≡ 0 → (fields_of (fields_in jp.table bits)).fraction ≤ 65535
  unfolding jp
  fraction-held read =
      (range_at jp.table (fields_in jp.table bits) 0 (up_to 0 0 0) (reads jp bits read).1.ranges (omega arith)).1

-- the reader's two ways out
pub answer-told : (bits : List ℕ) (r : ℕ) (found : List ℕ) → FieldsAnswer jp bits r found → answer_of r found ≡ answer bits
answer-told bits r found a = ap₂ answer_of a.number a.fields

pub fraction-answered : (bits found : List ℕ) → FieldsAnswer jp bits 0 found → (fields_of found).fraction ≤ 65535
fraction-answered bits found a = rw (fields-accepted jp bits 0 found a refl) (fraction-held bits (sym a.number))
