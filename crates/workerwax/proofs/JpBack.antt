-- Jp over the calls that C makes, whatever outcome fits the contracts. What an answer of ww_jp_read says: the fraction and both sizes, and
-- behind them the eight bytes of a double that is the fraction over 65,536 exactly. Reading what ww_jp_write wrote gives the numbers that it
-- was given; writing what was read gives the bits exactly where the reserved ones were 0. Assumes nothing.
use mathlib.Core.Bool.{false}
use mathlib.Core.List.{List, [], ◌∷◌}
use mathlib.Core.Logic.{◌↔◌}
use mathlib.Core.Path.{◌≡◌, refl, sym, ap, subst, ◌∙◌}
use Prim.Native.Nat.{ℕ}
use native.Mathlib.Omega.{arith}
use lib.Ieee.{Float, binary64, to_bits}
use lib.Ieee.Exact.{HasValue}
use lib.ListN.{length, get_or, drop, replicate}
use lib.Seq.{drop_at}
use Rattle.laws.specs.Lists.{Every}
use Rattle.sequences.specs.Sequence.{fields_refusal}
use Rattle.sequences.specs.Table.{fields_in}
use Rattle.jp.specs.Jp.{jp, answer}
use Rattle.jp.specs.Part.{part_of}
use Rattle.jp.specs.Table22.{sent, sequence22, reserved_in}
use Rattle.jp.specs.declared.sequence.Jp.{Jp}
use Rattle.jp.specs.Jp.{JpRead}
use Rattle.jp.proofs.Answers.{answer-read}
use Rattle.jp.proofs.Parts.{part-fits}
use Rattle.jp.proofs.Trips22.{received, fields-received, part-received, written, jp-read_back, jp-written-back}
use Rattle.jp.proofs.Worked22.{mixed-numbers, part_of_46277}
use Rattle.workerwax.specs.Jp.{answer_numbers, answer_bytes, JpReadCall, named, JpWriteCall}
use Rattle.workerwax.specs.Layout.{word, words, numbers_in, halves, jp_bytes, jp_bits}
use Rattle.workerwax.proofs.Doubles.{lowest_first, halves_lowest}
use Rattle.workerwax.proofs.Infos.{read-zero, read-shown}
use Rattle.workerwax.proofs.Layouts.{length-words, words_append}
use Rattle.workerwax.proofs.Undone.{FourBytes, numbers-back}

-- the fields that an answer says, as ww_jp_write takes them, and the bytes of the double behind them
abbrev pub fraction_in : List ℕ → ℕ
fraction_in after = get_or (numbers_in after) 0 0

abbrev pub training_in : List ℕ → ℕ
training_in after = get_or (numbers_in after) 1 0

abbrev pub renegotiation_in : List ℕ → ℕ
renegotiation_in after = get_or (numbers_in after) 2 0

abbrev pub part_in : List ℕ → List ℕ
part_in after = drop 12 after

-- the bytes that ww_jp_read puts down, by what the reader below it answered
pub bytes-are :
    (bits : List ℕ) (a : JpRead) → a ≡ answer bits → fields_refusal jp bits ≡ 0
    → words (answer_numbers a) ≡ answer_bytes (fields_in jp.table bits)
unfolding answer_bytes
bytes-are bits a is read = ap (λ (q : JpRead). words (answer_numbers q)) (is ∙ answer-read bits read)

module _ (bits lent : List ℕ) (r : ℕ) (after : List ℕ) (call : JpReadCall bits lent r after) (zero : r ≡ 0) where
  accepted : fields_refusal jp bits ≡ 0
  accepted = ((read-zero jp jp_bytes answer_bytes bits lent r after call).0 zero).1

  abbrev all : List ℕ
  all = answer_numbers (answer bits)

  after-all : after ≡ words all
  after-all =
      read-shown jp jp_bytes answer_bytes bits lent r after call zero ∙ sym (bytes-are bits (answer bits) refl accepted)

  all_short : Every FourBytes all
  all_short =
      let same = fields-received bits accepted in
      let fields = (received bits accepted).1.fields in
      let fits = part-fits (answer bits).fields.fraction in (
        omega (arith, ap (λ (f : Jp). f.fraction) same, fields.fraction),
        (
          omega (arith, ap (λ (f : Jp). f.training) same, fields.training),
          (omega (arith, ap (λ (f : Jp). f.renegotiation) same, fields.renegotiation), (omega (arith, fits), (omega (arith, fits), tt))),
        ),
      )

  -- its numbers are those of the answer of the reader below
  pub answer-says : numbers_in after ≡ answer_numbers (answer bits)
  answer-says = ap numbers_in after-all ∙ numbers-back all all_short

  pub fields-answered : named (fraction_in after) (training_in after) (renegotiation_in after) ≡ (answer bits).fields
  fields-answered = ap (λ (l : List ℕ). named (get_or l 0 0) (get_or l 1 0) (get_or l 2 0)) answer-says

  -- and the last eight bytes are a double, which is the fraction over 65,536
  pub part-answered : (x : Float) × (part_in after ≡ lowest_first 8 (to_bits binary64 x)) × HasValue x false (fraction_in after) 65536
  part-answered =
      let f = (answer bits).fields in
      let x = (answer bits).part in
      let front = f.fraction ∷ f.training ∷ f.renegotiation ∷ [] in
      let back = halves (to_bits binary64 x) in (
        x,
        ap (drop 12) (after-all ∙ words_append front back)
            ∙ (drop_at (words front) (words back) 12 (length-words front) ∙ halves_lowest (to_bits binary64 x)),
        subst (λ (n : ℕ). HasValue x false n 65536) (sym (ap (λ (g : Jp). g.fraction) fields-answered)) (part-received bits accepted),
      )

  pub jp-write_what_was_read :
      (room : List ℕ) (r' : ℕ) (sent : List ℕ)
      → JpWriteCall (fraction_in after) (training_in after) (renegotiation_in after) room r' sent → length room ≡ jp_bits
      → (r' ≡ 0) × ((sent ≡ bits) ↔ (reserved_in bits ≡ replicate 13 0))
  jp-write_what_was_read room r' sent write long =
      jp-written-back bits room r' sent long accepted
      (subst (λ (f : Jp). JpWriteCall f.fraction f.training f.renegotiation room r' sent) fields-answered write)

-- what ww_jp_write writes: Table 22's sequence, the second number in bit 48 and the third in bit 49, and zeros in the reserved places
module _ (fraction training renegotiation : ℕ) (lent : List ℕ) (r : ℕ) (bits : List ℕ)
    (write : JpWriteCall fraction training renegotiation lent r bits) (zero : r ≡ 0) where
  pub jp-written-bits : bits ≡ sequence22 (sent (record { fraction = fraction; training = training; renegotiation = renegotiation }))
  jp-written-bits = (written (named fraction training renegotiation) lent r bits write zero).1

  pub jp-read_what_was_written :
      (room : List ℕ) (r' : ℕ) (after : List ℕ) → JpReadCall bits room r' after → length room ≡ jp_bytes
      → (r' ≡ 0) × (numbers_in after ≡ fraction ∷ training ∷ renegotiation ∷ halves (to_bits binary64 (part_of fraction)))
  jp-read_what_was_written room r' after read exact =
      let back = jp-read_back (named fraction training renegotiation) lent r bits write zero in
      let none = (read-zero jp jp_bytes answer_bytes bits room r' after read).1 (exact, ap (λ (q : JpRead). q.refusal) back) in
      (none, answer-says bits room r' after read none ∙ ap answer_numbers back)

-- the bytes of an answer worked out: fraction 46,277, sizes 1 and 0, and 0x3FE698A000000000
pub worked-answer :
    answer_bytes mixed-numbers
    ≡ 197 ∷ 180 ∷ 0 ∷ 0 ∷ 1 ∷ 0 ∷ 0 ∷ 0 ∷ 0 ∷ 0 ∷ 0 ∷ 0 ∷ 0 ∷ 0 ∷ 0 ∷ 0 ∷ 160 ∷ 152 ∷ 230 ∷ 63 ∷ []
unfolding answer_bytes words word
worked-answer = ap (λ (n : ℕ). words (46277 ∷ 1 ∷ 0 ∷ halves n)) part_of_46277
