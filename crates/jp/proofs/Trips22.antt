-- Jp there and back, by its names. What was written is read, with the fraction and both sizes that were given, and the float is the fraction
-- over 65,536. What stands in the reserved places of a sequence makes no difference to its answer; writing what was read sets them to 0,
-- and so gives the same bits exactly where they were 0. At most one sequence fits. Assumes nothing.
use mathlib.Core.Bool.{false}
use mathlib.Core.List.{List, [], ◌∷◌, ◌++◌}
use mathlib.Core.Logic.{◌↔◌}
use mathlib.Core.Path.{◌≡◌, refl, sym, ap, ap₂, ◌∙◌}
use Prim.Native.Nat.{ℕ}
use native.Mathlib.Omega.{arith}
use lib.Ieee.Exact.{HasValue}
use lib.ListN.{length, get_or, take, replicate}
use Rattle.bits.specs.Digits.{value, digits}
use Rattle.bits.proofs.Digitals.{value-digits}
use Rattle.sequences.specs.Sequence.{SequenceAnswer}
use Rattle.sequences.proofs.Named.{printed-back, printed-once}
use Rattle.sequences.proofs.Trips.{sequence-accepted, sequence-once, answer_same}
use Rattle.jp.specs.Jp.{jp, sent_numbers, JpRead, says, answer}
use Rattle.jp.specs.Table22.{Sayable, Content, Receivable, sent, sequence22, reserved_in}
use Rattle.jp.specs.declared.sequence.Jp.{Jp}
use Rattle.jp.proofs.Parts.{part-exact}
use Rattle.jp.proofs.Rows22.{numbers_in22, content_of, printed22, sequence_is_22, sent_exactly, reads_exactly, writes_exactly}

-- whatever Table 22 lets a sequence hold is heard, and of the reserved places nothing is
pub said_is_heard : (c : Content) → Receivable c → answer (sequence22 c) ≡ says 0 c.fields
said_is_heard c h =
    let both = printed-back jp numbers_in22 content_of Receivable sequence22 printed22 c h in
    ap₂ (λ (r : ℕ) (d : Content). says r d.fields) both.0 both.1

-- what was read, and the float beside it, which is the fraction over 65,536 exactly
module _ (bits : List ℕ) (read : (answer bits).refusal ≡ 0) where
  pub received : (c : Content) × Receivable c × (bits ≡ sequence22 c)
  received = (reads_exactly bits).0 read

  pub fields-received : (answer bits).fields ≡ received.0.fields
  fields-received =
      ap (λ (l : List ℕ). (answer l).fields) received.2 ∙ ap (λ (a : JpRead). a.fields) (said_is_heard received.0 received.1)

  pub part-received : HasValue (answer bits).part false (answer bits).fields.fraction 65536
  part-received =
      part-exact (answer bits).fields.fraction (omega (arith, ap (λ (f : Jp). f.fraction) fields-received, received.1.fields.fraction))

-- what is written
pub written :
    (f : Jp) (lent : List ℕ) (r : ℕ) (bits : List ℕ) → SequenceAnswer jp (sent_numbers f) lent r bits → r ≡ 0
    → Sayable f × (bits ≡ sequence22 (sent f))
written f lent r bits w z =
    let h = ((writes_exactly f (length lent)).0 (sym w.number ∙ z)).0 in
    (h, sequence-accepted jp (sent_numbers f) lent r bits w z ∙ sequence_is_22 (sent f) ((sent_exactly f).1 h))

-- reading it gives the fields
pub jp-read_back :
    (f : Jp) (lent : List ℕ) (r : ℕ) (bits : List ℕ) → SequenceAnswer jp (sent_numbers f) lent r bits → r ≡ 0 → answer bits ≡ says 0 f
jp-read_back f lent r bits w z =
    let both = written f lent r bits w z in
    ap answer both.1 ∙ said_is_heard (sent f) ((sent_exactly f).1 both.0)

-- the reserved bits of a sequence, by what it holds
reserved-are : (c : Content) → reserved_in (sequence22 c) ≡ digits 12 c.reserved ++ c.last_reserved ∷ []
unfolding digits
reserved-are c = refl

reserved_0 : (c : Content) → Receivable c → reserved_in (sequence22 c) ≡ replicate 13 0 → c ≡ sent c.fields
unfolding digits value
reserved_0 c h e =
    let zeros = sym (reserved-are c) ∙ e in
    let twelve : c.reserved ≡ 0 =
    sym (value-digits 12 c.reserved (omega (arith, h.reserved))) ∙ ap (λ (l : List ℕ). value (take 12 l)) zeros in
    let last : c.last_reserved ≡ 0 = ap (λ (l : List ℕ). get_or l 12 0) zeros in
    ap₂ (λ (r l : ℕ). record { fields = c.fields; reserved = r; last_reserved = l }) twelve last

-- writing what was read
pub jp-written-back :
    (bits lent : List ℕ) (r : ℕ) (after : List ℕ) → length lent ≡ 72 → (answer bits).refusal ≡ 0
    → SequenceAnswer jp (sent_numbers (answer bits).fields) lent r after
    → (r ≡ 0) × ((after ≡ bits) ↔ (reserved_in bits ≡ replicate 13 0))
unfolding digits
jp-written-back bits lent r after long read w = (zero, (there, back))
  where
    c : Content
    c = (received bits read).0

    h : Receivable c
    h = (received bits read).1

    same : bits ≡ sequence22 c
    same = (received bits read).2

    again : SequenceAnswer jp (sent_numbers c.fields) lent r after
    again = answer_same jp _ _ lent r after (ap sent_numbers (fields-received bits read)) w

    zero : r ≡ 0
    zero = again.number ∙ (writes_exactly c.fields (length lent)).1 (h.fields, long)

    is : after ≡ sequence22 (sent c.fields)
    is = (written c.fields lent r after again zero).1

    there : after ≡ bits → reserved_in bits ≡ replicate 13 0
    there e =
        let none = (sent_exactly c.fields).1 h.fields in
        let one =
        printed-once jp numbers_in22 content_of Receivable sequence22 printed22 (sent c.fields) c none h (sym is ∙ (e ∙ same)) in
        ap reserved_in same ∙ ap (λ (d : Content). reserved_in (sequence22 d)) (sym one)

    back : reserved_in bits ≡ replicate 13 0 → after ≡ bits
    back e = is ∙ (ap sequence22 (sym (reserved_0 c h (ap reserved_in (sym same) ∙ e))) ∙ sym same)

pub one_jp-written :
    (f : Jp) (lent : List ℕ) (r r' : ℕ) (after after' : List ℕ)
    → SequenceAnswer jp (sent_numbers f) lent r after → SequenceAnswer jp (sent_numbers f) lent r' after'
    → (r ≡ r') × (after ≡ after')
one_jp-written f lent r r' after after' a b = sequence-once jp (sent_numbers f) lent r r' after after' a b
