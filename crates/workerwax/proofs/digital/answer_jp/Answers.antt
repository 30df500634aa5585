-- `workerwax::digital::answer_jp` meets its contract: the answer has another length, the reader refuses the bits, or what it answers is
-- laid out. Assumes nothing.
use mathlib.Core.Bool.{not}
use mathlib.Core.List.{List}
use mathlib.Core.Path.{refl, sym, ap, subst, ◌∙◌}
use Prim.Native.Nat.{ℕ}
use lib.Dec.{T}
use lib.Ieee.{is_nan}
use Rattle.sequences.proofs.Trips.{answer-fields}
use Rattle.jp.specs.Jp.{JpRead, jp, answer}
use Rattle.jp.proofs.Parts.{part-number}
use Rattle.workerwax.specs.Jp.{answer_bytes}
use Rattle.workerwax.specs.Layout.{words, jp_bytes}
use Rattle.workerwax.proofs.Infos.{read_unlent, read_done}
use Rattle.workerwax.proofs.JpBack.{bytes-are}
use Rattle.workerwax.proofs.digital.answer_jp.Goals as goal

pub returns-then-answer-ne20 : goal.returns-then-answer-ne20
returns-then-answer-ne20 c = let a = c.args in read_unlent jp jp_bytes answer_bytes a.bits.now a.answer.now c.if-answer-ne20.true

-- the float of any answer is a number
number : (bits : List ℕ) → T (not (is_nan (answer bits).part))
number bits = rw (part-number (answer bits).fields.fraction) tt

pub answer_numbers-requires : goal.answer_numbers-requires
answer_numbers-requires c = subst (λ (r : JpRead). T (not (is_nan r.part))) (sym c.in_ok-heard.ensures) (number c.args.bits.now)

pub returns : goal.returns
returns c =
    let a = c.args in
    let accepted = sym (ap (λ (r : JpRead). r.refusal) c.in_ok-heard.ensures) in
    read_done jp jp_bytes answer_bytes a.bits.now a.answer.now _ _ 0 c.if-answer-ne20.false (answer-fields jp a.bits.now accepted) refl
    (c.put_numbers.ensures ∙ (ap words c.answer_numbers.ensures ∙ bytes-are a.bits.now _ c.in_ok-heard.ensures accepted))
