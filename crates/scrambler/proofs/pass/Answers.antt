-- `scrambler::pass` meets its contract: each turn stores the next sum, and pushes it or what was received.
use Rattle.std.proofs.Common.{◌∙◌, ap, arith, rules, eq-eqb, ne_eqb}
use Rattle.bits.proofs.Digitals.{bits_at}
use Rattle.scrambler.proofs.Inverse.{bit-out}
use Rattle.scrambler.specs.Scrambler.{scrambled_bit}
use Rattle.scrambler.proofs.Slices.{going_none, going_more, whole}
use Rattle.scrambler.proofs.pass.Goals as goal
use Rattle.scrambler.proofs.pass.Goals.{then-this-ne0, else-this-ne0}

pub loop-i-init : goal.loop-i-init
loop-i-init g c = going_none _ _ _ _ _ c.requires.small

pub overflow_cast-out : goal.overflow_cast-out
overflow_cast-out g c = omega (arith, c.through-sum.ensures, bit-out c.args.role c.loop-i.held c.from-bit.result)

pub pushed-held-requires : goal.pushed-held-requires
pushed-held-requires g c = (
  c.loop-i.invariant.small,
  elim c.if-this-ne0.branch [
    | then-this-ne0 w ↦ omega (arith, w.pushed-is, c.from-bit.ensures, bits_at c.args.bits.now c.loop-i.i c.requires.binary)
    | else-this-ne0 w ↦ omega (arith, w.pushed-is, c.through-sum.ensures, bit-out c.args.role c.loop-i.held c.from-bit.result)
  ],
)

pub loop-i-preserved : goal.loop-i-preserved
loop-i-preserved g c =
    let sum = c.through-sum.ensures ∙ ap (scrambled_bit c.args.role c.loop-i.held) c.from-bit.ensures in
    going_more _ _ _ _ _ _ _ _ c.loop-i.invariant c.loop-i-test.true _ _ _ (search rules) sum
    (elim c.if-this-ne0.branch [
      | then-this-ne0 w ↦ rw (ne_eqb _ _ w.if-this-ne0.true) (w.pushed-is ∙ c.from-bit.ensures)
      | else-this-ne0 w ↦ rw (eq-eqb _ _ w.if-this-ne0.false) (w.pushed-is ∙ sum)
    ])
    c.pushed-held.ensures

pub returns : goal.returns
returns g c = whole _ _ _ _ _ _ _ _ c.loop-i.invariant (omega arith)
