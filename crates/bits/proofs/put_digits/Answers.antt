-- `bits::put_digits` meets its contract: the digits that are put come back to the buffer at their place.
use Rattle.std.proofs.Common.{◌+◌, sym, ap, ◌∙◌, rules}
use borrow.Rule.Slice.PartMut.{put_mid}
use Rattle.laws.proofs.Puts.{put_loan}
use Rattle.bits.proofs.Digitals.{length_digits}
use Rattle.bits.proofs.Values.{one_put, all_put}
use Rattle.bits.proofs.put_digits.Goals as goal

pub loop-bit-preserved : goal.loop-bit-preserved
loop-bit-preserved c = one_put _ _ _ _ _ (search rules) (search rules) c.loop-bit.invariant

pub returns : goal.returns
returns c =
    ap (put_mid c.args.at _ c.args.bits.now) (all_put _ _ _ _ _ (search rules) (search rules) c.loop-bit.invariant)
    ∙ put_loan _ _ _ _ (ap (λ n. c.args.at + n) (sym (length_digits _ _)))
