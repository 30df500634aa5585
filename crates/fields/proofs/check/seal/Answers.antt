-- `fields::check::seal` meets its contract.
use Rattle.std.proofs.Common.{◌≡◌, ◌+◌, ◌-◌, ap, ◌∙◌, length, take, drop, length-take-le, length-drop, arith}
use Rattle.laws.proofs.Puts.{put_loan}
use Rattle.laws.specs.Put.{put}
use Rattle.fields.proofs.Checks.{sealed_by_put}
use Rattle.fields.proofs.Weights.{length-high_digits}
use Rattle.fields.proofs.check.seal.Goals as goal

pub returns : goal.returns
returns c =
    let body = c.args.body.now in
    let at = length body - 16 in
    let check = c.crc_of-check.result in
    let lent : length (take (length body - at) (drop at body)) ≡ 16 =
    length-take-le (length body - at) (drop at body) (omega (arith, length-drop at body)) ∙ omega (arith, c.requires.0) in
    let alone = c.put_crc.ensures.whole lent in
    let whole : length body ≡ at + length c.put_crc.new.bits = omega (arith, c.requires.0, ap length alone, length-high_digits 16 check) in
    put_loan body at (length body) c.put_crc.new.bits whole
    ∙ ap (put body at) alone
    ∙ sealed_by_put body at check (omega (arith, c.requires.0)) c.requires.1 c.crc_of-check.ensures
