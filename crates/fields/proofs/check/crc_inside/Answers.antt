-- `fields::check::crc_inside` meets its contract.
use Rattle.std.proofs.Common.{◌≡◌, sym, rules, tests}
use Rattle.std.proofs.lemmas.Iterator.{empty_from_Zip}
use Rattle.fields.proofs.Checks.{inward_none, inward_fixed, inward-free, inward_all}
use Rattle.fields.proofs.check.crc_inside.Goals as goal

pub loop-place-init : goal.loop-place-init
loop-place-init c =
    let picture : c.into_iter-place-iterator.result.a.rest.now ≡ c.args.picture.now = cc in
    let bits : c.into_iter-place-iterator.result.b.rest.now ≡ c.args.bits.now = cc in
    rw (picture, bits) (inward_none c.args.picture.now c.args.bits.now (sym c.requires.0))

pub stepped-register-requires : goal.stepped-register-requires
stepped-register-requires c = c.loop-place.invariant.small

pub loop-place-preserved-then-place-eq-FREE : goal.loop-place-preserved-then-place-eq-FREE
loop-place-preserved-then-place-eq-FREE c =
    let next = c.in-Some.ensures.steps in
    inward-free _ _ _ _ _ _ _ (rw (next.0, next.1) at c.loop-place.invariant) _ (search (rules, tests)) c.stepped-register.ensures

pub loop-place-preserved : goal.loop-place-preserved
loop-place-preserved c =
    let next = c.in-Some.ensures.steps in
    inward_fixed _ _ _ _ _ _ _ (rw (next.0, next.1) at c.loop-place.invariant) (search (rules, tests))

pub returns : goal.returns
returns c =
    let none = empty_from_Zip c.loop-place.place-iterator c.next.new.self _ c.in-None.is c.next.ensures.steps c.loop-place.invariant.count in
    inward_all _ _ _ (rw (none.0, none.1) at c.loop-place.invariant)
