-- `write::write_frame` meets its contract.
use Prim.Native.Nat.{ℕ, ◌+◌, ◌*◌, ◌-◌, ◌<◌}
use native.Mathlib.Omega.{arith}
use lib.ListN.{length, get_or, take, drop, length-drop}
use Rattle.std.proofs.lemmas.List.{take_all}
use Rattle.bits.proofs.Digitals.{bits-drop}
use mathlib.Core.Path.{◌≡◌, refl}
use mathlib.Core.List.{List}
use Rattle.laws.specs.Lists.{Every}
use Rattle.laws.proofs.Counting.{every_at}
use Rattle.frame.specs.Writing.{four_numbers}
use Rattle.frame.proofs.WriteLoop.{write_none, write-more, write_all, bits-there, sixteen}
use Rattle.frame.proofs.Fours.{loan-four}
use Rattle.frame.proofs.write.write_frame.Goals as goal

pub loop-j-init : goal.loop-j-init
loop-j-init c =
    let a = c.args in
    let p = c.requires in
    write_none a.shape a.bits.now _ a.z a.out.now p.turn p.limits.threes p.size p.sixteen

-- the bits from a place on
behind : (bits : List ℕ) (at : ℕ) → take (length bits - at) (drop at bits) ≡ drop at bits
behind bits at = take_all (length bits - at) (drop at bits) (omega (arith, length-drop at bits))

pub symbol_at-symbol-requires : goal.symbol_at-symbol-requires
symbol_at-symbol-requires c =
    let there = bits-there c.loop-j.invariant (omega arith) in
    rw (behind c.args.bits.now c.loop-j.at)
    (omega (arith, there, length-drop c.loop-j.at c.args.bits.now), omega arith, bits-drop c.loop-j.at c.args.bits.now c.requires.binary)

-- the rings are small
ring-small : (ring : List ℕ) (i : ℕ) → Every (λ r. r < 18) ring → get_or ring i 0 < 18
ring-small ring i h = every_at (λ r. r < 18) 0 (omega arith) ring h i

pub label-first-requires : goal.label-first-requires
label-first-requires c =
    (omega arith, ring-small c.args.ring.now (2 * c.loop-j.j) c.requires.small, c.symbol_at-symbol.ensures.fits.first)

pub label-second-requires : goal.label-second-requires
label-second-requires c =
    (omega arith, ring-small c.args.ring.now (2 * c.loop-j.j + 1) c.requires.small, c.symbol_at-symbol.ensures.fits.second)

pub loop-j-preserved : goal.loop-j-preserved
unfolding four_numbers
loop-j-preserved c =
    write-more c.loop-j.invariant (omega arith) _ _ _ _ _ (rw behind at c.symbol_at-symbol.ensures.value) c.label-first.ensures c.label-second.ensures
    c.turn-turned.ensures.value (rw c.lead.ensures) _
    (loan-four _ _ _ _ c.loop-j.out (4 * c.loop-j.j) (4 * c.loop-j.j + 4) refl (omega (arith, sixteen c.loop-j.invariant)))

pub returns-clause-out_after : goal.returns-clause-out_after
returns-clause-out_after c = (write_all c.loop-j.invariant (omega arith)).0

pub returns-clause-value : goal.returns-clause-value
returns-clause-value c = (write_all c.loop-j.invariant (omega arith)).1
