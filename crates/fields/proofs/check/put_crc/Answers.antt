-- `fields::check::put_crc` meets its contract.
use Rattle.std.proofs.Common.{◌≡◌, ◌+◌, ◌-◌, ◌/◌, ◌%◌, ◌^◌, ◌<◌, ◌≤◌, ◌++◌, ℕ, List, bit_and, sym, ap, ap₂, ◌∙◌, length, drop, length-take, length-drop, arith}
use Rattle.std.proofs.Math.ListN.{set, length-set}
use Rattle.std.proofs.lemmas.Nat.{and_mask}
use Rattle.laws.specs.Put.{put}
use Rattle.laws.proofs.Puts.{put-nothing, put_first}
use Rattle.fields.specs.Weights.{high_digits}
use Rattle.fields.proofs.Places.{put-over}
use Rattle.fields.proofs.Weights.{high_digits-next, high_digits_none, length-high_digits}
use Rattle.fields.proofs.check.put_crc.Goals as goal

one_more :
    (bits : List ℕ) (crc i : ℕ)
    → i < 16 → length bits ≡ 16
    → put (set bits i (bit_and (crc / 2 ^ (15 - i)) 1)) (i + 1) (high_digits (16 - (i + 1)) crc) ≡ put bits i (high_digits (16 - i) crc)
one_more bits crc i h long =
    let e : 15 - i ≡ 16 - (i + 1) = omega arith in
    let bit : bit_and (crc / 2 ^ (15 - i)) 1 ≡ crc / 2 ^ (16 - (i + 1)) % 2 =
    and_mask (crc / 2 ^ (15 - i)) 1 ∙ ap (λ (k : ℕ). crc / 2 ^ k % 2) e in
    rw (bit, high_digits-next 16 i crc h)
    (put_first bits i (crc / 2 ^ (16 - (i + 1)) % 2) (high_digits (16 - (i + 1)) crc) (omega arith))

-- by lengths alone, whichever places are lent
pub loop-i-init : goal.loop-i-init
loop-i-init c = (
  grind (arith, length-take, length-drop),
  put-over _ (high_digits 16 c.args.crc) (grind (arith, length-take, length-drop, length-high_digits 16 c.args.crc)),
)

pub loop-i-preserved : goal.loop-i-preserved
loop-i-preserved c =
    let v = c.loop-i.invariant in
    (simp length-set v.0, one_more c.loop-i.bit-items c.args.crc c.loop-i.i (omega (arith, v.0)) v.0 ∙ v.1)

pub returns-clause-front : goal.returns-clause-front
returns-clause-front c =
    let crc = c.args.crc in
    let i = c.loop-i.i in
    let items = c.loop-i.bit-items in
    let none : 16 ≤ i = omega (arith, c.loop-i.invariant.0) in
    let all : items ≡ high_digits 16 crc = sym (put-nothing items i) ∙ (rw (high_digits_none 16 i crc none) at c.loop-i.invariant.1) in
    let behind : 16 ≡ 0 + length (high_digits 16 crc) = omega (arith, length-high_digits 16 crc) in
    ap₂ (λ (front : List ℕ) (n : ℕ). front ++ drop n c.args.bits.now) all behind

pub returns-clause-whole : goal.returns-clause-whole
returns-clause-whole c =
    λ long.
    returns-clause-front c
    ∙ put-over c.args.bits.now (high_digits 16 c.args.crc) (long ∙ sym (length-high_digits 16 c.args.crc))
