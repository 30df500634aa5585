-- `writer::frames::send_frame` meets its contract: the front of the space is the scrambled bits, S of these gives the rings, and the frame
-- is written from both. Assumes nothing.
use mathlib.Core.List.{List}
use mathlib.Core.Path.{◌≡◌, ap, ◌∙◌}
use Prim.Native.Nat.{ℕ, ◌^◌, ◌≤◌, ◌<◌}
use native.Mathlib.Omega.{arith}
use lib.ListN.{length, take}
use Rattle.bits.specs.Digits.{value, Bits}
use Rattle.bits.proofs.Digitals.{value-take-below}
use Rattle.listing.specs.Number.{rings_of}
use Rattle.listing.specs.Sets.{as_list}
use Rattle.frame.specs.Shape.{frame_length}
use Rattle.frame.specs.Writing.{frame_labels, frame_turned}
use Rattle.scrambler.proofs.Inverse.{length-scramble, bits-scramble}
use Rattle.writer.proofs.Sends.{front_scrambled, rings-small}
use Rattle.writer.proofs.frames.send_frame.Goals as goal

-- S has room among the M^8 sets
number-below :
    (k s m : ℕ) (front bits : List ℕ) → front ≡ bits → s ≡ value (take k front) → Bits bits → 2 ^ k ≤ m ^ 8 → s < m ^ 8
number-below k s m front bits is-front is-value binary room =
    omega (arith, rw is-front at is-value, value-take-below k bits binary)

pub value_at-s-requires : goal.value_at-s-requires
unfolding frame_length
value_at-s-requires c =
    let a = c.args in
    let p = c.requires in
    let front = front_scrambled _ _ _ _ _ _ c.scramble_part-register.ensures in
    let long = ap length front ∙ length-scramble a.role a.before.register a.bits.now in
    (omega (arith, long, p.size), p.limits.few, rw front (bits-scramble _ _ _))

pub rings_of-rings-requires : goal.rings_of-rings-requires
rings_of-rings-requires c =
    let a = c.args in
    number-below a.shape.shell _ _ _ _ (front_scrambled _ _ _ _ _ _ c.scramble_part-register.ensures) c.value_at-s.ensures
    (bits-scramble a.role a.before.register a.bits.now) c.requires.room

pub write_frame-z-requires : goal.write_frame-z-requires
write_frame-z-requires c =
    let a = c.args in
    let p = c.requires in
    let front = front_scrambled _ _ _ _ _ _ c.scramble_part-register.ensures in
    record {
      limits = p.limits;
      turn = p.turn;
      small =
          rw c.rings_of-rings.ensures
          (rings-small _ _ c.args.counts.now.rows.eights.known.high
          (number-below a.shape.shell _ _ _ _ front c.value_at-s.ensures (bits-scramble a.role a.before.register a.bits.now) p.room));
      binary = rw front (bits-scramble _ _ _);
      size = ap length front ∙ length-scramble _ _ _ ∙ p.size;
      sixteen = p.sixteen;
    }

pub returns : goal.returns
unfolding frame_labels frame_turned
returns c =
    let front = front_scrambled _ _ _ _ _ _ c.scramble_part-register.ensures in
    let m = c.args.counts.now.m in
    let rings = c.rings_of-rings.ensures ∙ ap (λ (S : ℕ). as_list (rings_of m S)) c.value_at-s.ensures in
    record {
      labels = rw (rings, front) at c.write_frame-z.ensures.out_after;
      register = c.scramble_part-register.ensures.held;
      z = rw (rings, front) at c.write_frame-z.ensures.value;
    }
