-- `read::read_frame` meets its contract.
use mathlib.Core.List.{List}
use borrow.Author.Rules.{rules}
use mathlib.Core.Path.{◌≡◌, refl, ap, ◌∙◌}
use Prim.Native.Nat.{ℕ, ◌*◌, ◌^◌, ◌≤◌, ◌<◌}
use native.Mathlib.Omega.{arith}
use lib.ListN.{length, take, drop}
use lib.Seq.{get_or-drop}
use Rattle.frame.specs.Reading.{symbol_read, bits_read}
use Rattle.frame.specs.Requires.{Readable}
use Rattle.frame.specs.Shape.{frame_length}
use Rattle.frame.specs.declared.shape.Shape.{Shape}
use Rattle.frame.specs.declared.symbol.Symbol.{Symbol}
use Rattle.frame.proofs.Fours.{symbol-four, four-long, four_is, turn_is, fours-next, four-more, fours_end}
use Rattle.frame.proofs.ReadLoop.{read_none, symbol_room, read_more, read_all}
use Rattle.frame.proofs.Sixteen.{FourInRange, four-in_range}
use Rattle.frame.proofs.read.read_frame.Goals as goal

-- I1, I2 and I3 of labels in their ranges are bits
binary :
    (top z : ℕ) (labels : List ℕ) (at q : ℕ) → FourInRange top labels at
    → let s = symbol_read q z (drop at labels) in
    (s.i1 ≤ 1) × (s.i2 ≤ 1) × (s.i3 ≤ 1)
unfolding symbol_read
binary top z labels at q r = (rw (get_or-drop at labels 3 0) r.i1, omega arith, omega arith)

-- the labels of this symbol are in their ranges
here :
    {shape : Shape} {number z : ℕ} {labels bits : List ℕ} (j : ℕ) (h : Readable shape number z labels bits) → j < 4
    → FourInRange (h.M * 2 ^ shape.uncoded) labels (4 * j)
here {shape} {labels = labels} j h more = four-in_range h.M shape.uncoded labels h.ranges j more

-- and say the symbol that the specs name
said_by :
    (q z : ℕ) {symbol : Symbol} {four : List ℕ} (labels : List ℕ) (j : ℕ)
    → symbol ≡ symbol_read q z four
    → four ≡ take 4 (drop (4 * j) labels)
    → symbol ≡ symbol_read q z (drop (4 * j) labels)
said_by q z labels j is_read is_four = is_read ∙ (ap (symbol_read q z) is_four ∙ symbol-four (drop (4 * j) labels) q z 4 refl)

pub put_digits-requires : goal.put_digits-requires
unfolding frame_length
put_digits-requires c = omega (arith, c.requires.size)

pub loop-j-init : goal.loop-j-init
unfolding frame_length
loop-j-init c =
    let a = c.args in
    let p = c.requires in
    let all = c.enumerate-j-items.ensures in
    let chunks = c.chunks_exact.ensures in
    let size : length c.put_digits.new.bits ≡ frame_length a.shape = c.put_digits.auto.bits ∙ p.size in
    rw c.into_iter-j-iterator.ensures.into_iter_gives
    (record {
      going = search rules;
      ends = tt;
      left = record { size = rw all.source chunks.size; rest = rw (all.source, all.count) chunks.rest };
      read =
          rw all.count
          (read_none a.shape.uncoded a.shape.threes a.shape.shell a.number a.labels.now a.z a.bits.now _ p.turn p.limits.threes size
          c.put_digits.ensures);
    })

pub symbol_read-symbol-requires : goal.symbol_read-symbol-requires
symbol_read-symbol-requires c =
    let i = c.loop-j.invariant in
    let step = c.in-Some.ensures.steps in
    let more = four-more i.left _ c.in-Some.four c.next.new.self step 4 c.requires.sixteen in (
      four-long i.left _ c.in-Some.four c.next.new.self step,
      c.requires.limits.uncoded,
      i.read.turn,
      rw (turn_is i.left _ c.in-Some.four c.next.new.self step) (here _ c.requires more).turn,
    )

pub put_symbol-at-requires : goal.put_symbol-at-requires
put_symbol-at-requires c =
    let i = c.loop-j.invariant in
    let step = c.in-Some.ensures.steps in
    let more = four-more i.left _ c.in-Some.four c.next.new.self step 4 c.requires.sixteen in
    let said = said_by c.args.shape.uncoded c.loop-j.turned c.args.labels.now _ c.symbol_read-symbol.ensures
    (four_is i.left _ c.in-Some.four c.next.new.self step) in
    let f = binary _ c.loop-j.turned c.args.labels.now _ c.args.shape.uncoded (here _ c.requires more) in
    rw (said, step.1) (f.0, f.1, f.2, symbol_room i.read more _ said)

pub loop-j-preserved : goal.loop-j-preserved
loop-j-preserved c =
    let i = c.loop-j.invariant in
    let step = c.in-Some.ensures.steps in
    let more = four-more i.left _ c.in-Some.four c.next.new.self step 4 c.requires.sixteen in
    let said = said_by c.args.shape.uncoded c.loop-j.turned c.args.labels.now _ c.symbol_read-symbol.ensures
    (four_is i.left _ c.in-Some.four c.next.new.self step) in
    let turn = c.from-turned.ensures ∙ turn_is i.left _ c.in-Some.four c.next.new.self step in
    record {
      going = c.in-Some.ensures.goes.keeps;
      ends = tt;
      left = fours-next i.left _ c.in-Some.four c.next.new.self step;
      read =
          rw step.2
          (read_more i.read more _ said _ _ _ (rw step.1 at c.put_symbol-at.ensures) turn (rw turn (here _ c.requires more).turn));
    }

pub returns : goal.returns
unfolding bits_read
returns c =
    let i = c.loop-j.invariant in
    read_all i.read (fours_end i.left 4 c.requires.sixteen c.next.new.self c.in-None.ensures.steps)
