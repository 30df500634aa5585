-- What a turn reads stands behind what was read before.
use Rattle.std.proofs.Common.{◌≡◌, ℕ, ◌+◌, ◌-◌, ◌≤◌, List, ◌++◌, rules, length, take, sym, ap, ◌∙◌, subst, length-take-le}
use Rattle.std.specs.Io.KnownBytes.{Consumes}
use Rattle.std.proofs.KnownBytes.{Consumes-trans}
use borrow.Rule.Slice.PartMut.{put_mid, post_of}
use lib.Seq.{take-append-add, take-append-le}
use Rattle.settings.proofs.read_full.Goals as goal

-- as far as n bytes of a part that was lent from `at` on: what stands before it, and these
part_more :
    (at k n : ℕ) (xs ys : List ℕ) → at ≤ length xs → n ≤ length ys → take (at + n) (put_mid at k xs ys) ≡ take at xs ++ take n ys
part_more at k n xs ys within fits =
    let after = post_of at k xs in
    ap (λ (m : ℕ). take (m + n) (put_mid at k xs ys)) (sym (length-take-le at xs within))
    ∙ take-append-add (take at xs) (ys ++ after) n
    ∙ ap (λ (l : List ℕ). take at xs ++ l) (take-append-le n ys after fits)

pub loop-done-preserved : goal.loop-done-preserved
loop-done-preserved g c =
    let l = c.loop-done in
    let n = c.in_ok-read.read in
    let room = length l.space - l.done in
    let front = part_more l.done room n l.space c.read.new.buf l.invariant.0 c.in_ok-read.ensures.bound.0 in (
      search rules,
      subst (Consumes _ _) (sym front) (Consumes-trans _ _ _ _ _ l.invariant.1 c.in_ok-read.ensures.bytes.0),
    )
