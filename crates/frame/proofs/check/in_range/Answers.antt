-- `check::in_range` meets its contract: the labels are cut into fours, and each is tested.
use mathlib.Core.Path.{◌∙◌}
use Prim.Native.Nat.{ℕ, ◌*◌, ◌%◌, ◌^◌, ◌≤◌, ◌<◌}
use native.Mathlib.Nat.{mod-eq_of_lt, mul-le-mul}
use native.Mathlib.Omega.{arith}
use lib.Pow.{pow_mono}
use Rattle.std.specs.Slice.Iter.{chunks_exact_steps}
use Rattle.std.proofs.lemmas.Iterator.{YieldsList}
use borrow.Author.Rules.{rules}
use Rattle.frame.specs.Reading.{in_range_at}
use Rattle.frame.proofs.Fours.{fours, yields_fours, fours-in_range}
use Rattle.std.proofs.lemmas.Iterator.Search.{all_from_yields_List}
use Rattle.frame.proofs.check.in_range.Goals as goal

top_small : (m q : ℕ) → m ≤ 18 → q ≤ 5 → m * 2 ^ q < 2 ^ 64
top_small m q few short =
    let scale : 2 ^ q ≤ 32 = pow_mono short in
    let product : m * 2 ^ q ≤ 18 * 32 = mul-le-mul few scale in
    omega arith

pub returns : goal.returns
returns c =
    let chain : YieldsList chunks_exact_steps (λ x. x.now) c.chunks_exact.result (fours 4 c.args.labels.now) =
    record { runs = yields_fours 4 c.chunks_exact.result c.args.labels.now c.chunks_exact.ensures.rest c.chunks_exact.ensures.size c.requires.0 }
    in
    let top : c.args.m * 2 ^ c.args.q < 2 ^ 64 = top_small c.args.m c.args.q c.requires.1 c.requires.2 in
    all_from_yields_List (λ four. in_range_at ((c.args.m * 2 ^ c.args.q) % 2 ^ 64) four 0) _ _ _ c.all.ensures.ran chain
    (λ x b q k. search rules)
    ∙ rw (mod-eq_of_lt top) (fours-in_range c.args.m c.args.q 4 c.args.labels.now)
