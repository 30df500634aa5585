-- `rings::entry::rank` meets its contract: the tests come first, then the number is held against 2^K. Assumes nothing.
use mathlib.Core.List.{List, []}
use mathlib.Core.Path.{◌≡◌, sym}
use Prim.Native.Nat.{ℕ, ◌^◌, ◌≤◌, ◌<◌}
use native.Mathlib.Omega.{arith}
use lib.Dec.{eqb}
use lib.ListN.{length}
use borrow.Author.Tests.{lt-leb, le-leb, eqb-true}
use Rattle.std.proofs.lemmas.Result.{err_from_is_err_and}
use Rattle.laws.specs.Choice.{refusal}
use Rattle.laws.proofs.Powers.{shifted_one}
use Rattle.listing.specs.Number.{number}
use Rattle.listing.specs.Sets.{of_list}
use Rattle.refusals.proofs.Once.{some_number}
use Rattle.rings.specs.Mapping.{rank_tests, rank_refusal, ranked_of}
use Rattle.rings.proofs.Answering.{Tested, first_tests, rank-refused}
use Rattle.rings.proofs.Tests.{is_permitted, all-below}
use Rattle.rings.proofs.entry.rank.Goals as goal

pub returns-in_err-eight : goal.returns-in_err-eight
returns-in_err-eight c =
    let told = err_from_is_err_and c.from_residual.result c.from_residual.ensures.1 in
    rw (told.1, told.2) (rank-refused _ _ _ _ c.in_err-eight.ensures.tested (some_number _))

-- what it says that no test refused
passed :
    (K M : ℕ) (rings : List ℕ)
    → 0 ≡ refusal (rank_tests (eqb (length rings) 8) K M rings)
    → Tested K M rings (eqb (length rings) 8)
passed K M rings e = (first_tests K M rings _ [] (sym e)).0

pub counts_of-counts-requires : goal.counts_of-counts-requires
counts_of-counts-requires c =
    let p = (passed _ _ _ c.in_ok-eight.ensures.tested).allowed in record { low = p.low; high = p.high }

pub number_of-number-requires : goal.number_of-number-requires
number_of-number-requires c =
    let e = c.in_ok-eight.ensures in
    let t = passed _ _ _ e.tested in
    rw (e.same, c.counts_of-counts.ensures.of) (all-below _ _ (eqb-true _ 8 t.lengths) t.below)

pub overflow_shl-k : goal.overflow_shl-k
overflow_shl-k c = omega (arith, (passed _ _ _ c.in_ok-eight.ensures.tested).allowed.bits)

-- the tests that are passed, and the number, as the answer has them
pub returns-then-number-k : goal.returns-then-number-k
unfolding ranked_of rank_refusal refusal
returns-then-number-k c =
    let e = c.in_ok-eight.ensures in
    let t = passed _ _ _ e.tested in
    let found : c.number_of-number.result ≡ number c.args.m (of_list c.args.rings.now) =
    rw (e.same, c.counts_of-counts.ensures.of) at c.number_of-number.ensures in
    let high : 2 ^ c.args.k ≤ c.number_of-number.result = omega (arith, shifted_one c.args.k (omega (arith, t.allowed.bits))) in
    rw (is_permitted _ _ t.allowed, t.lengths, t.below, ← found, le-leb _ _ high)

pub returns : goal.returns
unfolding ranked_of rank_refusal refusal
returns c =
    let e = c.in_ok-eight.ensures in
    let t = passed _ _ _ e.tested in
    let found : c.number_of-number.result ≡ number c.args.m (of_list c.args.rings.now) =
    rw (e.same, c.counts_of-counts.ensures.of) at c.number_of-number.ensures in
    let low : c.number_of-number.result < 2 ^ c.args.k = omega (arith, shifted_one c.args.k (omega (arith, t.allowed.bits))) in
    rw (is_permitted _ _ t.allowed, t.lengths, t.below, ← found, lt-leb _ _ low)
