-- `rings::entry::map` meets its contract: a refusal leaves the slice, and where none is given the rings are those of the number.
-- Assumes nothing.
use mathlib.Core.Path.{sym, ap, ◌∙◌}
use native.Mathlib.Omega.{arith}
use lib.ListN.{length}
use Rattle.std.proofs.lemmas.Result.{err_from_is_err_and}
use Rattle.refusals.proofs.Once.{some_number}
use Rattle.rings.specs.Mapping.{map_out, mapped_rings}
use Rattle.rings.proofs.Answering.{map-accepted, map-left}
use Rattle.rings.proofs.entry.map.Goals as goal

pub returns-in_err-map_tested : goal.returns-in_err-map_tested
returns-in_err-map_tested c =
    let told = err_from_is_err_and c.from_residual.result c.from_residual.ensures.1 in
    let e = c.in_err-map_tested.ensures in
    rw (told.1, told.2) (record { refusal = e; slice = map-left _ _ _ _ (λ z. some_number _ (e ∙ z)) })

pub counts_of-counts-requires : goal.counts_of-counts-requires
counts_of-counts-requires c =
    let p = (map-accepted _ _ _ _ (sym c.in_ok-map_tested.ensures)).allowed in record { low = p.low; high = p.high }

pub rings_of-requires : goal.rings_of-requires
rings_of-requires c =
    let a = map-accepted _ _ _ _ (sym c.in_ok-map_tested.ensures) in
    rw c.counts_of-counts.ensures.of (omega (arith, a.low, a.allowed.room))

pub copy_from_slice-requires : goal.copy_from_slice-requires
copy_from_slice-requires c =
    let a = map-accepted _ _ _ _ (sym c.in_ok-map_tested.ensures) in omega (arith, a.eight, ap length c.rings_of.ensures)

pub returns : goal.returns
unfolding map_out mapped_rings
returns c =
    let e = c.in_ok-map_tested.ensures in
    record { refusal = e; slice = rw (sym e) (c.copy_from_slice.ensures.after ∙ rw c.counts_of-counts.ensures.of at c.rings_of.ensures) }
