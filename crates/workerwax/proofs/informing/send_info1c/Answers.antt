-- `workerwax::informing::send_info1c` meets its contract: the fields have another length, or the writer answers to the fields and the
-- count that the bytes hold. Assumes nothing.
use mathlib.Core.List.{List}
use mathlib.Core.Path.{sym, ap, ap₂, subst, ◌∙◌}
use Prim.Native.Nat.{ℕ, ◌<◌}
use native.Mathlib.Omega.{arith}
use lib.IntN.{ℤ}
use lib.ListN.{get_or}
use mir.Syntax.{w32}
use mir.ValLaws.{to_z-of_z}
use Rattle.laws.proofs.Counting.{every_at}
use Rattle.sequences.proofs.Trips.{answer_same}
use Rattle.offset.specs.Signed.{unsigned}
use Rattle.info.specs.Info1c.{info1c, numbers_of, fields_of}
use Rattle.info.specs.declared.info1c.Info1c.{Info1c}
use Rattle.workerwax.specs.Info.{from32, count_in10}
use Rattle.workerwax.specs.Layout.{numbers_in, info1c_bytes}
use Rattle.workerwax.proofs.Infos.{write_unhanded, write_done}
use Rattle.workerwax.proofs.Undone.{FourBytes, bytes-each, numbers-short}
use Rattle.workerwax.proofs.informing.send_info1c.Goals as goal

pub returns-then-fields-ne88 : goal.returns-then-fields-ne88
returns-then-fields-ne88 c = let a = c.args in write_unhanded info1c info1c_bytes count_in10 a.fields.now a.bits.now c.if-fields-ne88.true

-- the count has four bytes
pub signed-count-requires : goal.signed-count-requires
signed-count-requires c =
    let fields = c.args.fields.now in
    let small = numbers-short fields (bytes-each fields (λ i. omega (arith, c.type_inv.fields i))) in
    let four : get_or (numbers_in fields) 21 0 < 4294967296 = every_at FourBytes 0 (omega arith) (numbers_in fields) small 21 in
    (omega arith, subst (λ (l : List ℕ). get_or l 21 0 < 4294967296) (sym c.take_numbers.ensures) four)

-- the writer answers to the numbers that the bytes hold
pub returns : goal.returns
unfolding count_in10
returns c =
    let a = c.args in
    let same = to_z-of_z w32 c.signed-count.result (record { sfits = c.signed-count.type_inv }) in
    let below =
    answer_same info1c _ _ _ _ _
    (ap₂ (λ (f : Info1c) (z : ℤ). numbers_of f (unsigned 512 z)) c.from_numbers.ensures (same ∙ c.signed-count.ensures)
    ∙ ap (λ (l : List ℕ). numbers_of (fields_of l) (unsigned 512 (from32 (get_or l 21 0)))) c.take_numbers.ensures)
    c.write.ensures in
    write_done info1c info1c_bytes count_in10 a.fields.now a.bits.now _ _ c.if-fields-ne88.false below
