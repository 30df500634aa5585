-- The sequence around n bits of fields and their check is fill, sync, these, and fill, for every n and every table. Assumes nothing.
use mathlib.Core.List.{List, [], ◌++◌, append-nil, append_assoc}
use mathlib.Core.Path.{◌≡◌, sym, ap, ap₂, ◌∙◌}
use Prim.Native.Nat.{ℕ, ◌+◌}
use lib.ListN.{length, length-append}
use Rattle.sequences.specs.Picture.{fixed, around}
use Rattle.sequences.specs.Register.{crc}
use Rattle.sequences.specs.Sequence.{sealed, sequence_of}
use Rattle.sequences.specs.declared.Field.{Field}
use Rattle.sequences.specs.Table.{field_bits, bit_count}
use Rattle.sequences.proofs.Pictures.{around-places}
use Rattle.sequences.proofs.Registers.{length-crc}
use Rattle.sequences.proofs.Tables.{length-field_bits}
use Rattle.info.specs.Frame.{fill, sync, sent, framed}

pub around-framed : (n : ℕ) (body : List ℕ) → length body ≡ n + 16 → around (framed n) body ≡ fill ++ (sync ++ (body ++ fill))
unfolding framed fixed fill sync around
around-framed n body e =
    ap (λ (l : List ℕ). around (framed n) l) (sym (append-nil body))
    ∙ ap (λ (l : List ℕ). fill ++ (sync ++ l)) (around-places (n + 16) (fixed fill) body [] e)

-- so a sequence is as it is printed, where the bits of its fields are
pub sent_as_printed :
    (n : ℕ) (table : List Field) (numbers said : List ℕ) → bit_count table ≡ n → field_bits table numbers ≡ said
    → sequence_of (record { picture = framed n; table = table }) numbers ≡ sent said
unfolding sequence_of sealed
sent_as_printed n table numbers said size e =
    let long : length said ≡ n = ap length (sym e) ∙ (length-field_bits table numbers ∙ size) in
    let body : length (said ++ crc said) ≡ n + 16 = length-append said (crc said) ∙ ap₂ ◌+◌ long (length-crc said) in
    ap (λ (d : List ℕ). around (framed n) (d ++ crc d)) e
    ∙ (around-framed n (said ++ crc said) body ∙ ap (λ (l : List ℕ). fill ++ (sync ++ l)) (append_assoc said (crc said) fill))
