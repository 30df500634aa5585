-- What the calls of Jp answer to C, for all inputs (V.92, clause 8.6.3; docs/INTERFACE.md). Bits are one to a byte, bit 0 first. An answer is
-- three numbers of four bytes, the fraction and both sizes, and then the eight bytes of a double, the fraction over 65,536.
--
--     ww_jp_read      bits 72, only read; answer 20                     8; 9; 16; 17; 18
--     ww_jp_write     fraction, training, renegotiation; bits 72        8; 18
use Rattle.std.specs.Prelude.{List, ◌∷◌, ℕ}
use Rattle.std.specs.Float.{binary64}
use Rattle.std.specs.Float.Ieee.{to_bits}
use Rattle.sequences.specs.Sequence.{sequence_refusal, SequenceAnswer}
use Rattle.jp.specs.Jp.{JpRead, jp, sent_numbers, answer_of}
use Rattle.jp.specs.declared.sequence.Jp.{Jp}
use Rattle.workerwax.specs.Info.{sequence_read_number, SequenceReadCall}
use Rattle.workerwax.specs.Layout.{words, halves, jp_bytes}

-- the numbers of an answer
abbrev pub answer_numbers : JpRead → List ℕ
answer_numbers a = a.fields.fraction ∷ a.fields.training ∷ a.fields.renegotiation ∷ halves (to_bits binary64 a.part)

-- its bytes, by the numbers of all fields of the sequence
unfoldable pub answer_bytes : List ℕ → List ℕ
answer_bytes numbers = words (answer_numbers (answer_of 0 numbers))

abbrev pub jp_read_number : List ℕ → ℕ → ℕ
jp_read_number = sequence_read_number jp jp_bytes

abbrev pub JpReadCall : List ℕ → List ℕ → ℕ → List ℕ → Type 0
JpReadCall = SequenceReadCall jp jp_bytes answer_bytes

-- the three numbers of a call, as fields
abbrev pub named : ℕ → ℕ → ℕ → Jp
named fraction training renegotiation =
    record { fraction = fraction; training = training; renegotiation = renegotiation }

-- nothing stands between the call and the writer, so its answer is the writer's
abbrev pub jp_write_number : ℕ → ℕ → ℕ → ℕ → ℕ
jp_write_number fraction training renegotiation lent = sequence_refusal jp (sent_numbers (named fraction training renegotiation)) lent

abbrev pub JpWriteCall : ℕ → ℕ → ℕ → List ℕ → ℕ → List ℕ → Type 0
JpWriteCall fraction training renegotiation = SequenceAnswer jp (sent_numbers (named fraction training renegotiation))
