-- At most one outcome fits the contract of each call: one number, and one content of every lent slice. Assumes nothing.
use mathlib.Core.List.{List}
use mathlib.Core.Path.{◌≡◌, sym, ◌∙◌}
use Prim.Native.Nat.{ℕ}
use Rattle.line.specs.Worked.{Worked}
use Rattle.rings.specs.Mapping.{MapAnswer}
use Rattle.sequences.specs.Sequence.{Sequence}
use Rattle.info.specs.Info0.{info0}
use Rattle.info.specs.Info1c.{info1c}
use Rattle.jp.specs.Jp.{jp}
use Rattle.jp.proofs.Trips22.{one_jp-written}
use Rattle.coder.specs.declared.states.State.{State}
use Rattle.coder.specs.State.{Started}
use Rattle.workerwax.specs.Calls.{ParametersCall, RankCall, StartCall, WriteCall, ReadCall}
use Rattle.workerwax.specs.Info.{SequenceReadCall, SequenceWriteCall, Info0ReadCall, Info0WriteCall, as_they_are}
use Rattle.workerwax.specs.Info.{Info1cReadCall, Info1cWriteCall, count_in10, reported}
use Rattle.workerwax.specs.Jp.{named, answer_bytes, JpReadCall, JpWriteCall}
use Rattle.workerwax.specs.Layout.{words, info0_bytes, info1c_bytes, report_bytes, jp_bytes}

pub one_parameters :
    (worked : Worked) (answer : List ℕ) (v w : ℕ) (after other : List ℕ)
    → ParametersCall worked answer v after → ParametersCall worked answer w other → (v ≡ w) × (after ≡ other)
one_parameters worked answer v w after other p q = (p.number ∙ sym q.number, p.values ∙ sym q.values)

pub one_mapping :
    (K M S : ℕ) (rings : List ℕ) (v w : ℕ) (after other : List ℕ)
    → MapAnswer K M S rings v after → MapAnswer K M S rings w other → (v ≡ w) × (after ≡ other)
one_mapping K M S rings v w after other p q = (p.refusal ∙ sym q.refusal, p.slice ∙ sym q.slice)

pub one_ranking :
    (K M : ℕ) (rings answer : List ℕ) (v w : ℕ) (after other : List ℕ)
    → RankCall K M rings answer v after → RankCall K M rings answer w other → (v ≡ w) × (after ≡ other)
one_ranking K M rings answer v w after other p q = (p.refusal ∙ sym q.refusal, p.place ∙ sym q.place)

-- ww_start and ww_short_start
pub one_starting :
    (begun : Started) (answer : List ℕ) (v w : ℕ) (after other : List ℕ)
    → StartCall begun answer v after → StartCall begun answer w other → (v ≡ w) × (after ≡ other)
one_starting begun answer v w after other p q = (p.number ∙ sym q.number, p.state ∙ sym q.state)

pub one_writing :
    (st : State) (bits lent answer : List ℕ) (v w : ℕ) (labels labels' after other : List ℕ)
    → WriteCall st bits lent answer v labels after → WriteCall st bits lent answer w labels' other
    → (v ≡ w) × (labels ≡ labels') × (after ≡ other)
one_writing st bits lent answer v w labels labels' after other p q =
    (p.number ∙ sym q.number, p.labels ∙ sym q.labels, p.next ∙ sym q.next)

pub one_reading :
    (st : State) (labels lent answer : List ℕ) (v w : ℕ) (bits bits' after other : List ℕ)
    → ReadCall st labels lent answer v bits after → ReadCall st labels lent answer w bits' other
    → (v ≡ w) × (bits ≡ bits') × (after ≡ other)
one_reading st labels lent answer v w bits bits' after other p q =
    (p.number ∙ sym q.number, p.bits ∙ sym q.bits, p.next ∙ sym q.next)

-- the calls of any sequence, and so those of INFO0 and of INFO1c, and the one that reads Jp
module _ (s : Sequence) (bytes : ℕ) where
  pub one_sequence-reading :
      (shown : List ℕ → List ℕ) (bits lent : List ℕ) (v w : ℕ) (after other : List ℕ)
      → SequenceReadCall s bytes shown bits lent v after → SequenceReadCall s bytes shown bits lent w other → (v ≡ w) × (after ≡ other)
  one_sequence-reading shown bits lent v w after other p q = (p.number ∙ sym q.number, p.answer ∙ sym q.answer)

  pub one_sequence-writing :
      (meant : List ℕ → List ℕ) (fields lent : List ℕ) (v w : ℕ) (after other : List ℕ)
      → SequenceWriteCall s bytes meant fields lent v after → SequenceWriteCall s bytes meant fields lent w other
      → (v ≡ w) × (after ≡ other)
  one_sequence-writing meant fields lent v w after other p q = (p.number ∙ sym q.number, p.sequence ∙ sym q.sequence)

pub one_info0-reading :
    (bits lent : List ℕ) (v w : ℕ) (after other : List ℕ)
    → Info0ReadCall bits lent v after → Info0ReadCall bits lent w other → (v ≡ w) × (after ≡ other)
one_info0-reading = one_sequence-reading info0 info0_bytes words

pub one_info0-writing :
    (fields lent : List ℕ) (v w : ℕ) (after other : List ℕ)
    → Info0WriteCall fields lent v after → Info0WriteCall fields lent w other → (v ≡ w) × (after ≡ other)
one_info0-writing = one_sequence-writing info0 info0_bytes as_they_are

pub one_info1c-reading :
    (bits lent : List ℕ) (v w : ℕ) (after other : List ℕ)
    → Info1cReadCall bits lent v after → Info1cReadCall bits lent w other → (v ≡ w) × (after ≡ other)
one_info1c-reading = one_sequence-reading info1c report_bytes reported

pub one_info1c-writing :
    (fields lent : List ℕ) (v w : ℕ) (after other : List ℕ)
    → Info1cWriteCall fields lent v after → Info1cWriteCall fields lent w other → (v ≡ w) × (after ≡ other)
one_info1c-writing = one_sequence-writing info1c info1c_bytes count_in10

pub one_jp-reading :
    (bits lent : List ℕ) (v w : ℕ) (after other : List ℕ)
    → JpReadCall bits lent v after → JpReadCall bits lent w other → (v ≡ w) × (after ≡ other)
one_jp-reading = one_sequence-reading jp jp_bytes answer_bytes

pub one_jp-writing :
    (fraction training renegotiation : ℕ) (lent : List ℕ) (v w : ℕ) (after other : List ℕ)
    → JpWriteCall fraction training renegotiation lent v after → JpWriteCall fraction training renegotiation lent w other
    → (v ≡ w) × (after ≡ other)
one_jp-writing fraction training renegotiation = one_jp-written (named fraction training renegotiation)
