-- Which calls get 0, for whatever outcome fits a call's contract: exactly those that say nothing wrong, with slices of exact lengths.
--     parameters_accepts     what is asked is right
--     map-accepts            K and M are permitted, and the number is below 2^K
--     rank-accepts           K and M are permitted, and fewer than 2^K sets stand before the rings, which are below M
--     start-accepts          the settings are right, the register is below 2^23 and Z at most 3
--     short_start-accepts    the settings are right, with shaping 0
--     write-accepts          the state is one that a start answers, and the bytes are bits
--     read-accepts           the state is one that a start answers, and no test refuses the labels that the bytes hold
--     info0-read-accepts     the bits are those of Table 14 for fields that it can say
--     info0-write-accepts    the bytes hold fields that Table 14 can say
--     info1c-read-accepts    the bits are those of Table 15 for fields and a count that it can say
--     info1c-write-accepts   the bytes hold fields and a count that Table 15 can say
--     jp-read-accepts        the bits are those of Table 22 of V.92 for fields that it can say, with anything in the reserved places
--     jp-write-accepts       the fraction is at most 65,535 and each size at most 1
-- and so ww_write takes every data frame of N bits from a state that a start answered, `writes-from_start`. Assumes nothing.
use mathlib.Core.Bool.{Bool, true, false, not, cond}
use mathlib.Core.List.{List, [], ◌∷◌}
use mathlib.Core.Logic.{◌↔◌}
use mathlib.Core.Path.{◌≡◌, refl, sym, subst, ◌∙◌}
use Prim.Native.Nat.{ℕ, ◌*◌, ◌^◌, ◌≤◌, ◌<◌}
use native.Mathlib.Omega.{arith}
use lib.Dec.{eqb}
use lib.ListN.{length}
use borrow.Author.Tests.{eqb-true, eqb-false}
use Rattle.laws.specs.Choice.{refusal}
use Rattle.laws.specs.Lists.{Every}
use Rattle.bits.specs.Digits.{Bits}
use Rattle.laws.proofs.Bools.{not-not}
use Rattle.laws.proofs.Choices.{none_first}
use Rattle.rings.specs.Mapping.{MapAnswer, Mappable, Rankable, ranked_of}
use Rattle.rings.proofs.Acceptance.{mapper_accepts, ranker_accepts}
use Rattle.line.specs.Asked.{asked}
use Rattle.line.specs.declared.asked.Asked.{Asked}
use Rattle.line.specs.declared.settings.Settings.{Settings}
use Rattle.line.specs.Worked.{Accepted}
use Rattle.line.specs.Settings.{worked_of, number_of}
use Rattle.line.proofs.Acceptance.{Right, unrefused_right, right_unrefused, number_is}
use Rattle.sequences.specs.Picture.{fixed, places}
use Rattle.sequences.specs.Sequence.{Sequence}
use Rattle.offset.specs.Signed.{unsigned}
use Rattle.sequences.proofs.Named.{Printed, reads_exactly, numbers_exactly}
use Rattle.info.specs.Frame.{fill, sync, framed}
use Rattle.info.specs.Info0.{info0, numbers_of}
use Rattle.info.specs.Table14.{Sayable, sequence14}
use Rattle.info.specs.declared.info0.Info0.{Info0}
use Rattle.info.specs.Info1c.{info1c, numbers_of as info1cNumbers}
use Rattle.info.specs.Table15.{Sayable as Sayable15, sequence15}
use Rattle.info.proofs.Rows14.{fields_of, printed14}
use Rattle.info.proofs.Rows15.{Said, numbers_said, said_by, MaySay, sequence_said, printed15}
use Rattle.jp.specs.Jp.{jp}
use Rattle.jp.specs.Table22.{Content, Receivable as Receivable22, sequence22}
use Rattle.jp.proofs.Rows22.{numbers_in22, content_of, printed22, writes_exactly as jp-writes}
use Rattle.coder.specs.declared.states.State.{State}
use Rattle.coder.specs.State.{worked_in, started_of, short_started_of}
use Rattle.coder.specs.Receiving.{receiving_of, all_in_range, numbers_fit, all_steps_fit}
use Rattle.coder.specs.Answers.{Receivable}
use Rattle.coder.proofs.Acceptance.{settings-sound, writer-accepts, reader-accepts}
use Rattle.coder.proofs.Starting.{Fit, fit-worked, plain, start-accepts as state-accepts, short_start-accepts as plain-accepts}
use Rattle.workerwax.specs.Calls.{own, ParametersCall, RankCall, StartCall, WriteCall, ReadCall}
use Rattle.workerwax.specs.Info.{SequenceReadCall, SequenceWriteCall, Info0ReadCall, Info0WriteCall, as_they_are}
use Rattle.workerwax.specs.Info.{Info1cReadCall, Info1cWriteCall, count_in10, count_in32, reported}
use Rattle.workerwax.specs.Layout.{words, numbers_in, labels_in, parameters_bytes, rank_bytes, start_bytes, coded_bytes}
use Rattle.workerwax.specs.Jp.{named, answer_bytes, JpReadCall, JpWriteCall}
use Rattle.workerwax.specs.Layout.{info0_bits, info0_bytes, info1c_bits, info1c_bytes, report_bytes, jp_bits, jp_bytes}
use Rattle.workerwax.specs.Lending.{lent_labels}
use Rattle.workerwax.proofs.Lends.{lent-exact, length-labels}
use Rattle.workerwax.proofs.Coding.{all-given}
use Rattle.workerwax.proofs.Ways.{rank_same, rank_is, rank-four}
use Rattle.workerwax.proofs.Below.{part, part_length, written-number, sendable, written-lent}
use Rattle.workerwax.proofs.Below.{given, read_number_lem, receivable, given-lent, read-given}
use Rattle.workerwax.proofs.Undone.{Byte, length-numbers, numbers-short}
use Rattle.workerwax.proofs.Infos.{read-zero, write-zero}
use Rattle.workerwax.proofs.Carried.{Carried, meant_exactly}
use Rattle.workerwax.proofs.Reported.{carried1c, told-said}

-- a call that is refused by a part of it, or for one length
own-parts : (number lent size : ℕ) → refusal (own number ∷ (not (eqb lent size), 8) ∷ []) ≡ 0 → (number ≡ 0) × (lent ≡ size)
unfolding refusal
own-parts number lent size = go (eqb number 0) refl
  where
    go :
        (v : Bool) → eqb number 0 ≡ v → cond (not v) number (refusal ((not (eqb lent size), 8) ∷ [])) ≡ 0
        → (number ≡ 0) × (lent ≡ size)
    go true e rest = (eqb-true number 0 e, eqb-true lent size (not-not (eqb lent size) (none_first (not (eqb lent size)) 7 [] rest)))
    go false e zero = absurd (eqb-false number 0 e zero)

pub parameters_accepts :
    (asked : Asked) (answer : List ℕ) (r : ℕ) (after : List ℕ)
    → ParametersCall (worked_of asked) answer r after
    → (r ≡ 0) ↔ (Right asked × (length answer ≡ parameters_bytes))
unfolding refusal
parameters_accepts asked answer r after call = (there, back)
  where
    back : Right asked × (length answer ≡ parameters_bytes) → r ≡ 0
    back p =
        let none = number_is asked ∙ right_unrefused asked p.0 in
        call.number ∙ rw (none, p.1)

    there : r ≡ 0 → Right asked × (length answer ≡ parameters_bytes)
    there zero =
        let parts = own-parts (number_of (worked_of asked)) (length answer) parameters_bytes (sym call.number ∙ zero) in
        (unrefused_right asked (sym (number_is asked) ∙ parts.0), parts.1)

pub map-accepts :
    (K M S : ℕ) (rings : List ℕ) (r : ℕ) (after : List ℕ) → MapAnswer K M S rings r after → (r ≡ 0) ↔ Mappable K M S (length rings)
map-accepts K M S rings r after call =
    let same = mapper_accepts K M S (length rings) in
    ((λ zero. same.0 (sym call.refusal ∙ zero)), (λ p. call.refusal ∙ same.1 p))

pub rank-accepts :
    (K M : ℕ) (rings answer : List ℕ) (r : ℕ) (after : List ℕ) → RankCall K M rings answer r after
    → (r ≡ 0) ↔ (Rankable K M rings × (length answer ≡ rank_bytes))
unfolding ranked_of
rank-accepts K M rings answer r after call = (there, back)
  where
    there : r ≡ 0 → Rankable K M rings × (length answer ≡ rank_bytes)
    there zero =
        let four = rank-four K M rings answer (rank_is K M rings answer ∙ (sym call.refusal ∙ zero)) in
        ((ranker_accepts K M rings).0 (sym (rank_same K M rings answer four) ∙ (sym call.refusal ∙ zero)), four)

    back : Rankable K M rings × (length answer ≡ rank_bytes) → r ≡ 0
    back p = call.refusal ∙ (rank_same K M rings answer p.1 ∙ (ranker_accepts K M rings).1 p.0)

pub start-accepts :
    (st : State) (answer : List ℕ) (r : ℕ) (after : List ℕ) → StartCall (started_of st) answer r after
    → (r ≡ 0) ↔ (Fit st × (length answer ≡ start_bytes))
unfolding refusal
start-accepts st answer r after call = (there, back)
  where
    back : Fit st × (length answer ≡ start_bytes) → r ≡ 0
    back p = call.number ∙ rw ((state-accepts st).1 p.0, p.1)

    there : r ≡ 0 → Fit st × (length answer ≡ start_bytes)
    there zero =
        let parts = own-parts (started_of st).refusal (length answer) start_bytes (sym call.number ∙ zero) in
        ((state-accepts st).0 parts.0, parts.1)

-- the short start is the full one with shaping 0, register 0 and Z 0
pub short_start-accepts :
    (role s n mark : ℕ) (answer : List ℕ) (r : ℕ) (after : List ℕ) → StartCall (short_started_of role s n mark) answer r after
    → (r ≡ 0) ↔ (Right (asked role s n 0 mark) × (length answer ≡ start_bytes))
unfolding short_started_of
short_start-accepts role s n mark answer r after call =
    let same = start-accepts (plain role s n mark) answer r after call in
    let fit = state-accepts (plain role s n mark) in (
      λ zero. let p = same.0 zero in (p.0.right, p.1),
      λ p. same.1 (fit.0 ((plain-accepts role s n mark).1 p.0), p.1),
    )

-- what ww_write takes: the settings are those of the state, the state is fit, the bytes are bits, and every length is exact
pub record SendableBytes (st : State) (c : Settings) (bits lent answer : List ℕ) : Type 0 where
  pub worked : worked_in st ≡ Accepted c
  pub held : st.register < 2 ^ 23
  pub turn : st.z ≤ 3
  pub binary : Bits bits
  pub size : length bits ≡ c.user
  pub room : length lent ≡ 32 * c.frames
  pub answered : length answer ≡ coded_bytes

pub write-accepts :
    (st : State) (bits lent answer : List ℕ) (r : ℕ) (labels after : List ℕ) → WriteCall st bits lent answer r labels after
    → (r ≡ 0) ↔ ((c : Settings) × SendableBytes st c bits lent answer)
write-accepts st bits lent answer r labels after call = (there, back)
  where
    space : List ℕ
    space = part st bits lent answer r labels after call

    there : r ≡ 0 → (c : Settings) × SendableBytes st c bits lent answer
    there zero =
        let found = sendable st bits lent answer r labels after call zero in
        let w = found.1 in
        let l = written-lent st bits lent answer r labels after call zero in (
          found.0,
          record {
            worked = w.worked;
            held = w.held;
            turn = w.turn;
            binary = w.binary;
            size = w.size;
            room = omega (arith, l.half, w.labels);
            answered = omega (arith, l.answered);
          },
        )

    back : (c : Settings) × SendableBytes st c bits lent answer → r ≡ 0
    back p =
        let c = p.0 in
        let w = p.1 in
        let few = (settings-sound st c w.worked).frames-most in
        let half =
        lent-exact (length lent) (length answer) (16 * c.frames) (omega (arith, w.answered)) (omega arith) (omega (arith, w.room))
        in
        let long = part_length st bits lent answer r labels after call ∙ half in
        written-number st bits lent answer r labels after call
        ∙ (writer-accepts st bits space).1
        (c, record { worked = w.worked; held = w.held; turn = w.turn; binary = w.binary; size = w.size; labels = long })

-- what ww_read takes: no test refuses the labels that the bytes hold
pub record ReceivableBytes (st : State) (c : Settings) (labels lent answer : List ℕ) : Type 0 where
  pub worked : worked_in st ≡ Accepted c
  pub held : st.register < 2 ^ 23
  pub turn : st.z ≤ 3
  pub count : length labels ≡ 32 * c.frames
  pub size : length lent ≡ c.user
  pub answered : length answer ≡ coded_bytes
  pub ranges : all_in_range c (labels_in labels) ≡ true
  pub numbers : numbers_fit c c.frames (receiving_of st.z (labels_in labels)) ≡ true
  pub steps : all_steps_fit c c.frames (receiving_of st.z (labels_in labels)) ≡ true

pub read-accepts :
    (st : State) (labels lent answer : List ℕ) (r : ℕ) (bits after : List ℕ) → ReadCall st labels lent answer r bits after
    → (r ≡ 0) ↔ ((c : Settings) × ReceivableBytes st c labels lent answer)
read-accepts st labels lent answer r bits after call = (there, back)
  where
    taken : List ℕ
    taken = given st labels lent answer r bits after call

    there : r ≡ 0 → (c : Settings) × ReceivableBytes st c labels lent answer
    there zero =
        let found = receivable st labels lent answer r bits after call zero in
        let all = read-given st labels lent answer r bits after call zero in
        let w = subst (λ (l : List ℕ). Receivable st found.0 l lent) all found.1 in
        let l = given-lent st labels lent answer r bits after call zero in
        let halves = length-labels (lent_labels (length labels) (length answer)) labels l.half in (
          found.0,
          record {
            worked = w.worked;
            held = w.held;
            turn = w.turn;
            count = omega (arith, l.half, halves, w.count);
            size = w.size;
            answered = omega (arith, l.answered);
            ranges = w.ranges;
            numbers = w.numbers;
            steps = w.steps;
          },
        )

    back : (c : Settings) × ReceivableBytes st c labels lent answer → r ≡ 0
    back p =
        let c = p.0 in
        let w = p.1 in
        let sound = settings-sound st c w.worked in
        let few = sound.frames-most in
        let half =
        lent-exact (length labels) (length answer) (16 * c.frames) (omega (arith, w.answered)) (omega arith) (omega (arith, w.count))
        in
        let all = all-given st labels lent answer taken refl (λ z. omega (arith, z, half, sound.frames-least)) in
        let count = length-labels (16 * c.frames) labels (omega (arith, w.count)) in
        let takes : Receivable st c (labels_in labels) lent =
        record {
          worked = w.worked;
          held = w.held;
          turn = w.turn;
          count = count;
          size = w.size;
          ranges = w.ranges;
          numbers = w.numbers;
          steps = w.steps;
        }
        in
        read_number_lem st labels lent answer r bits after call
        ∙ (reader-accepts st taken lent).1 (c, subst (λ (l : List ℕ). Receivable st c l lent) (sym all) takes)

-- From a start that answered 0: its state has settings, and ww_write answers 0 to every N bits with exact lengths.
pub writes-from_start :
    (st : State) (answer after : List ℕ) → StartCall (started_of st) answer 0 after
    → (c : Settings)
    × (worked_in st ≡ Accepted c)
    × ((bits lent room : List ℕ) → Bits bits → length bits ≡ c.user → length lent ≡ 32 * c.frames → length room ≡ coded_bytes
    → (r : ℕ) (labels next : List ℕ) → WriteCall st bits lent room r labels next → r ≡ 0)
writes-from_start st answer after start =
    let fit = ((start-accepts st answer 0 after start).0 refl).0 in
    let found = fit-worked st fit in (
      found.0,
      found.1,
      λ bits lent room binary size long answered r labels next call.
          (write-accepts st bits lent room r labels next call).1 (
            found.0,
            record {
              worked = found.1;
              held = fit.held;
              turn = fit.turn;
              binary = binary;
              size = size;
              room = long;
              answered = answered;
            },
          ),
    )

-- The calls of any sequence that is as it is printed.
module _ {F : Type 0} (s : Sequence) (numbers_of : F → List ℕ) (fields_of : List ℕ → F) (Sayable : F → Type 0) (printed : F → List ℕ)
    (p : Printed s numbers_of fields_of Sayable printed) (bytes : ℕ) where
  pub sequence-read-accepts :
      (shown : List ℕ → List ℕ) (bits lent : List ℕ) (r : ℕ) (after : List ℕ) → SequenceReadCall s bytes shown bits lent r after
      → (r ≡ 0) ↔ (((f : F) × Sayable f × (bits ≡ printed f)) × (length lent ≡ bytes))
  sequence-read-accepts shown bits lent r after call =
      let same = reads_exactly s numbers_of fields_of Sayable printed p bits in
      let parts = read-zero s bytes shown bits lent r after call in
      (λ zero. (same.0 (parts.0 zero).1, (parts.0 zero).0), λ q. parts.1 (q.1, same.1 q.0))

  -- `meant` gives a number for each field
  pub sequence-write-accepts :
      (meant : List ℕ → List ℕ) (fields lent : List ℕ) (r : ℕ) (after : List ℕ)
      → (length fields ≡ bytes → length (meant (numbers_in fields)) ≡ length s.table)
      → SequenceWriteCall s bytes meant fields lent r after
      → (r ≡ 0)
      ↔ (((f : F) × Sayable f × (numbers_of f ≡ meant (numbers_in fields))) × (length fields ≡ bytes) × (length lent ≡ length s.picture))
  sequence-write-accepts meant fields lent r after counted call =
      let numbers = meant (numbers_in fields) in
      let same = numbers_exactly s numbers_of fields_of Sayable printed p numbers (length lent) in
      let parts = write-zero s bytes meant fields lent r after call in (
        λ zero. let q = parts.0 zero in let w = (same (counted q.0)).0 q.1 in (w.0, q.0, w.1),
        λ q. parts.1 (q.1, (same (counted q.1)).1 (q.0, q.2)),
      )

  -- the same by what the bytes of the fields tell
  pub sequence-write-accepts-told :
      (shown meant told : List ℕ → List ℕ) → Carried s bytes shown meant told
      → (fields lent : List ℕ) (r : ℕ) (after : List ℕ) → Every Byte fields → SequenceWriteCall s bytes meant fields lent r after
      → (r ≡ 0)
      ↔ (((f : F) × Sayable f × (numbers_in fields ≡ told (numbers_of f))) × (length fields ≡ bytes) × (length lent ≡ length s.picture))
  sequence-write-accepts-told shown meant told c fields lent r after small call = (
    λ zero. let q = accepts.0 zero in ((q.0.0, q.0.1, (same q.0.0 q.0.1 q.1).0 q.0.2), q.1, q.2),
    λ q. accepts.1 ((q.0.0, q.0.1, (same q.0.0 q.0.1 q.1).1 q.0.2), q.1, q.2),
  )
    where
      counted : length fields ≡ bytes → length (numbers_in fields) ≡ length s.table
      counted e = length-numbers (length s.table) fields (e ∙ c.size)

      accepts :
          (r ≡ 0)
          ↔ (((f : F) × Sayable f × (numbers_of f ≡ meant (numbers_in fields))) × (length fields ≡ bytes)
          × (length lent ≡ length s.picture))
      accepts = sequence-write-accepts meant fields lent r after (λ e. c.count_meant (numbers_in fields) (counted e)) call

      same :
          (f : F) → Sayable f → length fields ≡ bytes → (numbers_of f ≡ meant (numbers_in fields)) ↔ (numbers_in fields ≡ told (numbers_of f))
      same f h e =
          meant_exactly s bytes shown meant told c (numbers_in fields) (numbers_of f) (counted e) (numbers-short fields small) (p.count f)
          (p.ranged f h)

-- ww_info0_read and ww_info0_write, by Table 14 of V.34
pub info0-read-accepts :
    (bits lent : List ℕ) (r : ℕ) (after : List ℕ) → Info0ReadCall bits lent r after
    → (r ≡ 0) ↔ (((f : Info0) × Sayable f × (bits ≡ sequence14 f)) × (length lent ≡ info0_bytes))
info0-read-accepts = sequence-read-accepts info0 numbers_of fields_of Sayable sequence14 printed14 info0_bytes words

pub info0-write-accepts :
    (fields lent : List ℕ) (r : ℕ) (after : List ℕ) → Info0WriteCall fields lent r after
    → (r ≡ 0)
    ↔ (((f : Info0) × Sayable f × (numbers_of f ≡ numbers_in fields)) × (length fields ≡ info0_bytes) × (length lent ≡ info0_bits))
unfolding info0 framed fixed places fill sync
info0-write-accepts fields lent r after =
    sequence-write-accepts info0 numbers_of fields_of Sayable sequence14 printed14 info0_bytes as_they_are fields lent r after
    (length-numbers 14 fields)

-- ww_info1c_read and ww_info1c_write, by Table 15 of V.34: fields and a count
pub info1c-read-accepts :
    (bits lent : List ℕ) (r : ℕ) (after : List ℕ) → Info1cReadCall bits lent r after
    → (r ≡ 0)
    ↔ (((p : Said) × Sayable15 p.0 p.1 × (bits ≡ sequence15 p.0 p.1)) × (length lent ≡ report_bytes))
info1c-read-accepts = sequence-read-accepts info1c numbers_said said_by MaySay sequence_said printed15 report_bytes reported

pub info1c-write-accepts :
    (fields lent : List ℕ) (r : ℕ) (after : List ℕ) → Every Byte fields → Info1cWriteCall fields lent r after
    → (r ≡ 0)
    ↔ (((p : Said) × Sayable15 p.0 p.1 × (numbers_in fields ≡ info1cNumbers p.0 (unsigned 2147483648 p.1)))
    × (length fields ≡ info1c_bytes)
    × (length lent ≡ info1c_bits))
unfolding info1c framed fixed places fill sync
info1c-write-accepts fields lent r after small call = (
  λ zero. let q = accepts.0 zero in ((q.0.0, q.0.1, q.0.2 ∙ told-said q.0.0 q.0.1), q.1, q.2),
  λ q. accepts.1 ((q.0.0, q.0.1, q.0.2 ∙ sym (told-said q.0.0 q.0.1)), q.1, q.2),
)
  where
    accepts :
        (r ≡ 0)
        ↔ (((p : Said) × MaySay p × (numbers_in fields ≡ count_in32 (numbers_said p))) × (length fields ≡ info1c_bytes)
        × (length lent ≡ length info1c.picture))
    accepts =
        sequence-write-accepts-told info1c numbers_said said_by MaySay sequence_said printed15 info1c_bytes reported count_in10 count_in32
        carried1c fields lent r after small call

-- ww_jp_read and ww_jp_write, by Table 22 of V.92
pub jp-read-accepts :
    (bits lent : List ℕ) (r : ℕ) (after : List ℕ) → JpReadCall bits lent r after
    → (r ≡ 0) ↔ (((c : Content) × Receivable22 c × (bits ≡ sequence22 c)) × (length lent ≡ jp_bytes))
jp-read-accepts = sequence-read-accepts jp numbers_in22 content_of Receivable22 sequence22 printed22 jp_bytes answer_bytes

pub jp-write-accepts :
    (fraction training renegotiation : ℕ) (lent : List ℕ) (r : ℕ) (after : List ℕ)
    → JpWriteCall fraction training renegotiation lent r after
    → (r ≡ 0) ↔ ((fraction ≤ 65535) × (training ≤ 1) × (renegotiation ≤ 1) × (length lent ≡ jp_bits))
jp-write-accepts fraction training renegotiation lent r after call =
    let same = jp-writes (named fraction training renegotiation) (length lent) in (
      λ zero. let q = same.0 (sym call.number ∙ zero) in (q.0.fraction, q.0.training, q.0.renegotiation, q.1),
      λ q. call.number ∙ same.1 (record { fraction = q.0; training = q.1; renegotiation = q.2 }, q.3),
    )
