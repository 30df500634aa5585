-- What the words of an answer say, with nothing lost, so that a host that reads them as numbers can make its next call with them:
--     parameter-words              the values of the settings
--     start-words                  the state that a start was asked for
--     write-words, read-words      N and the next state
--     write-next, read_next        that this state is again one that a start answers
--     write_last, read_last        and that its Z is the last Z among the labels that the bytes hold
-- Assumes nothing.
use mathlib.Core.List.{List, ◌∷◌}
use mathlib.Core.Path.{◌≡◌, refl, sym, ap, subst, ◌∙◌}
use Prim.Native.Nat.{ℕ, ◌≤◌}
use native.Mathlib.Omega.{arith}
use lib.ListN.{length, get_or}
use Rattle.laws.specs.Lists.{Every}
use Rattle.laws.proofs.Counting.{every-imp}
use Rattle.line.specs.declared.asked.Asked.{Asked}
use Rattle.line.specs.declared.settings.Settings.{Settings}
use Rattle.line.specs.Worked.{Accepted}
use Rattle.line.specs.Settings.{worked_of, values_of}
use Rattle.line.proofs.Acceptance.{accepted-when}
use Rattle.line.proofs.Soundness.{Sound, accepted-sound, rate-most, values-most}
use Rattle.coder.specs.declared.states.State.{State}
use Rattle.coder.specs.State.{Started}
use Rattle.coder.specs.Answers.{Answer}
use Rattle.coder.specs.State.{worked_in, started_of}
use Rattle.coder.specs.Answers.{written, received, written_of, read_of}
use Rattle.coder.proofs.Acceptance.{settings-sound}
use Rattle.coder.proofs.Starting.{Fit, start-answers, worked_fit, write-stays, read_stays}
use Rattle.coder.proofs.Held.{last_z, read-z, written-z}
use Rattle.workerwax.specs.Calls.{parameters_number, start_number, state_numbers, coded_numbers}
use Rattle.workerwax.specs.Calls.{ParametersCall, StartCall, WriteCall, ReadCall}
use Rattle.workerwax.specs.Layout.{words, labels_in, numbers_in}
use Rattle.workerwax.proofs.Ways.{filled_up}
use Rattle.workerwax.proofs.Undone.{FourBytes, numbers-back}
use Rattle.workerwax.proofs.Below.{part, written-zero, sendable, written_is, written-answer, written_in}
use Rattle.workerwax.proofs.Below.{given, read-zero, receivable, read-given, received_is, read_answer}
use Rattle.workerwax.proofs.Accepts.{parameters_accepts, start-accepts}

-- a state that a start answers has numbers below 2^32
state-short : (st : State) → Fit st → Every FourBytes (state_numbers st)
state-short st fit =
    let right = fit.right in
    let rate = rate-most st.asked right in (
      omega (arith, right.end),
      (
        omega (arith, right.symbols),
        (
          omega (arith, rate),
          (omega (arith, right.kind), (omega (arith, right.stated), (omega (arith, fit.held), (omega (arith, fit.turn), tt)))),
        ),
      ),
    )

-- and so has the answer to an accepted data frame, N before it
coded-short : (c : Settings) (coded : Answer) → Sound c → coded.bits ≡ c.bits → Fit coded.state → Every FourBytes (coded_numbers coded)
coded-short c coded sound count fit = (omega (arith, count, sound.bits_most), state-short coded.state fit)

-- ww_parameters: N P b r K q M L.
values-short : (c : Settings) → Sound c → Every FourBytes (values_of (Accepted c))
values-short c sound = every-imp (λ v. v ≤ 1664) FourBytes (λ v h. omega arith) (values_of (Accepted c)) (values-most c sound)

pub parameter-words :
    (asked : Asked) (answer after : List ℕ) → ParametersCall (worked_of asked) answer 0 after
    → numbers_in after ≡ values_of (worked_of asked)
parameter-words asked answer after call =
    let w = worked_of asked in
    let zero : parameters_number w (length answer) ≡ 0 = sym call.number in
    let right = ((parameters_accepts asked answer 0 after call).0 refl).0 in
    let found = (accepted-when asked).1 right in
    let sound = accepted-sound asked found.0 found.1 in
    let short : Every FourBytes (values_of w) = rw found.1 (values-short found.0 sound) in
    ap numbers_in (call.values ∙ sym (filled_up _ _ answer zero)) ∙ numbers-back (values_of w) short

-- ww_start and ww_short_start: the state that was given.
pub start-words :
    (st : State) (answer after : List ℕ) → StartCall (started_of st) answer 0 after → numbers_in after ≡ state_numbers st
start-words st answer after call =
    let zero : start_number (started_of st) (length answer) ≡ 0 = sym call.number in
    let fit = ((start-accepts st answer 0 after call).0 refl).0 in
    ap numbers_in
    (call.state ∙ (sym (filled_up _ _ answer zero) ∙ ap (λ (x : Started). words (state_numbers x.state)) (start-answers st fit)))
    ∙ numbers-back (state_numbers st) (state-short st fit)

-- What a data frame leads to: N of the state's settings, and a state that is fit again.
pub record Next (st : State) (after : List ℕ) : Type 0 where
  pub settings : Settings
  pub worked : worked_in st ≡ Accepted settings
  pub next : State
  pub says : numbers_in after ≡ settings.bits ∷ state_numbers next
  pub fit : Fit next

-- Whichever way the data frame went: `coded` is the answer, with the settings c of the state.
module _
    (st : State) (c : Settings) (coded : Answer) (after : List ℕ)
    (worked : worked_in st ≡ Accepted c) (count : coded.bits ≡ c.bits) (fit : Fit coded.state) (is : after ≡ words (coded_numbers coded))
  where
    words-say : numbers_in after ≡ coded_numbers coded
    words-say = ap numbers_in is ∙ numbers-back (coded_numbers coded) (coded-short c coded (settings-sound st c worked) count fit)

    leads_on : Next st after
    leads_on =
        record {
          settings = c;
          worked = worked;
          next = coded.state;
          says = words-say ∙ ap (λ (n : ℕ). n ∷ state_numbers coded.state) count;
          fit = fit;
        }

-- ww_write.
module _ (st : State) (bits lent answer labels after : List ℕ) (call : WriteCall st bits lent answer 0 labels after) where
  abbrev coded : Answer
  coded = written (worked_in st) st bits

  -- what the coder below was lent
  abbrev out : List ℕ
  out = part st bits lent answer 0 labels after call

  is_coded : written_of st bits (length out) ≡ coded
  is_coded = written_is st bits lent answer 0 labels after call refl

  abbrev found : Settings
  found = (sendable st bits lent answer 0 labels after call refl).0

  worked : worked_in st ≡ Accepted found
  worked = (sendable st bits lent answer 0 labels after call refl).1.worked

  count : coded.bits ≡ found.bits
  count = rw worked

  onward : Fit coded.state
  onward =
      let w = (sendable st bits lent answer 0 labels after call refl).1 in
      subst (λ (x : Answer). Fit x.state) is_coded (write-stays st bits out (worked_fit st found worked w.held w.turn))

  laid : after ≡ words (coded_numbers coded)
  laid = written-answer st bits lent answer 0 labels after call refl ∙ ap (λ (x : Answer). words (coded_numbers x)) is_coded

  pub write-words : numbers_in after ≡ coded_numbers (written (worked_in st) st bits)
  write-words = words-say st found coded after worked count onward laid

  pub write-next : Next st after
  write-next = leads_on st found coded after worked count onward laid

  pub write_last : get_or (numbers_in after) 7 0 ≡ last_z (labels_in labels)
  write_last =
      ap (λ (l : List ℕ). get_or l 7 0) write-words
      ∙ (ap (λ (x : Answer). x.state.z) (sym is_coded)
      ∙ (written-z st bits out (written-zero st bits lent answer 0 labels after call refl)
      ∙ ap last_z (sym (written_in st bits lent answer 0 labels after call refl))))

-- ww_read: the same.
module _ (st : State) (labels lent answer bits after : List ℕ) (call : ReadCall st labels lent answer 0 bits after) where
  abbrev decoded : Answer
  decoded = received (worked_in st) st (labels_in labels)

  -- what the coder below was given
  abbrev taken : List ℕ
  taken = given st labels lent answer 0 bits after call

  is_decoded : read_of st taken (length lent) ≡ decoded
  is_decoded = received_is st labels lent answer 0 bits after call refl

  abbrev found-read : Settings
  found-read = (receivable st labels lent answer 0 bits after call refl).0

  worked-read : worked_in st ≡ Accepted found-read
  worked-read = (receivable st labels lent answer 0 bits after call refl).1.worked

  count-read : decoded.bits ≡ found-read.bits
  count-read = rw worked-read

  onward_read : Fit decoded.state
  onward_read =
      let w = (receivable st labels lent answer 0 bits after call refl).1 in
      subst (λ (x : Answer). Fit x.state) is_decoded (read_stays st taken lent (worked_fit st found-read worked-read w.held w.turn))

  laid-read : after ≡ words (coded_numbers decoded)
  laid-read = read_answer st labels lent answer 0 bits after call refl ∙ ap (λ (x : Answer). words (coded_numbers x)) is_decoded

  pub read-words : numbers_in after ≡ coded_numbers (received (worked_in st) st (labels_in labels))
  read-words = words-say st found-read decoded after worked-read count-read onward_read laid-read

  pub read_next : Next st after
  read_next = leads_on st found-read decoded after worked-read count-read onward_read laid-read

  pub read_last : get_or (numbers_in after) 7 0 ≡ last_z (labels_in labels)
  read_last =
      ap (λ (l : List ℕ). get_or l 7 0) read-words
      ∙ (ap (λ (x : Answer). x.state.z) (sym is_decoded)
      ∙ (read-z st taken lent (read-zero st labels lent answer 0 bits after call refl)
      ∙ ap last_z (read-given st labels lent answer 0 bits after call refl)))
