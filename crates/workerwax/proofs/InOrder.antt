-- Every call tests for its refusals in the order of the one row of specs/Calls. Of each call two things are said:
--     xxx-listed     its number is that of the first test that holds, of the tests that the list xxxTests has
--     xxx-follows    the numbers of that list stand in the row in the same order
-- So of several refusals that hold at once the one that stands first in the row is given. The lists of ww_write and ww_read end behind
-- the settings' own tests where the settings are refused: the later ones, of lengths and labels, are said of settings. Assumes nothing.
use mathlib.Core.Bool.{Bool, true, false, not, ◌&&◌}
use mathlib.Core.List.{List, [], ◌∷◌, ◌++◌}
use mathlib.Core.Path.{◌≡◌, refl, sym, ap, ◌∙◌}
use Prim.Native.Nat.{ℕ, ◌-◌, ◌^◌}
use lib.Dec.{eqb}
use lib.ListN.{length}
use Rattle.laws.specs.Choice.{refusal, numbered, follows}
use Rattle.laws.proofs.Choices.{given-before, none_before}
use Rattle.rings.specs.Mapping.{map_tests, map_refusal, ranker_tests, rank_refusal}
use Rattle.line.specs.Asked.{asked}
use Rattle.line.specs.Settings.{refusals, settings_refusal, worked_of, number_of}
use Rattle.line.specs.declared.asked.Asked.{Asked}
use Rattle.line.specs.declared.settings.Settings.{Settings}
use Rattle.line.specs.Worked.{Worked, Accepted, Refused}
use Rattle.line.proofs.Acceptance.{number_is, refused-some}
use Rattle.sequences.specs.Sequence.{Sequence, fields_tests, sequence_tests, is_long}
use Rattle.info.specs.Info0.{info0}
use Rattle.info.specs.Info1c.{info1c}
use Rattle.jp.specs.Jp.{jp, sent_numbers}
use Rattle.coder.specs.declared.states.State.{State}
use Rattle.coder.specs.State.{state_of, worked_in, unfit, state_refusal_of, started_of, short_started_of}
use Rattle.coder.specs.Answers.{write_tests, read_tests}
use Rattle.workerwax.specs.Calls.{order, own, parameters_number, rank_number, start_number, exact_bytes, write_number, read_number}
use Rattle.workerwax.specs.Info.{info0_read_number, info0_write_number, as_they_are, info1c_read_number, info1c_write_number, count_in10}
use Rattle.workerwax.specs.Jp.{jp_read_number, jp_write_number, named}
use Rattle.workerwax.specs.Layout.{numbers_in, labels_in, parameters_bytes, rank_bytes, start_bytes, info0_bytes, info1c_bytes, report_bytes}
use Rattle.workerwax.specs.Layout.{jp_bytes}
use Rattle.workerwax.proofs.Ways.{own-given}

-- The settings' tests, and more behind them: refused settings give their own number, accepted ones leave it to the others.
module _ (asked : Asked) where
  settings-given : (w : Worked) → worked_of asked ≡ w → refusal (refusals asked) ≡ number_of w
  unfolding settings_refusal
  settings-given w e = sym (number_is asked) ∙ ap number_of e

  refused_first : (more : List (Bool × ℕ)) (k : ℕ) → worked_of asked ≡ Refused k → refusal (refusals asked ++ more) ≡ k
  refused_first more k e =
      let own = settings-given (Refused k) e in
      given-before (refusals asked) more (λ none. refused-some asked k e (sym own ∙ none)) ∙ own

  accepted_first :
      (more : List (Bool × ℕ)) (c : Settings) → worked_of asked ≡ Accepted c → refusal (refusals asked ++ more) ≡ refusal more
  accepted_first more c e = none_before (2 ^ 32 - 1) (refusals asked) more refl (settings-given (Accepted c) e)

-- the test of a slice that has to have a size
abbrev pub length_test : ℕ → ℕ → List (Bool × ℕ)
length_test size lent = (not (eqb lent size), 8) ∷ []

-- ww_parameters: the settings, then the length
module _ (asked : Asked) (lent : ℕ) where
  abbrev pub parameters_tests : List (Bool × ℕ)
  parameters_tests = refusals asked ++ length_test parameters_bytes lent

  pub parameters_listed : parameters_number (worked_of asked) lent ≡ refusal parameters_tests
  unfolding refusal
  parameters_listed = go (worked_of asked) refl
    where
      go : (w : Worked) → worked_of asked ≡ w → parameters_number w lent ≡ refusal parameters_tests
      go (Accepted c) e = sym (accepted_first asked (length_test parameters_bytes lent) c e)
      go (Refused k) e =
          own-given k (length_test parameters_bytes lent) (refused-some asked k e)
          ∙ sym (refused_first asked (length_test parameters_bytes lent) k e)

  pub parameters_follows : follows order (numbered parameters_tests) ≡ true
  unfolding follows numbered
  parameters_follows = refl

-- ww_map and ww_rank: the tests of the mapper and of the ranker
module _ (K M : ℕ) where
  pub map-listed : (S lent : ℕ) → map_refusal K M S lent ≡ refusal (map_tests K M S lent)
  unfolding map_refusal
  map-listed S lent = refl

  pub map-follows : (S lent : ℕ) → follows order (numbered (map_tests K M S lent)) ≡ true
  unfolding follows numbered
  map-follows S lent = refl

  abbrev pub rank_call_tests : List ℕ → ℕ → List (Bool × ℕ)
  rank_call_tests rings lent = ranker_tests (eqb (length rings) 8 && eqb lent rank_bytes) K M rings

  pub rank-listed : (rings : List ℕ) (lent : ℕ) → rank_number K M rings lent ≡ refusal (rank_call_tests rings lent)
  unfolding rank_number rank_refusal
  rank-listed rings lent = refl

  pub rank-follows : (rings : List ℕ) (lent : ℕ) → follows order (numbered (rank_call_tests rings lent)) ≡ true
  unfolding follows numbered
  rank-follows rings lent = refl

-- ww_start: the settings, register and Z, then the length
module _ (st : State) (lent : ℕ) where
  abbrev pub start_tests : List (Bool × ℕ)
  start_tests = refusals st.asked ++ (unfit st, 7) ∷ length_test start_bytes lent

  pub start-listed : start_number (started_of st) lent ≡ refusal start_tests
  unfolding refusal started_of
  start-listed = go (worked_in st) refl
    where
      size : List (Bool × ℕ)
      size = length_test start_bytes lent

      state : (v : Bool) → refusal (own (refusal ((v, 7) ∷ [])) ∷ size) ≡ refusal ((v, 7) ∷ size)
      state true = refl
      state false = refl

      go : (w : Worked) → worked_in st ≡ w → refusal (own (state_refusal_of w st) ∷ size) ≡ refusal start_tests
      go (Accepted c) e = state (unfit st) ∙ sym (accepted_first st.asked ((unfit st, 7) ∷ size) c e)
      go (Refused k) e =
          own-given k size (refused-some st.asked k e) ∙ sym (refused_first st.asked ((unfit st, 7) ∷ size) k e)

  pub start-follows : follows order (numbered start_tests) ≡ true
  unfolding follows numbered
  start-follows = refl

-- ww_short_start: the same, with shaping 0, register 0 and Z 0
module _ (role s n mark lent : ℕ) where
  abbrev pub short_start_tests : List (Bool × ℕ)
  short_start_tests = start_tests (state_of (asked role s n 0 mark) 0 0) lent

  pub short_start-listed : start_number (short_started_of role s n mark) lent ≡ refusal short_start_tests
  unfolding short_started_of
  short_start-listed = start-listed (state_of (asked role s n 0 mark) 0 0) lent

  pub short_start-follows : follows order (numbered short_start_tests) ≡ true
  short_start-follows = start-follows (state_of (asked role s n 0 mark) 0 0) lent

-- ww_write: the settings, then register and Z, the lengths and the bits
module _ (st : State) (bits : List ℕ) (labels answer : ℕ) where
  abbrev pub write_call_tests : Worked → List (Bool × ℕ)
  write_call_tests (Refused number) = refusals st.asked
  write_call_tests (Accepted c) = refusals st.asked ++ write_tests st bits (exact_bytes c (length bits) labels answer)

  pub write-listed : write_number (worked_in st) st bits labels answer ≡ refusal (write_call_tests (worked_in st))
  write-listed = go (worked_in st) refl
    where
      go : (w : Worked) → worked_in st ≡ w → write_number w st bits labels answer ≡ refusal (write_call_tests w)
      go (Refused k) e = sym (settings-given st.asked (Refused k) e)
      go (Accepted c) e = sym (accepted_first st.asked (write_tests st bits (exact_bytes c (length bits) labels answer)) c e)

  pub write-follows : (w : Worked) → follows order (numbered (write_call_tests w)) ≡ true
  unfolding follows numbered
  write-follows (Refused k) = refl
  write-follows (Accepted c) = refl

-- ww_read: the settings, then register and Z, the lengths and the labels that the bytes hold
module _ (st : State) (labels : List ℕ) (bits answer : ℕ) where
  abbrev pub read_call_tests : Worked → List (Bool × ℕ)
  read_call_tests (Refused number) = refusals st.asked
  read_call_tests (Accepted c) = refusals st.asked ++ read_tests c st (labels_in labels) (exact_bytes c bits (length labels) answer)

  pub read-listed : read_number (worked_in st) st labels bits answer ≡ refusal (read_call_tests (worked_in st))
  read-listed = go (worked_in st) refl
    where
      go : (w : Worked) → worked_in st ≡ w → read_number w st labels bits answer ≡ refusal (read_call_tests w)
      go (Refused k) e = sym (settings-given st.asked (Refused k) e)
      go (Accepted c) e =
          sym (accepted_first st.asked (read_tests c st (labels_in labels) (exact_bytes c bits (length labels) answer)) c e)

  pub read-follows : (w : Worked) → follows order (numbered (read_call_tests w)) ≡ true
  unfolding follows numbered
  read-follows (Refused k) = refl
  read-follows (Accepted c) = refl

-- the calls of any sequence: the tests of its reader and of its writer
module _ (s : Sequence) (bytes : ℕ) where
  abbrev pub sequence_read_tests : List ℕ → ℕ → List (Bool × ℕ)
  sequence_read_tests bits lent = fields_tests s bits (is_long s (length bits) && eqb lent bytes)

  pub sequence-read-follows : (bits : List ℕ) (lent : ℕ) → follows order (numbered (sequence_read_tests bits lent)) ≡ true
  unfolding follows numbered fields_tests
  sequence-read-follows bits lent = refl

  module _ (meant : List ℕ → List ℕ) where
    abbrev pub sequence_write_tests : List ℕ → ℕ → List (Bool × ℕ)
    sequence_write_tests fields lent = sequence_tests s (meant (numbers_in fields)) (eqb (length fields) bytes && is_long s lent)

    pub sequence-write-follows : (fields : List ℕ) (lent : ℕ) → follows order (numbered (sequence_write_tests fields lent)) ≡ true
    unfolding follows numbered sequence_tests
    sequence-write-follows fields lent = refl

-- ww_info0_read and ww_info0_write
abbrev pub info0_read_tests : List ℕ → ℕ → List (Bool × ℕ)
info0_read_tests = sequence_read_tests info0 info0_bytes

pub info0-read-listed : (bits : List ℕ) (lent : ℕ) → info0_read_number bits lent ≡ refusal (info0_read_tests bits lent)
info0-read-listed bits lent = refl

pub info0-read-follows : (bits : List ℕ) (lent : ℕ) → follows order (numbered (info0_read_tests bits lent)) ≡ true
info0-read-follows = sequence-read-follows info0 info0_bytes

abbrev pub info0_write_tests : List ℕ → ℕ → List (Bool × ℕ)
info0_write_tests = sequence_write_tests info0 info0_bytes as_they_are

pub info0-write-listed : (fields : List ℕ) (lent : ℕ) → info0_write_number fields lent ≡ refusal (info0_write_tests fields lent)
info0-write-listed fields lent = refl

pub info0-write-follows : (fields : List ℕ) (lent : ℕ) → follows order (numbered (info0_write_tests fields lent)) ≡ true
info0-write-follows = sequence-write-follows info0 info0_bytes as_they_are

-- ww_info1c_read and ww_info1c_write
abbrev pub info1c_read_tests : List ℕ → ℕ → List (Bool × ℕ)
info1c_read_tests = sequence_read_tests info1c report_bytes

pub info1c-read-listed : (bits : List ℕ) (lent : ℕ) → info1c_read_number bits lent ≡ refusal (info1c_read_tests bits lent)
info1c-read-listed bits lent = refl

pub info1c-read-follows : (bits : List ℕ) (lent : ℕ) → follows order (numbered (info1c_read_tests bits lent)) ≡ true
info1c-read-follows = sequence-read-follows info1c report_bytes

abbrev pub info1c_write_tests : List ℕ → ℕ → List (Bool × ℕ)
info1c_write_tests = sequence_write_tests info1c info1c_bytes count_in10

pub info1c-write-listed : (fields : List ℕ) (lent : ℕ) → info1c_write_number fields lent ≡ refusal (info1c_write_tests fields lent)
info1c-write-listed fields lent = refl

pub info1c-write-follows : (fields : List ℕ) (lent : ℕ) → follows order (numbered (info1c_write_tests fields lent)) ≡ true
info1c-write-follows = sequence-write-follows info1c info1c_bytes count_in10

-- ww_jp_read and ww_jp_write
abbrev pub jp_read_tests : List ℕ → ℕ → List (Bool × ℕ)
jp_read_tests = sequence_read_tests jp jp_bytes

pub jp-read-listed : (bits : List ℕ) (lent : ℕ) → jp_read_number bits lent ≡ refusal (jp_read_tests bits lent)
jp-read-listed bits lent = refl

pub jp-read-follows : (bits : List ℕ) (lent : ℕ) → follows order (numbered (jp_read_tests bits lent)) ≡ true
jp-read-follows = sequence-read-follows jp jp_bytes

module _ (fraction training renegotiation lent : ℕ) where
  abbrev pub jp_write_tests : List (Bool × ℕ)
  jp_write_tests = sequence_tests jp (sent_numbers (named fraction training renegotiation)) (is_long jp lent)

  pub jp-write-listed : jp_write_number fraction training renegotiation lent ≡ refusal jp_write_tests
  jp-write-listed = refl

  pub jp-write-follows : follows order (numbered jp_write_tests) ≡ true
  unfolding follows numbered sequence_tests
  jp-write-follows = refl
