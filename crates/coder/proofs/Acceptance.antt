-- When the writer and the reader answer 0: exactly when the settings are accepted, register and Z are fit, the lengths are exact, and the
-- bytes are bits, or no test refuses the labels. Then N is the number of bits. Assumes nothing.
use mathlib.Core.Bool.{Bool, true, false, not, cond}
use mathlib.Core.List.{List}
use mathlib.Core.Logic.{◌↔◌}
use mathlib.Core.Path.{◌≡◌, refl, sym, ap, ◌∙◌}
use Prim.Native.Nat.{ℕ, ◌*◌, ◌^◌, ◌≤◌, ◌<◌}
use lib.Dec.{eqb}
use lib.ListN.{length}
use Rattle.std.proofs.lemmas.Bool.{or_parts}
use borrow.Author.Tests.{leb-false, lt-leb, ltb-false, le-ltb, eqb-true, eq-eqb}
use Rattle.bits.specs.Digits.{Bits}
use Rattle.laws.proofs.Bools.{and_parts, and_both, not-not}
use Rattle.laws.proofs.Choices.{no_tests, passed_over, none_first, none_rest}
use Rattle.line.specs.declared.settings.Settings.{Settings}
use Rattle.line.specs.Worked.{Worked, Accepted, Refused}
use Rattle.line.proofs.Acceptance.{refused-some}
use Rattle.line.proofs.Soundness.{Sound, accepted-sound}
use Rattle.coder.specs.declared.states.State.{State}
use Rattle.coder.specs.State.{worked_in, unfit}
use Rattle.coder.specs.Receiving.{receiving_of, all_in_range, numbers_fit, all_steps_fit}
use Rattle.bits.specs.Digits.{all_bits}
use Rattle.bits.proofs.Tested.{all-bits, bits-all}
use Rattle.coder.specs.Answers.{Answer, exact, write_refusal, read_refusal, refused_with, written, received}
use Rattle.coder.specs.Answers.{written_of, read_of, Sendable, Receivable}

-- The tests, and what they say.

-- register and Z are fit
pub fit-passes : (st : State) → st.register < 2 ^ 23 → st.z ≤ 3 → unfit st ≡ false
fit-passes st held turn = rw (lt-leb (2 ^ 23) st.register held, le-ltb 3 st.z turn)

pub passes-fit : (st : State) → unfit st ≡ false → (st.register < 2 ^ 23) × (st.z ≤ 3)
passes-fit st e = let both = or_parts _ _ e in (leb-false (2 ^ 23) st.register both.0, ltb-false 3 st.z both.1)

-- the lengths are exact
pub exact-passes : (c : Settings) (bits labels : ℕ) → bits ≡ c.user → labels ≡ 16 * c.frames → not (exact c bits labels) ≡ false
exact-passes c bits labels p q = ap not (and_both _ _ (eq-eqb bits c.user p) (eq-eqb labels (16 * c.frames) q))

pub passes-exact : (c : Settings) (bits labels : ℕ) → not (exact c bits labels) ≡ false → (bits ≡ c.user) × (labels ≡ 16 * c.frames)
passes-exact c bits labels e =
    let both = and_parts (eqb bits c.user) (eqb labels (16 * c.frames)) (not-not (exact c bits labels) e) in
    (eqb-true bits c.user both.0, eqb-true labels (16 * c.frames) both.1)

-- the settings of a state are sound where they are accepted
pub settings-sound : (st : State) (c : Settings) → worked_in st ≡ Accepted c → Sound c
settings-sound st c = accepted-sound st.asked c

-- the answer where the refusal is `number`, and `done` where there is none
abbrev pub answer_at : ℕ → Answer → State → Answer
answer_at number done st = cond (eqb number 0) done (refused_with number st)

-- a refused answer holds the state as it was given
kept-state :
    (number : ℕ) (done : Answer) (st : State) → (number ≡ 0 → done.refusal ≡ 0) → ((answer_at number done st).refusal ≡ 0 → ⊥)
    → (answer_at number done st).state ≡ st
kept-state number done st zero some = go (eqb number 0) refl some
  where
    go :
        (v : Bool) → eqb number 0 ≡ v → ((cond v done (refused_with number st)).refusal ≡ 0 → ⊥)
        → (cond v done (refused_with number st)).state ≡ st
    go true f g = absurd (g (zero (eqb-true number 0 f)))
    go false f g = refl

zero-given : (number : ℕ) (done : Answer) (st : State) → (answer_at number done st).refusal ≡ 0 → number ≡ 0
zero-given number done st e = go (eqb number 0) refl e
  where
    go : (v : Bool) → eqb number 0 ≡ v → (cond v done (refused_with number st)).refusal ≡ 0 → number ≡ 0
    go true f g = eqb-true number 0 f
    go false f g = g

-- The writer.
module _ (st : State) (bits out : List ℕ) where
  pub sendable_unrefused : (c : Settings) → Sendable st c bits out → write_refusal (Accepted c) st bits (length out) ≡ 0
  sendable_unrefused c w =
      passed_over _ _ _ (fit-passes st w.held w.turn)
      ∙ (passed_over _ _ _ (exact-passes c (length bits) (length out) w.size w.labels)
      ∙ (passed_over _ _ _ (ap not (bits-all bits w.binary)) ∙ no_tests))

  pub unrefused_sendable :
      (c : Settings) → worked_in st ≡ Accepted c → write_refusal (Accepted c) st bits (length out) ≡ 0 → Sendable st c bits out
  unrefused_sendable c e e₁ =
      let e₂ = none_rest _ _ _ e₁ in
      let e₃ = none_rest _ _ _ e₂ in
      let fit = passes-fit st (none_first _ _ _ e₁) in
      let lengths = passes-exact c (length bits) (length out) (none_first _ _ _ e₂) in
      record {
        worked = e;
        held = fit.0;
        turn = fit.1;
        binary = all-bits bits (not-not (all_bits bits) (none_first _ _ _ e₃));
        size = lengths.0;
        labels = lengths.1;
      }

  -- what it answers to bits that it can send
  pub sends : (c : Settings) → Sendable st c bits out → written_of st bits (length out) ≡ written (Accepted c) st bits
  unfolding written_of
  sends c w =
      ap (λ (v : Worked). answer_at (write_refusal v st bits (length out)) (written v st bits) st) w.worked
      ∙ ap (λ (n : ℕ). answer_at n (written (Accepted c) st bits) st) (sendable_unrefused c w)

  -- a refused call answers the state as it was given
  pub refused-keeps : ((written_of st bits (length out)).refusal ≡ 0 → ⊥) → (written_of st bits (length out)).state ≡ st
  unfolding written_of
  refused-keeps some = go (worked_in st) some
    where
      go :
          (w : Worked) → ((answer_at (write_refusal w st bits (length out)) (written w st bits) st).refusal ≡ 0 → ⊥)
          → (answer_at (write_refusal w st bits (length out)) (written w st bits) st).state ≡ st
      go (Refused n) g = kept-state n (written (Refused n) st bits) st (λ e. e) g
      go (Accepted c) g =
          kept-state (write_refusal (Accepted c) st bits (length out)) (written (Accepted c) st bits) st (λ e. refl) g

  -- it answers 0 to nothing else
  pub written_sendable : (written_of st bits (length out)).refusal ≡ 0 → (c : Settings) × Sendable st c bits out
  unfolding written_of
  written_sendable e = go (worked_in st) refl e
    where
      go :
          (w : Worked) → worked_in st ≡ w → (answer_at (write_refusal w st bits (length out)) (written w st bits) st).refusal ≡ 0
          → (c : Settings) × Sendable st c bits out
      go (Refused n) f g = absurd (refused-some st.asked n f (zero-given n (written (Refused n) st bits) st g))
      go (Accepted c) f g = (c, unrefused_sendable c f (zero-given _ (written (Accepted c) st bits) st g))

-- The reader.
module _ (st : State) (labels bits : List ℕ) where
  pub receivable_unrefused : (c : Settings) → Receivable st c labels bits → read_refusal (Accepted c) st labels (length bits) ≡ 0
  receivable_unrefused c r =
      passed_over _ _ _ (fit-passes st r.held r.turn)
      ∙ (passed_over _ _ _ (exact-passes c (length bits) (length labels) r.size r.count)
      ∙ (passed_over _ _ _ (ap not r.ranges)
      ∙ (passed_over _ _ _ (ap not r.numbers)
      ∙ (passed_over _ _ _ (ap not r.steps) ∙ no_tests))))

  pub unrefused_receivable :
      (c : Settings) → worked_in st ≡ Accepted c → read_refusal (Accepted c) st labels (length bits) ≡ 0 → Receivable st c labels bits
  unrefused_receivable c e e₁ =
      let e₂ = none_rest _ _ _ e₁ in
      let e₃ = none_rest _ _ _ e₂ in
      let e₄ = none_rest _ _ _ e₃ in
      let e₅ = none_rest _ _ _ e₄ in
      let fit = passes-fit st (none_first _ _ _ e₁) in
      let lengths = passes-exact c (length bits) (length labels) (none_first _ _ _ e₂) in
      record {
        worked = e;
        held = fit.0;
        turn = fit.1;
        count = lengths.1;
        size = lengths.0;
        ranges = not-not (all_in_range c labels) (none_first _ _ _ e₃);
        numbers = not-not (numbers_fit c c.frames (receiving_of st.z labels)) (none_first _ _ _ e₄);
        steps = not-not (all_steps_fit c c.frames (receiving_of st.z labels)) (none_first _ _ _ e₅);
      }

  -- what it answers to labels that it can receive
  pub receives : (c : Settings) → Receivable st c labels bits → read_of st labels (length bits) ≡ received (Accepted c) st labels
  unfolding read_of
  receives c r =
      ap (λ (v : Worked). answer_at (read_refusal v st labels (length bits)) (received v st labels) st) r.worked
      ∙ ap (λ (n : ℕ). answer_at n (received (Accepted c) st labels) st) (receivable_unrefused c r)

  -- a refused call answers the state as it was given
  pub refused-read-keeps : ((read_of st labels (length bits)).refusal ≡ 0 → ⊥) → (read_of st labels (length bits)).state ≡ st
  unfolding read_of
  refused-read-keeps some = go (worked_in st) some
    where
      go :
          (w : Worked) → ((answer_at (read_refusal w st labels (length bits)) (received w st labels) st).refusal ≡ 0 → ⊥)
          → (answer_at (read_refusal w st labels (length bits)) (received w st labels) st).state ≡ st
      go (Refused n) g = kept-state n (received (Refused n) st labels) st (λ e. e) g
      go (Accepted c) g =
          kept-state (read_refusal (Accepted c) st labels (length bits)) (received (Accepted c) st labels) st (λ e. refl) g

  -- it answers 0 to nothing else
  pub read_receivable : (read_of st labels (length bits)).refusal ≡ 0 → (c : Settings) × Receivable st c labels bits
  unfolding read_of
  read_receivable e = go (worked_in st) refl e
    where
      go :
          (w : Worked) → worked_in st ≡ w → (answer_at (read_refusal w st labels (length bits)) (received w st labels) st).refusal ≡ 0
          → (c : Settings) × Receivable st c labels bits
      go (Refused n) f g = absurd (refused-some st.asked n f (zero-given n (received (Refused n) st labels) st g))
      go (Accepted c) f g = (c, unrefused_receivable c f (zero-given _ (received (Accepted c) st labels) st g))

-- Accepted exactly then.
pub writer-accepts :
    (st : State) (bits out : List ℕ) → ((written_of st bits (length out)).refusal ≡ 0) ↔ ((c : Settings) × Sendable st c bits out)
writer-accepts st bits out = (written_sendable st bits out, λ p. ap (λ (r : Answer). r.refusal) (sends st bits out p.0 p.1))

pub reader-accepts :
    (st : State) (labels bits : List ℕ)
    → ((read_of st labels (length bits)).refusal ≡ 0) ↔ ((c : Settings) × Receivable st c labels bits)
reader-accepts st labels bits =
    (read_receivable st labels bits, λ p. ap (λ (r : Answer). r.refusal) (receives st labels bits p.0 p.1))

-- Acceptance: with settings accepted, register and Z fit, exact lengths and bytes of 0 or 1 the writer answers 0, and N is the number of
-- bits.
pub record Taken (c : Settings) (bits : List ℕ) (r : Answer) : Type 0 where
  pub done : r.refusal ≡ 0
  pub number : r.bits ≡ c.bits
  pub consumed : r.bits ≡ length bits

pub acceptance :
    (st : State) (c : Settings) (bits out : List ℕ)
    → worked_in st ≡ Accepted c → st.register < 2 ^ 23 → st.z ≤ 3
    → length bits ≡ c.user → length out ≡ 16 * c.frames → Bits bits
    → Taken c bits (written_of st bits (length out))
acceptance st c bits out worked held turn size room binary =
    record { done = ap (λ (r : Answer). r.refusal) e; number = number; consumed = number ∙ sym (size ∙ all_user) }
  where
    e : written_of st bits (length out) ≡ written (Accepted c) st bits
    e = sends st bits out c (record { worked = worked; held = held; turn = turn; binary = binary; size = size; labels = room })

    all_user : c.user ≡ c.bits
    all_user = (settings-sound st c worked).user_is

    number : (written_of st bits (length out)).bits ≡ c.bits
    number = ap (λ (r : Answer). r.bits) e
