-- Data frames in a row: from a state that is fit any number of them is accepted. Where every data frame is accepted in turn, reading the
-- written labels from the same state accepts each, gives back all the bits and ends in the same state; and so does writing what was
-- read. For any lent buffers as long as what comes into them. Assumes nothing.
use mathlib.Core.List.{List, [], ◌∷◌, map}
use mathlib.Core.Path.{◌≡◌, refl, sym, ap, ap₂, subst, ◌∙◌}
use Prim.Native.Nat.{ℕ, ◌*◌, ◌^◌, ◌≤◌, ◌<◌}
use lib.ListN.{length}
use Rattle.bits.specs.Digits.{Bits}
use Rattle.laws.specs.Lists.{Every}
use Rattle.line.specs.declared.settings.Settings.{Settings}
use Rattle.line.specs.Worked.{Accepted}
use Rattle.coder.specs.declared.states.State.{State}
use Rattle.coder.specs.State.{worked_in}
use Rattle.coder.specs.Answers.{Answer, Sendable}
use Rattle.coder.specs.Chain.{Call, Direction, writing, reading, buffers_in_turn, last_state, AllAccepted, calls_of, AsLong}
use Rattle.coder.proofs.Acceptance.{writer-accepts}
use Rattle.coder.proofs.Back.{next-worked, next-held, next-turn, reading-back, writing-back}

-- what was given to each call
abbrev pub given_of : List Call → List (List ℕ)
given_of = map (λ (call : Call). call.given)

-- what a call left in its buffer, given to another with a buffer
abbrev pub again : Direction → State → Call → List ℕ → Call
again way st call buffer = record { given = way.buffer st call; lent = buffer }

-- what calls left in their buffers, given to as many others
abbrev pub all_again : Direction → State → List Call → List (List ℕ) → List Call
all_again way st calls buffers = calls_of (buffers_in_turn way st calls) buffers

-- one way undoes the other in a single call
pub record Undone (one other : Direction) (st : State) (call : Call) (buffer : List ℕ) : Type 0 where
  pub same : other.answer st (again one st call buffer) ≡ one.answer st call
  pub back : other.buffer st (again one st call buffer) ≡ call.given

-- and in any number of them
pub record AllUndone (one other : Direction) (st : State) (calls : List Call) (buffers : List (List ℕ)) : Type 0 where
  pub accepted : AllAccepted other st (all_again one st calls buffers)
  pub back : buffers_in_turn other st (all_again one st calls buffers) ≡ given_of calls
  pub last : last_state other st (all_again one st calls buffers) ≡ last_state one st calls

-- in every call that is accepted
abbrev pub Undoes : Direction → Direction → Type 0
Undoes one other =
    (st : State) (call : Call) (buffer : List ℕ) → (one.answer st call).refusal ≡ 0 → length buffer ≡ length call.given
    → Undone one other st call buffer

pub reads_undo : Undoes writing reading
reads_undo st call buffer done size =
    let b = reading-back st call.given call.lent buffer done size in
    record { same = b.answer; back = b.bits_back }

pub writes_undo : Undoes reading writing
writes_undo st call buffer done size =
    let b = writing-back st call.given call.lent buffer done size in
    record { same = b.answer; back = b.labels-back }

module _ (one other : Direction) (undone : Undoes one other) where
  all-undone :
      (st : State) (calls : List Call) (buffers : List (List ℕ)) → AllAccepted one st calls → AsLong buffers calls
      → AllUndone one other st calls buffers
  unfolding calls_of buffers_in_turn last_state
  all-undone st [] [] done sizes = record { accepted = tt; back = refl; last = refl }
  all-undone st [] (buffer ∷ buffers) done sizes = absurd sizes
  all-undone st (call ∷ calls) [] done sizes = absurd sizes
  all-undone st (call ∷ calls) (buffer ∷ buffers) done sizes =
      go (all-undone (one.answer st call).state calls buffers done.1 sizes.1)
    where
      -- the calls after the first
      rest : List Call
      rest = all_again one (one.answer st call).state calls buffers

      u : Undone one other st call buffer
      u = undone st call buffer done.0 sizes.0

      go : AllUndone one other (one.answer st call).state calls buffers → AllUndone one other st (call ∷ calls) (buffer ∷ buffers)
      go later =
          record {
            accepted = (
              ap (λ (r : Answer). r.refusal) u.same ∙ done.0,
              subst (λ (r : Answer). AllAccepted other r.state rest) (sym u.same) later.accepted,
            );
            back = ap₂ ◌∷◌ u.back (ap (λ (r : Answer). buffers_in_turn other r.state rest) u.same ∙ later.back);
            last = ap (λ (r : Answer). last_state other r.state rest) u.same ∙ later.last;
          }

-- reading all that was written
pub read_in_turn :
    (st : State) (calls : List Call) (buffers : List (List ℕ)) → AllAccepted writing st calls → AsLong buffers calls
    → AllUndone writing reading st calls buffers
read_in_turn = all-undone writing reading reads_undo

-- writing all that was read
pub write_in_turn :
    (st : State) (calls : List Call) (buffers : List (List ℕ)) → AllAccepted reading st calls → AsLong buffers calls
    → AllUndone reading writing st calls buffers
write_in_turn = all-undone reading writing writes_undo

-- a call that gives the bits of a data frame, and lends the writer room for its labels
pub record Fills (c : Settings) (call : Call) : Type 0 where
  pub size : length call.given ≡ c.user
  pub room : length call.lent ≡ 16 * c.frames
  pub binary : Bits call.given

-- the writer can send it, from a state that is fit
pub fills_sendable :
    (st : State) (c : Settings) → worked_in st ≡ Accepted c → st.register < 2 ^ 23 → st.z ≤ 3
    → (call : Call) → Fills c call → Sendable st c call.given call.lent
fills_sendable st c worked held turn call fills =
    record { worked = worked; held = held; turn = turn; binary = fills.binary; size = fills.size; labels = fills.room }

-- every such call is accepted in turn, as the state stays fit
pub all-written :
    (st : State) (c : Settings) → worked_in st ≡ Accepted c → st.register < 2 ^ 23 → st.z ≤ 3
    → (calls : List Call) → Every (Fills c) calls → AllAccepted writing st calls
all-written st c worked held turn [] h = tt
all-written st c worked held turn (call ∷ calls) h = (
  (writer-accepts st call.given call.lent).1 (c, w),
  all-written (writing.answer st call).state c (next-worked st c _ _ w) (next-held st c _ _ w) (next-turn st c _ _ w) calls h.1,
)
  where
    w : Sendable st c call.given call.lent
    w = fills_sendable st c worked held turn call h.0
