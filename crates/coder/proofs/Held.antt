-- What the next state holds. The reader's register has the last 23 scrambled bits: k places back stands the k-th from the end of what was
-- received, which is what its bits are scrambled to. For all labels that the reader accepts; a data frame has more than 23 bits. And Z is
-- the last Z among the labels, in writer and reader. Assumes nothing.
use mathlib.Core.List.{List}
use mathlib.Core.Path.{◌≡◌, refl, sym, ap, ◌∙◌}
use Prim.Native.Nat.{ℕ, zero, suc, ◌+◌, ◌*◌, ◌-◌, ◌≤◌, ◌<◌}
use native.Mathlib.Nat.{mul-le-mul}
use native.Mathlib.Omega.{arith}
use lib.ListN.{length, get_or}
use lib.Seq.{get_or-take, get_or-drop}
use Rattle.laws.specs.Emit.{iter}
use Rattle.line.specs.declared.settings.Settings.{Settings}
use Rattle.line.proofs.Soundness.{Sound}
use Rattle.frame.specs.Reading.{frame_read_turned}
use Rattle.scrambler.specs.Scrambler.{place_back}
use Rattle.scrambler.proofs.Register.{holds_last}
use Rattle.coder.specs.declared.states.State.{State}
use Rattle.coder.specs.Receiving.{Receiving, after_bits, receiving_of, data_received, data_bits, data_read_register, data_read_turned}
use Rattle.coder.specs.Answers.{Answer, written_of, labels_after, read_of, Receivable}
use Rattle.coder.proofs.Received.{Received}
use Rattle.coder.proofs.Acceptance.{settings-sound, receives, read_receivable}
use Rattle.coder.proofs.Back.{decoded, reading-back}

-- a data frame has more than 23 bits, as (b − 1)·P is 84 at least
pub bits_enough : (c : Settings) → Sound c → 23 < c.bits
bits_enough c sound =
    let high : 7 ≤ c.high - 1 = omega (arith, sound.high-least) in
    let least : 7 * 12 ≤ (c.high - 1) * c.frames = mul-le-mul high sound.frames-least in
    omega (arith, sound.fewer)

-- Labels that the reader can receive, with settings c.
module _ (st : State) (c : Settings) (labels bits : List ℕ) (r : Receivable st c labels bits) where
  pub register-holds :
      (k : ℕ) → 1 ≤ k → k ≤ 23
      → place_back (read_of st labels (length bits)).state.register k ≡ get_or (data_received c st.z labels) (c.bits - k) 0
  unfolding data_read_register
  register-holds k from to =
      ap (λ (a : Answer). place_back a.state.register k) (receives st labels bits c r)
      ∙ (holds_last st.register (data_received c st.z labels) k d.received-binary from to enough
      ∙ ap (λ (n : ℕ). get_or (data_received c st.z labels) (n - k) 0) d.received-size)
    where
      d : Received c st.register st.z labels (data_bits c st.register st.z labels)
      d = decoded st c labels bits r

      enough : k ≤ length (data_received c st.z labels)
      enough = omega (arith, d.received-size, bits_enough c (settings-sound st c r.worked))

-- Z. Four labels stand for a 4D symbol, and the third of them is Z, so that the last Z is the last label but one.
abbrev pub last_z : List ℕ → ℕ
last_z labels = get_or labels (length labels - 2) 0

-- after k frames and one more it is the Z of the last of them
turned_last :
    (c : Settings) (k : ℕ) (t : Receiving) → (iter (after_bits c) (suc k) t).z ≡ get_or t.labels (16 * k + 14) 0
unfolding iter after_bits frame_read_turned
turned_last c zero t = get_or-take 16 t.labels 14 0 (omega arith)
turned_last c (suc k) t =
    let place : 16 + (16 * k + 14) ≡ 16 * suc k + 14 = omega arith in
    turned_last c k (after_bits c t) ∙ (get_or-drop 16 t.labels (16 * k + 14) 0 ∙ ap (λ (i : ℕ). get_or t.labels i 0) place)

-- the reader
pub read-z :
    (st : State) (labels bits : List ℕ) → (read_of st labels (length bits)).refusal ≡ 0
    → (read_of st labels (length bits)).state.z ≡ last_z labels
unfolding data_read_turned
read-z st labels bits done =
    let found = read_receivable st labels bits done in
    let c = found.0 in
    let r = found.1 in
    let few = (settings-sound st c r.worked).frames-least in
    let frames : c.frames ≡ suc (c.frames - 1) = omega (arith, few) in
    let place : 16 * (c.frames - 1) + 14 ≡ length labels - 2 = omega (arith, r.count, few) in
    ap (λ (a : Answer). a.state.z) (receives st labels bits c r)
    ∙ (ap (λ (n : ℕ). (iter (after_bits c) n (receiving_of st.z labels)).z) frames
    ∙ (turned_last c (c.frames - 1) (receiving_of st.z labels) ∙ ap (λ (i : ℕ). get_or labels i 0) place))

-- the writer, whose answer is the reader's for the labels that it wrote
pub written-z :
    (st : State) (bits out : List ℕ) → (written_of st bits (length out)).refusal ≡ 0
    → (written_of st bits (length out)).state.z ≡ last_z (labels_after st bits out)
written-z st bits out done =
    let back = (reading-back st bits out bits done refl).answer in
    ap (λ (a : Answer). a.state.z) (sym back)
    ∙ read-z st (labels_after st bits out) bits (ap (λ (a : Answer). a.refusal) back ∙ done)
