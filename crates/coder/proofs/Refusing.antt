-- Which number writer and reader give where the settings are accepted: that of the first test which fails, each over the whole data
-- frame, so that no label out of its range is passed over for a set that does not fit. Assumes nothing.
use mathlib.Core.Bool.{true, false}
use mathlib.Core.List.{List}
use mathlib.Core.Path.{◌≡◌}
use Prim.Native.Nat.{ℕ}
use lib.ListN.{length}
use Rattle.laws.specs.Choice.{refusal}
use Rattle.bits.specs.Digits.{all_bits}
use Rattle.line.specs.declared.settings.Settings.{Settings}
use Rattle.line.specs.Worked.{Accepted}
use Rattle.coder.specs.declared.states.State.{State}
use Rattle.coder.specs.State.{unfit}
use Rattle.coder.specs.Answers.{exact, write_refusal, read_refusal}
use Rattle.coder.specs.Receiving.{Receiving, receiving_of, all_in_range, numbers_fit, all_steps_fit}

-- The writer's.
module _ (c : Settings) (st : State) (bits : List ℕ) (lent : ℕ) where
  pub write_seven : unfit st ≡ true → 7 ≡ write_refusal (Accepted c) st bits lent
  unfolding refusal
  write_seven u = rw u

  pub write-eight : unfit st ≡ false → exact c (length bits) lent ≡ false → 8 ≡ write_refusal (Accepted c) st bits lent
  unfolding refusal
  write-eight u x = rw (u, x)

  pub write_nine :
      unfit st ≡ false → exact c (length bits) lent ≡ true → all_bits bits ≡ false → 9 ≡ write_refusal (Accepted c) st bits lent
  unfolding refusal
  write_nine u x b = rw (u, x, b)

  pub write-zero :
      unfit st ≡ false → exact c (length bits) lent ≡ true → all_bits bits ≡ true → 0 ≡ write_refusal (Accepted c) st bits lent
  unfolding refusal
  write-zero u x b = rw (u, x, b)

-- The reader's.
module _ (c : Settings) (st : State) (labels : List ℕ) (lent : ℕ) where
  abbrev at_start : Receiving
  at_start = receiving_of st.z labels

  pub read_seven : unfit st ≡ true → 7 ≡ read_refusal (Accepted c) st labels lent
  unfolding refusal
  read_seven u = rw u

  pub read-eight : unfit st ≡ false → exact c lent (length labels) ≡ false → 8 ≡ read_refusal (Accepted c) st labels lent
  unfolding refusal
  read-eight u x = rw (u, x)

  pub read_ten :
      unfit st ≡ false → exact c lent (length labels) ≡ true → all_in_range c labels ≡ false → 10 ≡ read_refusal (Accepted c) st labels lent
  unfolding refusal
  read_ten u x r = rw (u, x, r)

  pub read_eleven :
      unfit st ≡ false → exact c lent (length labels) ≡ true → all_in_range c labels ≡ true
      → numbers_fit c c.frames at_start ≡ false → 11 ≡ read_refusal (Accepted c) st labels lent
  unfolding refusal
  read_eleven u x r n = rw (u, x, r, n)

  pub read_twelve :
      unfit st ≡ false → exact c lent (length labels) ≡ true → all_in_range c labels ≡ true
      → numbers_fit c c.frames at_start ≡ true → all_steps_fit c c.frames at_start ≡ false → 12 ≡ read_refusal (Accepted c) st labels lent
  unfolding refusal
  read_twelve u x r n s = rw (u, x, r, n, s)

  pub read-zero :
      unfit st ≡ false → exact c lent (length labels) ≡ true → all_in_range c labels ≡ true
      → numbers_fit c c.frames at_start ≡ true → all_steps_fit c c.frames at_start ≡ true → 0 ≡ read_refusal (Accepted c) st labels lent
  unfolding refusal
  read-zero u x r n s = rw (u, x, r, n, s)
