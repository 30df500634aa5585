-- Of accepted settings P is 1 to 16 and r at most P, and a frame leaves the counter below P. Assumes nothing.
use mathlib.Core.Path.{◌≡◌, sym}
use Prim.Native.Nat.{◌≤◌}
use native.Mathlib.Omega.{arith}
use Rattle.std.specs.Prelude.{Result, Ok, Err, IfOk}
use Rattle.refusals.specs.declared.Refusal.{Refusal}
use Rattle.line.specs.declared.asked.Asked.{Asked}
use Rattle.line.specs.declared.settings.Settings.{Settings}
use Rattle.line.specs.Settings.{worked_of}
use Rattle.line.specs.Worked.{told}
use Rattle.line.proofs.DataFrames.{counter-stays}
use Rattle.line.proofs.Soundness.{accepted-sound}

pub accepted-fits :
    (asked : Asked) (result : Result Settings Refusal) → told result ≡ worked_of asked
    → IfOk result (λ c. (1 ≤ c.frames) × (c.frames ≤ 16) × (c.step ≤ c.frames))
accepted-fits asked (Ok c) e =
    let sound = accepted-sound asked c (sym e) in
    (omega (arith, sound.frames-least), sound.frames-most, sound.step-most)
accepted-fits asked (Err refusal) e = tt

pub ruleset fits = (accepted-fits, counter-stays)
