-- `write::label` meets its contract: a label is below 18·2^5, so that it fits 16 bits.
use mathlib.Core.Path.{◌≡◌}
use Prim.Native.Nat.{ℕ, ◌*◌, ◌%◌, ◌^◌, ◌≤◌, ◌<◌}
use native.Mathlib.Nat.{mod-eq_of_lt, mul-le-mul, mul_comm}
use native.Mathlib.Omega.{arith}
use lib.Pow.{pow_mono}
use Rattle.frame.proofs.write.label.Goals as goal

shifted : (q ring : ℕ) → q ≤ 5 → ring < 18 → (ring * 2 ^ q) % 2 ^ 64 ≡ 2 ^ q * ring
shifted q ring few inside =
    let scale : 2 ^ q ≤ 32 = pow_mono few in
    let most : ring ≤ 17 = omega arith in
    let product : ring * 2 ^ q ≤ 17 * 32 = mul-le-mul most scale in
    let small : ring * 2 ^ q < 2 ^ 64 = omega arith in
    rw (mod-eq_of_lt small, mul_comm ring (2 ^ q))

pub returns : goal.returns
returns c = rw (c.from.ensures, shifted c.args.q c.args.ring c.requires.0 c.requires.1)
