-- The loop of `fields::check::put_crc`: with the bits that are left put, the whole is put.
use Rattle.std.proofs.Common.{◌≡◌, ◌-◌, length}
use Rattle.laws.specs.Put.{put}
use Rattle.fields.specs.Weights.{high_digits}
use Rattle.fields.proofs.check.put_crc.Given as goal

abbrev pub invariant-loop-i : goal.invariant-loop-i
invariant-loop-i l = (length l.bit-items ≡ 16) × (put l.bit-items l.i (high_digits (16 - l.i) l.crc) ≡ high_digits 16 l.crc)
