-- `read::rings_read` meets its contract: each of the eight rings fits a byte.
use Rattle.std.proofs.Common.{arith}
use Rattle.frame.proofs.Sixteen.{rings-are, ring-small}
use Rattle.frame.proofs.read.rings_read.Goals as goal

pub ring_at-requires : goal.ring_at-requires
ring_at-requires c = (omega arith, omega arith, ring-small _ _ c.requires 0)

pub ring_at-requires-2 : goal.ring_at-requires-2
ring_at-requires-2 c = (omega arith, omega arith, ring-small _ _ c.requires 1)

pub ring_at-requires-3 : goal.ring_at-requires-3
ring_at-requires-3 c = (omega arith, omega arith, ring-small _ _ c.requires 2)

pub ring_at-requires-4 : goal.ring_at-requires-4
ring_at-requires-4 c = (omega arith, omega arith, ring-small _ _ c.requires 3)

pub ring_at-requires-5 : goal.ring_at-requires-5
ring_at-requires-5 c = (omega arith, omega arith, ring-small _ _ c.requires 4)

pub ring_at-requires-6 : goal.ring_at-requires-6
ring_at-requires-6 c = (omega arith, omega arith, ring-small _ _ c.requires 5)

pub ring_at-requires-7 : goal.ring_at-requires-7
ring_at-requires-7 c = (omega arith, omega arith, ring-small _ _ c.requires 6)

pub ring_at-requires-8 : goal.ring_at-requires-8
ring_at-requires-8 c = (omega arith, omega arith, ring-small _ _ c.requires 7)

pub returns : goal.returns
returns c = rw (rings-are c.args.q c.args.labels.now) (cc)
