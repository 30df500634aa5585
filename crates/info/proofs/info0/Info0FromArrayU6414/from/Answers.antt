-- `From<[u64; 14]> for Info0` meets its contract: fourteen numbers, one by one, are the list.
use Rattle.std.proofs.Common.{rules}
use Rattle.sequences.proofs.Listed.{one_by_one}
use Rattle.info.proofs.info0.Info0FromArrayU6414.from.Goals as goal

pub returns : goal.returns
returns c = one_by_one 14 _ (search rules)
