-- `line::shells::expanded_rings` meets its contract: the table is the list of its values, by one computation. Assumes nothing.
use Rattle.laws.specs.Smallest.{smallest}
use Rattle.laws.proofs.Convolution.{values, values-below}
use Rattle.line.specs.Numbers.{minimum_of, nearest_of, expanded_of}
use Rattle.line.proofs.shells.expanded_rings.Goals as goal

pub returns : goal.returns
unfolding values smallest expanded_of minimum_of nearest_of
returns c = values-below expanded_of 32 c.args.k c.requires
