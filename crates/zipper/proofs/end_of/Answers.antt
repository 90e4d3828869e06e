-- `zipper::end_of` meets its contract: it is the definition. Assumes nothing.
use Rattle.std.proofs.Common.{rules}
use Rattle.zipper.specs.Zipper.{end_at}
use Rattle.zipper.proofs.end_of.Goals as goal

pub returns : goal.returns
unfolding end_at
returns c = search rules
