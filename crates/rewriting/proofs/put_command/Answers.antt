-- `rewriting::put_command` meets its contract. Assumes nothing.
use Rattle.rewriting.proofs.Commands.{command-put}
use Rattle.rewriting.proofs.put_command.Goals as goal

pub returns : goal.returns
returns c = command-put _ _ _ _ c.ranges.kind.fits c.requires c.from.ensures c.write.ensures c.write-2.ensures c.write-3.ensures
