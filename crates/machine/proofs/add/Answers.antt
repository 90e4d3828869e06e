-- `machine::add` meets its contract. Assumes nothing.
use Rattle.machine.proofs.Choice.{summed-is}
use Rattle.machine.proofs.add.Goals as goal

pub returns : goal.returns
returns c =
    summed-is _ _ _ _ _ c.number.ensures c.number-2.ensures _ c.write.ensures
