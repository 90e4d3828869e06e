-- `single` meets its contract.
use Rattle.bits.proofs.Count.{single-is}
use Rattle.bits.proofs.single.Goals as goal

pub returns : goal.returns
returns c = rw c.is_power_of_two.ensures (single-is c.args.w)
