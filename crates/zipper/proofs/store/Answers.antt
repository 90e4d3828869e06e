-- `zipper::store` meets its contract: the move closes the gap, and the zeros begin where the expression ends. Assumes nothing.
use mathlib.Core.Path.{refl}
use Rattle.zipper.proofs.Ends.{store_is}
use Rattle.zipper.proofs.store.Goals as goal

pub returns : goal.returns
returns c =
    store_is c.requires _ _ _ c.move_within.ensures refl c.zero.ensures
