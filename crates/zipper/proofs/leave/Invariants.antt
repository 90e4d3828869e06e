-- `zipper::leave` meets its contract. The loop's invariant: the records passed are copied, the terms still wanted end where the term does, and
-- what was handed in is bytes. Assumes nothing.
use mathlib.Core.Path.{◌≡◌}
use lib.ListN.{length}
use Rattle.words.specs.Bytes.{AllBytes}
use Rattle.zipper.proofs.Leaving.{Copying}
use Rattle.zipper.proofs.leave.Given as goal

abbrev pub invariant-loop-i : goal.invariant-loop-i
invariant-loop-i l = Copying l.initial.e l.gap.l l.gap.r l.e l.i l.wanted × (length l.e ≡ length l.initial.e) × AllBytes l.initial.e
