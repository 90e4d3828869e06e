-- `words::copy` meets its contract: the first i bytes of the range are written. Assumes nothing.
use Rattle.std.proofs.Common.{◌≡◌, drop}
use lib.Seq.{paste}
use Rattle.words.proofs.copy.Given as goal

abbrev pub invariant-loop-i : goal.invariant-loop-i
invariant-loop-i l = l.b ≡ paste l.initial.b l.at (drop l.from l.u) l.i
