-- `zipper::seek` meets its contract. The loop's invariant: the buffers hold the expression that they held at first. The measure is the records
-- from the focus on: each turn leaves a frame's record or a value behind. Assumes nothing.
use mathlib.Core.Path.{◌≡◌}
use Prim.Native.Nat.{◌-◌}
use lib.ListN.{length}
use Rattle.zipper.specs.Zipper.{whole_in, ZipOf}
use Rattle.zipper.proofs.Search.{Seen}
use Rattle.zipper.proofs.seek.Given as goal

abbrev pub invariant-loop-p : goal.invariant-loop-p
invariant-loop-p l = ZipOf l.e l.frames l.here.l l.here.r l.depth (whole_in l.initial.e l.fn.gap.l l.fn.gap.r) × Seen l.e l.frames l.here.l l.here.r l.depth × (length l.e ≡ length l.initial.e) × (length l.frames ≡ length l.initial.frames)

abbrev pub decreases-loop-p : goal.decreases-loop-p
decreases-loop-p l = 3072 - l.here.r
