-- What has been read stands at the start of the buffer, and each read that goes on reads something.
use Rattle.std.proofs.Common.{◌-◌, ◌≤◌, length}
use Rattle.listing.proofs.read_full.Given as goal

abbrev pub invariant-loop-done : goal.invariant-loop-done
invariant-loop-done l = l.done ≤ length l.buffer

abbrev pub decreases-loop-done : goal.decreases-loop-done
decreases-loop-done l = length l.buffer - l.done
