-- `substitution::substitute` meets its contract. Both loops keep that what is written, what is passed and what is to come are the copy. The
-- outer measure counts the records left twice, and one more while terms are to come, so that it falls also where the inner loop comes to the
-- end. Assumes nothing.
use Prim.Native.Nat.{◌≤◌, ◌+◌, ◌-◌, ◌*◌, ◌/◌, min}
use lib.ListN.{length}
use Rattle.terms.specs.Read.{term_at}
use Rattle.substitution.proofs.Loop.{Held}
use Rattle.substitution.proofs.substitute.Given as goal

abbrev pub invariant-loop-need : goal.invariant-loop-need
invariant-loop-need l = Held l.s l.u l.fn.out l.at (term_at l.s l.at) l.out l.st l.i l.from l.need l.depth l.pos

abbrev pub decreases-loop-need : goal.decreases-loop-need
decreases-loop-need l = 2 * (length l.s / 8 - l.i) + min l.need 1

-- Up to the next use.
abbrev pub invariant-loop-need-2 : goal.invariant-loop-need-2
invariant-loop-need-2 l = Held l.s l.u l.fn.out l.at (term_at l.s l.at) l.out l.st l.i l.from l.need l.depth l.pos × (l.initial.i ≤ l.i)

abbrev pub decreases-loop-need-2 : goal.decreases-loop-need-2
decreases-loop-need-2 l = length l.s / 8 - l.i
