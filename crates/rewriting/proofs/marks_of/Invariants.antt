-- `rewriting::marks_of` meets its contract. The marks are those of the records that were read. Assumes nothing.
use Rattle.rewriting.specs.Marks.{Marks}
use Rattle.rewriting.proofs.marks_of.Given as goal

abbrev pub invariant-loop-i : goal.invariant-loop-i
invariant-loop-i l = Marks l.g l.i l.marks
