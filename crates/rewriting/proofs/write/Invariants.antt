-- `rewriting::write` meets its contract. What is written, the block that is not and what the records left give make the whole. Assumes nothing.
use Rattle.rewriting.proofs.Writing.{Going}
use Rattle.rewriting.proofs.write.Given as goal

abbrev pub invariant-loop-i : goal.invariant-loop-i
invariant-loop-i l = Going l.marks l.s l.initial.out l.out l.from l.at l.i
