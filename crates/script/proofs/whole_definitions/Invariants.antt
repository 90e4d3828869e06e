-- `script::whole_definitions` meets its contract. The loop's invariant: the file has as many definitions as were passed and as stand from record `at`
-- on, if it is whole. The measure is the records left. Assumes nothing.
use Prim.Native.Nat.{◌-◌}
use Rattle.terms.specs.Record.{count}
use Rattle.script.proofs.Walk.{Passing}
use Rattle.script.proofs.whole_definitions.Given as goal

abbrev pub invariant-loop-at : goal.invariant-loop-at
invariant-loop-at l = Passing l.s l.at l.passed

abbrev pub decreases-loop-at : goal.decreases-loop-at
decreases-loop-at l = count l.s - l.at
