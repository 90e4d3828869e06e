-- `script::Script::walk` meets its contract. The loop's invariant is what the walk has found in the definitions before record `at`. The measure
-- is the records left. Assumes nothing.
use Prim.Native.Nat.{◌-◌}
use Rattle.terms.specs.Record.{count}
use Rattle.script.specs.Layout.{Reached}
use Rattle.script.proofs.Script.walk.Given as goal

abbrev pub invariant-loop-found : goal.invariant-loop-found
invariant-loop-found l = Reached l.self.bytes.now l.at l.found

abbrev pub decreases-loop-found : goal.decreases-loop-found
decreases-loop-found l = count l.self.bytes.now - l.at
