-- `substitution::close_ended` meets its contract. The loop's invariant: of d abstractions as many stay open as of all. Assumes nothing.
use mathlib.Core.Path.{◌≡◌}
use Rattle.substitution.specs.Stack.{closed}
use Rattle.substitution.proofs.close_ended.Given as goal

abbrev pub invariant-loop-d : goal.invariant-loop-d
invariant-loop-d l = closed l.st l.need l.d ≡ closed l.st l.need l.depth
