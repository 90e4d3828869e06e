-- The proof of the cycle of calls {walk_term, walk_value}. The measure is twice the records left, and one more for `walk_term`, which calls
-- `walk_value` at the same record. Each return has a law of the walk. Assumes nothing.
use Prim.Native.Nat.{◌+◌, ◌-◌, ◌*◌}
use Rattle.terms.specs.Record.{count}
use Rattle.terms.proofs.+walk_term_walk_value.Given as goal

abbrev pub decreases-walk_term : goal.decreases-walk_term
decreases-walk_term l = 2 * (count l.s.now - l.at) + 1

abbrev pub decreases-walk_value : goal.decreases-walk_value
decreases-walk_value l = 2 * (count l.s.now - l.at)
