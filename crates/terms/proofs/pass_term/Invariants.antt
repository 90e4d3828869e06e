-- `terms::pass_term` meets its contract. The loop's invariant: the terms still wanted, from record i on, end where the term at `at` does; some
-- are, and no more than twice the records passed, and one. Assumes nothing.
use mathlib.Core.Path.{◌≡◌}
use Prim.Native.Nat.{◌+◌, ◌-◌, ◌*◌, ◌<◌, ◌≤◌}
use Rattle.terms.specs.Walk.{pass_term, many}
use Rattle.terms.proofs.pass_term.Given as goal

abbrev pub invariant-loop-i : goal.invariant-loop-i
invariant-loop-i l = record {
  same : many l.wanted l.s l.i ≡ pass_term l.s l.at;
  some : 0 < l.wanted;
  few : l.wanted ≤ 2 * (l.i - l.at) + 1;
}
