use mathlib.Core.Path.{◌≡◌, sym, ◌∙◌}
use Prim.Native.Nat.{◌+◌, ◌-◌}
use native.Mathlib.Omega.{arith}
use Rattle.substitution.proofs.Levels.{closed_on, closed-stop, closed_none}
use Rattle.substitution.proofs.close_ended.Goals as goal

pub returns-then-from-need : goal.returns-then-from-need
returns-then-from-need c =
    let d : c.loop-d.d - 1 + 1 ≡ c.loop-d.d = omega arith in
    d ∙ closed-stop _ _ _ c.loop-d-test.true (λ e. c.if-from-need.true (c.from.ensures ∙ e)) ∙ c.loop-d.invariant

pub loop-d-preserved : goal.loop-d-preserved
loop-d-preserved c = closed_on _ _ _ c.loop-d-test.true (sym c.from.ensures ∙ c.if-from-need.false) ∙ c.loop-d.invariant

pub returns : goal.returns
returns c =
    let d : 0 ≡ c.loop-d.d = omega arith in d ∙ closed_none _ _ _ c.loop-d-test.false ∙ c.loop-d.invariant
