use mathlib.Core.Path.{sym, ◌∙◌}
use native.Mathlib.Omega.{arith}
use Rattle.terms.proofs.Pass.{pass-within}
use Rattle.script.proofs.Walk.{passing-more, passing-stopped, passed-stopped, passed-end}
use Rattle.script.proofs.whole_definitions.Goals as goal

pub loop-at-smaller : goal.loop-at-smaller
loop-at-smaller c = omega (arith, pass-within _ _ _ (sym c.pass_term.ensures ∙ c.in_ok-at.was))

pub loop-at-preserved : goal.loop-at-preserved
loop-at-preserved c = passing-more c.loop-at.invariant (sym c.is_definition.ensures ∙ c.loop-at-test.true) _ (sym c.pass_term.ensures ∙ c.in_ok-at.was)

pub returns-in_err-at : goal.returns-in_err-at
returns-in_err-at c = rw c.from_residual.ensures (passing-stopped c.loop-at.invariant (sym c.is_definition.ensures ∙ c.loop-at-test.true) (sym c.pass_term.ensures ∙ c.in_err-at.was))

pub returns-in_err-end : goal.returns-in_err-end
returns-in_err-end c = rw c.from_residual-in_err-end.ensures (passed-stopped c.loop-at.invariant (sym c.is_definition.ensures ∙ c.loop-at-test.false) (sym c.pass_term-2.ensures ∙ c.in_err-end.was))

pub returns : goal.returns
returns c = passed-end c.loop-at.invariant (sym c.is_definition.ensures ∙ c.loop-at-test.false) _ (sym c.pass_term-2.ensures ∙ c.in_ok-end.was) c.then_some.ensures
