use mathlib.Core.Path.{sym, ◌∙◌}
use native.Mathlib.Omega.{arith}
use Rattle.std.proofs.lemmas.Result.{err_from_is_err_and}
use Rattle.terms.proofs.Walk.{walked-within}
use Rattle.script.proofs.Parts.{definition-here}
use Rattle.script.proofs.Walk.{reached-start, reached-more, body-stopped}
use Rattle.script.proofs.Script.walk.Goals as goal

pub loop-found-init : goal.loop-found-init
loop-found-init c = let e = c.default-found.ensures in rw (e.0, e.1.0, e.1.1) (reached-start _)

pub overflow_add-at : goal.overflow_add-at
overflow_add-at c = omega (arith, definition-here c.args.self.bytes.now c.loop-found.at (sym c.is_definition.ensures ∙ c.loop-found-test.true))

pub walk_term-requires : goal.walk_term-requires
walk_term-requires c = omega (arith, definition-here c.args.self.bytes.now c.loop-found.at (sym c.is_definition.ensures ∙ c.loop-found-test.true))

pub number-requires : goal.number-requires
number-requires c = definition-here c.args.self.bytes.now c.loop-found.at (sym c.is_definition.ensures ∙ c.loop-found-test.true)

pub loop-found-smaller : goal.loop-found-smaller
loop-found-smaller c = omega (arith, walked-within _ _ _ _ (sym c.walk_term.ensures ∙ c.in_ok-body.was))

pub loop-found-preserved : goal.loop-found-preserved
loop-found-preserved c =
    let d = sym c.is_definition.ensures ∙ c.loop-found-test.true in
    rw (c.after-found.ensures, c.number.ensures) (reached-more c.loop-found.invariant d _ (sym c.walk_term.ensures ∙ c.in_ok-body.was))

pub returns-in_err-body : goal.returns-in_err-body
returns-in_err-body c =
    let p = err_from_is_err_and c.from_residual.result c.from_residual.ensures.1 in
    rw (p.1, p.2) (body-stopped c.loop-found.invariant (sym c.is_definition.ensures ∙ c.loop-found-test.true) _ (sym c.walk_term.ensures ∙ c.in_err-body.was))

pub walk_main-requires-clause-reached : goal.walk_main-requires-clause-reached
walk_main-requires-clause-reached c = c.loop-found.invariant

pub walk_main-requires-clause-at_main : goal.walk_main-requires-clause-at_main
walk_main-requires-clause-at_main c = sym c.is_definition.ensures ∙ c.loop-found-test.false

pub returns : goal.returns
returns c = c.walk_main.ensures
