-- `script::Script::walk_main` meets its contract: each way has a law of the walk. Assumes nothing.
use mathlib.Core.Path.{sym, ◌∙◌}
use Rattle.std.proofs.lemmas.Result.{err_from_is_err_and}
use Rattle.script.proofs.Walk.{main-stopped, main-early, main-whole}
use Rattle.script.proofs.Script.walk_main.Goals as goal

pub returns-in_err-main : goal.returns-in_err-main
returns-in_err-main c =
    let p = err_from_is_err_and c.from_residual.result c.from_residual.ensures.1 in
    rw (p.1, p.2) (main-stopped c.requires.reached c.requires.at_main _ (sym c.walk_term.ensures ∙ c.in_err-main.was))

pub returns-then-main-self : goal.returns-then-main-self
returns-then-main-self c = main-early c.requires.reached c.requires.at_main _ (sym c.walk_term.ensures ∙ c.in_ok-main.was) c.if-main-self.true

pub returns : goal.returns
returns c = rw c.main.ensures (main-whole c.requires.reached c.requires.at_main _ (sym c.walk_term.ensures ∙ c.in_ok-main.was) c.if-main-self.false)
