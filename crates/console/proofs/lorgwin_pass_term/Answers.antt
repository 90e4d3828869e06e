-- `lorgwin_pass_term` meets its contract.
use mathlib.Core.Path.{ap, ◌∙◌}
use Rattle.answers.specs.Answers.{passed_word}
use Rattle.console.proofs.lorgwin_pass_term.Goals as goal

pub returns : goal.returns
returns c = c.passed_word.ensures ∙ ap passed_word c.pass_term.ensures
