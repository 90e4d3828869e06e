-- `lorgwin_check` meets its contract.
use mathlib.Core.Path.{ap, ◌∙◌}
use Rattle.answers.specs.Answers.{words_of}
use Rattle.console.proofs.lorgwin_check.Goals as goal

pub returns : goal.returns
returns c = c.from.ensures ∙ ap words_of c.check.ensures
