-- `lorgwin_rehearse` meets its contract.
use mathlib.Core.List.{List}
use mathlib.Core.Path.{◌≡◌, ap}
use Prim.Native.Nat.{ℕ}
use Rattle.rewritten.specs.Answer as runs
use Rattle.rewritten.specs.Answer.{RewrittenRun}
use Rattle.rehearsal.specs.Rehearsal.{After, after}
use Rattle.answers.specs.Answers.{rewritten_words}
use Rattle.console.specs.Left.{logged_words, rehearses_words, rehearsal_words}
use Rattle.answers.specs.declared.RewrittenWords.{RewrittenWords}
use Rattle.console.proofs.lorgwin_rehearse.Goals as goal

words-rehearsed : {o e s h l t : List ℕ} {r : RewrittenRun} {w : RewrittenWords} {a : After} → w ≡ rewritten_words r → after o (runs.after r e s h l t) ≡ a → rehearses_words o (logged_words w e s h l t) ≡ rehearsal_words a
words-rehearsed q h = rw q (ap rehearsal_words h)

pub returns : goal.returns
returns c =
    words-rehearsed c.from.ensures c.rehearse.ensures.table_after
