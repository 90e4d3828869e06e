-- `lorgwin_run_rewritten` meets its contract.
use mathlib.Core.List.{List}
use mathlib.Core.Path.{◌≡◌, ap}
use Prim.Native.Nat.{ℕ}
use Rattle.rewritten.specs.Answer.{RewrittenRun, After, after}
use Rattle.answers.specs.Answers.{rewritten_words}
use Rattle.console.specs.Left.{logged_words, rewritten_run_words}
use Rattle.answers.specs.declared.RewrittenWords.{RewrittenWords}
use Rattle.console.proofs.lorgwin_run_rewritten.Goals as goal

words-logged : {e s h l t : List ℕ} {r : RewrittenRun} {w : RewrittenWords} {a : After} → w ≡ rewritten_words r → after r e s h l t ≡ a → logged_words w e s h l t ≡ rewritten_run_words a
words-logged q h = rw q (ap rewritten_run_words h)

pub returns : goal.returns
returns c =
    words-logged c.from.ensures c.rewritten.ensures
