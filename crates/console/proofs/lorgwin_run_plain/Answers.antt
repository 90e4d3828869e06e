-- `lorgwin_run_plain` meets its contract.
use mathlib.Core.List.{List}
use mathlib.Core.Path.{◌≡◌, ap}
use Prim.Native.Nat.{ℕ}
use Rattle.plain.specs.Answer.{PlainRun, After, after}
use Rattle.answers.specs.Answers.{plain_words}
use Rattle.console.specs.Left.{ran_words, plain_run_words}
use Rattle.answers.specs.declared.PlainWords.{PlainWords}
use Rattle.console.proofs.lorgwin_run_plain.Goals as goal

words-ran : {e s : List ℕ} {r : PlainRun} {w : PlainWords} {a : After} → w ≡ plain_words r → after r e s ≡ a → ran_words w e s ≡ plain_run_words a
words-ran q h = rw q (ap plain_run_words h)

pub returns : goal.returns
returns c = words-ran c.from.ensures c.plain.ensures
