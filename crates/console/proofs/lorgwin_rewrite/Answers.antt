-- `lorgwin_rewrite` meets its contract.
use mathlib.Core.List.{List}
use mathlib.Core.Path.{◌≡◌, ap}
use Prim.Native.Nat.{ℕ}
use Rattle.rewriting.specs.Answer.{Rewritten, After, after}
use Rattle.answers.specs.Answers.{rewriting_words}
use Rattle.console.specs.Left.{writes_words, written_words}
use Rattle.answers.specs.declared.RewritingWords.{RewritingWords}
use Rattle.console.proofs.lorgwin_rewrite.Goals as goal

words-write : {o : List ℕ} {r : Rewritten} {w : RewritingWords} {a : After} → w ≡ rewriting_words r → after o r ≡ a → writes_words o w ≡ written_words a
words-write e h = rw e (ap written_words h)

pub returns : goal.returns
returns c = words-write c.from.ensures c.rewrite.ensures
