-- `lorgwin_derive` meets its contract.
use mathlib.Core.List.{List}
use mathlib.Core.Path.{◌≡◌, ap}
use Prim.Native.Nat.{ℕ}
use Rattle.refusal.specs.Refusal.{Verdict}
use Rattle.records.specs.Entries.{Derived, leaves}
use Rattle.answers.specs.Answers.{words_of}
use Rattle.console.specs.Left.{leaves_words, derived_words}
use Rattle.answers.specs.declared.VerdictWords.{VerdictWords}
use Rattle.console.proofs.lorgwin_derive.Goals as goal

words-leave : {t : List ℕ} {v : Verdict} {w : VerdictWords} {d : Derived} → w ≡ words_of v → leaves t v ≡ d → leaves_words t w ≡ derived_words d
words-leave e h = rw e (ap derived_words h)

pub returns : goal.returns
returns c = words-leave c.from.ensures c.derive.ensures
