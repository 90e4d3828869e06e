-- The answers of the entries as words for C. Assumes nothing.
use Rattle.std.specs.Prelude.{ℕ, Option, Some, None}
use Rattle.refusal.specs.Refusal.{Verdict}
use Rattle.rewriting.specs.Answer.{Rewritten}
use Rattle.plain.specs.Answer as plains
use Rattle.plain.specs.Answer.{PlainRun}
use Rattle.rewritten.specs.Answer as runs
use Rattle.rewritten.specs.Answer.{RewrittenRun}
use Rattle.answers.specs.declared.VerdictWords.{VerdictWords}
use Rattle.answers.specs.declared.RewritingWords.{RewritingWords}
use Rattle.answers.specs.declared.PlainWords.{PlainWords}
use Rattle.answers.specs.declared.RewrittenWords.{RewrittenWords}

-- Number and place.
abbrev pub words_of : Verdict → VerdictWords
words_of v = record { number = v.number; place = v.place }

-- The record after the term; 2 ^ 64 - 1 for none (`no-term-exactly`: for none only).
abbrev pub passed_word : Option ℕ → ℕ
passed_word (Some i) = i
passed_word None = 18446744073709551615

-- Number, place and record count.
abbrev pub rewriting_words : Rewritten → RewritingWords
rewriting_words r = record { number = r.number; place = r.place; records = r.records }

-- Number, place, the outcome's number and the steps.
abbrev pub plain_words : PlainRun → PlainWords
plain_words r = record { number = (plains.numbers_of r).number; place = (plains.numbers_of r).place; outcome = (plains.numbers_of r).outcome; steps = (plains.numbers_of r).steps }

-- Number, place, the outcome's number and the counts of steps, history and log.
abbrev pub rewritten_words : RewrittenRun → RewrittenWords
rewritten_words r =
    record { number = (runs.numbers_of r).number; place = (runs.numbers_of r).place; outcome = (runs.numbers_of r).outcome; steps = (runs.numbers_of r).steps; history_count = (runs.numbers_of r).history; log_count = (runs.numbers_of r).log }
