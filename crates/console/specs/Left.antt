-- What the entries for C leave: their words, and the lent buffers. Assumes nothing.
use Rattle.std.specs.Prelude.{List, ℕ}
use Rattle.records.specs.Entries.{Derived}
use Rattle.rewriting.specs.Answer as rewrites
use Rattle.plain.specs.Answer as plains
use Rattle.rewritten.specs.Answer as runs
use Rattle.rehearsal.specs.Rehearsal as rehearsals
use Rattle.answers.specs.declared.VerdictWords.{VerdictWords}
use Rattle.answers.specs.declared.RewritingWords.{RewritingWords}
use Rattle.answers.specs.declared.PlainWords.{PlainWords}
use Rattle.answers.specs.declared.RewrittenWords.{RewrittenWords}
use Rattle.answers.specs.Answers.{words_of, rewriting_words, plain_words, rewritten_words}

-- The table as deriving leaves it, with number and place.
pub record DerivedWords : Type 0 where
  pub table : List ℕ
  pub words : VerdictWords

abbrev pub leaves_words : List ℕ → VerdictWords → DerivedWords
leaves_words t w = record { table = t; words = w }

abbrev pub derived_words : Derived → DerivedWords
derived_words d = leaves_words d.table (words_of d.verdict)

-- The output as rewriting leaves it, with these words.
pub record WrittenWords : Type 0 where
  pub out : List ℕ
  pub words : RewritingWords

abbrev pub writes_words : List ℕ → RewritingWords → WrittenWords
writes_words o w = record { out = o; words = w }

abbrev pub written_words : rewrites.After → WrittenWords
written_words a = writes_words a.out (rewriting_words a.answer)

-- These words, and both buffers as the plain run leaves them.
pub record RanWords : Type 0 where
  pub words : PlainWords
  pub expression : List ℕ
  pub scratch : List ℕ

abbrev pub ran_words : PlainWords → List ℕ → List ℕ → RanWords
ran_words w e c = record { words = w; expression = e; scratch = c }

abbrev pub plain_run_words : plains.After → RanWords
plain_run_words a = ran_words (plain_words a.answer) a.expression a.scratch

-- These words, and all five buffers as the rewritten run leaves them.
pub record LoggedWords : Type 0 where
  pub words : RewrittenWords
  pub expression : List ℕ
  pub scratch : List ℕ
  pub history : List ℕ
  pub log : List ℕ
  pub table : List ℕ

abbrev pub logged_words : RewrittenWords → List ℕ → List ℕ → List ℕ → List ℕ → List ℕ → LoggedWords
logged_words w e c h l t = record { words = w; expression = e; scratch = c; history = h; log = l; table = t }

abbrev pub rewritten_run_words : runs.After → LoggedWords
rewritten_run_words a = logged_words (rewritten_words a.answer) a.expression a.scratch a.history a.log a.table

-- The output as a rehearsal leaves it, with what its run leaves.
pub record RehearsedWords : Type 0 where
  pub out : List ℕ
  pub run : LoggedWords

abbrev pub rehearses_words : List ℕ → LoggedWords → RehearsedWords
rehearses_words o w = record { out = o; run = w }

abbrev pub rehearsal_words : rehearsals.After → RehearsedWords
rehearsal_words a = rehearses_words a.out (rewritten_run_words a.run)
