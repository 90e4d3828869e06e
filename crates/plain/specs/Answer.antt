-- What the plain run answers, and what it leaves in its buffers. Assumes nothing.
use Rattle.std.specs.Prelude.{Bool, cond, ◌||◌, List, [], ◌≡◌, ℕ, eqb, ltb, length, Option, Some, None, Ok, Err}
use Rattle.std.specs.Prelude as prelude
use Rattle.words.specs.Filled.{filled}
use Rattle.calculus.specs.Run.{Result, Conf, plain_run}
use Rattle.terms.specs.Encode.{encode}
use Rattle.refusal.specs.declared.Refusal.{Refusal}
use Rattle.refusal.specs.Refusal.{Verdict, due_if, refuse_if, refused_as}
use Rattle.script.specs.Check.{script_verdict}
use Rattle.script.specs.declared.Purpose.TheVariants as purposes
use Rattle.zipper.specs.Zipper.{Flat}
use Rattle.script.specs.File.{program_in}
use Rattle.machine.specs.Outcome.{outcome_of, outcome_number}
use Rattle.zipper.specs.declared.Gap.{Gap}
use Rattle.zipper.specs.declared.Redex.{Redex}
use Rattle.zipper.specs.declared.Sought.{Sought}
use Rattle.zipper.specs.declared.Sought.TheVariants as sought
use Rattle.machine.specs.declared.Outcome.{Outcome}
use Rattle.machine.specs.declared.Outcome.TheVariants as outcome
use Rattle.plain.specs.declared.Counts.{Counts}
use Rattle.plain.specs.declared.Ran as made
use Rattle.plain.specs.declared.Rest.{Rest}

-- "expression and scratch 24,576 bytes each"
abbrev pub buffer_size : ℕ
buffer_size = 24576

-- "22 budget above 1,000,000"
abbrev pub most_budget : ℕ
most_budget = 1000000

-- "Runs test 22, 23", and then the rest, where 23 is due if a buffer is too short.
abbrev pub run_due : ℕ → Bool → Verdict → Verdict
run_due budget short rest = refuse_if 22 (due_if (ltb most_budget budget)) (refuse_if 23 (due_if short) rest)

-- "Runs test 22, 23, the script", by the lengths of expression and scratch.
unfoldable pub plain_due : List ℕ → ℕ → ℕ → ℕ → Verdict
plain_due s budget e c = run_due budget (ltb e buffer_size || ltb c buffer_size) (script_verdict purposes.PlainRun s)

-- What a plain run answers: a refusal's number and place, or the outcome and the steps made.
pub data PlainRun : Type 0 where
  Refused : Verdict → PlainRun
  Ran : Outcome → ℕ → PlainRun

-- What the program's answer says.
abbrev pub ran : made.Ran → PlainRun
ran r = Ran r.outcome r.steps

abbrev pub answer_of : prelude.Result made.Ran Refusal → PlainRun
answer_of (Ok r) = ran r
answer_of (Err r) = Refused (refused_as r)

-- The answer in numbers: number and place, and where nothing is refused the outcome's number and the steps. "a definition gives this paper's
-- number and values for each of the enum's cases, and the promises use that definition"
pub record Numbers : Type 0 where
  pub number : ℕ
  pub place : ℕ
  pub outcome : ℕ
  pub steps : ℕ

abbrev pub numbers_of : PlainRun → Numbers
numbers_of (Refused v) = record { number = v.number; place = v.place; outcome = 0; steps = 0 }
numbers_of (Ran o k) = record { number = 0; place = 0; outcome = outcome_number o; steps = k }

-- The answer, its numbers, and the contents of expression and scratch.
pub record After : Type 0 where
  pub answer : PlainRun
  pub numbers : Numbers
  pub expression : List ℕ
  pub scratch : List ℕ

abbrev pub after : PlainRun → List ℕ → List ℕ → After
after x e c = record { answer = x; numbers = numbers_of x; expression = e; scratch = c }

-- After a run of the calculus: its outcome and the count of its steps; expression begins with the last expression, and "unused bytes inside
-- these sizes and all scratch are zero; bytes past them are untouched".
abbrev pub ran_after : Result Conf → List ℕ → List ℕ → After
ran_after R e c = after (Ran (outcome_of R.outcome) R.last.time) (filled buffer_size (encode R.last.expr) e) (filled buffer_size [] c)

-- A refusal leaves every lent byte unchanged.
abbrev pub answered : Verdict → Result Conf → List ℕ → List ℕ → After
answered v R e c = cond (eqb v.number 0) (ran_after R e c) (after (Refused v) e c)

-- All that a plain run does: refused, or the plain run of the script's program.
unfoldable pub plain_of : List ℕ → ℕ → List ℕ → List ℕ → After
plain_of s budget e c = answered (plain_due s budget (length e) (length c)) (plain_run (program_in s) budget) e c

-- ---- between the parts of the program

-- Where a run rests, if it ends here.
abbrev pub rested : {C : Type 0} → Outcome → C → Gap → Rest C
rested o k g = record { outcome = o; counts = k; gap = g }

-- The redex that is due after a search: none at a value and where the expression is stuck, and none where the budget is spent.
abbrev pub due_of : Sought → Bool → Option Redex
due_of (sought.Value g) b = None
due_of (sought.Stuck g) b = None
due_of (sought.Redex x) b = cond b None (Some x)

-- Where a run rests that makes no step after a search.
abbrev pub rest_of : {C : Type 0} → Sought → C → Rest C
rest_of (sought.Value g) k = rested outcome.Value k g
rest_of (sought.Stuck g) k = rested outcome.Stuck k g
rest_of (sought.Redex x) k = rested outcome.Spent k x.gap

-- Where a run rests: its outcome, its steps, and its last expression in the two parts.
pub record Rested (R : Result Conf) (x : Rest Counts) (e : List ℕ) : Type 0 where
  pub outcome : x.outcome ≡ outcome_of R.outcome
  pub steps : x.counts.steps ≡ R.last.time
  pub flat : Flat e x.gap.l x.gap.r R.last.expr
