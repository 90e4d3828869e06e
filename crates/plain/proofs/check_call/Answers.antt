-- `plain::check_call` meets its contract: each way out has its law. Assumes nothing.
use Rattle.plain.proofs.Refusals.{due-budget, due-short, due-none}
use Rattle.plain.proofs.check_call.Goals as goal

pub returns-then-budget-gt-MOST_BUDGET : goal.returns-then-budget-gt-MOST_BUDGET
returns-then-budget-gt-MOST_BUDGET c = rw c.whole.ensures (due-budget _ _ _ c.if-budget-gt-MOST_BUDGET.true)

pub returns-then-short : goal.returns-then-short
returns-then-short c = rw c.whole-then-short.ensures (due-short _ _ _ c.if-budget-gt-MOST_BUDGET.false c.if-short.true)

pub returns : goal.returns
returns c = due-none _ _ _ c.if-budget-gt-MOST_BUDGET.false c.if-short.false
