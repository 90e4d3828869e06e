-- What the call leaves of full buffers is what it answers and leaves.
use Rattle.std.proofs.Common.{ap}
use Rattle.rehearsal.specs.Rehearsal.{After}
use Rattle.samples.proofs.calls.rehearse_into.Goals as goal

pub returns-clause-answer : goal.returns-clause-answer
returns-clause-answer c = ap (λ (a : After). a.run.answer) (rw (c.fill.ensures.expression, c.fill.ensures.history, c.fill.ensures.log) at c.rehearse.ensures.table_after)

pub returns-clause-history : goal.returns-clause-history
returns-clause-history c = ap (λ (a : After). a.run.history) (rw (c.fill.ensures.expression, c.fill.ensures.history, c.fill.ensures.log) at c.rehearse.ensures.table_after)

pub returns-clause-log : goal.returns-clause-log
returns-clause-log c = ap (λ (a : After). a.run.log) (rw (c.fill.ensures.expression, c.fill.ensures.history, c.fill.ensures.log) at c.rehearse.ensures.table_after)
