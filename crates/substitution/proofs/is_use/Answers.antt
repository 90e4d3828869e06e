-- `substitution::is_use` meets its contract. Assumes nothing.
use borrow.Author.Tests.{eq-eqb, ne_eqb}
use Rattle.substitution.proofs.is_use.Goals as goal

pub returns-then-number-depth : goal.returns-then-number-depth
returns-then-number-depth c = rw (eq-eqb _ _ c.if-number-depth.true)

pub returns-else-number-depth : goal.returns-else-number-depth
returns-else-number-depth c = rw (ne_eqb _ _ c.if-number-depth.false)
