-- `rewriting::gain_at` meets its contract. Assumes nothing.
use mathlib.Core.Path.{sym}
use Rattle.rewriting.proofs.Marking.{gain-other, gain-of, gain-past}
use Rattle.rewriting.proofs.gain_at.Goals as goal

pub returns-then-s-i-ne8 : goal.returns-then-s-i-ne8
returns-then-s-i-ne8 c = sym (gain-other _ _ _ c.if-s-i-ne8.true)

pub returns-then-f-lt128 : goal.returns-then-f-lt128
returns-then-f-lt128 c = sym (gain-of _ _ _ c.if-s-i-ne8.false c.number-f.ensures c.if-f-lt128.true)

pub returns-else-f-lt128 : goal.returns-else-f-lt128
returns-else-f-lt128 c = sym (gain-past _ _ _ c.if-s-i-ne8.false c.number-f.ensures c.if-f-lt128.false)
