-- `zipper::Pair::answer` meets its contract: the kind of the pair decides. Assumes nothing.
use native.Mathlib.Omega.{arith}
use mathlib.Core.Path.{◌∙◌}
use Rattle.zipper.proofs.Search.{pair-head, pair-sum, pair-none}
use Rattle.zipper.proofs.Pair.answer.Goals as goal

pub returns-in-5 : goal.returns-in-5
returns-in-5 c = c.at_head.ensures ∙ pair-head _ _ c.in-5.is

pub returns-in-9 : goal.returns-in-9
returns-in-9 c = c.at_sum.ensures ∙ pair-sum _ _ c.in-9.is

pub returns-in_default : goal.returns-in_default
returns-in_default c = pair-none _ _ (λ a. omega arith) (λ a. omega arith)
