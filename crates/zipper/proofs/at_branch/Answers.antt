-- `zipper::at_branch` meets its contract: each way of the match has the law of its kind. Assumes nothing.
use native.Mathlib.Omega.{arith}
use Rattle.zipper.proofs.Search.{branch_decided, branch_stuck}
use Rattle.zipper.proofs.at_branch.Goals as goal

pub returns-in-3 : goal.returns-in-3
returns-in-3 c = branch_decided _ _ c.in-3.is

pub returns-in_default : goal.returns-in_default
returns-in_default c = branch_stuck _ _ (λ a. omega arith)
