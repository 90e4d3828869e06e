-- `zipper::Pair::at_head` meets its contract: each way of the match has the law of its kinds. Assumes nothing.
use borrow.Author.Rules.{rules}
use Prim.Native.Nat.{◌+◌}
use Rattle.terms.specs.Record.{kind_at}
use native.Mathlib.Omega.{arith}
use Rattle.zipper.proofs.Search.{head-applied, head-stuck}
use Rattle.zipper.proofs.Pair.at_head.Goals as goal

pub returns-in-2 : goal.returns-in-2
returns-in-2 c = head-applied (kind_at c.args.self.now.e.now (c.args.self.now.redex.p + 1)) _ (search rules)

pub returns-in_default : goal.returns-in_default
returns-in_default c = head-stuck (kind_at c.args.self.now.e.now (c.args.self.now.redex.p + 1)) _ (λ a. omega arith)
