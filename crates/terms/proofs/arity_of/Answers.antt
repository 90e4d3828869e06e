-- `terms::arity_of` meets its contract: each way of the match has the law of its range. Assumes nothing.
use native.Mathlib.Omega.{arith}
use mathlib.Core.Path.{sym}
use Rattle.terms.specs.Read.Laws.{arity-zero, arity-leaf, arity-one, arity-two, arity-sum, arity-three, arity-none}
use Rattle.terms.proofs.arity_of.Goals as goal

pub returns-then-kind-eq9 : goal.returns-then-kind-eq9
returns-then-kind-eq9 c = sym (arity-sum c.args.kind c.if-kind-eq9.true)

pub returns-in-4 : goal.returns-in-4
returns-in-4 c = sym (arity-one c.args.kind c.in-4.is)

pub returns-in-1-to-3 : goal.returns-in-1-to-3
returns-in-1-to-3 c = sym (arity-leaf c.args.kind (omega arith) (omega arith))

pub returns-in-5-to-7 : goal.returns-in-5-to-7
returns-in-5-to-7 c = sym (arity-two c.args.kind (omega arith) (omega arith))

pub returns-else-kind-eq9 : goal.returns-else-kind-eq9
returns-else-kind-eq9 c = sym (arity-three c.args.kind (omega arith))

pub returns-in_default : goal.returns-in_default
returns-in_default c = sym (arity-zero c.args.kind (omega arith))

pub returns-in_default-2 : goal.returns-in_default-2
returns-in_default-2 c =
    sym (arity-none c.args.kind (omega arith) (λ e. omega arith) (λ e. omega arith))

pub returns-in_default-3 : goal.returns-in_default-3
returns-in_default-3 c =
    sym (arity-none c.args.kind (omega arith) (λ e. omega arith) (λ e. omega arith))
