-- `terms::in_range` meets its contract: each way of the match has the law of its range. Assumes nothing.
use mathlib.Core.Path.{sym}
use native.Mathlib.Omega.{arith}
use Rattle.terms.proofs.Range.{range-var, range-name, range-lam, range-app, range-function, range-sum, range-zero, range-high}
use Rattle.terms.proofs.in_range.Goals as goal

pub returns-in-1 : goal.returns-in-1
returns-in-1 c = sym (range-var c.args.kind c.args.number c.in-1.is)

pub returns-in-4 : goal.returns-in-4
returns-in-4 c = sym (range-lam c.args.kind c.args.number c.in-4.is)

pub returns-in-5 : goal.returns-in-5
returns-in-5 c = sym (range-app c.args.kind c.args.number c.in-5.is)

pub returns-in-2-to-3 : goal.returns-in-2-to-3
returns-in-2-to-3 c = sym (range-name c.args.kind c.args.number (omega arith) (omega arith))

pub returns-in-6-to-8 : goal.returns-in-6-to-8
returns-in-6-to-8 c = sym (range-function c.args.kind c.args.number (omega arith) (omega arith))

pub returns-in-9-to-10 : goal.returns-in-9-to-10
returns-in-9-to-10 c = sym (range-sum c.args.kind c.args.number (omega arith) (omega arith))

pub returns-in_default : goal.returns-in_default
returns-in_default c = sym (range-zero c.args.kind c.args.number (omega arith))

pub returns-in_default-2 : goal.returns-in_default-2
returns-in_default-2 c = sym (range-high c.args.kind c.args.number (omega arith))
