-- `machine::commands` meets its contract: a body of kind 6 has a second record to look at. Assumes nothing.
use native.Mathlib.Omega.{arith}
use Rattle.machine.proofs.Bodies.{commands-none, commands-one, commands-two}
use Rattle.machine.proofs.commands.Goals as goal

pub returns-then-s-body-ne6 : goal.returns-then-s-body-ne6
returns-then-s-body-ne6 c = commands-none _ _ c.if-s-body-ne6.true

pub overflow_add-body : goal.overflow_add-body
overflow_add-body c = let z = c.requires.second_in_bounds c.if-s-body-ne6.false in omega arith

pub overflow_mul-body-2 : goal.overflow_mul-body-2
overflow_mul-body-2 c = let z = c.requires.second_in_bounds c.if-s-body-ne6.false in omega arith

pub bounds-s-body-2 : goal.bounds-s-body-2
bounds-s-body-2 c = c.requires.second_in_bounds c.if-s-body-ne6.false

pub returns-then-s-body-ne7 : goal.returns-then-s-body-ne7
returns-then-s-body-ne7 c = commands-one _ _ c.if-s-body-ne6.false c.if-s-body-ne7.true

pub returns : goal.returns
returns c = commands-two _ _ c.if-s-body-ne6.false c.if-s-body-ne7.false
