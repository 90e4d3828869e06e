-- `machine::choose` meets its contract: each way out has the law of its term. Assumes nothing.
use native.Mathlib.Omega.{arith}
use Rattle.machine.proofs.Choice.{fork-places, third-is, second_is}
use Rattle.machine.proofs.choose.Goals as goal

pub returns-then-number-ne0 : goal.returns-then-number-ne0
returns-then-number-ne0 c = third-is _ _ _ c.end_of-third.ensures _ c.number.ensures c.if-number-ne0.true

pub overflow_sub-to : goal.overflow_sub-to
overflow_sub-to c =
    let f = fork-places c.requires _ c.end_of-third.ensures _ c.end_of.ensures in omega arith

pub overflow_mul-to : goal.overflow_mul-to
overflow_mul-to c =
    let f = fork-places c.requires _ c.end_of-third.ensures _ c.end_of.ensures in omega arith

pub move_within-requires : goal.move_within-requires
move_within-requires c = let f = fork-places c.requires _ c.end_of-third.ensures _ c.end_of.ensures in record { to_in_bounds = omega arith; from_in_bounds = omega arith }

pub returns : goal.returns
returns c =
    second_is _ _ _ c.end_of-third.ensures _ c.number.ensures c.if-number-ne0.false _ c.end_of.ensures _ c.move_within.ensures
