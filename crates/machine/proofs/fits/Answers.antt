-- `machine::fits` meets its contract: the room is what the limit leaves. Assumes nothing.
use native.Mathlib.Omega.{arith}
use lib.ListN.{length-take}
use Rattle.machine.proofs.Contract.{ready-inside, ready-source, ready-around, fits-is, fits-other}
use Rattle.machine.proofs.fits.Goals as goal

pub overflow_mul-redex : goal.overflow_mul-redex
overflow_mul-redex c = let i = ready-inside c.requires.ready in omega arith

pub bounds-e-redex : goal.bounds-e-redex
bounds-e-redex c = let i = ready-inside c.requires.ready in omega arith

pub returns-then-e-redex-ne5 : goal.returns-then-e-redex-ne5
returns-then-e-redex-ne5 c = fits-other c.requires.ready c.if-e-redex-ne5.true

pub room-end-requires : goal.room-end-requires
room-end-requires c = ready-around c.requires.ready c.if-e-redex-ne5.false c.args.code.now.positions

pub reduce-requires-clause-source : goal.reduce-requires-clause-source
reduce-requires-clause-source c = ready-source c.requires.ready c.if-e-redex-ne5.false c.args.code.now.positions

pub returns : goal.returns
returns c =
    rw c.is_some.ensures (fits-is c.requires.ready c.if-e-redex-ne5.false c.args.code.now.positions _ c.room-end.ensures.end-is _ _ _ c.reduce.ensures (omega (arith, length-take c.room-end.result.1 c.args.scratch.now)))
