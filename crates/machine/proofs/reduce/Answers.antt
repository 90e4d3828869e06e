-- `machine::reduce` meets its contract: the copy is of the body that the redex goes to. Assumes nothing.
use mathlib.Core.Path.{refl}
use Rattle.machine.proofs.Contract.{body-called, body-applied}
use Rattle.machine.proofs.reduce.Goals as goal

pub returns-in-2 : goal.returns-in-2
returns-in-2 c =
    rw (body-called c.args.e.now c.args.code.now.script.now c.args.code.now.bodies.now c.args.p c.in-2.is _ _ _ c.number-f.ensures refl refl) c.substitute.ensures

pub returns-in-4 : goal.returns-in-4
returns-in-4 c =
    rw (body-applied c.args.e.now c.args.code.now.script.now c.args.code.now.bodies.now c.args.p c.in-4.is) c.substitute-in-4.ensures
