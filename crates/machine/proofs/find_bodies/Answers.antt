use native.Mathlib.Omega.{arith}
use mathlib.Core.Path.{refl}
use lib.ListN.{length-set}
use Rattle.machine.proofs.Bodies.{passing-none, passing-in, command-in, second-in, turn, passing-on, passing-end}
use Rattle.machine.proofs.find_bodies.Goals as goal

pub loop-at-init : goal.loop-at-init
loop-at-init c = (passing-none c.requires.formed _, refl)

pub overflow_mul-at : goal.overflow_mul-at
overflow_mul-at c = let i = passing-in c.requires.formed c.loop-at.invariant.0 in omega arith

pub bounds-script-at : goal.bounds-script-at
bounds-script-at c = passing-in c.requires.formed c.loop-at.invariant.0

pub commands-commands-requires-clause-body_in_bounds : goal.commands-commands-requires-clause-body_in_bounds
commands-commands-requires-clause-body_in_bounds c = command-in c.requires.formed c.loop-at.invariant.0 c.loop-at-test.true

pub commands-commands-requires-clause-second_in_bounds : goal.commands-commands-requires-clause-second_in_bounds
commands-commands-requires-clause-second_in_bounds c = second-in c.requires.formed c.loop-at.invariant.0 c.loop-at-test.true

pub overflow_cast-bodies : goal.overflow_cast-bodies
overflow_cast-bodies c = let t = turn c.requires.formed c.loop-at.invariant.0 c.loop-at-test.true _ c.commands-commands.ensures in omega arith

pub bounds-bodies-f : goal.bounds-bodies-f
bounds-bodies-f c = let t = turn c.requires.formed c.loop-at.invariant.0 c.loop-at-test.true _ c.commands-commands.ensures in omega arith

pub loop-at-smaller : goal.loop-at-smaller
loop-at-smaller c = let t = turn c.requires.formed c.loop-at.invariant.0 c.loop-at-test.true _ c.commands-commands.ensures in omega arith

pub loop-at-preserved : goal.loop-at-preserved
loop-at-preserved c =
    let t = turn c.requires.formed c.loop-at.invariant.0 c.loop-at-test.true _ c.commands-commands.ensures in
    (passing-on c.requires.formed c.loop-at.invariant.0 c.loop-at-test.true _ c.commands-commands.ensures _ c.end_of-at.ensures (omega arith) _ _ refl cc, simp length-set (omega arith))

pub returns : goal.returns
returns c = passing-end c.requires.formed c.loop-at.invariant.0 c.loop-at-test.false (omega arith)
