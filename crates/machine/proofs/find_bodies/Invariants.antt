-- `machine::find_bodies` meets its contract. The loop's invariant: the definitions passed are noted, the others lie ahead. The measure is the
-- records left. Assumes nothing.
use mathlib.Core.Path.{◌≡◌}
use Prim.Native.Nat.{◌-◌, ◌/◌}
use lib.ListN.{length}
use Rattle.machine.proofs.Bodies.{Passing}
use Rattle.machine.proofs.find_bodies.Given as goal

abbrev pub invariant-loop-at : goal.invariant-loop-at
invariant-loop-at l = Passing l.script l.bodies l.at l.f × (length l.bodies ≡ length l.initial.bodies)

abbrev pub decreases-loop-at : goal.decreases-loop-at
decreases-loop-at l = length l.script / 8 - l.at
