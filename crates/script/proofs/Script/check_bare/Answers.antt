-- `script::Script::check_bare` meets its contract. Assumes nothing.
use mathlib.Core.Path.{refl, ap}
use native.Mathlib.Omega.{arith}
use Rattle.refusal.specs.Refusal.{refused_as}
use Rattle.script.proofs.Chain.{first-inside, bare-found, bare-none}
use Rattle.script.proofs.Script.check_bare.Goals as goal

pub at-requires : goal.at-requires
at-requires c = omega (arith, first-inside _ _ c.first_command.ensures c.in-Some.is)

pub returns-in-Some : goal.returns-in-Some
returns-in-Some c = bare-found c.first_command.ensures c.in-Some.is (ap refused_as c.at.ensures)

pub returns-in-None : goal.returns-in-None
returns-in-None c = bare-none c.first_command.ensures c.in-None.is refl
