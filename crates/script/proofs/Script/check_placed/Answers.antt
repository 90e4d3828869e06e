-- `script::Script::check_placed` meets its contract. Assumes nothing.
use mathlib.Core.Path.{refl, ap}
use native.Mathlib.Omega.{arith}
use Rattle.refusal.specs.Refusal.{refused_as}
use Rattle.script.proofs.Chain.{none_from, first-inside, command-found, command-none, too_many_lem, not-many}
use Rattle.script.proofs.Script.check_placed.Goals as goal

pub at-requires : goal.at-requires
at-requires c = omega (arith, first-inside _ _ c.first_misplaced.ensures c.in-Some.is)

pub returns-in-Some : goal.returns-in-Some
returns-in-Some c = command-found c.first_misplaced.ensures _ c.in-Some.is (ap refused_as c.at.ensures)

pub returns-then-count_commands-n : goal.returns-then-count_commands-n
returns-then-count_commands-n c =
    command-none c.first_misplaced.ensures _ (none_from c.in_default.not-Some) (too_many_lem c.args.self.bytes.now c.count_commands.ensures.0 c.if-count_commands-n.true (ap refused_as c.at-then-count_commands-n.ensures))

pub returns : goal.returns
returns c =
    command-none c.first_misplaced.ensures _ (none_from c.in_default.not-Some) (not-many c.args.self.bytes.now c.count_commands.ensures.0 c.if-count_commands-n.false refl)
