-- `rewriting::put_commands` meets its contract. Assumes nothing.
use native.Mathlib.Omega.{arith}
use Rattle.rewriting.proofs.Commands.{one-length, two-length, commands-least, one-put, two-put}
use Rattle.rewriting.proofs.put_commands.Goals as goal

pub put_command-requires : goal.put_command-requires
put_command-requires c = omega (arith, commands-least c.args.mark c.args.f c.requires.mark_nonzero)

pub returns-then-mark-ne4 : goal.returns-then-mark-ne4
returns-then-mark-ne4 c = (one-put _ _ _ _ c.requires.mark_nonzero c.if-mark-ne4.true c.put_command.ensures, omega (arith, one-length c.args.mark c.args.f c.requires.mark_nonzero c.if-mark-ne4.true))

pub put_command-requires-2 : goal.put_command-requires-2
put_command-requires-2 c = omega (arith, two-length c.args.mark c.args.f c.if-mark-ne4.false, c.put_command.auto.out)

pub returns : goal.returns
returns c = (two-put _ _ _ _ c.if-mark-ne4.false (omega (arith, two-length c.args.mark c.args.f c.if-mark-ne4.false)) c.put_command.ensures c.put_command-2.ensures, omega (arith, two-length c.args.mark c.args.f c.if-mark-ne4.false))
