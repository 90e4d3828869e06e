-- `script::count_commands` meets its contract. Assumes nothing.
use native.Mathlib.Omega.{arith}
use borrow.Author.Rules.{rules}
use borrow.Author.Tests.{tests}
use Rattle.std.proofs.lemmas.Iterator.{YieldsList-from_range}
use Rattle.std.proofs.lemmas.Iterator.Consumers.{count_from_yields_List, YieldsList-from_filter}
use Rattle.terms.specs.Record.{count}
use Rattle.script.specs.Check.{is_command}
use Rattle.script.proofs.Search.{commands-counted}
use Rattle.script.proofs.count_commands.Goals as goal

pub returns : goal.returns
returns c =
    commands-counted c.args.s.now (count_from_yields_List c.filter.result _ c.count.ensures.ran (YieldsList-from_filter _ (is_command c.args.s.now) (YieldsList-from_range 0 _ (count c.args.s.now) c.filter.ensures.source (omega arith)) c.filter.ensures.closure (λ x r q k. search (rules, tests))))
