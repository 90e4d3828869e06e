-- `script::check_script` meets its contract: each way out of the chain has its law. Assumes nothing.
use mathlib.Core.Path.{ap}
use native.Mathlib.Omega.{arith}
use borrow.Author.Rules.{rules}
use Rattle.std.proofs.lemmas.Result.{MatchResult-weaker}
use Rattle.refusal.proofs.Handed.{handed-on}
use Rattle.refusal.specs.Refusal.{refused_as}
use Rattle.script.specs.Layout.{Told}
use Rattle.script.proofs.Chain.{none_from, first-inside, records-few, refused-1, refused-2, refused-3, refused-later}
use Rattle.script.proofs.check_script.Goals as goal

pub returns-then-wrong_length-clause-verdict : goal.returns-then-wrong_length-clause-verdict
returns-then-wrong_length-clause-verdict c = refused-1 c.args.purpose c.args.s.now c.wrong_length.ensures c.if-wrong_length.true (ap refused_as c.whole.ensures)

pub at-requires : goal.at-requires
at-requires c =
    omega (arith, records-few c.args.purpose c.args.s.now c.wrong_length.ensures c.if-wrong_length.false, first-inside _ _ c.first_malformed.ensures c.in-Some.is)

pub returns-in-Some-clause-verdict : goal.returns-in-Some-clause-verdict
returns-in-Some-clause-verdict c =
    refused-2 c.args.purpose c.args.s.now c.wrong_length.ensures c.if-wrong_length.false c.first_malformed.ensures c.in-Some.is (ap refused_as c.at.ensures)

pub returns-in_err-found-clause-verdict : goal.returns-in_err-found-clause-verdict
returns-in_err-found-clause-verdict c =
    let r = c.in_err-found.field-0.0 in
    rw (handed-on c.from_residual.result r c.from_residual.ensures.1) (refused-3 c.args.purpose c.args.s.now c.wrong_length.ensures c.if-wrong_length.false c.first_malformed.ensures (none_from c.in_default.not-Some) c.walk.result r c.walk.ensures (MatchResult-weaker c.walk.result c.in_err-found.ensures.cases (λ x h. h) (λ j h. search rules)))

pub returns-in_err-check_whole-clause-verdict : goal.returns-in_err-check_whole-clause-verdict
returns-in_err-check_whole-clause-verdict c =
    let t : Told c.args.s.now c.in_ok-found.found = search rules in
    rw (handed-on c.from_residual-in_err-check_whole.result c.in_err-check_whole.field-0.0 c.from_residual-in_err-check_whole.ensures.1) (refused-later c.args.purpose c.args.s.now c.wrong_length.ensures c.if-wrong_length.false c.first_malformed.ensures (none_from c.in_default.not-Some) t.unbroken c.in_err-check_whole.ensures)

pub returns-clause-verdict : goal.returns-clause-verdict
returns-clause-verdict c =
    let t : Told c.args.s.now c.in_ok-found.found = search rules in
    refused-later c.args.purpose c.args.s.now c.wrong_length.ensures c.if-wrong_length.false c.first_malformed.ensures (none_from c.in_default.not-Some) t.unbroken c.in_ok-check_whole.ensures
