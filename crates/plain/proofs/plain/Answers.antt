-- `plain::plain` meets its contract: a refusal, or the run in the parts that are lent. Assumes nothing.
use mathlib.Core.Path.{sym, ◌∙◌}
use native.Mathlib.Omega.{arith}
use lib.ListN.{length}
use Rattle.std.proofs.lemmas.Option.{MatchOption-at_some}
use Rattle.refusal.proofs.Handed.{handed-on}
use Rattle.script.specs.declared.Purpose.TheVariants as purposes
use Rattle.machine.proofs.Program.{accepted-formed}
use Rattle.plain.proofs.Refusals.{allowed, due-call, due-rest}
use Rattle.plain.proofs.Ends.{entry-refused, entry-ran}
use Rattle.plain.proofs.plain.Goals as goal

pub returns-in_err-check_call : goal.returns-in_err-check_call
returns-in_err-check_call c =
    rw (handed-on c.from_residual.result c.in_err-check_call.field-0.0 c.from_residual.ensures.1) (entry-refused _ _ _ _ c.in_err-check_call.field-0.0 (due-call _ _ _ _ c.too_short.ensures _ c.in_err-check_call.ensures))

pub returns-in_err-check_script : goal.returns-in_err-check_script
returns-in_err-check_script c =
    rw (handed-on c.from_residual-in_err-check_script.result c.in_err-check_script.field-0.0 c.from_residual-in_err-check_script.ensures.1) (entry-refused _ _ _ _ c.in_err-check_script.field-0.0 (c.in_err-check_script.ensures.verdict ∙ sym (due-rest _ _ _ _ c.too_short.ensures c.in_ok-check_call.ensures)))

pub unwrap-requires : goal.unwrap-requires
unwrap-requires c = c.first_chunk_mut.ensures.variant.1 (allowed c.args.script.now c.args.budget (length c.args.expression.now) (length c.args.scratch.now) c.too_short.ensures c.in_ok-check_call.ensures c.in_ok-check_script.ensures.verdict).expression

pub unwrap-requires-2 : goal.unwrap-requires-2
unwrap-requires-2 c = c.first_chunk_mut-2.ensures.variant.1 (allowed c.args.script.now c.args.budget (length c.args.expression.now) (length c.args.scratch.now) c.too_short.ensures c.in_ok-check_call.ensures c.in_ok-check_script.ensures.verdict).scratch

pub finish-requires : goal.finish-requires
finish-requires c =
    accepted-formed purposes.PlainRun c.args.script.now (λ i. omega (arith, c.type_inv.script i)) (sym c.in_ok-check_script.ensures.verdict)

pub returns : goal.returns
returns c =
    entry-ran _ _ _ _ (c.in_ok-check_script.ensures.verdict ∙ sym (due-rest _ _ _ _ c.too_short.ensures c.in_ok-check_call.ensures)) (MatchOption-at_some _ _ _ c.unwrap.ensures c.first_chunk_mut.ensures.cases).same (MatchOption-at_some _ _ _ c.unwrap-2.ensures c.first_chunk_mut-2.ensures.cases).same c.finish.ensures
