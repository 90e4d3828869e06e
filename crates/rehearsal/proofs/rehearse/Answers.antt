-- `rehearsal::rehearse` meets its contract: a refusal, or rewriting and the run of what it wrote. Assumes nothing.
use mathlib.Core.Path.{refl}
use native.Mathlib.Omega.{arith}
use lib.ListN.{length-take}
use Rattle.refusal.proofs.Handed.{handed-on}
use Rattle.rewriting.proofs.Calling.{call_fits}
use Rattle.rehearsal.proofs.Ways.{refused-call, refused-rewriting, ran}
use Rattle.rehearsal.proofs.rehearse.Goals as goal

pub returns-in_err-check_call : goal.returns-in_err-check_call
returns-in_err-check_call c =
    let e = handed-on c.from_residual.result c.in_err-check_call.field-0.0 c.from_residual.ensures.1 in
    let d = refused-call _ _ c.args.budget _ _ _ _ _ _ c.too_short-short.ensures (omega arith) c.in_err-check_call.field-0.0 c.in_err-check_call.ensures in
    record { table_after = rw e d.0; claimed = rw e d.1 }

pub returns-in_err-records : goal.returns-in_err-records
returns-in_err-records c =
    let e = handed-on c.from_residual-in_err-records.result c.in_err-records.field-0.0 c.from_residual-in_err-records.ensures.1 in
    let d = refused-rewriting _ _ c.args.budget c.args.out.now _ _ _ _ _ c.too_short-short.ensures (omega arith) c.in_ok-check_call.ensures c.in_err-records.field-0.0 c.in_err-records.ensures in
    record { table_after = rw e d.0; claimed = rw e d.1 }

pub slice_bounds-rewritten-end : goal.slice_bounds-rewritten-end
slice_bounds-rewritten-end c =
    call_fits _ _ c.args.out.now (λ i. omega (arith, c.type_inv.script i)) (λ i. omega (arith, c.type_inv.guideline i)) c.in_ok-records.ensures refl

pub slice_bounds-rewritten-end-2 : goal.slice_bounds-rewritten-end-2
slice_bounds-rewritten-end-2 c =
    let f = call_fits _ _ c.args.out.now (λ i. omega (arith, c.type_inv.script i)) (λ i. omega (arith, c.type_inv.guideline i)) c.in_ok-records.ensures refl in
    simp length-take (omega (arith, f))

pub returns : goal.returns
returns c =
    let d = ran _ _ c.args.budget c.args.out.now _ _ _ _ _ c.too_short-short.ensures (omega arith) c.in_ok-check_call.ensures c.in_ok-records.ensures refl
    (λ i. omega (arith, c.type_inv.script i)) (λ i. omega (arith, c.type_inv.guideline i)) c.rewritten.ensures in
    record { table_after = d.0; claimed = d.1 }
