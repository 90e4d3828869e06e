-- `derive` meets its contract.
use borrow.Author.Rules.{rules}
use mathlib.Core.Path.{refl, sym}
use native.Mathlib.Omega.{arith}
use Rattle.refusal.proofs.Handed.{handed-on}
use Rattle.refusal.specs.Refusal.{refused-some}
use Rattle.records.proofs.Laws.{verdict-err, verdict-ok, derive-short, derive-refused, derive-accepted}
use Rattle.records.proofs.derive.Goals as goal

pub returns-then-table-lt-TABLE_BYTES : goal.returns-then-table-lt-TABLE_BYTES
returns-then-table-lt-TABLE_BYTES c = rw c.whole.ensures (derive-short _ _ (omega arith))

pub returns-in_err-check_file : goal.returns-in_err-check_file
returns-in_err-check_file c =
    let r = c.in_err-check_file.field-0.0 in
    rw (handed-on c.from_residual.result r c.from_residual.ensures.1) (derive-refused _ _ (omega arith) (verdict-err c.in_err-check_file.was (search rules)) (refused-some r))

pub table_of-requires-clause-accepts : goal.table_of-requires-clause-accepts
table_of-requires-clause-accepts c = sym (verdict-ok c.in_ok-check_file.was (search rules))

pub table_of-requires-clause-table_fits : goal.table_of-requires-clause-table_fits
table_of-requires-clause-table_fits c = omega arith

pub returns : goal.returns
returns c = derive-accepted _ _ (omega arith) (verdict-ok c.in_ok-check_file.was (search rules)) refl c.table_of.ensures.table_after
