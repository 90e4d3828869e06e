-- `rewriting::rewrite` meets its contract. Assumes nothing.
use native.Mathlib.Omega.{arith}
use mathlib.Core.List.{List}
use mathlib.Core.Path.{◌≡◌, refl, ap}
use Prim.Native.Nat.{ℕ}
use lib.ListN.{length, get_or}
use mir.Syntax.{w8}
use mir.Val.{Fits}
use Rattle.refusal.proofs.Handed.{handed-on}
use Rattle.refusal.specs.Refusal.{accepted}
use Rattle.script.specs.File.{file_of}
use Rattle.script.specs.Check.{definition_count, script_verdict}
use Rattle.script.specs.declared.Purpose.TheVariants.{Rewriting}
use Rattle.guideline.specs.Check.{guideline_verdict}
use Rattle.rewriting.proofs.Passing.{ScriptPassed, Passed, script-passed, passed, script-whole, script-few, grown-written, written-length}
use Rattle.rewriting.proofs.Answering.{script-refused, guideline-refused, output-short, all-written}
use Rattle.rewriting.proofs.rewrite.Goals as goal

-- What the tests before say of the script, …
script-ok : (s : List ℕ) → ((i : ℕ) → Fits w8 (get_or s i 0)) → accepted ≡ script_verdict Rewriting s → ScriptPassed s
script-ok s b e = script-passed s (λ i. omega (arith, b i)) e refl

-- … and of the guideline.
both_ok : {s : List ℕ} (g : List ℕ) {n : ℕ} → ScriptPassed s → ((i : ℕ) → Fits w8 (get_or g i 0)) → n ≡ definition_count (file_of s) → accepted ≡ guideline_verdict n g → Passed s g
both_ok g p b d e = passed g p (λ i. omega (arith, b i)) d e refl

pub returns-in_err-definitions : goal.returns-in_err-definitions
returns-in_err-definitions c =
    rw (handed-on c.from_residual.result c.in_err-definitions.field-0.0 c.from_residual.ensures.1) (script-refused _ _ _ c.in_err-definitions.field-0.0 c.in_err-definitions.ensures.verdict)

pub returns-in_err-check_guideline : goal.returns-in_err-check_guideline
returns-in_err-check_guideline c =
    let p = script-ok c.args.script.now c.type_inv.script c.in_ok-definitions.ensures.verdict in
    rw (handed-on c.from_residual-in_err-check_guideline.result c.in_err-check_guideline.field-0.0 c.from_residual-in_err-check_guideline.ensures.1)
    (guideline-refused _ _ _ c.in_err-check_guideline.field-0.0 p c.in_ok-definitions.ensures.counted c.in_err-check_guideline.ensures)

pub gained-requires : goal.gained-requires
gained-requires c = omega (arith, script-few (script-ok c.args.script.now c.type_inv.script c.in_ok-definitions.ensures.verdict), c.in_ok-definitions.ensures.counted)

pub overflow_add-records : goal.overflow_add-records
overflow_add-records c =
    let p = script-ok c.args.script.now c.type_inv.script c.in_ok-definitions.ensures.verdict in
    omega (arith, script-few p, script-whole p, c.in_ok-definitions.ensures.counted, c.gained.ensures.1)

pub overflow_mul-records : goal.overflow_mul-records
overflow_mul-records c =
    let p = script-ok c.args.script.now c.type_inv.script c.in_ok-definitions.ensures.verdict in
    omega (arith, script-few p, script-whole p, c.in_ok-definitions.ensures.counted, c.gained.ensures.1)

pub returns-then-out-records : goal.returns-then-out-records
returns-then-out-records c =
    let p = both_ok c.args.guideline.now (script-ok c.args.script.now c.type_inv.script c.in_ok-definitions.ensures.verdict) c.type_inv.guideline c.in_ok-definitions.ensures.counted c.in_ok-check_guideline.ensures in
    rw c.whole.ensures (output-short _ _ _ p (written-length p c.marks_of-marks.ensures c.in_ok-definitions.ensures.counted c.gained.ensures.0) (omega (arith, c.if-out-records.true)))

pub write-requires : goal.write-requires
write-requires c =
    let p = both_ok c.args.guideline.now (script-ok c.args.script.now c.type_inv.script c.in_ok-definitions.ensures.verdict) c.type_inv.guideline c.in_ok-definitions.ensures.counted c.in_ok-check_guideline.ensures in
    let n = written-length p c.marks_of-marks.ensures c.in_ok-definitions.ensures.counted c.gained.ensures.0 in
    record { s_len = (script-whole p.script).0; s_in_bounds = omega (arith, ap length (grown-written p c.marks_of-marks.ensures), n, c.if-out-records.false) }

pub overflow_cast-written : goal.overflow_cast-written
overflow_cast-written c =
    let p = script-ok c.args.script.now c.type_inv.script c.in_ok-definitions.ensures.verdict in
    omega (arith, script-few p, script-whole p, c.in_ok-definitions.ensures.counted, c.gained.ensures.1)

pub returns : goal.returns
returns c =
    let p = both_ok c.args.guideline.now (script-ok c.args.script.now c.type_inv.script c.in_ok-definitions.ensures.verdict) c.type_inv.guideline c.in_ok-definitions.ensures.counted c.in_ok-check_guideline.ensures in
    all-written _ _ _ p (written-length p c.marks_of-marks.ensures c.in_ok-definitions.ensures.counted c.gained.ensures.0) (omega (arith, c.if-out-records.false))
    c.write.ensures (grown-written p c.marks_of-marks.ensures)
