-- What a caller has of a call that refuses nothing: an accepted script and guideline, the written file at the front of the output, and its
-- count of records. Assumes nothing.
use mathlib.Core.Bool.{Bool, true, false, cond, not}
use mathlib.Core.List.{List}
use mathlib.Core.Path.{◌≡◌, refl, sym, ap, ◌∙◌}
use Prim.Native.Nat.{ℕ, ◌+◌, ◌*◌, ◌≤◌}
use native.Mathlib.Omega.{arith}
use lib.Dec.{eqb, ltb}
use lib.ListN.{length, take}
use borrow.Author.Tests.{eqb-true, eqb-false, ltb-false}
use Rattle.words.specs.Bytes.{AllBytes}
use Rattle.words.specs.Put.{put, put-head, put-length}
use Rattle.calculus.specs.Lists.{keep, distinct}
use Rattle.calculus.specs.Term.{Program, program_records}
use Rattle.calculus.specs.Rewriting.{logevents, triggers, logged, rewrite}
use Rattle.calculus.proofs.Growth.{rewrite-grows}
use Rattle.terms.specs.Record.{count}
use Rattle.refusal.specs.Refusal.{Verdict, accepted, refuse_if, due_if, then-zero}
use Rattle.script.specs.File.{file_of}
use Rattle.script.specs.Check.{definition_count, script_verdict}
use Rattle.script.specs.declared.Purpose.TheVariants.{Rewriting}
use Rattle.script.proofs.Accepted.{script-zero, program-length}
use Rattle.guideline.specs.Read.{guideline_of}
use Rattle.guideline.specs.Check.{guideline_verdict}
use Rattle.guideline.proofs.Due.{guideline-zero}
use Rattle.rewriting.specs.Answer.{Rewritten, written_file, rewriting_verdict, After, after, refused_by, done_with, answered, rewriting}
use Rattle.rewriting.proofs.Passing.{Passed, script-program, script-bytes as program-bytes, functions-below, written_is}

-- The output is long enough.
long-enough : (n m : ℕ) → (refuse_if 21 (due_if (ltb n m)) accepted).number ≡ 0 → m ≤ n
unfolding refuse_if
long-enough n m e = on (ltb n m) refl e
  where
    on : (b : Bool) → ltb n m ≡ b → (refuse_if 21 (due_if b) accepted).number ≡ 0 → m ≤ n
    on true q z = absurd (omega arith)
    on false q z = ltb-false n m q

-- An answer with number 0.
pub answer-zero : (v : Verdict) (file o o' : List ℕ) (r : Rewritten) → after o' r ≡ answered v file o → r.number ≡ 0
    → (v.number ≡ 0) × (o' ≡ put o 0 file) × (r.records ≡ count file)
unfolding answered
answer-zero v file o o' r e z = on (eqb v.number 0) refl e
  where
    on : (b : Bool) → eqb v.number 0 ≡ b → after o' r ≡ cond b (after (put o 0 file) (done_with file)) (after o (refused_by v))
        → (v.number ≡ 0) × (o' ≡ put o 0 file) × (r.records ≡ count file)
    on true q a = (eqb-true v.number 0 q, ap (λ (x : After). x.out) a, ap (λ (x : After). x.answer.records) a)
    on false q a = absurd (eqb-false v.number 0 q (sym (ap (λ (x : After). x.answer.number) a) ∙ z))

module _ (s g o : List ℕ) (script-bytes : AllBytes s) (guideline-bytes : AllBytes g) {o' : List ℕ} {r : Rewritten} (e : after o' r ≡ rewriting s g o) (z : r.number ≡ 0) where
  -- The verdict, the output and the count.
  abbrev zero : ((rewriting_verdict s g (length o)).number ≡ 0) × (o' ≡ put o 0 (written_file s g)) × (r.records ≡ count (written_file s g))
  zero = answer-zero (rewriting_verdict s g (length o)) (written_file s g) o o' r e z

  -- Each verdict.
  verdicts : ((script_verdict Rewriting s).number ≡ 0) × ((guideline_verdict (definition_count (file_of s)) g).number ≡ 0) × (length (written_file s g) ≤ length o)
  unfolding rewriting_verdict
  verdicts =
      let a = then-zero (script_verdict Rewriting s) _ zero.0 in
      let b = then-zero (guideline_verdict (definition_count (file_of s)) g) _ a.1 in
      (a.0, b.0, long-enough (length o) (length (written_file s g)) b.1)

  -- The script and the guideline are accepted.
  pub call-passed : Passed s g
  call-passed =
      record {
        script = record { bytes = script-bytes; verdict = script-zero Rewriting s verdicts.0 };
        bytes = guideline-bytes;
        verdict = guideline-zero (definition_count (file_of s)) g verdicts.1;
      }

  -- The file has eight bytes for each record of the rewritten program, …
  file-length : length (written_file s g) ≡ 8 * program_records (rewrite (guideline_of g) (script-program call-passed.script))
  file-length =
      let S : Program = rewrite (guideline_of g) (script-program call-passed.script) in
      ap length (written_is call-passed) ∙ program-length 0 S.definitions S.main

  -- … and the count says how long it is.
  whole : length (written_file s g) ≡ 8 * r.records
  whole = omega (arith, file-length, zero.2)

  -- The written file is the front of the output, …
  pub call-written : take (8 * r.records) o' ≡ written_file s g
  call-written =
      let q : 8 * r.records ≡ 0 + length (written_file s g) = omega (arith, whole) in
      rw (q, zero.1) (put-head o 0 (written_file s g) (omega (arith, verdicts.2)))

  -- … which is long enough.
  pub call_fits : 8 * r.records ≤ length o'
  call_fits = omega (arith, whole, verdicts.2, ap length zero.1, put-length o 0 (written_file s g) (omega (arith, verdicts.2)))

  -- "The output has 4 records more for each distinct logged function and 2 for each other trigger."
  pub output-grows : r.records
      ≡ count s + (4 * length (distinct (logevents (guideline_of g))) + 2 * length (keep (λ f. not (logged (guideline_of g) f)) (distinct (triggers (guideline_of g)))))
  output-grows =
      let S : Program = script-program call-passed.script in
      let d = functions-below call-passed in
      let n : length s ≡ 8 * program_records S = ap length (program-bytes call-passed.script) ∙ program-length 0 S.definitions S.main in
      omega (arith, n, file-length, whole, rewrite-grows (guideline_of g) S d.0 d.1)
