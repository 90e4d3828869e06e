-- What is printed, whatever the two files hold: the refusal that checking them gives, or the lines of a run of which demand 3 holds. The
-- buffers are long enough, so that 21 to 23 are never printed. Assumes nothing.
use mathlib.Core.Bool.{Bool, true, false, cond}
use mathlib.Core.List.{List}
use mathlib.Core.Path.{◌≡◌, refl, ap, ◌∙◌}
use Prim.Native.Nat.{ℕ, ◌≤◌}
use native.Mathlib.Omega.{arith}
use lib.Dec.{eqb}
use lib.ListN.{length}
use borrow.Author.Tests.{ne_eqb, le-ltb}
use Rattle.words.specs.Bytes.{AllBytes}
use Rattle.words.specs.Filled.{zeros, zeros-length}
use Rattle.calculus.specs.Term.{Program}
use Rattle.calculus.specs.Rewriting.{rewrite}
use Rattle.refusal.specs.Refusal.{Verdict, accepted, refuse_if, and_then, then-zero}
use Rattle.script.specs.File.{file_of}
use Rattle.script.specs.Check.{script_verdict, definition_count}
use Rattle.script.specs.declared.Purpose.TheVariants.{Checking, Rewriting}
use Rattle.script.proofs.Accepted.{program-length}
use Rattle.guideline.specs.Read.{guideline_of}
use Rattle.guideline.specs.Check.{guideline_verdict}
use Rattle.rewriting.specs.Answer.{written_file, rewriting_verdict}
use Rattle.rewriting.proofs.Passing.{Passed, script-passed, passed, script-program, written_is}
use Rattle.rewriting.proofs.Formed.{written-formed}
use Rattle.rewritten.specs.Answer as runs
use Rattle.rewritten.specs.Answer.{RewrittenRun, too_short, rewritten_of}
use Rattle.rehearsal.specs.Claim.{Demand3}
use Rattle.rehearsal.specs.Rehearsal.{rehearsal_due, answered}
use Rattle.rehearsal.proofs.Demand3.{demand-3-file}
use Rattle.records.specs.Entries.{check_of}
use Rattle.listing.specs.Text.{lines_of, refusal_line}
use Rattle.listing.specs.Listing.{rehearsed, listing, RunLines}

-- ---- the buffers

long-enough : {e c h l t : ℕ} → e ≡ 24576 → c ≡ 24576 → h ≡ 16384 → l ≡ 16384 → t ≡ 8192 → too_short e c h l t ≡ false
unfolding too_short
long-enough p q r s u = rw (p, q, r, s, u) refl

pub buffers-fit : too_short (length (zeros 24576)) (length (zeros 24576)) (length (zeros 16384)) (length (zeros 16384)) (length (zeros 8192)) ≡ false
buffers-fit = long-enough (zeros-length 24576) (zeros-length 24576) (zeros-length 16384) (zeros-length 16384) (zeros-length 8192)

-- A rewritten script has at most 1,296 records.
written-most : {s g : List ℕ} → Passed s g → length (written_file s g) ≤ 10368
written-most {s} {g} p =
    let S : Program = rewrite (guideline_of g) (script-program p.script) in
    omega (arith, ap length (written_is p), program-length 0 S.definitions S.main, (written-formed p).short)

-- ---- verdicts

-- What comes after two verdicts does not matter where one of them refuses.
then-first : (v w x : Verdict) → ((and_then v w).number ≡ 0 → ⊥) → and_then v (and_then w x) ≡ and_then v w
unfolding and_then
then-first v w x = on (eqb v.number 0)
  where
    on : (b : Bool) → ((cond b w v).number ≡ 0 → ⊥) → cond b (and_then w x) v ≡ cond b w v
    on true z = rw (ne_eqb w.number 0 z)
    on false z = refl

module _ (s g : List ℕ) where
  -- Checking tests the same of a script as rewriting.
  same-checks : script_verdict Checking s ≡ script_verdict Rewriting s
  unfolding script_verdict
  same-checks = refl

  -- Whatever is due for the buffers here is a number of rewriting: …
  due : Verdict
  due = rehearsal_due s g 1000 (too_short (length (zeros 24576)) (length (zeros 24576)) (length (zeros 16384)) (length (zeros 16384)) (length (zeros 8192))) (length (zeros 10368))

  due-rewriting : due ≡ rewriting_verdict s g 10368
  unfolding due rehearsal_due refuse_if
  due-rewriting = rw (buffers-fit, zeros-length 10368) refl

  -- … what checking refuses, …
  due-refused : ((check_of s g).number ≡ 0 → ⊥) → due ≡ check_of s g
  unfolding rewriting_verdict
  due-refused z = due-rewriting ∙ rw (← same-checks) (then-first (script_verdict Checking s) (guideline_verdict (definition_count (file_of s)) g) _ z)

  -- … or nothing.
  due-passed : Passed s g → due ≡ accepted
  unfolding rewriting_verdict refuse_if and_then
  due-passed p = due-rewriting ∙ rw (p.script.verdict, p.verdict, le-ltb 10368 (length (written_file s g)) (written-most p))

  -- ---- the two ways

  abbrev run : runs.After
  run = rewritten_of (written_file s g) g 1000 (zeros 24576) (zeros 24576) (zeros 16384) (zeros 16384) (zeros 8192)

  -- What checking refuses is printed.
  pub listing-refused : ((check_of s g).number ≡ 0 → ⊥) → listing s g ≡ refusal_line (check_of s g)
  unfolding listing rehearsed answered due
  listing-refused z = rw (due-refused z, ne_eqb (check_of s g).number 0 z) refl

  -- Else what was written is run.
  run_is : Passed s g → (rehearsed s g).run ≡ run
  unfolding rehearsed answered due
  run_is p = rw (due-passed p) refl

  -- Demand 3 holds of that run.
  pub listing-run : AllBytes s → AllBytes g → (check_of s g).number ≡ 0 → RunLines s g (listing s g)
  unfolding listing
  listing-run a b z =
      let v = then-zero (script_verdict Checking s) (guideline_verdict (definition_count (file_of s)) g) z in
      let p : Passed s g = passed g (script-passed s a same-checks v.0) b refl refl v.1 in
      let d : Demand3 s g (written_file s g) = demand-3-file p in
      let (x, k, q) = d.runs 1000 (omega arith) (zeros 24576) (zeros 24576) (zeros 16384) (zeros 16384) (zeros 8192) buffers-fit in
      record {
        outcome = x;
        counts = k;
        expression = run.expression;
        log = run.log;
        claim = d.claims 1000 (zeros 24576) (zeros 24576) (zeros 16384) (zeros 16384) (zeros 8192) x k q;
        lines = ap (λ (r : runs.After). lines_of r.answer r.log) (run_is p) ∙ ap (λ (y : RewrittenRun). lines_of y run.log) q;
      }
