-- The ways out of rewriting. Assumes nothing.
use mathlib.Core.Bool.{true, false}
use mathlib.Core.List.{List}
use mathlib.Core.Path.{◌≡◌, refl, sym, ap, ◌∙◌}
use Prim.Native.Nat.{ℕ, ◌*◌, ◌<◌, ◌≤◌}
use native.Mathlib.Omega.{arith}
use lib.Dec.{ltb}
use lib.ListN.{length}
use borrow.Author.Tests.{ne_eqb, lt-ltb, le-ltb}
use Rattle.words.specs.Put.{put}
use Rattle.terms.specs.Record.{count}
use Rattle.refusal.specs.declared.Refusal.{Refusal}
use Rattle.refusal.specs.Refusal.{Verdict, verdict, accepted, refuse_if, due_if, refuse-due, and_then, then-refused, then-passed, refused_as, refused-some}
use Rattle.script.specs.File.{file_of}
use Rattle.script.specs.Check.{definition_count, script_verdict}
use Rattle.script.specs.declared.Purpose.TheVariants.{Rewriting}
use Rattle.guideline.specs.Check.{guideline_verdict}
use Rattle.rewriting.specs.Answer.{written_file, rewriting_verdict, after, refused_by, answered, rewriting}
use Rattle.rewriting.proofs.Passing.{ScriptPassed, Passed}

-- Where the first verdict accepts, the second decides.
next-passed : (v w : Verdict) → v ≡ accepted → and_then v w ≡ w
next-passed v w e = sym (then-passed v w refl (ap (λ (x : Verdict). x.number) e))

-- ---- the answers

-- A refusal's answer.
answer-refused : (v : Verdict) (file o : List ℕ) → (v.number ≡ 0 → ⊥) → answered v file o ≡ after o (refused_by v)
unfolding answered
answer-refused v file o n = rw (ne_eqb v.number 0 n)

module _ (s g o : List ℕ) where
  -- A refusal of the whole call.
  refused-by : (v : Verdict) → rewriting_verdict s g (length o) ≡ v → (v.number ≡ 0 → ⊥) → after o (refused_by v) ≡ rewriting s g o
  refused-by v e n = sym (ap (λ (x : Verdict). answered x (written_file s g) o) e ∙ answer-refused v (written_file s g) o n)

  -- The script is refused.
  pub script-refused : (r : Refusal) → refused_as r ≡ script_verdict Rewriting s → after o (refused_by (refused_as r)) ≡ rewriting s g o
  unfolding rewriting_verdict
  script-refused r e =
      let n : (refused_as r).number ≡ 0 → ⊥ = refused-some r in
      refused-by (refused_as r) (rw (← e) (sym (then-refused (refused_as r) _ refl n))) n

  -- The guideline is refused.
  pub guideline-refused : (r : Refusal) {d : ℕ} → ScriptPassed s → d ≡ definition_count (file_of s) → refused_as r ≡ guideline_verdict d g → after o (refused_by (refused_as r)) ≡ rewriting s g o
  unfolding rewriting_verdict
  guideline-refused r p k e =
      let n : (refused_as r).number ≡ 0 → ⊥ = refused-some r in
      let e' : refused_as r ≡ guideline_verdict (definition_count (file_of s)) g = rw k at e in
      refused-by (refused_as r) (next-passed (script_verdict Rewriting s) _ p.verdict ∙ rw (← e') (sym (then-refused (refused_as r) _ refl n))) n

  module _ (p : Passed s g) where
    -- Where both are accepted, number 21 is tested.
    third : rewriting_verdict s g (length o) ≡ refuse_if 21 (due_if (ltb (length o) (length (written_file s g)))) accepted
    unfolding rewriting_verdict
    third = next-passed (script_verdict Rewriting s) _ p.script.verdict ∙ next-passed (guideline_verdict (definition_count (file_of s)) g) _ p.verdict

    -- The output is too short.
    pub output-short : {n : ℕ} → length (written_file s g) ≡ n → length o < n → after o (refused_by (verdict 21 0)) ≡ rewriting s g o
    output-short e l =
        let t : ltb (length o) (length (written_file s g)) ≡ true = lt-ltb (length o) (length (written_file s g)) (omega arith) in
        refused-by (verdict 21 0) (third ∙ refuse-due 21 accepted (rw t)) (λ z. omega arith)

    -- All is written.
    pub all-written : {n : ℕ} {l o' : List ℕ} → length (written_file s g) ≡ 8 * n → 8 * n ≤ length o → o' ≡ put o 0 l → l ≡ written_file s g
        → after o' record { number = 0; place = 0; records = n } ≡ rewriting s g o
    unfolding answered refuse_if
    all-written {n} e l w q =
        let t : ltb (length o) (length (written_file s g)) ≡ false = le-ltb (length o) (length (written_file s g)) (omega arith) in
        let k : n ≡ count (written_file s g) = omega arith in
        rw (w, q, third, t) (ap (λ (x : ℕ). after (put o 0 (written_file s g)) record { number = 0; place = 0; records = x }) k)
