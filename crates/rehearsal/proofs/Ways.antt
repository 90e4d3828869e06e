-- The ways through a rehearsal: a refusal of its own, a refusal of rewriting, a run. Assumes nothing.
use mathlib.Core.Bool.{Bool, true, false, cond}
use mathlib.Core.List.{List}
use mathlib.Core.Path.{◌≡◌, refl, sym, ap, ◌∙◌}
use Prim.Native.Nat.{ℕ, ◌*◌}
use native.Mathlib.Omega.{arith}
use lib.Dec.{eqb, ltb}
use lib.ListN.{length, take}
use borrow.Author.Tests.{eq-eqb, ne_eqb, eqb-true, ltb-false}
use Rattle.words.specs.Bytes.{AllBytes}
use Rattle.words.specs.Put.{put}
use Rattle.refusal.specs.declared.Refusal.{Refusal}
use Rattle.refusal.specs.Refusal.{Verdict, verdict, accepted, due_if, refused_as, refused-some, refuse-zero, not-due}
use Rattle.rewriting.specs.Answer as rewrites
use Rattle.rewriting.specs.Answer.{Rewritten, refused_by, done_with, written_file, rewriting_verdict, rewriting}
use Rattle.rewriting.proofs.Calling.{answer-zero, call-passed, call-written}
use Rattle.rewritten.specs.Answer as runs
use Rattle.rewritten.specs.Answer.{RewrittenRun, too_short, rewritten_of}
use Rattle.rewritten.specs.Answer.RewrittenRun.{Refused, Ran}
use Rattle.plain.specs.Answer.{run_due}
use Rattle.plain.proofs.Refusals.{call-refused, call-rest}
use Rattle.rehearsal.specs.Rehearsal.{rehearsal_due, After, after, answered, rehearsal_of, Claimed}
use Rattle.rehearsal.specs.Claim.{Demand3}
use Rattle.rehearsal.proofs.Runs.{not-both}
use Rattle.rehearsal.proofs.Demand3.{demand-3-file}

-- ---- what rewriting answers

module _ (v : Verdict) (file o o' : List ℕ) (r : Rewritten) (a : rewrites.after o' r ≡ rewrites.answered v file o) where
  -- A refusal is the verdict, and the output is as it was.
  answer-refused : (r.number ≡ 0 → ⊥) → (o' ≡ o) × (verdict r.number r.place ≡ v)
  unfolding rewrites.answered
  answer-refused z = on (eqb v.number 0) refl a
    where
      on : (b : Bool) → eqb v.number 0 ≡ b → rewrites.after o' r ≡ cond b (rewrites.after (put o 0 file) (done_with file)) (rewrites.after o (refused_by v))
          → (o' ≡ o) × (verdict r.number r.place ≡ v)
      on true q w = absurd (z (ap (λ (x : rewrites.After). x.answer.number) w))
      on false q w = (ap (λ (x : rewrites.After). x.out) w, ap (λ (x : rewrites.After). verdict x.answer.number x.answer.place) w)

-- ---- both promises

module _ (s g : List ℕ) (n : ℕ) (o e c h l t : List ℕ) where
  -- Whether a buffer is too short.
  abbrev pub short : Bool
  short = too_short (length e) (length c) (length h) (length l) (length t)

  -- The answer and all contents are those of the definition, and the claim holds.
  abbrev pub Done : RewrittenRun → List ℕ → List ℕ → List ℕ → List ℕ → List ℕ → List ℕ → Type 0
  Done x o' e' c' h' l' t' = (after o' (runs.after x e' c' h' l' t') ≡ rehearsal_of s g n o e c h l t) × Claimed s g n x e' l'

  -- A refusal.
  refused : (r : Refusal) → refused_as r ≡ rehearsal_due s g n short (length o) → Done (Refused (refused_as r)) o e c h l t
  unfolding answered
  refused r q = (rw (← q, ne_eqb (refused_as r).number 0 (refused-some r)), tt)

  -- What is tested of the call is m, and that is the budget.
  module _ {b : Bool} (is : b ≡ short) {m : ℕ} (same : m ≡ n) where
    -- The budget is too large, or a buffer is too short.
    pub refused-call : (r : Refusal) → refused_as r ≡ run_due m b accepted → Done (Refused (refused_as r)) o e c h l t
    unfolding rehearsal_due
    refused-call r q = refused r (rw (← is, ← same) (call-refused m b _ r q))

    module _ (passed : accepted ≡ run_due m b accepted) where
      -- Else rewriting decides.
      rewriting-due : rewriting_verdict s g (length o) ≡ rehearsal_due s g n short (length o)
      unfolding rehearsal_due
      rewriting-due = rw (← is, ← same) (call-rest m b passed _)

      -- It refuses, …
      pub refused-rewriting : {o' : List ℕ} (r : Refusal) → rewrites.after o' (refused_by (refused_as r)) ≡ rewriting s g o → Done (Refused (refused_as r)) o' e c h l t
      refused-rewriting {o'} r a =
          let q = answer-refused (rewriting_verdict s g (length o)) (written_file s g) o o' (refused_by (refused_as r)) a (refused-some r) in
          rw q.0 (refused r (q.1 ∙ rewriting-due))

      module _ {o' : List ℕ} {r : Rewritten} (a : rewrites.after o' r ≡ rewriting s g o) (z : r.number ≡ 0) (script : AllBytes s) (guideline : AllBytes g) where
        -- … or what was written is run, …
        ran-is : (y : runs.After) → y ≡ rewritten_of (written_file s g) g n e c h l t → after o' y ≡ rehearsal_of s g n o e c h l t
        unfolding answered
        ran-is y w =
            let q = answer-zero (rewriting_verdict s g (length o)) (written_file s g) o o' r a z in
            rw (← rewriting-due, eq-eqb (rewriting_verdict s g (length o)).number 0 q.0, q.1, w)

        -- … and demand 3 holds of it.
        ran-claimed : (x : RewrittenRun) (e' c' h' l' t' : List ℕ) → runs.after x e' c' h' l' t' ≡ rewritten_of (written_file s g) g n e c h l t → Claimed s g n x e' l'
        ran-claimed (Refused v) e' c' h' l' t' w = tt
        ran-claimed (Ran x k) e' c' h' l' t' w =
            let d : Demand3 s g (written_file s g) = demand-3-file (call-passed s g o script guideline a z) in
            rw (ap (λ (y : runs.After). y.expression) w, ap (λ (y : runs.After). y.log) w) (d.claims n e c h l t x k (sym (ap (λ (y : runs.After). y.answer) w)))

        -- The run is on the front of the output.
        pub ran : {x : RewrittenRun} {e' c' h' l' t' : List ℕ} → runs.after x e' c' h' l' t' ≡ rewritten_of (take (8 * r.records) o') g n e c h l t → Done x o' e' c' h' l' t'
        ran {x} {e'} {c'} {h'} {l'} {t'} w =
            let u = w ∙ ap (λ (f : List ℕ). rewritten_of f g n e c h l t) (call-written s g o script guideline a z) in
            (ran-is (runs.after x e' c' h' l' t') u, ran-claimed x e' c' h' l' t' u)

  -- ---- a refusal alters no lent byte

  -- Where nothing is due, there is a run.
  never-refused : AllBytes s → AllBytes g → (rehearsal_due s g n short (length o)).number ≡ 0 → (v : Verdict) → (rewritten_of (written_file s g) g n e c h l t).answer ≡ Refused v → ⊥
  unfolding rehearsal_due rewrites.answered
  never-refused script guideline d v q =
      let a = refuse-zero 22 (omega arith) (due_if (ltb 1000000 n)) _ d in
      let b = refuse-zero 23 (omega arith) (due_if short) _ a.1 in
      let z : (rewriting s g o).answer.number ≡ 0 = rw (eq-eqb (rewriting_verdict s g (length o)).number 0 b.1) in
      let r = (demand-3-file (call-passed s g o script guideline refl z)).runs n (ltb-false 1000000 n (not-due _ a.0)) e c h l t (not-due short b.0) in
      not-both v r.0 r.1 q r.2

  -- So whatever refuses, all lent bytes are as they were.
  pub refusal-keeps : AllBytes s → AllBytes g → (v : Verdict) → (rehearsal_of s g n o e c h l t).run.answer ≡ Refused v → rehearsal_of s g n o e c h l t ≡ after o (runs.after (Refused v) e c h l t)
  unfolding answered
  refusal-keeps script guideline v q = on (eqb d.number 0) refl q
    where
      d : Verdict
      d = rehearsal_due s g n short (length o)

      end : Bool → After
      end b = cond b (after (put o 0 (written_file s g)) (rewritten_of (written_file s g) g n e c h l t)) (after o (runs.after (Refused d) e c h l t))

      on : (b : Bool) → eqb d.number 0 ≡ b → (end b).run.answer ≡ Refused v → end b ≡ after o (runs.after (Refused v) e c h l t)
      on true w z = absurd (never-refused script guideline (eqb-true d.number 0 w) v z)
      on false w z = ap (λ (x : RewrittenRun). after o (runs.after x e c h l t)) z
