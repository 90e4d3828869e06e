-- The plain run of an accepted script and the rewritten run of what was written for it: neither is refused for a file. Assumes nothing.
use mathlib.Core.Bool.{Bool, true, false, cond}
use mathlib.Core.List.{List}
use mathlib.Core.Path.{◌≡◌, refl, sym, ap, ◌∙◌}
use Prim.Native.Nat.{ℕ, ◌≤◌}
use native.Mathlib.Omega.{arith}
use lib.Dec.{eqb, ltb}
use lib.ListN.{length}
use borrow.Author.Tests.{le-ltb, ltb-false, eqb-true}
use Rattle.calculus.specs.Term.{Program, BareProgram}
use Rattle.calculus.specs.Guideline.{Guideline, Safe}
use Rattle.calculus.specs.Rewriting.{rewrite}
use Rattle.calculus.specs.Run.{Result, plain_run}
use Rattle.calculus.specs.Log as L
use Rattle.refusal.specs.Refusal.{Verdict, accepted, due_if, and_then, refuse_if, refuse-zero, not-due}
use Rattle.script.specs.File.{file_of, program_in}
use Rattle.script.specs.Check.{script_verdict, definition_count}
use Rattle.script.specs.declared.Purpose.TheVariants.{Rewriting, PlainRun, RewrittenRun}
use Rattle.script.proofs.Program.{FitsProgram}
use Rattle.script.proofs.Accepted.{formed-fits}
use Rattle.guideline.specs.Read.{guideline_of}
use Rattle.guideline.proofs.Accepted.{accepted-safe}
use Rattle.guideline.proofs.Functions.{verdict-file}
use Rattle.rewriting.specs.Answer.{written_file}
use Rattle.rewriting.proofs.Passing.{Passed, script-program, script-bytes, script-formed, written_is}
use Rattle.rewriting.proofs.Formed.{written-formed, written-accepted, written-definitions}
use Rattle.machine.specs.declared.Outcome.{Outcome}
use Rattle.machine.proofs.Program.{program-there}
use Rattle.plain.specs.Answer as plain
use Rattle.plain.specs.Answer.{buffer_size, plain_of}
use Rattle.plain.proofs.Refusals.{due-script}
use Rattle.booking.specs.declared.Counts.{Counts}
use Rattle.rewritten.specs.Answer.{RewrittenRun as Answer, after, ran_after, answered, too_short, rewritten_due, rewritten_of}
use Rattle.rewritten.specs.Answer.RewrittenRun.{Refused, Ran}

-- ---- a run that was made was allowed

-- An answer is a refusal or a run, not both.
pub not-both : {y : Answer} (v : Verdict) (x : Outcome) (k : Counts) → y ≡ Refused v → y ≡ Ran x k → ⊥
not-both v x k p q = let z : ◌≡◌ {A = ℕ} 0 1 = cc in omega arith

-- A run that was made was not refused.
answer-ran : (v : Verdict) (G : Guideline) (R : Result L.Conf) (e c h l t : List ℕ) (x : Outcome) (k : Counts) → (answered v G R e c h l t).answer ≡ Ran x k → v.number ≡ 0
answer-ran v G R e c h l t x k q = on (eqb v.number 0) refl q
  where
    on : (b : Bool) → eqb v.number 0 ≡ b → (cond b (ran_after G R e c h l t) (after (Refused v) e c h l t)).answer ≡ Ran x k → v.number ≡ 0
    on true w z = eqb-true v.number 0 w
    on false w z = absurd (not-both v x k refl z)

-- So its budget is at most 1,000,000, and no buffer is too short.
pub ran-allowed : (s g : List ℕ) (n : ℕ) (e c h l t : List ℕ) (x : Outcome) (k : Counts) → (rewritten_of s g n e c h l t).answer ≡ Ran x k
    → (n ≤ 1000000) × (too_short (length e) (length c) (length h) (length l) (length t) ≡ false)
unfolding rewritten_of rewritten_due
ran-allowed s g n e c h l t x k q =
    let b : Bool = too_short (length e) (length c) (length h) (length l) (length t) in
    let z = answer-ran (rewritten_due s g n b) (guideline_of g) (L.rewritten_run (guideline_of g) (program_in s) n) e c h l t x k q in
    let p = refuse-zero 22 (omega arith) (due_if (ltb 1000000 n)) _ z in
    let r = refuse-zero 23 (omega arith) (due_if b) _ p.1 in
    (ltb-false 1000000 n (not-due _ p.0), not-due b r.0)

-- ---- an accepted script and guideline

module _ {s g : List ℕ} (p : Passed s g) where
  -- The script's program is the one that was rewritten, …
  program-is : program_in s ≡ script-program p.script
  program-is = program-there s (script-program p.script) (script-bytes p.script) (formed-fits Rewriting (script-program p.script) (script-formed p.script))

  -- … its numbers fit their bytes, …
  pub program-fits : FitsProgram (program_in s)
  program-fits = rw program-is (formed-fits Rewriting (script-program p.script) (script-formed p.script))

  -- … and it has no commands.
  pub program-bare : BareProgram (program_in s)
  program-bare = rw program-is (script-formed p.script).commands

  -- The guideline's rules are safe.
  pub guideline-safe : Safe (guideline_of g)
  guideline-safe = accepted-safe g p.bytes (verdict-file (definition_count (file_of s)) g p.verdict)

  -- The plain run takes the script as well: for both purposes the same is tested.
  plain-accepted : script_verdict PlainRun s ≡ accepted
  unfolding script_verdict
  plain-accepted = p.script.verdict

  -- It is the plain run of that program.
  pub plain-ran : (n : ℕ) (e c : List ℕ) → n ≤ 1000000 → buffer_size ≤ length e → buffer_size ≤ length c → plain_of s n e c ≡ plain.ran_after (plain_run (program_in s) n) e c
  unfolding plain_of
  plain-ran n e c l i j = rw (← due-script s n (length e) (length c) l i j accepted (sym plain-accepted))

  -- What was written is the program, rewritten.
  written_in : program_in (written_file s g) ≡ rewrite (guideline_of g) (program_in s)
  written_in =
      let S : Program = rewrite (guideline_of g) (script-program p.script) in
      program-there (written_file s g) S (written_is p) (formed-fits RewrittenRun S (written-formed p)) ∙ ap (rewrite (guideline_of g)) (sym program-is)

  -- Nothing is due of it.
  written-due : (n : ℕ) → n ≤ 1000000 → rewritten_due (written_file s g) g n false ≡ accepted
  unfolding rewritten_due refuse_if and_then
  written-due n l = rw (le-ltb 1000000 n l, written-accepted p, written-definitions p, p.verdict)

  -- Its rewritten run is the one in Λlog of the rewritten program.
  pub written-ran : (n : ℕ) (e c h l t : List ℕ) → n ≤ 1000000 → too_short (length e) (length c) (length h) (length l) (length t) ≡ false
      → rewritten_of (written_file s g) g n e c h l t ≡ ran_after (guideline_of g) (L.rewritten_run (guideline_of g) (rewrite (guideline_of g) (program_in s)) n) e c h l t
  unfolding rewritten_of
  written-ran n e c h l t i j = rw (j, written-due n i, written_in)
