-- The rewritten run accepts what rewriting writes. Assumes nothing.
use mathlib.Core.Bool.{Bool, true, false, cond}
use mathlib.Core.List.Memᴰ
use mathlib.Core.List.{List, [], ◌∷◌, Memᴰ}
use mathlib.Core.Option.{IsSome}
use mathlib.Core.Path.{◌≡◌, refl, sym, ap, subst, ◌∙◌}
use Prim.Native.Nat.{ℕ, suc, ◌+◌, ◌<◌, ◌≤◌}
use native.Mathlib.Omega.{arith}
use lib.ListN.{length}
use Rattle.calculus.specs.Lists.{each, among, distinct}
use Rattle.calculus.specs.Term.{Term, Program, Codebase, Scoped, Defined, PlacedCode, codebase, records, size, definition_records, program_records}
use Rattle.calculus.specs.Term.Term.{var, fun, con, lam, app, call_event, emit, sum, branch}
use Rattle.calculus.specs.Guideline.{Guideline, Clause}
use Rattle.calculus.specs.Rewriting.{logevents, logged, noted, instrument, rewrite_from, rewrite}
use Rattle.calculus.proofs.Growth.{rewrite-grows, functions-most}
use Rattle.calculus.proofs.Size.{size-most}
use Rattle.calculus.proofs.Placed.{rewritten-placed}
use Rattle.calculus.proofs.Demand3.{rewritten-codebase, codebase-bare}
use Rattle.refusal.specs.Refusal.{accepted}
use Rattle.script.specs.File.{file_of}
use Rattle.script.specs.Check.{definition_count, script_verdict}
use Rattle.script.specs.WellFormed.{InRanges, definition_sizes, WellFormed}
use Rattle.script.specs.declared.Purpose.TheVariants.{Rewriting, RewrittenRun}
use Rattle.script.proofs.Names.{bodies-below, below-bodies}
use Rattle.script.proofs.Program.{numbered, file-encode, ProgramIs, read-program}
use Rattle.script.proofs.Accepted.{formed-fits, program-accepted}
use Rattle.guideline.specs.Read.{guideline_of}
use Rattle.guideline.specs.WithinLimits.{WithinLimits}
use Rattle.guideline.proofs.Accepted.{accepted-within}
use Rattle.guideline.proofs.Functions.{Defined as Below, verdict-file}
use Rattle.rewriting.specs.Answer.{written_file}
use Rattle.rewriting.proofs.Passing.{Passed, script-program, script-formed, script-count, functions-below, written_is}

-- ---- a body

module _ (G : Guideline) (f : ℕ) (b : Term) where
  -- What holds of a body and is kept by a command of its function holds of the rewritten body.
  instrument-keeps : (P : Term → Type 0) → P b → ((r : Term) → P r → P (call_event f (var 0) r)) → ((r : Term) → P r → P (emit f (var 0) r)) → P (instrument G f b)
  unfolding instrument
  instrument-keeps P h c m = on (logged G f) (noted G f)
    where
      on : (x y : Bool) → P (cond x (call_event f (var 0) (emit f (var 0) b)) (cond y (call_event f (var 0) b) b))
      on true y = c (emit f (var 0) b) (m b h)
      on false true = c b h
      on false false = h

  -- Commands do not count.
  instrument-size : size (instrument G f b) ≡ size b
  unfolding instrument size
  instrument-size = on (logged G f) (noted G f)
    where
      on : (x y : Bool) → size (cond x (call_event f (var 0) (emit f (var 0) b)) (cond y (call_event f (var 0) b) b)) ≡ size b
      on true y = refl
      on false true = refl
      on false false = refl

-- ---- the definitions

-- A body of the rewritten script.
record Body (G : Guideline) (n : ℕ) (es : List Term) (b : Term) : Type 0 where
  number : ℕ
  old : Term
  member : Memᴰ old es
  below : number < n
  is : b ≡ instrument G number old

module _ (G : Guideline) where
  -- There are as many definitions as before.
  rewritten-many : (f : ℕ) (es : List Term) → length (rewrite_from G f es) ≡ length es
  unfolding rewrite_from
  rewritten-many f [] = refl
  rewritten-many f (e ∷ es) = ap suc (rewritten-many (suc f) es)

  -- Each is a body as it was, with its function's commands before it.
  rewritten-body : (n f : ℕ) (es : List Term) → f + length es ≤ n → (b : Term) → Memᴰ b (rewrite_from G f es) → Body G n es b
  unfolding rewrite_from
  rewritten-body n f [] l b m = absurd (Memᴰ.not-nil m)
  rewritten-body n f (e ∷ es) l b (Memᴰ.head q) = record { number = f; old = e; member = Memᴰ.head refl; below = omega arith; is = q }
  rewritten-body n f (e ∷ es) l b (Memᴰ.tail m) =
      let r = rewritten-body n (suc f) es (omega arith) b m in
      record { number = r.number; old = r.old; member = Memᴰ.tail r.member; below = r.below; is = r.is }

  -- Commands and their arguments do not count.
  rewritten-sizes : (f : ℕ) (es : List Term) → definition_sizes (rewrite_from G f es) ≡ definition_sizes es
  unfolding rewrite_from definition_sizes
  rewritten-sizes f [] = refl
  rewritten-sizes f (e ∷ es) = rw (instrument-size G f e, rewritten-sizes (suc f) es)

-- The records that count are among all records.
sizes-records : (es : List Term) → definition_sizes es ≤ definition_records es
unfolding definition_sizes definition_records
sizes-records [] = omega arith
sizes-records (e ∷ es) = omega (arith, size-most e, sizes-records es)

-- Names that are defined stay so.
defined_more : (C C' : Codebase) → ((f : ℕ) → IsSome (C f) → IsSome (C' f)) → (t : Term) → Defined C t → Defined C' t
defined_more C C' h (var n) d = tt
defined_more C C' h (fun n) d = h n d
defined_more C C' h (con n) d = tt
defined_more C C' h (lam n b) d = defined_more C C' h b d
defined_more C C' h (app a b) d = (defined_more C C' h a d.0, defined_more C C' h b d.1)
defined_more C C' h (call_event n a r) d = (defined_more C C' h a d.0, defined_more C C' h r d.1)
defined_more C C' h (emit n a r) d = (defined_more C C' h a d.0, defined_more C C' h r d.1)
defined_more C C' h (sum a b) d = (defined_more C C' h a d.0, defined_more C C' h b d.1)
defined_more C C' h (branch c a b) d = (defined_more C C' h c d.0, defined_more C C' h a d.1, defined_more C C' h b d.2)

-- ---- at most 1,296 records

-- Each once is no more.
distinct-fewer : (ns : List ℕ) → length (distinct ns) ≤ length ns
unfolding distinct
distinct-fewer [] = omega arith
distinct-fewer (n ∷ ns) = on (among n ns) (distinct-fewer ns)
  where
    on : (b : Bool) → length (distinct ns) ≤ length ns → length (cond b (distinct ns) (n ∷ distinct ns)) ≤ suc (length ns)
    on true h = omega arith
    on false h = omega arith

-- One logged function to a clause.
one_each : (cs : List Clause) → length (each (λ (c : Clause). c.function ∷ []) cs) ≡ length cs
unfolding each
one_each [] = refl
one_each (c ∷ cs) = ap suc (one_each cs)

-- ---- the rewritten program

module _ (G : Guideline) (S : Program) (h : WellFormed Rewriting S) (w : WithinLimits G) (d : Below (length S.definitions) G) where
  -- At most 128 functions gain two records, and at most 8 of them, the logged ones, two more.
  rewritten-short : program_records (rewrite G S) ≤ 1296
  unfolding logevents
  rewritten-short =
      omega (
        arith,
        rewrite-grows G S d.0 d.1,
        functions-most G (length S.definitions) d.0 d.1,
        distinct-fewer (logevents G),
        one_each G.clauses,
        w.few_clauses,
        h.few,
        h.short,
      )

  -- A body of it.
  body : (b : Term) → Memᴰ b (rewrite_from G 0 S.definitions) → Body G 128 S.definitions b
  body = rewritten-body G 128 0 S.definitions (omega (arith, h.few))

  -- What holds of every body and is kept by commands.
  bodies-keep : (P : Term → Type 0) → ((b : Term) → Memᴰ b S.definitions → P b) → ((f : ℕ) → f < 128 → (r : Term) → P r → P (call_event f (var 0) r))
      → ((f : ℕ) → f < 128 → (r : Term) → P r → P (emit f (var 0) r)) → (b : Term) → Memᴰ b (rewrite_from G 0 S.definitions) → P b
  bodies-keep P k c m b i =
      let r = body b i in
      subst P (sym r.is) (instrument-keeps G r.number r.old P (k r.old r.member) (c r.number r.below) (m r.number r.below))

  -- A function that was defined still is.
  still : (f : ℕ) → IsSome (codebase S f) → IsSome (codebase (rewrite G S) f)
  still f i = below-bodies (rewrite_from G 0 S.definitions) f (omega (arith, bodies-below S.definitions f i, rewritten-many G 0 S.definitions))

  -- The rewritten program is well-formed for the rewritten run.
  pub rewrite-formed : WellFormed RewrittenRun (rewrite G S)
  rewrite-formed =
      let C : Codebase = codebase (rewrite G S) in
      record {
        few = omega (arith, h.few, rewritten-many G 0 S.definitions);
        short = rewritten-short;
        body_ranges = bodies-keep InRanges h.body_ranges (λ f l r p. (omega arith, omega arith, p)) (λ f l r p. (omega arith, omega arith, p));
        main_ranges = h.main_ranges;
        body_scoped = bodies-keep (Scoped 1) h.body_scoped (λ f l r p. (omega arith, p)) (λ f l r p. (omega arith, p));
        main_scoped = h.main_scoped;
        body_defined = bodies-keep (Defined C) (λ b m. defined_more (codebase S) C still b (h.body_defined b m)) (λ f l r p. (tt, p)) (λ f l r p. (tt, p));
        main_defined = defined_more (codebase S) C still S.main h.main_defined;
        commands = (
          subst PlacedCode (sym (rewritten-codebase G S)) (rewritten-placed G (codebase S) (codebase-bare S h.commands)),
          h.commands.main,
          omega (arith, rewritten-sizes G 0 S.definitions, sizes-records S.definitions, size-most S.main, h.short),
        );
      }

-- ---- the written file

-- As many definitions as bodies.
numbered-many : (i f : ℕ) (bs : List Term) → length (numbered i f bs) ≡ length bs
unfolding numbered
numbered-many i f [] = refl
numbered-many i f (b ∷ bs) = ap suc (numbered-many (i + 1 + records b) (suc f) bs)

module _ {s g : List ℕ} (p : Passed s g) where
  -- What is written is a well-formed program for the rewritten run.
  pub written-formed : WellFormed RewrittenRun (rewrite (guideline_of g) (script-program p.script))
  written-formed =
      let v = verdict-file (definition_count (file_of s)) g p.verdict in
      rewrite-formed (guideline_of g) (script-program p.script) (script-formed p.script) (accepted-within g p.bytes v) (functions-below p)

  -- The rewritten run accepts it, …
  pub written-accepted : script_verdict RewrittenRun (written_file s g) ≡ accepted
  written-accepted = program-accepted RewrittenRun (written_file s g) (rewrite (guideline_of g) (script-program p.script)) (written_is p) written-formed

  -- … reads the rewritten program from it …
  pub written-program : ProgramIs (file_of (written_file s g)) (rewrite (guideline_of g) (script-program p.script))
  written-program =
      let S : Program = rewrite (guideline_of g) (script-program p.script) in
      rw (written_is p) (read-program S (formed-fits RewrittenRun S written-formed))

  -- … and finds as many definitions as the script has.
  pub written-definitions : definition_count (file_of (written_file s g)) ≡ definition_count (file_of s)
  written-definitions =
      let S : Program = rewrite (guideline_of g) (script-program p.script) in
      ap (λ (l : List ℕ). definition_count (file_of l)) (written_is p)
      ∙ ap definition_count (file-encode S (formed-fits RewrittenRun S written-formed))
      ∙ numbered-many 0 0 S.definitions
      ∙ rewritten-many (guideline_of g) 0 (script-program p.script).definitions
      ∙ sym (script-count p.script)
