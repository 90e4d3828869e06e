-- The ten cases on bytes: what is read from the files, and then computing on trees. Assumes nothing.
use mathlib.Core.Bool.{Bool, true, false, true≢false}
use mathlib.Core.List.Memᴰ
use mathlib.Core.List.{List, [], ◌∷◌, Memᴰ}
use mathlib.Core.Option.{IsSome}
use mathlib.Core.Path.{◌≡◌, refl, sym, ap, ◌∙◌}
use Prim.Native.Nat.{ℕ, zero, suc, ◌^◌, ◌<◌, ◌≤◌}
use native.Mathlib.Omega.{arith}
use lib.Dec.{ltb}
use lib.ListN.{length}
use borrow.Author.Tests.{le-ltb, ltb-true}
use Rattle.words.specs.Bytes.{bytes, number, part, AllBytes}
use Rattle.calculus.specs.Lists.{any, all, keep, each, distinct}
use Rattle.calculus.specs.Term.{Term, Program, is_value, view, size, records, bodies, codebase, definition_records, Scoped, Defined, Bare}
use Rattle.calculus.specs.Term.Term.{var, fun, con, lam, app}
use Rattle.calculus.specs.Guideline.{Guideline}
use Rattle.calculus.specs.Guideline.Condition.{before}
use Rattle.calculus.specs.Substitution.{put}
use Rattle.calculus.specs.Step.{step}
use Rattle.calculus.specs.Derive.{holds, derived, rounds, next_round, yields, given, candidates, predicates, values, appearing}
use Rattle.calculus.specs.Entailment.{Entry, fits, entails?}
use Rattle.calculus.specs.Rewriting.{logevents, triggers, logged, noted, instrument, rewrite_from, rewrite}
use Rattle.calculus.specs.Run.{Result, run}
use Rattle.calculus.specs.Log as L
use Rattle.calculus.specs.Cases as trees
use Rattle.terms.specs.Record.{record8}
use Rattle.terms.specs.Encode.{encode_program}
use Rattle.refusal.specs.First.{first_from, first_below}
use Rattle.refusal.specs.Refusal.{Verdict, accepted, refuse_if, due_below, and_then}
use Rattle.script.specs.File.{file_of, program_in}
use Rattle.script.specs.Check.{script_verdict, definition_count}
use Rattle.script.specs.WellFormed.{InRanges, WellFormed}
use Rattle.script.specs.declared.Purpose.TheVariants.{Rewriting}
use Rattle.script.proofs.Names.{below-bodies}
use Rattle.script.proofs.Program.{numbered, file-encode}
use Rattle.script.proofs.Accepted.{program-accepted, formed-fits}
use Rattle.guideline.specs.Record.{kind_at, predicate_at, first_at, second_at, well_formed}
use Rattle.guideline.specs.Read.{numbers_from, end_of, row_from, of_kind, guideline_of}
use Rattle.guideline.specs.Check.{misplaced, facts_below, clauses_below, triggers_before, guideline_due, guideline_verdict}
use Rattle.rewriting.specs.Answer.{written_file, rewriting_verdict}
use Rattle.rewriting.proofs.Passing.{Passed}
use Rattle.machine.specs.Outcome.{outcome_of}
use Rattle.machine.specs.declared.Outcome.{Outcome}
use Rattle.machine.proofs.Program.{program-there}
use Rattle.history.specs.Entries.{entries_buffer}
use Rattle.rewritten.specs.Answer.{RewrittenRun, After, counts_of, ran_after, too_short}
use Rattle.rewritten.specs.Answer.RewrittenRun.{Ran}
use Rattle.rehearsal.specs.Rehearsal.{rehearsal_due, answered, rehearsal_of}
use Rattle.rehearsal.proofs.Runs.{written-ran}
use Rattle.records.specs.Cases.{case_i}
use Rattle.records.proofs.Cases.{case-h, case-i}
use Rattle.cases.specs.Cases.{show, in_turn, logs, trigger, after_override, two_in_order, Shows, TenCases}

-- ---- a rehearsal of a script and a guideline that are accepted

module _ {s g : List ℕ} (p : Passed s g) {n : ℕ} (most : n ≤ 1000000) (o e c h l t : List ℕ)
    (room : length (written_file s g) ≤ length o) (long : too_short (length e) (length c) (length h) (length l) (length t) ≡ false) where
  -- Nothing is due, …
  nothing-due : rehearsal_due s g n false (length o) ≡ accepted
  unfolding rehearsal_due rewriting_verdict refuse_if and_then
  nothing-due = rw (le-ltb 1000000 n most, p.script.verdict, p.verdict, le-ltb (length o) (length (written_file s g)) room)

  -- … so the run is the one on trees.
  run_is : (rehearsal_of s g n o e c h l t).run ≡ ran_after (guideline_of g) (L.rewritten_run (guideline_of g) (rewrite (guideline_of g) (program_in s)) n) e c h l t
  unfolding answered
  run_is = rw (long, nothing-due) (written-ran p n e c h l t most long)

-- ---- what two files show

-- A script of two definitions that is accepted, and its program.
record Script (s : List ℕ) (S : Program) : Type 0 where
  bytes : AllBytes s
  verdict : script_verdict Rewriting s ≡ accepted
  program : program_in s ≡ S
  count : definition_count (file_of s) ≡ 2

-- A guideline that is accepted with such a script, and what it says.
record Guide (g : List ℕ) (G : Guideline) : Type 0 where
  bytes : AllBytes g
  verdict : guideline_verdict 2 g ≡ accepted
  guideline : guideline_of g ≡ G

-- Both are accepted.
both-passed : {s g : List ℕ} {S : Program} {G : Guideline} → Script s S → Guide g G → Passed s g
both-passed a b = record { script = record { bytes = a.bytes; verdict = a.verdict }; bytes = b.bytes; verdict = rw a.count b.verdict }

-- The answer and the log of the run on trees. To unfold it is to unfold all that a run computes with.
seen : Guideline → Program → ℕ → RewrittenRun × List Entry
unfolding any all keep each distinct is_value view size bodies put step holds derived rounds next_round yields given candidates predicates values appearing fits entails? logevents triggers logged noted instrument rewrite_from run L.emit_call L.settle L.log_tick L.logged
seen G S n = let R : Result L.Conf = L.rewritten_run G (rewrite G S) n in (Ran (outcome_of R.outcome) (counts_of R.last.state), R.last.state.log)

-- A rehearsal of both shows what is seen of the run on trees.
shown : {s g : List ℕ} {S : Program} {G : Guideline} → Script s S → Guide g G → {n : ℕ} → n ≤ 1000000 → {x : Outcome} {k m : ℕ} {es : List Entry}
    → seen G S n ≡ (Ran x record { steps = k; history = m; log = length es }, es) → Shows s g n x k m es
unfolding seen
shown {s} {g} {S} {G} a b {n} most q =
    record {
      answer = λ o e c h l t i j. ap (λ (r : After). r.answer) (on-trees o e c h l t i j) ∙ ap (λ (r : RewrittenRun × List Entry). r.0) q;
      log = λ o e c h l t i j. ap (λ (r : After). r.log) (on-trees o e c h l t i j) ∙ ap (λ (r : RewrittenRun × List Entry). entries_buffer r.1 l) q;
    }
  where
    on-trees : (o e c h l t : List ℕ) → length (written_file s g) ≤ length o → too_short (length e) (length c) (length h) (length l) (length t) ≡ false
        → (rehearsal_of s g n o e c h l t).run ≡ ran_after G (L.rewritten_run G (rewrite G S) n) e c h l t
    on-trees o e c h l t i j = rw (b.guideline, a.program) at (run_is (both-passed a b) most o e c h l t i j)

-- ---- bytes, by computing

is_byte : ℕ → Bool
is_byte b = ltb b 256

all-bytes : (xs : List ℕ) → all is_byte xs ≡ true → AllBytes xs
unfolding all is_byte
all-bytes [] e i = omega arith
all-bytes (x ∷ xs) e i = on (ltb x 256) refl e (λ k. all-bytes xs k) i
  where
    on : (b : Bool) → ltb x 256 ≡ b → elim b as (λ _. Bool) [ false ↦ false | true ↦ all is_byte xs ] ≡ true → (all is_byte xs ≡ true → AllBytes xs) → AllBytes (x ∷ xs)
    on false q z below j = absurd (true≢false (sym z))
    on true q z below zero = ltb-true x 256 q
    on true q z below (suc j) = below z j

-- ---- guidelines

-- What a guideline says and its verdict. To unfold it is to unfold all that the reading computes with.
read : List ℕ → Guideline × Verdict
unfolding number part any each appearing first_from first_below refuse_if due_below kind_at predicate_at first_at second_at well_formed numbers_from end_of row_from of_kind guideline_of misplaced facts_below clauses_below triggers_before guideline_due
read g = (guideline_of g, guideline_verdict 2 g)

guide : (g : List ℕ) {G : Guideline} → all is_byte g ≡ true → read g ≡ (G, accepted) → Guide g G
unfolding read
guide g b q =
    record { bytes = all-bytes g b; verdict = ap (λ (r : Guideline × Verdict). r.1) q; guideline = ap (λ (r : Guideline × Verdict). r.0) q }

-- That of most cases, …
after-override : Guide after_override trees.after_override
unfolding bytes all is_byte read
after-override = guide after_override refl refl

-- … of (f), …
own-trigger : Guide (logs (trigger 1 [])) (trees.logs (1 ∷ []) [])
unfolding bytes all is_byte read
own-trigger = guide (logs (trigger 1 [])) refl refl

-- … of (g), …
no-trigger : Guide (logs []) (trees.logs [] [])
unfolding bytes all is_byte read
no-trigger = guide (logs []) refl refl

-- … of (i), …
known_only_lem : Guide case_i trees.known_only
unfolding all is_byte read
known_only_lem = guide case_i refl refl

-- … and of (j).
two-in-order : Guide two_in_order (trees.logs (0 ∷ 0 ∷ []) (before 1 2 ∷ []))
unfolding bytes all is_byte read
two-in-order = guide two_in_order refl refl

-- ---- scripts

-- A main term for them: few records, small numbers, closed, its functions defined, no commands.
record Main (e : Term) : Type 0 where
  short : records e ≤ 1000
  ranges : InRanges e
  scoped : Scoped 0 e
  defined : Defined (codebase (trees.show e)) e
  bare : Bare e

-- Both bodies are variable 0.
each-body : (P : Term → Type 0) → P (var 0) → (b : Term) → Memᴰ b (var 0 ∷ var 0 ∷ []) → P b
each-body P p b (Memᴰ.head q) = rw q p
each-body P p b (Memᴰ.tail (Memᴰ.head q)) = rw q p
each-body P p b (Memᴰ.tail (Memᴰ.tail w)) = absurd (Memᴰ.not-nil w)

-- So the program is well-formed, …
show-formed : (e : Term) → Main e → WellFormed Rewriting (trees.show e)
unfolding records definition_records
show-formed e h =
    record {
      few = omega arith;
      short = omega (arith, h.short);
      body_ranges = each-body InRanges (omega arith);
      main_ranges = h.ranges;
      body_scoped = each-body (Scoped 1) (omega arith);
      main_scoped = h.scoped;
      body_defined = each-body (Defined (codebase (trees.show e))) tt;
      main_defined = h.defined;
      commands = record { definitions = each-body Bare tt; main = h.bare };
    }

-- … and its bytes are accepted and read back.
script : (s : List ℕ) (e : Term) → s ≡ encode_program (trees.show e) → all is_byte s ≡ true → Main e → Script s (trees.show e)
unfolding numbered
script s e q b h =
    let S : Program = trees.show e in
    let w : WellFormed Rewriting S = show-formed e h in
    let f = formed-fits Rewriting S w in
    record {
      bytes = all-bytes s b;
      verdict = program-accepted Rewriting s S q w;
      program = program-there s S q f;
      count = ap (λ (l : List ℕ). definition_count (file_of l)) q ∙ ap definition_count (file-encode S f);
    }

-- Functions 0 and 1 are defined.
known : (f : ℕ) → f < 2 → IsSome (bodies (var 0 ∷ var 0 ∷ []) f)
known = below-bodies (var 0 ∷ var 0 ∷ [])

-- Two calls in turn.
turn : (f a g b : ℕ) → (f < 2) × (a < 2 ^ 32) × (g < 2) × (b < 2 ^ 32) → all is_byte (show (in_turn f a g b)) ≡ true
    → Script (show (in_turn f a g b)) (trees.show (trees.in_turn f a g b))
unfolding bytes records
turn f a g b l z =
    script (show (in_turn f a g b)) (trees.in_turn f a g b) refl z
    record { short = omega arith; ranges = omega arith; scoped = ((tt, tt), (tt, tt)); defined = ((known g l.2, tt), (known f l.0, tt)); bare = ((tt, tt), (tt, tt)) }

-- Those of (a), (b) and (j), …
script-a : Script (show (in_turn 0 3 1 7)) (trees.show (trees.in_turn 0 3 1 7))
unfolding bytes all is_byte
script-a = turn 0 3 1 7 (omega arith) refl

-- … of (c), …
script-c : Script (show (in_turn 1 3 0 7)) (trees.show (trees.in_turn 1 3 0 7))
unfolding bytes all is_byte
script-c = turn 1 3 0 7 (omega arith) refl

-- … of (d), …
script-d : Script (show (record8 3 1 [])) (trees.show (con 1))
unfolding bytes all is_byte records
script-d = script (show (record8 3 1 [])) (con 1) refl refl record { short = omega arith; ranges = omega arith; scoped = tt; defined = tt; bare = tt }

-- … of (e), …
script-e : Script (show (record8 5 0 (record8 3 7 (record8 3 7 [])))) (trees.show (app (con 7) (con 7)))
unfolding bytes all is_byte records
script-e =
    script (show (record8 5 0 (record8 3 7 (record8 3 7 [])))) (app (con 7) (con 7)) refl refl
    record { short = omega arith; ranges = omega arith; scoped = (tt, tt); defined = (tt, tt); bare = (tt, tt) }

-- … of (f), …
script-f : Script (show (in_turn 1 5 1 7)) (trees.show (trees.in_turn 1 5 1 7))
unfolding bytes all is_byte
script-f = turn 1 5 1 7 (omega arith) refl

-- … of (g), …
script-g : Script (show (record8 5 0 (record8 2 1 (record8 4 9 (record8 1 0 []))))) (trees.show (app (fun 1) (lam 9 (var 0))))
unfolding bytes all is_byte records
script-g =
    script (show (record8 5 0 (record8 2 1 (record8 4 9 (record8 1 0 []))))) (app (fun 1) (lam 9 (var 0))) refl refl
    record { short = omega arith; ranges = omega arith; scoped = (tt, omega arith); defined = (known 1 (omega arith), tt); bare = (tt, tt) }

-- … and of (i).
script-i : Script (show (in_turn 1 7 1 1)) (trees.show (trees.in_turn 1 7 1 1))
unfolding bytes all is_byte
script-i = turn 1 7 1 1 (omega arith) refl

-- ---- the cases

pub ten : TenCases
unfolding seen
ten =
    record {
      a = shown script-a after-override (omega arith) refl;
      b = shown script-a after-override (omega arith) refl;
      c = shown script-c after-override (omega arith) refl;
      d = shown script-d after-override (omega arith) refl;
      e = shown script-e after-override (omega arith) refl;
      f = shown script-f own-trigger (omega arith) refl;
      g = shown script-g no-trigger (omega arith) refl;
      h = case-h;
      i = shown script-i known_only_lem (omega arith) refl;
      i-outside = case-i;
      j = shown script-a two-in-order (omega arith) refl;
    }
