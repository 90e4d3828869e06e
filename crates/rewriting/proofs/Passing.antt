-- A script and a guideline that are accepted: what is written for them. Assumes nothing.
use mathlib.Core.List.{List}
use mathlib.Core.Path.{◌≡◌, sym, ap, subst, ◌∙◌}
use Prim.Native.Nat.{ℕ, ◌+◌, ◌*◌, ◌≤◌}
use native.Mathlib.Nat.{sub-zero}
use native.Mathlib.Omega.{arith}
use lib.ListN.{length}
use Rattle.words.specs.Bytes.{AllBytes}
use Rattle.calculus.specs.Term.{Term, Program}
use Rattle.calculus.specs.Rewriting.{rewrite_from, rewrite}
use Rattle.terms.specs.Record.{count}
use Rattle.terms.specs.Encode.{encode_program}
use Rattle.refusal.specs.Refusal.{Verdict, accepted}
use Rattle.script.specs.File.{Definition, File, file_of, program_of, file_program, program_in}
use Rattle.script.specs.Check.{definition_count, script_verdict}
use Rattle.script.specs.WellFormed.{WellFormed}
use Rattle.script.specs.declared.Purpose.TheVariants.{Rewriting}
use Rattle.script.proofs.Accepted.{NoneDue, accepted-none, script-zero, bodies-length, Whole, whole-file, file-bytes, none-formed, program-length}
use Rattle.script.proofs.Due.{due1-none}
use Rattle.script.proofs.Laid.{bodies_of, file-laid}
use Rattle.script.proofs.Program.{Numbered, misnumbered-none}
use Rattle.script.proofs.Sizes.{laid-count}
use Rattle.guideline.specs.Record.{count as record_count}
use Rattle.guideline.specs.Read.{guideline_of}
use Rattle.guideline.specs.Check.{guideline_verdict}
use Rattle.guideline.proofs.Accepted.{accepted-standing}
use Rattle.guideline.proofs.Due.{guideline-zero}
use Rattle.guideline.proofs.Functions.{Defined as Below, functions-exactly, verdict-file}
use Rattle.rewriting.specs.Answer.{written_file}
use Rattle.rewriting.specs.Marks.{Marks, gains}
use Rattle.rewriting.specs.Grown.{grown}
use Rattle.rewriting.proofs.Marking.{mark-is}
use Rattle.rewriting.proofs.Growing.{Marked, grown-program, definitions-grow}

-- The bytes of the script, and that it is accepted.
pub record ScriptPassed (s : List ℕ) : Type 0 where
  pub bytes : AllBytes s
  pub verdict : script_verdict Rewriting s ≡ accepted

-- The same of the guideline, for that script.
pub record Passed (s g : List ℕ) : Type 0 where
  pub script : ScriptPassed s
  pub bytes : AllBytes g
  pub verdict : guideline_verdict (definition_count (file_of s)) g ≡ accepted

-- From the answers of the checks.
pub script-passed : (s : List ℕ) {v : Verdict} → AllBytes s → v ≡ script_verdict Rewriting s → v.number ≡ 0 → ScriptPassed s
script-passed s b e z = record { bytes = b; verdict = script-zero Rewriting s (rw e at z) }

pub passed : {s : List ℕ} (g : List ℕ) {n : ℕ} {v : Verdict} → ScriptPassed s → AllBytes g → n ≡ definition_count (file_of s) → v ≡ guideline_verdict n g → v.number ≡ 0 → Passed s g
passed {s} g p b q e z = record { script = p; bytes = b; verdict = guideline-zero (definition_count (file_of s)) g (rw (e, q) at z) }

-- ---- the script

module _ {s : List ℕ} (p : ScriptPassed s) where
  -- No number is due.
  nothing : NoneDue Rewriting s
  nothing = accepted-none Rewriting s p.verdict

  -- It is whole.
  file : Whole (file_of s)
  file = whole-file s nothing.three

  -- Its records fill its bytes, and there are at most 1,024.
  pub script-whole : (length s ≡ 8 * count s) × (count s ≤ 1024)
  script-whole = let d = due1-none Rewriting s nothing.one in (d.eights, d.most)

  -- It is the bytes of its program, which is well-formed.
  pub script-program : Program
  script-program = program_of file.definitions file.main

  pub script-bytes : s ≡ encode_program script-program
  unfolding script-program
  script-bytes = file-bytes Rewriting s p.bytes file.definitions file.place file.main file.is nothing.one nothing.two nothing.four

  pub script-formed : WellFormed Rewriting script-program
  unfolding script-program
  script-formed = none-formed Rewriting s p.bytes file.definitions file.place file.main file.is nothing

  -- It has as many definitions as its program, at most 128.
  pub script-count : definition_count (file_of s) ≡ length script-program.definitions
  unfolding script-program
  script-count = ap definition_count file.is ∙ sym (bodies-length file.definitions)

  pub script-few : definition_count (file_of s) ≤ 128
  script-few = omega (arith, script-count, script-formed.few)

-- ---- what is written

module _ {s g : List ℕ} (p : Passed s g) where
  -- The script defines the guideline's functions.
  pub functions-below : Below (length (script-program p.script).definitions) (guideline_of g)
  functions-below =
      let n : ℕ = definition_count (file_of s) in
      subst (λ (m : ℕ). Below m (guideline_of g)) (script-count p.script) ((functions-exactly n g p.bytes (verdict-file n g p.verdict)).0 p.verdict)

  -- The file that is written is the rewritten program's.
  pub written_is : written_file s g ≡ encode_program (rewrite (guideline_of g) (script-program p.script))
  unfolding written_file program_in script-program
  written_is = ap (λ (f : File). encode_program (rewrite (guideline_of g) (file_program f))) (file p.script).is

  module _ {ms : List ℕ} (h : Marks g (record_count g) ms) where
    -- The marks are what each function gains.
    marks-are : Marked (guideline_of g) ms
    marks-are f l = h.mark f l ∙ mark-is g f (guideline_of g) (accepted-standing g p.bytes (verdict-file (definition_count (file_of s)) g p.verdict))

    -- It is what the loop writes.
    pub grown-written : grown ms s 0 (count s) ≡ written_file s g
    unfolding script-program
    grown-written =
        let f = file p.script in
        let ds : List Definition = f.definitions in
        let n : Numbered 0 ds = misnumbered-none 0 ds (rw f.is at (nothing p.script).four) in
        ap (grown ms s 0) (sym (sub-zero (count s)))
        ∙ grown-program (guideline_of g) ms s marks-are f.place f.main 0 0 ds (file-laid s 0 ds f.place f.main f.is) n (script-bytes p.script)
        ∙ sym written_is

    -- How long it is.
    pub written-length : {d k : ℕ} → d ≡ definition_count (file_of s) → k ≡ gains ms 0 d → length (written_file s g) ≡ 8 * (count s + k)
    unfolding script-program
    written-length {d} q e =
        let f = file p.script in
        let bs : List Term = bodies_of f.definitions in
        let n : d ≡ length bs = q ∙ script-count p.script in
        let k = definitions-grow (guideline_of g) ms marks-are 0 bs (omega (arith, script-few p.script)) in
        let c = laid-count s 0 f.definitions f.place f.main (file-laid s 0 f.definitions f.place f.main f.is) in
        ap length written_is ∙ program-length 0 (rewrite_from (guideline_of g) 0 bs) f.main ∙ rw (e, n) (omega arith)
