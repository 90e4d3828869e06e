-- The runs of accepted scripts are traces by the paper's rules. Assumes nothing.
use mathlib.Core.List.{List}
use mathlib.Core.Path.{◌≡◌}
use Prim.Native.Nat.{ℕ}
use Rattle.words.specs.Bytes.{AllBytes}
use Rattle.calculus.specs.Term.{ClosedCode, ClosedTerm, codebase}
use Rattle.calculus.specs.Run.{plain_run}
use Rattle.calculus.specs.Log as L
use Rattle.calculus.specs.LogRules.{LogTraces}
use Rattle.calculus.specs.Trace.{Sequence, last}
use Rattle.calculus.proofs.Trace.{Traced, plain-traces}
use Rattle.calculus.proofs.LogRules.{run-runs}
use Rattle.refusal.specs.Refusal.{accepted}
use Rattle.script.specs.File.{file_of, program_in}
use Rattle.script.specs.Check.{script_verdict, definition_count}
use Rattle.script.specs.declared.Purpose.{Purpose}
use Rattle.script.specs.declared.Purpose.TheVariants.{PlainRun, RewrittenRun}
use Rattle.guideline.specs.Read.{guideline_of}
use Rattle.guideline.specs.Check.{guideline_verdict}
use Rattle.guideline.proofs.Accepted.{accepted-safe}
use Rattle.guideline.proofs.Functions.{verdict-file}
use Rattle.machine.proofs.Program.{accepted-formed, program-code, program-main}

module _ (u : Purpose) (s : List ℕ) (b : AllBytes s) (v : script_verdict u s ≡ accepted) where
  -- The program that an accepted script encodes is closed: its code …
  pub accepted-code : ClosedCode (codebase (program_in s))
  accepted-code = program-code (accepted-formed u s b v)

  -- … and its main term.
  pub accepted-main : ClosedTerm (codebase (program_in s)) (program_in s).main
  accepted-main = program-main (accepted-formed u s b v)

-- Its plain run is a trace by the rules of Λcall, and the calls made are those that toFOL says of the trace before its last time.
pub plain-published : (s : List ℕ) → AllBytes s → script_verdict PlainRun s ≡ accepted → (n : ℕ) → Traced (codebase (program_in s)) (program_in s).main (plain_run (program_in s) n).last
plain-published s b v n = plain-traces (codebase (program_in s)) (accepted-code PlainRun s b v) (program_in s).main (accepted-main PlainRun s b v) n

-- Its rewritten run is a trace by the rules of Λlog.
pub rewritten-published : (s g : List ℕ) → AllBytes s → AllBytes g → script_verdict RewrittenRun s ≡ accepted → guideline_verdict (definition_count (file_of s)) g ≡ accepted → (n : ℕ)
    → (τ : Sequence L.Conf) × LogTraces (guideline_of g) (codebase (program_in s)) (program_in s).main τ × (last τ ≡ (L.rewritten_run (guideline_of g) (program_in s) n).last)
rewritten-published s g b c v w n =
    run-runs (guideline_of g) (accepted-safe g c (verdict-file (definition_count (file_of s)) g w)) (codebase (program_in s)) (accepted-code RewrittenRun s b v)
    (program_in s).main (accepted-main RewrittenRun s b v) n
