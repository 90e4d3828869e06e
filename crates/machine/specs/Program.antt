-- The code that a run goes by, and bytes that are those of their program. Assumes nothing.
use Rattle.std.specs.Prelude.{List, ◌≡◌, ℕ}
use Rattle.calculus.specs.Term.{Codebase, codebase}
use Rattle.calculus.specs.Strip.{strip_code}
use Rattle.terms.specs.Encode.{encode_program}
use Rattle.script.specs.File.{program_in}
use Rattle.script.specs.WellFormed.{WellFormed}
use Rattle.script.specs.declared.Purpose.{Purpose}

-- The bodies of a script's program without the commands before them: an expression of a run never holds a command.
unfoldable pub code_in : List ℕ → Codebase
code_in s = strip_code (codebase (program_in s))

-- The bytes are those of their program, which is well-formed for a purpose.
pub record Formed (u : Purpose) (s : List ℕ) : Type 0 where
  pub bytes : s ≡ encode_program (program_in s)
  pub formed : WellFormed u (program_in s)
