-- Where the bodies of a script's functions lie. Assumes nothing.
use Rattle.std.specs.Prelude.{cond, List, ◌≡◌, ℕ, ◌+◌, ◌<◌, eqb, length, get_or}
use Rattle.std.proofs.Math.Option.{some}
use Rattle.calculus.specs.Term.{Term, codebase}
use Rattle.calculus.specs.Term.Term.{var, fun, con, lam, app, call_event, emit, sum, branch}
use Rattle.terms.specs.Record.{kind_at}
use Rattle.terms.specs.Read.{term_at}
use Rattle.terms.specs.Encode.{Fits}
use Rattle.substitution.specs.Copied.{Lies}
use Rattle.zipper.specs.Zipper.{Last}
use Rattle.script.specs.File.{program_in}
use Rattle.history.specs.declared.Commands.{Commands}
use Rattle.history.specs.declared.Commands.TheVariants.{None, Note, NoteAndLog}
use Rattle.machine.specs.Program.{code_in}
use Rattle.machine.specs.declared.Body.{Body}

-- The commands of a body that begins with 6: one, or two where 7 is its rest.
abbrev pub emit_mark : Term → Commands
emit_mark (var i) = Note
emit_mark (fun f) = Note
emit_mark (con n) = Note
emit_mark (lam l b) = Note
emit_mark (app a b) = Note
emit_mark (call_event f a r) = Note
emit_mark (emit f a r) = NoteAndLog
emit_mark (sum a b) = Note
emit_mark (branch c a b) = Note

-- The commands that a body begins with: none, 6, or 6 and 7.
abbrev pub mark_of : Term → Commands
mark_of (var i) = None
mark_of (fun f) = None
mark_of (con n) = None
mark_of (lam l b) = None
mark_of (app a b) = None
mark_of (call_event f a r) = emit_mark r
mark_of (emit f a r) = None
mark_of (sum a b) = None
mark_of (branch c a b) = None

-- The same by the kinds of the records at i and, past the argument of a 6, at i + 2.
unfoldable pub commands_at : List ℕ → ℕ → Commands
commands_at s i = cond (eqb (kind_at s i) 6) (cond (eqb (kind_at s (i + 2)) 7) NoteAndLog Note) None

-- Entry f of a list of bodies.
abbrev pub body_of : List Body → ℕ → Body
body_of bodies f = get_or bodies f (record { at = 0; commands = None })

-- The body b lies at record i, its numbers of four bytes.
pub record BodyAt (s : List ℕ) (i : ℕ) (b : Term) : Type 0 where
  pub lies : Lies s i b
  pub fits : Fits b

-- The body of function f without its commands lies at the record that entry f says.
pub record Positions (s : List ℕ) (bodies : List Body) : Type 0 where
  pub within : (f : ℕ) (b : Term) → code_in s f ≡ some b → f < length bodies
  pub there : (f : ℕ) (b : Term) → code_in s f ≡ some b → BodyAt s (body_of bodies f).at b

-- Entry f says the commands that function f's body begins with.
abbrev pub Marked : List ℕ → List Body → Type 0
Marked s bodies = (f : ℕ) (b : Term) → codebase (program_in s) f ≡ some b → (body_of bodies f).commands ≡ mark_of b

-- What one pass over a script finds: its bodies, the commands before each, and the main term, which ends the script.
pub record Found (s : List ℕ) (bodies : List Body) (main : ℕ) : Type 0 where
  pub positions : Positions s bodies
  pub marked : Marked s bodies
  pub last : Last s main
  pub is-main : term_at s main ≡ (program_in s).main
