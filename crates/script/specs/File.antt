-- A script file: "0 to 128 definitions numbered 0, 1, 2 in order, then one main term, then nothing". Assumes nothing.
pub mod Laws
use Rattle.std.specs.Prelude.{Bool, true, false, cond, ◌&&◌, List, [], ◌∷◌, ℕ, zero, suc, ◌+◌, ◌-◌, eqb, ltb}
use Rattle.calculus.specs.Lists.{each}
use Rattle.calculus.specs.Term.{Term, Program}
use Rattle.calculus.specs.Term.Term.{con}
use Rattle.terms.specs.Record.{count, kind_at, record_number}
use Rattle.terms.specs.Read.{Read, read_at}
use Rattle.terms.specs.Read.Read.{got, stuck}

-- A definition: the record where it begins, the number in that record, its body.
pub record Definition : Type 0 where
  pub place : ℕ
  pub number : ℕ
  pub body : Term

-- The definitions, the record where the main term begins and the main term; or the first record that cannot stand where it does, which is
-- the record count where the end comes too early.
pub data File : Type 0 where
  whole : List Definition → ℕ → Term → File
  broken : ℕ → File

abbrev pub add_definition : Definition → File → File
add_definition d (whole ds i e) = whole (d ∷ ds) i e
add_definition d (broken j) = broken j

-- A definition's record at i and what stands after it.
abbrev pub definition_at : List ℕ → ℕ → Read → (ℕ → File) → File
definition_at s i (got b j) go = add_definition record { place = i; number = record_number s i; body = b } (go j)
definition_at s i (stuck j) go = broken j

-- The main term at i; nothing stands after it.
abbrev pub main_at : List ℕ → ℕ → Read → File
main_at s i (got e j) = cond (eqb j (count s)) (whole [] i e) (broken j)
main_at s i (stuck j) = broken j

abbrev pub is_definition : List ℕ → ℕ → Bool
is_definition s i = ltb i (count s) && eqb (kind_at s i) 8

-- One definition or the main term, with what stands further on.
abbrev pub file_step : Bool → List ℕ → ℕ → (ℕ → File) → File
file_step true s i go = definition_at s i (read_at s (i + 1)) go
file_step false s i go = main_at s i (read_at s i)

file_f : ℕ → List ℕ → ℕ → File
file_f zero s i = broken i
file_f (suc f) s i = file_step (is_definition s i) s i (file_f f s)

-- The file from record i on: each definition takes a record, so a fuel of one more than the records left is enough.
pub file_from : List ℕ → ℕ → File
file_from s i = file_f (suc (count s - i)) s i

abbrev pub file_of : List ℕ → File
file_of s = file_from s 0

-- The program of definitions and a main term: the bodies in order, and the main term.
abbrev pub program_of : List Definition → Term → Program
program_of ds e = record { definitions = each (λ d. d.body ∷ []) ds; main = e }

-- The program of a file. Where it is broken there is none: no contract that cites it admits such bytes.
abbrev pub file_program : File → Program
file_program (whole ds i e) = program_of ds e
file_program (broken j) = record { definitions = []; main = con 0 }

-- The program that a script's bytes encode.
unfoldable pub program_in : List ℕ → Program
program_in s = file_program (file_of s)
