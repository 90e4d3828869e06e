-- What an accepted script is: a program that is closed, defined, within the limits, with commands only where document 01 allows them.
-- Assumes nothing.
use mathlib.Core.List.{List, [], ◌∷◌, Memᴰ}
use Rattle.std.specs.Prelude.{ℕ, suc, ◌+◌, ◌^◌, ◌<◌, ◌≤◌, length}
use Rattle.calculus.specs.Term.{Term, Program, Scoped, Defined, Bare, PlacedCode, BareProgram, size, codebase, program_records}
use Rattle.calculus.specs.Term.Term.{var, fun, con, lam, app, call_event, emit, sum, branch}
use Rattle.script.specs.Check.{most_records}
use Rattle.script.specs.declared.Purpose.{Purpose}
use Rattle.script.specs.declared.Purpose.TheVariants.{Checking, Rewriting, PlainRun, RewrittenRun}

-- Every number is in its range.
abbrev pub InRanges : Term → Type 0
InRanges (var n) = n ≤ 1023
InRanges (fun n) = n < 2 ^ 32
InRanges (con n) = n < 2 ^ 32
InRanges (lam n b) = (n ≤ 65535) × InRanges b
InRanges (app a b) = InRanges a × InRanges b
InRanges (call_event n a r) = (n < 2 ^ 32) × InRanges a × InRanges r
InRanges (emit n a r) = (n < 2 ^ 32) × InRanges a × InRanges r
InRanges (sum a b) = InRanges a × InRanges b
InRanges (branch c a b) = InRanges c × InRanges a × InRanges b

-- The records of a program besides commands and their arguments; each definition has one of its own.
unfoldable pub definition_sizes : List Term → ℕ
definition_sizes [] = 0
definition_sizes (b ∷ bs) = suc (size b) + definition_sizes bs

abbrev pub program_size : Program → ℕ
program_size S = definition_sizes S.definitions + size S.main

-- Commands by purpose: none; or only where the rewritten run allows them, with at most 1,024 records besides them and their arguments.
abbrev pub Commands : Purpose → Program → Type 0
Commands Checking S = BareProgram S
Commands Rewriting S = BareProgram S
Commands PlainRun S = BareProgram S
Commands RewrittenRun S = PlacedCode (codebase S) × Bare S.main × (program_size S ≤ 1024)

pub record WellFormed (u : Purpose) (S : Program) : Type 0 where
  pub few : length S.definitions ≤ 128
  pub short : program_records S ≤ most_records u
  pub body_ranges : (b : Term) → Memᴰ b S.definitions → InRanges b
  pub main_ranges : InRanges S.main
  pub body_scoped : (b : Term) → Memᴰ b S.definitions → Scoped 1 b
  pub main_scoped : Scoped 0 S.main
  pub body_defined : (b : Term) → Memᴰ b S.definitions → Defined (codebase S) b
  pub main_defined : Defined (codebase S) S.main
  pub commands : Commands u S
