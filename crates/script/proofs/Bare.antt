-- A term has no command exactly where none of its records is one. Assumes nothing.
use mathlib.Core.Bool.{true, false, true≢false}
use mathlib.Core.List.{List}
use mathlib.Core.Path.{◌≡◌, sym, ◌∙◌}
use Prim.Native.Nat.{ℕ, ◌+◌, ◌<◌, ◌≤◌}
use native.Mathlib.Omega.{arith}
use borrow.Author.Tests.{le-leb, lt-leb}
use Rattle.calculus.specs.Term.{Term, records, Bare}
use Rattle.calculus.specs.Term.Term.{var, fun, con, lam, app, call_event, emit, sum, branch}
use Rattle.terms.specs.Record.{kind_at}
use Rattle.terms.proofs.Stands.{Stands}
use Rattle.script.specs.Check.{is_command}
use Rattle.script.proofs.Each.{Each}

-- The record is no command.
abbrev pub NoCommand : List ℕ → ℕ → Type 0
NoCommand s k = is_command s k ≡ false

-- Kinds below 6 are no commands, …
pub low-kind : (s : List ℕ) (i : ℕ) → kind_at s i < 6 → NoCommand s i
low-kind s i h = rw (lt-leb 6 (kind_at s i) h)

-- … nor is kind 8, …
pub high-kind : (s : List ℕ) (i : ℕ) → 7 < kind_at s i → NoCommand s i
high-kind s i h = rw (le-leb 6 (kind_at s i) (omega arith), lt-leb (kind_at s i) 7 h)

-- … and kinds 6 and 7 are.
pub command-kind : (s : List ℕ) (i : ℕ) → 6 ≤ kind_at s i → kind_at s i ≤ 7 → is_command s i ≡ true
command-kind s i h g = rw (le-leb 6 (kind_at s i) h, le-leb (kind_at s i) 7 g)

-- So a record of kind 6 or 7 is not none.
pub no-command : (s : List ℕ) (i : ℕ) → 6 ≤ kind_at s i → kind_at s i ≤ 7 → NoCommand s i → ⊥
no-command s i h g e = true≢false (sym (command-kind s i h g) ∙ e)

module _ (s : List ℕ) where
  -- From the records.
  pub bare-from : (i : ℕ) (t : Term) → Stands s i t → Each (NoCommand s) i t → Bare t
  bare-from i (var n) h c = tt
  bare-from i (fun n) h c = tt
  bare-from i (con n) h c = tt
  bare-from i (lam n b) h c = bare-from (i + 1) b h.1 c.1
  bare-from i (app a b) h c = (bare-from (i + 1) a h.1 c.1, bare-from (i + 1 + records a) b h.2 c.2)
  bare-from i (call_event n a r) h c = no-command s i (omega arith) (omega arith) c.0
  bare-from i (emit n a r) h c = no-command s i (omega arith) (omega arith) c.0
  bare-from i (sum a b) h c = (bare-from (i + 1) a h.1 c.1, bare-from (i + 1 + records a) b h.2 c.2)
  bare-from i (branch d a b) h c = (bare-from (i + 1) d h.1 c.1, bare-from (i + 1 + records d) a h.2 c.2, bare-from (i + 1 + records d + records a) b h.3 c.3)

  -- To the records.
  pub bare-into : (i : ℕ) (t : Term) → Stands s i t → Bare t → Each (NoCommand s) i t
  bare-into i (var n) h b = low-kind s i (omega arith)
  bare-into i (fun n) h b = low-kind s i (omega arith)
  bare-into i (con n) h b = low-kind s i (omega arith)
  bare-into i (lam n t) h b = (low-kind s i (omega arith), bare-into (i + 1) t h.1 b)
  bare-into i (app a t) h b = (low-kind s i (omega arith), bare-into (i + 1) a h.1 b.0, bare-into (i + 1 + records a) t h.2 b.1)
  bare-into i (call_event n a r) h b = absurd b
  bare-into i (emit n a r) h b = absurd b
  bare-into i (sum a t) h b = (high-kind s i (omega arith), bare-into (i + 1) a h.1 b.0, bare-into (i + 1 + records a) t h.2 b.1)
  bare-into i (branch c a t) h b =
      (high-kind s i (omega arith), bare-into (i + 1) c h.1 b.0, bare-into (i + 1 + records c) a h.2 b.1, bare-into (i + 1 + records c + records a) t h.3 b.2)
