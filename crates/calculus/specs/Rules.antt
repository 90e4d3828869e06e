-- The small-step semantics of Λcall, rule by rule (source document 000, 4.1), with the house's sums and branches. Assumes nothing.
use Rattle.std.proofs.Math.Option.{some}
use Rattle.std.specs.Prelude.{◌≡◌, ℕ, suc, ◌+◌, ◌≤◌, ◌<◌, T}
use Rattle.calculus.specs.Term.{Term, Codebase, is_value}
use Rattle.calculus.specs.Term.Term.{fun, con, lam, app, sum, branch}
use Rattle.calculus.specs.Substitution.{substitute}
use Rattle.calculus.specs.Step.{Event, greatest}
use Rattle.calculus.specs.Step.Event.{quiet, calls}

-- E ::= [] | E e | v E, and for sums and branches: E + e | v + E | branch E e e
pub data Context : Type 0 where
  [] : Context
  applied : Context → Term → Context
  argument : (v : Term) → T (is_value v) → Context → Context
  augend : Context → Term → Context
  addend : (v : Term) → T (is_value v) → Context → Context
  condition : Context → Term → Term → Context

-- E[e]
unfoldable pub plug : Context → Term → Term
plug [] e = e
plug (applied E b) e = app (plug E e) b
plug (argument v p E) e = app v (plug E e)
plug (augend E b) e = sum (plug E e) b
plug (addend v p E) e = sum v (plug E e)
plug (condition E a b) e = branch (plug E e) a b

-- (e, n, C) → (e', n', C). The event says what toFOL says of the step's redex: Call(n, f, v), or App, which no guideline names.
pub data Reduces (C : Codebase) : Term → ℕ → Event → Term → ℕ → Type 0 where
  β : {l n : ℕ} {e v e' : Term} → T (is_value v) → e' ≡ substitute 0 v e → Reduces C (app (lam l e) v) n quiet e' (suc n)
  βCall : {f n : ℕ} {e v e' : Term} → T (is_value v) → C f ≡ some e → e' ≡ substitute 0 v e → Reduces C (app (fun f) v) n (calls f v) e' (suc n)
  add : {i j n : ℕ} {e' : Term} → i + j ≤ greatest → e' ≡ con (i + j) → Reduces C (sum (con i) (con j)) n quiet e' (suc n)
  second : {n : ℕ} {a b e' : Term} → e' ≡ a → Reduces C (branch (con 0) a b) n quiet e' (suc n)
  third : {i n : ℕ} {a b e' : Term} → e' ≡ b → Reduces C (branch (con (suc i)) a b) n quiet e' (suc n)
  context : {n n' : ℕ} {ev : Event} {e e' a a' : Term} (E : Context) → Reduces C e n ev e' n' → a ≡ plug E e → a' ≡ plug E e' → Reduces C a n ev a' n'

-- What no rule begins on though its parts are worked out: "a constant in function position"; a sum "on any other value or a sum above
-- 4,294,967,295"; a branch on no constant.
pub data Blocked : Term → Type 0 where
  applied : {n : ℕ} {v : Term} → T (is_value v) → Blocked (app (con n) v)
  added : {a b : Term} → T (is_value a) → T (is_value b) → ((i j : ℕ) → a ≡ con i → b ≡ con j → greatest < i + j) → Blocked (sum a b)
  chosen : {c a b : Term} → T (is_value c) → ((n : ℕ) → c ≡ con n → ⊥) → Blocked (branch c a b)
