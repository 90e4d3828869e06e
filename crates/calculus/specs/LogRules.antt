-- The small-step semantics of Λlog, rule by rule, and its execution traces (source document 000, 4.3). Assumes nothing.
use Rattle.std.specs.Prelude.{◌≡◌, ℕ}
use Rattle.calculus.specs.Term.{Term, Codebase}
use Rattle.calculus.specs.Term.Term.{call_event, emit}
use Rattle.calculus.specs.Step.{Event}
use Rattle.calculus.specs.Rules.{Context, plug, Reduces}
use Rattle.calculus.specs.Guideline.{Guideline}
use Rattle.calculus.specs.Entailment.{Entails}
use Rattle.calculus.specs.Trace.{Sequence, last}
use Rattle.calculus.specs.Trace.Sequence.{alone, then}
use Rattle.calculus.specs.Log.{Conf, State, at, triple, note_call, add_entry, fresh}

-- (e, X, n, 𝕃, C) → (e', X', n', 𝕃', C). "The semantics of Λlog extends the semantics of Λcall": a step of Λcall keeps X and 𝕃. The triple
-- is Call(n − 1, f, v), or LoggedCall(n − 1, f, v) in the log, with v's view.
pub data Runs (G : Guideline) (C : Codebase) : Conf → Conf → Type 0 where
  Λcall : {e e' : Term} {ev : Event} {s s' : State} → Reduces C e s.time ev e' s'.time → s'.history ≡ s.history → s'.log ≡ s.log → Runs G C (at e s) (at e' s')
  Precondition : {f : ℕ} {v e : Term} {s : State} → Runs G C (at (call_event f v e) s) (at e (note_call f v s))
  Log : {f : ℕ} {v e : Term} {s : State} → Entails G s.history (triple f v s) → Runs G C (at (emit f v e) s) (at e (add_entry (triple f v s) s))
  NoLog : {f : ℕ} {v e : Term} {s : State} → (Entails G s.history (triple f v s) → ⊥) → Runs G C (at (emit f v e) s) (at e s)
  context : {e e' a a' : Term} {s s' : State} (E : Context) → Runs G C (at e s) (at e' s') → a ≡ plug E e → a' ≡ plug E e' → Runs G C (at a s) (at a' s')

-- "For a target language program p = (e, C) and execution trace τ = κ_0 … κ_n we define p ⇓ τ if and only if κ_0 = (e, ∅, 0, ∅, C) and for
-- all i ∈ 1..n we have κ_{i−1} → κ_i."
pub data LogTraces (G : Guideline) (C : Codebase) (e : Term) : Sequence Conf → Type 0 where
  start : {κ : Conf} → κ ≡ at e fresh → LogTraces G C e (alone κ)
  onward : {τ : Sequence Conf} {κ : Conf} → LogTraces G C e τ → Runs G C (last τ) κ → LogTraces G C e (then τ κ)
