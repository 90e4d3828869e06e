-- Correspondence of traces, and rewriting that preserves semantics (Definitions 10 and 4 of source document 000, 12 and 5 of 002). Assumes
-- nothing.
use Rattle.std.specs.Prelude.{◌≡◌, ℕ}
use Rattle.calculus.specs.Term.{Term, Program, codebase}
use Rattle.calculus.specs.Term.Term.{call_event, emit}
use Rattle.calculus.specs.Rules.{Context, plug}
use Rattle.calculus.specs.Guideline.{Guideline}
use Rattle.calculus.specs.Rewriting.{rewrite}
use Rattle.calculus.specs.Trace.{Sequence, Configuration, Traces, first, last}
use Rattle.calculus.specs.Trace.Sequence.{then}
use Rattle.calculus.specs.Log.{Conf}
use Rattle.calculus.specs.LogRules.{LogTraces}

-- The three cases of Definition 10, for the source's last expression e_m: "e_m = e'_n", "e_m = e'_{n−1} and e'_n = callEvent(f, v); e'", and
-- "e_m = e'_{n−2} and e'_n = emit(f, v); e'", "for some expressions f, v, and e'". The paper writes the last two without the context E
-- around the command, so that no trace would correspond to the target's trace up to a command inside a context.
pub data Ends (e : Term) : Sequence Conf → Type 0 where
  same : {τ : Sequence Conf} → e ≡ (last τ).expr → Ends e τ
  noting : {τ : Sequence Conf} {κ : Conf} (E : Context) (f : ℕ) (v e' : Term) → e ≡ (last τ).expr → κ.expr ≡ plug E (call_event f v e') → Ends e (then τ κ)
  emitting : {τ : Sequence Conf} {κ κ' : Conf} (E : Context) (f : ℕ) (v e' : Term) → e ≡ (last τ).expr → κ'.expr ≡ plug E (emit f v e') → Ends e (then (then τ κ) κ')

-- Definition 10: "τ :≈ τ' iff e_0 = e'_0 and either" of the three.
pub record Corresponds (τ : Sequence Configuration) (τ' : Sequence Conf) : Type 0 where
  pub begins : (first τ).expr ≡ (first τ').expr
  pub ends : Ends (last τ).expr τ'

-- Definition 4, for rewriting: "(1) For all traces τ such that p ⇓ τ there exists τ' with τ :≈ τ' and R(p, LS) ⇓ τ'. (2) For all traces τ
-- such that R(p, LS) ⇓ τ there exists a trace τ' such that τ' :≈ τ and p ⇓ τ'."
pub record SemanticsPreserving (G : Guideline) (S : Program) : Type 0 where
  pub forth : (τ : Sequence Configuration) → Traces (codebase S) S.main τ → (τ' : Sequence Conf) × Corresponds τ τ' × LogTraces G (codebase (rewrite G S)) (rewrite G S).main τ'
  pub back : (τ : Sequence Conf) → LogTraces G (codebase (rewrite G S)) (rewrite G S).main τ → (τ' : Sequence Configuration) × Corresponds τ' τ × Traces (codebase S) S.main τ'
