-- Soundness and completeness of rewriting (Theorem 5 of source document 000, 4 of 002): as printed, and the form that holds. Assumes nothing.
use mathlib.Core.List.{List, Memᴰ}
use Rattle.std.specs.Prelude.{◌↔◌, ◌≡◌, ◌<◌}
use Rattle.calculus.specs.Term.{Term, Codebase, Program, codebase, view}
use Rattle.calculus.specs.Guideline.{Guideline}
use Rattle.calculus.specs.Entailment.{Entry, Entails}
use Rattle.calculus.specs.Rewriting.{rewrite}
use Rattle.calculus.specs.Trace.{Sequence, Configuration, Traces, Fact, ToFol, last}
use Rattle.calculus.specs.Log.{Conf}
use Rattle.calculus.specs.LogRules.{LogTraces}
use Rattle.calculus.specs.Correspondence.{Corresponds}

-- X ∪ X_Guidelines ⊢ LoggedCall(t, f, v). The body of Definition 9 begins with Call(t_0, f, x_0), so the call itself has to be in X; the rest of
-- that body is `Entails`. The rules Log and NoLog ask for the rest alone: a rewritten body's emit comes right after its callEvent, when the
-- call is in X.
abbrev pub Derives : Guideline → List Entry → Entry → Type 0
Derives G X x = Memᴰ x X × Entails G X x

-- toFOL(τ) says Call(t, f, v), and v has that view.
pub record Said (C : Codebase) (τ : Sequence Configuration) (x : Entry) : Type 0 where
  pub argument : Term
  pub says : ToFol C τ (Fact.Call x.time x.function argument)
  pub seen : x.seen ≡ view argument

-- K lists the calls of which P is true.
abbrev pub Lists : (Entry → Type 0) → List Entry → Type 0
Lists P K = (x : Entry) → Memᴰ x K ↔ P x

-- ---- as printed

-- Definitions 5 and 2: "for all 𝕃 ∈ simlogs(R(p, LS), τ)", the logs of the target's traces τ' with τ :≈ τ', what 𝕃 holds is in LS(τ), …
abbrev pub Sound : Guideline → Program → Type 0
Sound G S =
    (τ : Sequence Configuration) (τ' : Sequence Conf) → Traces (codebase S) S.main τ → LogTraces G (codebase (rewrite G S)) S.main τ' → Corresponds τ τ'
    → (K : List Entry) → Lists (Said (codebase S) τ) K → (x : Entry) → Memᴰ x (last τ').state.log → Derives G K x

-- … and 𝕃 holds what is in LS(τ).
abbrev pub Complete : Guideline → Program → Type 0
Complete G S =
    (τ : Sequence Configuration) (τ' : Sequence Conf) → Traces (codebase S) S.main τ → LogTraces G (codebase (rewrite G S)) S.main τ' → Corresponds τ τ'
    → (K : List Entry) → Lists (Said (codebase S) τ) K → (x : Entry) → Derives G K x → Memᴰ x (last τ').state.log

-- ---- the form that holds

-- A call that the source made on its trace: at a time before the trace's last. toFOL(τ) also says the call that τ's last configuration is about
-- to make, of which no log can know yet.
abbrev pub Made : Codebase → Sequence Configuration → Entry → Type 0
Made C τ x = Said C τ x × (x.time < (last τ).time)

-- The target has come to the same expression in as many steps of Λcall. Definition 10 compares expressions alone, so that a program that
-- comes back to an expression has traces that correspond and are any number of calls apart.
pub record InStep (τ : Sequence Configuration) (τ' : Sequence Conf) : Type 0 where
  pub expression : (last τ).expr ≡ (last τ').expr
  pub time : (last τ).time ≡ (last τ').state.time

-- Every trace of the source has one of the target in step with it; and of any two in step, the log holds exactly what the guideline with the
-- calls made on the source's trace entails.
pub record SoundComplete (G : Guideline) (S : Program) : Type 0 where
  pub simulated : (τ : Sequence Configuration) → Traces (codebase S) S.main τ → (τ' : Sequence Conf) × LogTraces G (codebase (rewrite G S)) S.main τ' × InStep τ τ'
  pub listed : (τ : Sequence Configuration) → Traces (codebase S) S.main τ → (K : List Entry) × Lists (Made (codebase S) τ) K
  pub log :
      (τ : Sequence Configuration) (τ' : Sequence Conf) → Traces (codebase S) S.main τ → LogTraces G (codebase (rewrite G S)) S.main τ' → InStep τ τ'
      → (K : List Entry) → Lists (Made (codebase S) τ) K → (x : Entry) → Memᴰ x (last τ').state.log ↔ Derives G K x
