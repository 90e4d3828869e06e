-- Execution traces of Λcall, and what they say in first-order logic (source document 000, 4.1). Assumes nothing.
use Rattle.std.specs.Prelude.{◌⊎◌, ◌≡◌, ℕ, T}
use Rattle.std.proofs.Math.Option.{some}
use Rattle.calculus.specs.Term as Terms
use Rattle.calculus.specs.Term.{Term, is_value}
use Rattle.calculus.specs.Term.Term.{fun, lam, app}
use Rattle.calculus.specs.Step.{Event}
use Rattle.calculus.specs.Rules as Rules
use Rattle.calculus.specs.Rules.{plug, Reduces}

-- "An execution trace τ is a sequence of configurations": κ_0 … κ_n.
pub data Sequence (S : Type 0) : Type 0 where
  alone : S → Sequence S
  then : Sequence S → S → Sequence S

module _ {S : Type 0} where
  -- κ_0
  abbrev pub first : Sequence S → S
  first (alone κ) = κ
  first (then τ κ) = first τ

  -- κ_n
  abbrev pub last : Sequence S → S
  last (alone κ) = κ
  last (then τ κ) = κ

-- κ ::= (e, n, C). "The codebase does not change during program execution", so it stands beside the trace.
pub record Configuration : Type 0 where
  pub expr : Term
  pub time : ℕ

-- "p ⇓ τ if and only if κ_0 = (e, 0, C) and for all i ∈ 1..n we have κ_{i−1} → κ_i."
pub data Traces (C : Terms.Codebase) (e : Term) : Sequence Configuration → Type 0 where
  start : {κ : Configuration} → κ.expr ≡ e → κ.time ≡ 0 → Traces C e (alone κ)
  onward : {τ : Sequence Configuration} {κ : Configuration} {ev : Event} → Traces C e τ → Reduces C (last τ).expr (last τ).time ev κ.expr κ.time → Traces C e (then τ κ)

-- "We posit predicates Call, App, Value, Context, and Codebase to logically denote run time entities."
pub data Fact : Type 0 where
  Value : ℕ → Term → Fact
  Call : ℕ → ℕ → Term → Fact
  App : ℕ → Term → Term → Fact
  Context : ℕ → Rules.Context → Fact
  Codebase : ℕ → ℕ → Term → Fact

-- toFOL(κ), by cases: a value, E[f v], E[(λx. e) v], each with ⟨C⟩_n.
pub data Says (C : Terms.Codebase) (κ : Configuration) : Fact → Type 0 where
  value : T (is_value κ.expr) → Says C κ (Value κ.time κ.expr)
  call : {f : ℕ} {v : Term} (E : Rules.Context) → T (is_value v) → κ.expr ≡ plug E (app (fun f) v) → Says C κ (Call κ.time f v)
  application : {l : ℕ} {e v : Term} (E : Rules.Context) → T (is_value v) → κ.expr ≡ plug E (app (lam l e) v) → Says C κ (App κ.time (lam l e) v)
  call_context : (E : Rules.Context) (f : ℕ) (v : Term) → T (is_value v) → κ.expr ≡ plug E (app (fun f) v) → Says C κ (Context κ.time E)
  application_context : (E : Rules.Context) (l : ℕ) (e v : Term) → T (is_value v) → κ.expr ≡ plug E (app (lam l e) v) → Says C κ (Context κ.time E)
  code : {f : ℕ} {e : Term} → C f ≡ some e → Says C κ (Codebase κ.time f e)

-- "toFOL(σ) = toFOL(κ_0) ∪ ⋯ ∪ toFOL(κ_n), for σ = κ_0 … κ_n". The paper's union over the prefixes of a trace is this where the trace is
-- finite, as that of a run with a budget is.
abbrev pub ToFol : Terms.Codebase → Sequence Configuration → Fact → Type 0
ToFol C (alone κ) φ = Says C κ φ
ToFol C (then τ κ) φ = ToFol C τ φ ⊎ Says C κ φ
