-- The commands due at the redex and the rewritten run, by the paper's rules, which are deterministic. Assumes nothing.
use mathlib.Core.Bool.{Bool, true, false, cond}
use mathlib.Core.Logic.{◌⊎◌, inl, inr}
use mathlib.Core.Path.{◌≡◌, refl, sym, ap, ap₂, ◌∙◌}
use native.Mathlib.Omega.{arith}
use Prim.Native.Nat.{ℕ, zero, suc}
use lib.Dec.{T, leb}
use Rattle.calculus.specs.Term.{Term, Codebase, ClosedCode, ClosedTerm, is_value, size}
use Rattle.calculus.specs.Term.Term.{var, fun, con, lam, app, call_event, emit, sum, branch}
use Rattle.calculus.specs.Step.{Event, Next, step}
use Rattle.calculus.specs.Step.Event.{quiet}
use Rattle.calculus.specs.Step.Next.{at_value, at_stuck, next}
use Rattle.calculus.specs.Rules.{Context, plug, Reduces}
use Rattle.calculus.specs.Rules.Context.{[], applied, argument, augend, addend, condition}
use Rattle.calculus.specs.Guideline.{Guideline, Safe}
use Rattle.calculus.specs.Entailment.{Entails, entails?}
use Rattle.calculus.specs.Run.{Outcome, Tick, run, ended, onward, limit}
use Rattle.calculus.specs.Run.Tick.{halt, stop, go}
use Rattle.calculus.specs.Log.{Conf, State, at, triple, note_call, add_entry, emit_call, tick, settle, first_settled, is_full, log_next, log_tick, logged, fresh}
use Rattle.calculus.specs.Trace.{Sequence, last}
use Rattle.calculus.specs.Trace.Sequence.{alone, then}
use Rattle.calculus.specs.LogRules.{Runs, LogTraces}
use Rattle.calculus.specs.LogRules.Runs.{Λcall, Precondition, Log, NoLog, context}
use Rattle.calculus.proofs.Lists.{true-T, false-T}
use Rattle.calculus.proofs.Entailment.{entails-decides}
use Rattle.calculus.proofs.Rules.{step-reduces, Apart, apart, apart-here, apart-within, Computes, apart-computes, becomes-ready, becomes-unique, ready-unique, reduces-time}
use Rattle.calculus.proofs.Rules.Becomes.{noted, emitted}
use Rattle.calculus.proofs.Scope.{step-closed}

-- ---- any number of steps

-- Any number of steps of Λlog.
pub data Runs∗ (G : Guideline) (C : Codebase) (κ : Conf) : Conf → Type 0 where
  none : {κ' : Conf} → κ' ≡ κ → Runs∗ G C κ κ'
  more : {κ' κ'' : Conf} → Runs∗ G C κ κ' → Runs G C κ' κ'' → Runs∗ G C κ κ''

module _ (G : Guideline) (C : Codebase) where
  -- Some steps and then some more.
  pub then_runs : {κ κ' κ'' : Conf} → Runs∗ G C κ κ' → Runs∗ G C κ' κ'' → Runs∗ G C κ κ''
  then_runs r (none e) = rw e r
  then_runs r (more s one) = more (then_runs r s) one

  -- Steps in a context.
  pub context-runs : (E : Context) {κ κ' : Conf} → Runs∗ G C κ κ' → Runs∗ G C (at (plug E κ.expr) κ.state) (at (plug E κ'.expr) κ'.state)
  context-runs E (none e) = none (ap (λ (κ : Conf). at (plug E κ.expr) κ.state) e)
  context-runs E (more r one) = more (context-runs E r) (context E one refl refl)

  -- A trace goes on by them.
  pub trace-runs : {e : Term} (τ : Sequence Conf) {κ : Conf} → LogTraces G C e τ → Runs∗ G C (last τ) κ → (τ' : Sequence Conf) × LogTraces G C e τ' × (last τ' ≡ κ)
  trace-runs τ t (none h) = (τ, t, sym h)
  trace-runs τ {κ = κ} t (more r one) = let (τ', t', h) = trace-runs τ t r in (then τ' κ, LogTraces.onward {κ = κ} t' (rw h one), refl)

-- ---- the commands due

module _ (G : Guideline) (safe : Safe G) (C : Codebase) where
  -- Emitting is going by the rule Log or NoLog.
  pub emit-runs : (f : ℕ) (a r : Term) (s : State) → Runs G C (at (emit f a r) s) (at r (emit_call G f a s))
  unfolding emit_call
  emit-runs f a r s = on (entails? G s.history (triple f a s)) refl
    where
      on : (b : Bool) → entails? G s.history (triple f a s) ≡ b → Runs G C (at (emit f a r) s) (at r (cond b (add_entry (triple f a s) s) s))
      on true e = Log ((entails-decides G safe s.history (triple f a s)).0 (true-T (entails? G s.history (triple f a s)) e))
      on false e = NoLog (λ h. false-T (entails? G s.history (triple f a s)) e ((entails-decides G safe s.history (triple f a s)).1 h))

  -- Doing the commands due is going by the rules Precondition, Log and NoLog …
  pub settle-runs : (e : Term) (s : State) → Runs∗ G C (at e s) (settle G e s)
  unfolding settle plug
  settle-runs (var i) s = none refl
  settle-runs (fun f) s = none refl
  settle-runs (con n) s = none refl
  settle-runs (lam l b) s = none refl
  settle-runs (app a b) s = on (settle G a s) (settle-runs a s) (λ s'. settle-runs b s')
    where
      on : (κ : Conf) → Runs∗ G C (at a s) κ → ((s' : State) → Runs∗ G C (at b s') (settle G b s')) → Runs∗ G C (at (app a b) s) (first_settled app b (λ s'. settle G b s') (is_value κ.expr) κ)
      on κ r below = on_value (is_value κ.expr) refl
        where
          on_value : (x : Bool) → is_value κ.expr ≡ x → Runs∗ G C (at (app a b) s) (first_settled app b (λ s'. settle G b s') x κ)
          on_value false e = context-runs G C (applied [] b) r
          on_value true e = then_runs G C (context-runs G C (applied [] b) r) (context-runs G C (argument κ.expr (true-T (is_value κ.expr) e) []) (below κ.state))
  settle-runs (call_event f a r) s = then_runs G C (more (none refl) Precondition) (settle-runs r (note_call f a s))
  settle-runs (emit f a r) s = then_runs G C (more (none refl) (emit-runs f a r s)) (settle-runs r (emit_call G f a s))
  settle-runs (sum a b) s = on (settle G a s) (settle-runs a s) (λ s'. settle-runs b s')
    where
      on : (κ : Conf) → Runs∗ G C (at a s) κ → ((s' : State) → Runs∗ G C (at b s') (settle G b s')) → Runs∗ G C (at (sum a b) s) (first_settled sum b (λ s'. settle G b s') (is_value κ.expr) κ)
      on κ r below = on_value (is_value κ.expr) refl
        where
          on_value : (x : Bool) → is_value κ.expr ≡ x → Runs∗ G C (at (sum a b) s) (first_settled sum b (λ s'. settle G b s') x κ)
          on_value false e = context-runs G C (augend [] b) r
          on_value true e = then_runs G C (context-runs G C (augend [] b) r) (context-runs G C (addend κ.expr (true-T (is_value κ.expr) e) []) (below κ.state))
  settle-runs (branch c a b) s = context-runs G C (condition [] a b) (settle-runs c s)

-- No command is due in the term.
abbrev Settled : Term → Type 0
Settled (var i) = Unit {0}
Settled (fun f) = Unit {0}
Settled (con n) = Unit {0}
Settled (lam l b) = Unit {0}
Settled (app a b) = Settled a × (T (is_value a) → Settled b)
Settled (call_event f a r) = ⊥
Settled (emit f a r) = ⊥
Settled (sum a b) = Settled a × (T (is_value a) → Settled b)
Settled (branch c a b) = Settled c

settle-settled : (G : Guideline) (e : Term) (s : State) → Settled (settle G e s).expr
unfolding settle
settle-settled G (var i) s = tt
settle-settled G (fun f) s = tt
settle-settled G (con n) s = tt
settle-settled G (lam l b) s = tt
settle-settled G (app a b) s = on (settle G a s) (settle-settled G a s) (λ s'. settle-settled G b s')
  where
    on : (κ : Conf) → Settled κ.expr → ((s' : State) → Settled (settle G b s').expr) → Settled (first_settled app b (λ s'. settle G b s') (is_value κ.expr) κ).expr
    on κ h below = on_value (is_value κ.expr) refl
      where
        on_value : (x : Bool) → is_value κ.expr ≡ x → Settled (first_settled app b (λ s'. settle G b s') x κ).expr
        on_value false e = (h, λ t. absurd (false-T (is_value κ.expr) e t))
        on_value true e = (h, λ t. below κ.state)
settle-settled G (call_event f a r) s = settle-settled G r (note_call f a s)
settle-settled G (emit f a r) s = settle-settled G r (emit_call G f a s)
settle-settled G (sum a b) s = on (settle G a s) (settle-settled G a s) (λ s'. settle-settled G b s')
  where
    on : (κ : Conf) → Settled κ.expr → ((s' : State) → Settled (settle G b s').expr) → Settled (first_settled sum b (λ s'. settle G b s') (is_value κ.expr) κ).expr
    on κ h below = on_value (is_value κ.expr) refl
      where
        on_value : (x : Bool) → is_value κ.expr ≡ x → Settled (first_settled sum b (λ s'. settle G b s') x κ).expr
        on_value false e = (h, λ t. absurd (false-T (is_value κ.expr) e t))
        on_value true e = (h, λ t. below κ.state)
settle-settled G (branch c a b) s = settle-settled G c s

inner-settled : (E : Context) (e : Term) → Settled (plug E e) → Settled e
unfolding plug
inner-settled [] e h = h
inner-settled (applied E b) e h = inner-settled E e h.0
inner-settled (argument v p E) e h = inner-settled E e (h.1 p)
inner-settled (augend E b) e h = inner-settled E e h.0
inner-settled (addend v p E) e h = inner-settled E e (h.1 p)
inner-settled (condition E a b) e h = inner-settled E e h

-- … until none is due.
pub settled : (G : Guideline) (e : Term) (s : State) (E : Context) (f : ℕ) (a r : Term) → ((settle G e s).expr ≡ plug E (call_event f a r) → ⊥) × ((settle G e s).expr ≡ plug E (emit f a r) → ⊥)
settled G e s E f a r = (
  λ q. inner-settled E (call_event f a r) (rw q at (settle-settled G e s)),
  λ q. inner-settled E (emit f a r) (rw q at (settle-settled G e s)),
)

-- ---- the rewritten run

module _ (C : Codebase) where
  app-closed : {a b : Term} → ClosedTerm C a → ClosedTerm C b → ClosedTerm C (app a b)
  app-closed p q = record { scoped = (p.scoped, q.scoped); defined = (p.defined, q.defined) }

  sum-closed : {a b : Term} → ClosedTerm C a → ClosedTerm C b → ClosedTerm C (sum a b)
  sum-closed p q = record { scoped = (p.scoped, q.scoped); defined = (p.defined, q.defined) }

-- Doing commands keeps an expression closed.
settle-closed : (G : Guideline) (C : Codebase) (e : Term) (s : State) → ClosedTerm C e → ClosedTerm C (settle G e s).expr
unfolding settle
settle-closed G C (var i) s h = h
settle-closed G C (fun f) s h = h
settle-closed G C (con n) s h = h
settle-closed G C (lam l b) s h = h
settle-closed G C (app a b) s h =
    on (settle G a s) (settle-closed G C a s record { scoped = h.scoped.0; defined = h.defined.0 })
    (λ s'. settle-closed G C b s' record { scoped = h.scoped.1; defined = h.defined.1 })
  where
    on : (κ : Conf) → ClosedTerm C κ.expr → ((s' : State) → ClosedTerm C (settle G b s').expr) → ClosedTerm C (first_settled app b (λ s'. settle G b s') (is_value κ.expr) κ).expr
    on κ k below = on_value (is_value κ.expr)
      where
        on_value : (x : Bool) → ClosedTerm C (first_settled app b (λ s'. settle G b s') x κ).expr
        on_value false = app-closed C k record { scoped = h.scoped.1; defined = h.defined.1 }
        on_value true = app-closed C k (below κ.state)
settle-closed G C (call_event f a r) s h = settle-closed G C r (note_call f a s) record { scoped = h.scoped.1; defined = h.defined.1 }
settle-closed G C (emit f a r) s h = settle-closed G C r (emit_call G f a s) record { scoped = h.scoped.1; defined = h.defined.1 }
settle-closed G C (sum a b) s h =
    on (settle G a s) (settle-closed G C a s record { scoped = h.scoped.0; defined = h.defined.0 })
    (λ s'. settle-closed G C b s' record { scoped = h.scoped.1; defined = h.defined.1 })
  where
    on : (κ : Conf) → ClosedTerm C κ.expr → ((s' : State) → ClosedTerm C (settle G b s').expr) → ClosedTerm C (first_settled sum b (λ s'. settle G b s') (is_value κ.expr) κ).expr
    on κ k below = on_value (is_value κ.expr)
      where
        on_value : (x : Bool) → ClosedTerm C (first_settled sum b (λ s'. settle G b s') x κ).expr
        on_value false = sum-closed C k record { scoped = h.scoped.1; defined = h.defined.1 }
        on_value true = sum-closed C k (below κ.state)
settle-closed G C (branch c a b) s h =
    let k = settle-closed G C c s record { scoped = h.scoped.0; defined = h.defined.0 } in
    record { scoped = (k.scoped, h.scoped.1, h.scoped.2); defined = (k.defined, h.defined.1, h.defined.2) }

module _ (G : Guideline) (safe : Safe G) (C : Codebase) (closed : ClosedCode C) where
  -- What a tick leads to is reached by the rules, and closed.
  abbrev Reached : Conf → Tick Conf → Type 0
  Reached κ (halt o) = Unit {0}
  Reached κ (stop o) = Unit {0}
  Reached κ (go κ') = Runs∗ G C κ κ' × ClosedTerm C κ'.expr

  tick-reached : (κ : Conf) → ClosedTerm C κ.expr → Reached κ (log_tick G C κ)
  unfolding log_tick
  tick-reached κ h = on (step C κ.expr) refl
    where
      moved : (ev : Event) (e : Term) → step C κ.expr ≡ next ev e → (x y : Bool) → Reached κ (cond x (cond y (stop Outcome.full) (go (settle G e (tick κ.state)))) (stop Outcome.large))
      moved ev e q true true = tt
      moved ev e q true false = (
        then_runs G C (more (none refl) (Λcall ((step-reduces C closed κ.expr e ev κ.state.time (suc κ.state.time) h).1 (q, refl)) refl refl)) (settle-runs G safe C e (tick κ.state)),
        settle-closed G C e (tick κ.state) (step-closed C closed κ.expr e ev h q),
      )
      moved ev e q false y = tt

      on : (x : Next) → step C κ.expr ≡ x → Reached κ (log_next G C κ x)
      on at_value q = tt
      on at_stuck q = tt
      on (next ev e) q = moved ev e q (leb (size e) limit) (is_full C κ.state ev)

  on-reached : (n : ℕ) (κ : Conf) → ClosedTerm C κ.expr → Runs∗ G C κ (run (log_tick G C) n κ).last
  unfolding run
  on-reached zero κ h = on (log_tick G C κ)
    where
      on : (x : Tick Conf) → Runs∗ G C κ (ended κ x).last
      on (halt o) = none refl
      on (stop o) = none refl
      on (go κ') = none refl
  on-reached (suc n) κ h = on (log_tick G C κ) (tick-reached κ h) (λ κ' k. on-reached n κ' k)
    where
      on : (x : Tick Conf) → Reached κ x → ((κ' : Conf) → ClosedTerm C κ'.expr → Runs∗ G C κ' (run (log_tick G C) n κ').last) → Runs∗ G C κ (onward κ (λ κ'. run (log_tick G C) n κ') x).last
      on (halt o) r below = none refl
      on (stop o) r below = none refl
      on (go κ') r below = then_runs G C r.0 (below κ' r.1)

  -- A rewritten run is a trace by the paper's rules: one that ends on the run's last configuration.
  pub run-runs : (e : Term) → ClosedTerm C e → (n : ℕ) → (τ : Sequence Conf) × LogTraces G C e τ × (last τ ≡ (logged G C n e).last)
  unfolding logged
  run-runs e h n = trace-runs G C (alone (at e fresh)) (LogTraces.start refl) (then_runs G C (settle-runs G safe C e fresh) (on-reached n (settle G e fresh) (settle-closed G C e fresh h)))

-- ---- the rules are deterministic

-- What a rule other than Context does to the state, by what it begins on.
abbrev pub Changes : Guideline → Term → State → State → Type 0
Changes G (var i) s s' = ⊥
Changes G (fun f) s s' = ⊥
Changes G (con n) s s' = ⊥
Changes G (lam l b) s s' = ⊥
Changes G (app a b) s s' = s' ≡ tick s
Changes G (sum a b) s s' = s' ≡ tick s
Changes G (branch c a b) s s' = s' ≡ tick s
Changes G (call_event f v r) s s' = s' ≡ note_call f v s
Changes G (emit f v r) s s' = (Entails G s.history (triple f v s) × (s' ≡ add_entry (triple f v s) s)) ⊎ ((Entails G s.history (triple f v s) → ⊥) × (s' ≡ s))

-- It does one thing to it: Log and NoLog exclude each other.
changes-unique : (G : Guideline) (m : Term) (s s' s'' : State) → Changes G m s s' → Changes G m s s'' → s' ≡ s''
changes-unique G (var i) s s' s'' c c' = absurd c
changes-unique G (fun f) s s' s'' c c' = absurd c
changes-unique G (con n) s s' s'' c c' = absurd c
changes-unique G (lam l b) s s' s'' c c' = absurd c
changes-unique G (app a b) s s' s'' c c' = c ∙ sym c'
changes-unique G (sum a b) s s' s'' c c' = c ∙ sym c'
changes-unique G (branch d a b) s s' s'' c c' = c ∙ sym c'
changes-unique G (call_event f v r) s s' s'' c c' = c ∙ sym c'
changes-unique G (emit f v r) s s' s'' (inl (h, c)) (inl (h', c')) = c ∙ sym c'
changes-unique G (emit f v r) s s' s'' (inl (h, c)) (inr (h', c')) = absurd (h' h)
changes-unique G (emit f v r) s s' s'' (inr (h, c)) (inl (h', c')) = absurd (h h')
changes-unique G (emit f v r) s s' s'' (inr (h, c)) (inr (h', c')) = c ∙ sym c'

-- What a step of Λcall begins on changes the time alone.
computes-changes : (G : Guideline) (m : Term) {s s' : State} → Computes m → s' ≡ tick s → Changes G m s s'
computes-changes G (var i) p h = absurd p
computes-changes G (fun f) p h = absurd p
computes-changes G (con n) p h = absurd p
computes-changes G (lam l b) p h = absurd p
computes-changes G (app a b) p h = h
computes-changes G (call_event f v r) p h = absurd p
computes-changes G (emit f v r) p h = absurd p
computes-changes G (sum a b) p h = h
computes-changes G (branch c a b) p h = h

-- A step of Λcall costs one unit of time and keeps history and log.
call-changes : (G : Guideline) {C : Codebase} {e e' : Term} {ev : Event} {s s' : State} (r : Reduces C e s.time ev e' s'.time) → s'.history ≡ s.history → s'.log ≡ s.log → Changes G (apart r).hole s s'
call-changes G r h k = let t = reduces-time r in computes-changes G (apart r).hole (apart-computes r) (λ i. record { history = h i; time = t i; log = k i })

-- A step of Λlog taken apart, with what it does to the state.
pub log-apart : {G : Guideline} {C : Codebase} {κ κ' : Conf} → Runs G C κ κ' → (ev : Event) × (d : Apart C κ.expr ev κ'.expr) × Changes G d.hole κ.state κ'.state
unfolding apart-here apart-within
log-apart {G} (Λcall {ev = ev} r h k) = (ev, apart r, call-changes G r h k)
log-apart Precondition = (quiet, apart-here noted, refl)
log-apart (Log h) = (quiet, apart-here emitted, inl (h, refl))
log-apart (NoLog h) = (quiet, apart-here emitted, inr (h, refl))
log-apart (context E r h h') = let (ev, d, c) = log-apart r in (ev, apart-within E h h' d, c)

-- The rules of Λlog are deterministic; with `run-runs` this pins the rewritten run.
pub log-deterministic : {G : Guideline} {C : Codebase} {κ κ' κ'' : Conf} → Runs G C κ κ' → Runs G C κ κ'' → κ' ≡ κ''
log-deterministic {G} {κ = κ} {κ' = κ'} {κ'' = κ''} r r' =
    let (ev, d, c) = log-apart r in
    let (ev', d', c') = log-apart r' in
    let (x, y) = ready-unique d.around d'.around d.hole d'.hole (becomes-ready d.becomes) (becomes-ready d'.becomes) (sym d.before ∙ d'.before) in
    let e : κ'.expr ≡ κ''.expr = d.after ∙ ap₂ plug x (becomes-unique (rw y at d.becomes) d'.becomes).1 ∙ sym d'.after in
    let s : κ'.state ≡ κ''.state = changes-unique G d.hole κ.state κ'.state κ''.state c (rw y c') in
    λ i. at (e i) (s i)

-- The count of a trace's steps.
abbrev pub steps : Sequence Conf → ℕ
steps (alone κ) = 0
steps (then τ κ) = suc (steps τ)

-- So a program has one trace of each length, among them the one that `run-runs` gives.
pub log-trace-unique : {G : Guideline} {C : Codebase} {e : Term} {τ τ' : Sequence Conf} → LogTraces G C e τ → LogTraces G C e τ' → steps τ ≡ steps τ' → τ ≡ τ'
log-trace-unique (LogTraces.start h) (LogTraces.start h') q = ap alone (h ∙ sym h')
log-trace-unique (LogTraces.start h) (LogTraces.onward t r) q = absurd (omega arith)
log-trace-unique (LogTraces.onward t r) (LogTraces.start h) q = absurd (omega arith)
log-trace-unique (LogTraces.onward t r) (LogTraces.onward t' r') q =
    let h = log-trace-unique t t' (omega arith) in
    ap₂ then h (log-deterministic (rw (ap last h) at r) r')
