-- Rewriting is sound and complete over traces of any length (Theorem 5 of source document 000, 4 of 002). Assumes nothing.
use mathlib.Core.List.Memᴰ
use mathlib.Core.List.{List, [], ◌∷◌, Memᴰ}
use mathlib.Core.Logic.{◌↔◌, ◌⊎◌, inl, inr}
use mathlib.Core.Path.{◌≡◌, refl, sym, ap, ap₂, ◌∙◌, subst}
use native.Mathlib.Omega.{arith}
use Prim.Native.Nat.{ℕ, suc, ◌≤◌, ◌<◌}
use Rattle.calculus.specs.Lists.{keep, each}
use Rattle.calculus.specs.Term.{Term, Codebase, Program, codebase, Bare, BareCode, BareProgram}
use Rattle.calculus.specs.Step.{Event}
use Rattle.calculus.specs.Rules.{Reduces}
use Rattle.calculus.specs.Rules.Reduces.{β, βCall, add, second, third, context}
use Rattle.calculus.specs.Guideline.{Guideline, Safe}
use Rattle.calculus.specs.Entailment.{Call, Entry, entry, entails?}
use Rattle.calculus.specs.Rewriting.{rewritten_code}
use Rattle.calculus.specs.Run.{Conf, initial}
use Rattle.calculus.specs.Trace.{Sequence, Configuration, Traces, last}
use Rattle.calculus.specs.Trace.Sequence.{alone, then}
use Rattle.calculus.specs.Log as L
use Rattle.calculus.specs.Log.{at, fresh, tick}
use Rattle.calculus.specs.LogRules.{Runs, LogTraces}
use Rattle.calculus.specs.LogRules.Runs.{Λcall, Precondition, Log, NoLog}
use Rattle.calculus.specs.Claim.{entries}
use Rattle.calculus.specs.Soundness.{Derives, Lists, Made, InStep, SoundComplete}
use Rattle.calculus.proofs.Lists.{keep-from, keep-into, each_from, each-into}
use Rattle.calculus.proofs.Rules.{reduces-time}
use Rattle.calculus.proofs.Entailment.{entails-decides, entails-map}
use Rattle.calculus.proofs.LogRules.{Runs∗, trace-runs, log-deterministic}
use Rattle.calculus.proofs.LogRules.Runs∗.{none, more}
use Rattle.calculus.proofs.Trace.{Traced, traced-start, traced-more}
use Rattle.calculus.proofs.Peel.{book}
use Rattle.calculus.proofs.Image.{image_state, image, Below, book-event}
use Rattle.calculus.proofs.Demand3.{after, entries-after, below-after, rewritten-codebase, codebase-bare}
use Rattle.calculus.proofs.Correspondence.{step-runs, substitute-bare, plug-bare}

-- ---- the source

-- A step brings no command.
reduces-bare : {C : Codebase} → BareCode C → {a a' : Term} {ev : Event} {n n' : ℕ} → Reduces C a n ev a' n' → Bare a → Bare a'
reduces-bare code (β {e = b} {v = v} p h) x = rw h (substitute-bare 0 v b x.1 x.0)
reduces-bare code (βCall {f = f} {e = b} {v = v} p c h) x = rw h (substitute-bare 0 v b x.1 (code f b c))
reduces-bare code (add l h) x = rw h tt
reduces-bare code (second h) x = rw h x.1
reduces-bare code (third h) x = rw h x.2
reduces-bare code (context E r h h') x = let (y, z) = plug-bare E _ (rw h at x) in rw h' (z _ (reduces-bare code r y))

-- The calls that a traced configuration lists are those made on its trace.
listed-made : (C : Codebase) (e : Term) (κ : Conf) (t : Traced C e κ) → Lists (Made C t.trace) (entries κ.made)
listed-made C e κ t y = (into, from)
  where
    into : Memᴰ y (entries κ.made) → Made C t.trace y
    into m =
        let (c, i, j) = each_from (λ d. entry d ∷ []) κ.made m in
        let (l, s) = (t.made c).0 i in
        subst (Made C t.trace) (sym (Memᴰ.eq_of_singleton j)) (record { argument = c.argument; says = s; seen = refl }, l)

    from : Made C t.trace y → Memᴰ y (entries κ.made)
    from (m, l) =
        let c : Call = record { time = y.time; function = y.function; argument = m.argument } in
        each-into (λ d. entry d ∷ []) ((t.made c).1 (l, m.says)) (Memᴰ.head (λ i. record { time = y.time; function = y.function; seen = m.seen i }))

-- ---- the target

module _ {G : Guideline} {C : Codebase} where
  -- Time does not go back, …
  runs-time : {κ κ' : L.Conf} → Runs G C κ κ' → κ.state.time ≤ κ'.state.time
  runs-time (Λcall r h k) = omega (arith, reduces-time r)
  runs-time Precondition = omega arith
  runs-time (Log h) = omega arith
  runs-time (NoLog h) = omega arith
  runs-time (Runs.context E r h h') = runs-time r

  -- … and goes on where no command is due, …
  bare-time : {κ κ' : L.Conf} → Bare κ.expr → Runs G C κ κ' → κ.state.time < κ'.state.time
  bare-time b (Λcall r h k) = omega (arith, reduces-time r)
  bare-time b Precondition = absurd b
  bare-time b (Log h) = absurd b
  bare-time b (NoLog h) = absurd b
  bare-time b (Runs.context {e = m} E r h h') = bare-time (plug-bare E m (rw h at b)).0 r

  -- … so that what is reached from there is later, if it is anything else.
  bare_later : {κ κ' : L.Conf} → Bare κ.expr → Runs∗ G C κ κ' → (κ' ≡ κ) ⊎ (κ.state.time < κ'.state.time)
  bare_later b (none h) = inl h
  bare_later {κ} {κ'} b (more {κ' = κ₁} r one) = on (bare_later b r)
    where
      on : (κ₁ ≡ κ) ⊎ (κ.state.time < κ₁.state.time) → (κ' ≡ κ) ⊎ (κ.state.time < κ'.state.time)
      on (inl h) = inr (bare-time b (rw h at one))
      on (inr l) = inr (omega (arith, runs-time one))

  -- Steps are none, or begin with the one step that there is.
  runs-first : {κ κ₁ κ' : L.Conf} → Runs G C κ κ₁ → Runs∗ G C κ κ' → (κ' ≡ κ) ⊎ Runs∗ G C κ₁ κ'
  runs-first one (none h) = inl h
  runs-first {κ} {κ₁} {κ'} one (more {κ' = κ₂} r next) = on (runs-first one r)
    where
      on : (κ₂ ≡ κ) ⊎ Runs∗ G C κ₁ κ₂ → (κ' ≡ κ) ⊎ Runs∗ G C κ₁ κ'
      on (inl h) = inr (none (log-deterministic (rw h at next) one))
      on (inr s) = inr (more s next)

  -- The steps of a trace.
  trace-steps : {e : Term} {τ : Sequence L.Conf} → LogTraces G C e τ → Runs∗ G C (at e fresh) (last τ)
  trace-steps (LogTraces.start h) = none h
  trace-steps (LogTraces.onward t r) = more (trace-steps t) r

  -- Of two traces one goes on to the other's end.
  traces-line : {e : Term} {τ τ' : Sequence L.Conf} → LogTraces G C e τ → LogTraces G C e τ' → Runs∗ G C (last τ) (last τ') ⊎ Runs∗ G C (last τ') (last τ)
  traces-line (LogTraces.start h) t' = inl (rw h (trace-steps t'))
  traces-line {τ' = τ'} (LogTraces.onward {τ = τ} {κ = κ} t r) t' = on (traces-line t t')
    where
      first : (last τ' ≡ last τ) ⊎ Runs∗ G C κ (last τ') → Runs∗ G C κ (last τ') ⊎ Runs∗ G C (last τ') κ
      first (inl h) = inr (more (none (sym h)) r)
      first (inr s) = inl s

      on : Runs∗ G C (last τ) (last τ') ⊎ Runs∗ G C (last τ') (last τ) → Runs∗ G C κ (last τ') ⊎ Runs∗ G C (last τ') κ
      on (inl s) = first (runs-first r s)
      on (inr s) = inr (more s r)

  -- So two that end on one expression without commands, at one time, end on one configuration.
  same-end : {e : Term} {τ τ' : Sequence L.Conf} → LogTraces G C e τ → LogTraces G C e τ' → Bare (last τ).expr → (last τ).expr ≡ (last τ').expr → (last τ).state.time ≡ (last τ').state.time → last τ ≡ last τ'
  same-end {τ = τ} {τ' = τ'} t t' b h k = on (traces-line t t')
    where
      onward : (last τ' ≡ last τ) ⊎ ((last τ).state.time < (last τ').state.time) → last τ ≡ last τ'
      onward (inl q) = sym q
      onward (inr l) = absurd (omega (arith, k))

      back : (last τ ≡ last τ') ⊎ ((last τ').state.time < (last τ).state.time) → last τ ≡ last τ'
      back (inl q) = q
      back (inr l) = absurd (omega (arith, k))

      on : Runs∗ G C (last τ) (last τ') ⊎ Runs∗ G C (last τ') (last τ) → last τ ≡ last τ'
      on (inl s) = onward (bare_later b s)
      on (inr s) = back (bare_later (rw h at b) s)

-- ---- both together

module _ (G : Guideline) (safe : Safe G) (C : Codebase) (code : BareCode C) (e : Term) where
  -- The source's trace, with the calls made on it, and a trace of the target that ends on its image: log and history are what those calls make.
  record Level (τ : Sequence Configuration) : Type 0 where
    conf : Conf
    traced : Traced C e conf
    along : traced.trace ≡ τ
    below : Below conf.time (entries conf.made)
    bare : Bare conf.expr
    target : Sequence L.Conf
    traces : LogTraces G (rewritten_code G C) e target
    ends : last target ≡ image G conf

  -- A step of the source leads from level to level.
  level_on : {τ : Sequence Configuration} {κ : Configuration} {ev : Event} → Level τ → Reduces C (last τ).expr (last τ).time ev κ.expr κ.time → Level (then τ κ)
  unfolding traced-more
  level_on {τ} {κ} {ev} d r =
      let c : Conf = d.conf in
      let x : (last τ).expr ≡ c.expr = sym (ap (λ (s : Sequence Configuration). (last s).expr) d.along) ∙ d.traced.expression in
      let y : (last τ).time ≡ c.time = sym (ap (λ (s : Sequence Configuration). (last s).time) d.along) ∙ d.traced.time in
      let z : κ.time ≡ suc c.time = reduces-time r ∙ ap suc y in
      let s : Reduces C c.expr c.time ev κ.expr (suc c.time) = rw (x, y, z) at r in
      let q : book G ev (tick (image G c).state) ≡ image_state G (entries (after c ev κ.expr).made) (suc c.time) = book-event G safe (entries c.made) c.time ev d.below ∙ ap (λ (K : List Entry). image_state G K (suc c.time)) (sym (entries-after c ev κ.expr)) in
      let (τ', t', k) = trace-runs G (rewritten_code G C) d.target d.traces (rw d.ends (step-runs G safe C s (image G c).state)) in
      record {
        conf = after c ev κ.expr;
        traced = traced-more d.traced s;
        along = ap₂ then d.along (λ i. record { expr = κ.expr; time = sym z i });
        below = below-after c ev κ.expr d.below;
        bare = reduces-bare code s d.bare;
        target = τ';
        traces = t';
        ends = k ∙ ap (at κ.expr) q;
      }

  -- So there is one for each trace of the source.
  level : {τ : Sequence Configuration} → Bare e → Traces C e τ → Level τ
  unfolding keep each traced-start
  level b (Traces.start {κ = κ} h k) =
      record {
        conf = initial e;
        traced = traced-start C e;
        along = ap alone {x = record { expr = e; time = 0 }} {y = κ} (λ i. record { expr = sym h i; time = sym k i });
        below = λ x m. absurd (Memᴰ.not-nil m);
        bare = b;
        target = alone (at e fresh);
        traces = LogTraces.start refl;
        ends = refl;
      }
  level b (Traces.onward t r) = level_on (level b t) r

  module _ {τ : Sequence Configuration} (d : Level τ) where
    -- The two traces are in step, …
    in_step : InStep τ d.target
    in_step =
        record {
          expression = sym (ap (λ (s : Sequence Configuration). (last s).expr) d.along) ∙ d.traced.expression ∙ sym (ap (λ (κ : L.Conf). κ.expr) d.ends);
          time = sym (ap (λ (s : Sequence Configuration). (last s).time) d.along) ∙ d.traced.time ∙ sym (ap (λ (κ : L.Conf). κ.state.time) d.ends);
        }

    -- … the calls that are listed are those made on the source's, …
    calls-listed : Lists (Made C τ) (entries d.conf.made)
    calls-listed = subst (λ (s : Sequence Configuration). Lists (Made C s) (entries d.conf.made)) d.along (listed-made C e d.conf d.traced)

    module _ {τ' : Sequence L.Conf} (t' : LogTraces G (rewritten_code G C) e τ') (s : InStep τ τ') where
      -- … and whatever trace of the target is in step with it has their log.
      log_is : (last τ').state.log ≡ keep (entails? G (entries d.conf.made)) (entries d.conf.made)
      log_is =
          let b : Bare (last d.target).expr = rw (ap (λ (κ : L.Conf). κ.expr) d.ends) d.bare in
          let q = same-end d.traces t' b (sym in_step.expression ∙ s.expression) (sym in_step.time ∙ s.time) in
          ap (λ (κ : L.Conf). κ.state.log) (sym q ∙ d.ends)

      -- Any other list of them entails the same.
      log-derives : (K : List Entry) → Lists (Made C τ) K → (x : Entry) → Memᴰ x (last τ').state.log ↔ Derives G K x
      log-derives K l x = (into, from)
        where
          calls : List Entry
          calls = entries d.conf.made

          in-K : {y : Entry} → Memᴰ y calls → Memᴰ y K
          in-K {y} m = (l y).1 ((calls-listed y).0 m)

          from-K : {y : Entry} → Memᴰ y K → Memᴰ y calls
          from-K {y} m = (calls-listed y).1 ((l y).0 m)

          into : Memᴰ x (last τ').state.log → Derives G K x
          into m =
              let (i, h) = keep-from (entails? G calls) calls (rw log_is at m) in
              (in-K i, entails-map G calls K x (λ y j _ _. in-K j) (λ y j _ _. from-K j) ((entails-decides G safe calls x).0 h))

          from : Derives G K x → Memᴰ x (last τ').state.log
          from (i, h) = rw log_is (keep-into (entails? G calls) (from-K i) ((entails-decides G safe calls x).1 (entails-map G K calls x (λ y j _ _. from-K j) (λ y j _ _. in-K j) h)))

-- Theorem 5, repaired.
pub sound-complete : (G : Guideline) (S : Program) → Safe G → BareProgram S → SoundComplete G S
sound-complete G S safe bare =
    record {
      simulated = λ τ t. let d = both t in (d.target, rw (rewritten-codebase G S) d.traces, in_step G safe C code S.main d);
      listed = λ τ t. let d = both t in (entries d.conf.made, calls-listed G safe C code S.main d);
      log = λ τ τ' t t' s. log-derives G safe C code S.main (both t) (rw (rewritten-codebase G S) at t') s;
    }
  where
    C : Codebase
    C = codebase S

    code : BareCode C
    code = codebase-bare S bare

    both : {τ : Sequence Configuration} → Traces C S.main τ → Level G safe C code S.main τ
    both t = level G safe C code S.main bare.main t
