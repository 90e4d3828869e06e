-- Rewriting preserves semantics (Theorem 4 of source document 000, 3 of 002). Assumes nothing.
use mathlib.Core.Bool.{Bool, true, false, cond}
use mathlib.Core.Option.{Option, none, some}
use mathlib.Core.Path.{◌≡◌, refl, sym, ap, ◌∙◌}
use Prim.Native.Nat.{ℕ, suc, pred}
use lib.Dec.{T, eqb, ltb}
use Rattle.calculus.specs.Term.{Term, Codebase, Program, codebase, is_value, Bare, BareCode, BareProgram}
use Rattle.calculus.specs.Term.Term.{var, fun, con, lam, app, call_event, emit, sum, branch}
use Rattle.calculus.specs.Substitution.{shift, substitute}
use Rattle.calculus.specs.Step.{Event}
use Rattle.calculus.specs.Step.Event.{quiet, calls}
use Rattle.calculus.specs.Step.Next.{next}
use Rattle.calculus.specs.Rules.{Context, plug, Reduces}
use Rattle.calculus.specs.Rules.Context.{[], applied, argument, augend, addend, condition}
use Rattle.calculus.specs.Rules.Reduces.{β, βCall, add, second, third, context}
use Rattle.calculus.specs.Guideline.{Guideline, Safe}
use Rattle.calculus.specs.Rewriting as R
use Rattle.calculus.specs.Rewriting.{logged, instrument, instrumented, rewritten_code}
use Rattle.calculus.specs.Trace.{Sequence, Configuration, Traces, first, last}
use Rattle.calculus.specs.Trace.Sequence.{alone, then}
use Rattle.calculus.specs.Log.{Conf, State, at, note_call, emit_call, tick, fresh}
use Rattle.calculus.specs.LogRules.{Runs, LogTraces}
use Rattle.calculus.specs.LogRules.Runs.{Λcall, Precondition}
use Rattle.calculus.specs.Correspondence.{Ends, Corresponds, SemanticsPreserving}
use Rattle.calculus.proofs.Steps.{Added, Chosen, addition-next, choice-next, not-stuck-next}
use Rattle.calculus.proofs.Steps.Chosen.{on_zero, on_other}
use Rattle.calculus.proofs.Rules.{contract_call, contract, Becomes, becomes-ready, becomes-unique, apart-hole}
use Rattle.calculus.proofs.Rules.Becomes.{contracted, added, chosen, noted, emitted}
use Rattle.calculus.proofs.LogRules.{Runs∗, then_runs, context-runs, trace-runs, emit-runs, log-apart}
use Rattle.calculus.proofs.Peel.{book}
use Rattle.calculus.proofs.Demand3.{rewritten-codebase, codebase-bare}

-- ---- where traces begin

-- A trace of Λcall begins on the program's expression.
begins : {C : Codebase} {e : Term} {τ : Sequence Configuration} → Traces C e τ → (first τ).expr ≡ e
begins (Traces.start h k) = h
begins (Traces.onward t r) = begins t

-- So does one of Λlog.
pub log-begins : {G : Guideline} {C : Codebase} {e : Term} {τ : Sequence Conf} → LogTraces G C e τ → (first τ).expr ≡ e
log-begins (LogTraces.start h) = ap (λ (κ : Conf). κ.expr) h
log-begins (LogTraces.onward t r) = log-begins t

-- ---- from the source to the target

module _ (G : Guideline) (safe : Safe G) (C : Codebase) where
  -- The commands of a rewritten body, with the argument put in, book the call and lead to the body.
  commands-run : (f : ℕ) (v b : Term) (s : State) → Runs∗ G (rewritten_code G C) (at (substitute 0 v (instrument G f b)) s) (at (substitute 0 v b) (book G (calls f v) s))
  unfolding instrument substitute
  commands-run f v b s = on (logged G f) (R.noted G f)
    where
      r : Term
      r = substitute 0 v b

      on : (x y : Bool) → Runs∗ G (rewritten_code G C) (at (substitute 0 v (cond x (call_event f (var 0) (emit f (var 0) b)) (cond y (call_event f (var 0) b) b))) s) (at r (cond x (emit_call G f v (note_call f v s)) (cond y (note_call f v s) s)))
      on true y = Runs∗.more (Runs∗.more (Runs∗.none refl) Precondition) (emit-runs G safe (rewritten_code G C) f v r (note_call f v s))
      on false true = Runs∗.more (Runs∗.none refl) Precondition
      on false false = Runs∗.none refl

  -- A step of the source is a step of the target, and the commands that book its call.
  pub step-runs : {a a' : Term} {ev : Event} {n n' : ℕ} → Reduces C a n ev a' n' → (s : State) → Runs∗ G (rewritten_code G C) (at a s) (at a' (book G ev (tick s)))
  step-runs (β p h) s = Runs∗.more (Runs∗.none refl) (Λcall (β p h) refl refl)
  step-runs (βCall {f = f} {e = b} {v = v} p c h) s =
      let one : Runs G (rewritten_code G C) (at (app (fun f) v) s) (at (substitute 0 v (instrument G f b)) (tick s)) = Λcall (βCall p (ap (instrumented G f) c) refl) refl refl in
      rw h (then_runs G (rewritten_code G C) (Runs∗.more (Runs∗.none refl) one) (commands-run f v b (tick s)))
  step-runs (add l h) s = Runs∗.more (Runs∗.none refl) (Λcall (add l h) refl refl)
  step-runs (second h) s = Runs∗.more (Runs∗.none refl) (Λcall (second h) refl refl)
  step-runs (third h) s = Runs∗.more (Runs∗.none refl) (Λcall (third h) refl refl)
  step-runs (context E r h h') s = rw (h, h') (context-runs G (rewritten_code G C) E (step-runs r s))

  -- So each trace of the source has one of the target that ends on the same expression.
  target-trace : {e : Term} {τ : Sequence Configuration} → Traces C e τ → (τ' : Sequence Conf) × LogTraces G (rewritten_code G C) e τ' × ((last τ).expr ≡ (last τ').expr)
  target-trace {e} (Traces.start h k) = (alone (at e fresh), LogTraces.start refl, h)
  target-trace (Traces.onward t r) =
      let (τ', t', h) = target-trace t in
      let (τ'', t'', k) = trace-runs G (rewritten_code G C) τ' t' (step-runs (rw h at r) (last τ').state) in
      (τ'', t'', sym (ap (λ (κ : Conf). κ.expr) k))

  -- The two correspond.
  forth : {e : Term} {τ : Sequence Configuration} → Traces C e τ → (τ' : Sequence Conf) × Corresponds τ τ' × LogTraces G (rewritten_code G C) e τ'
  forth t = let (τ', t', h) = target-trace t in (τ', record { begins = begins t ∙ sym (log-begins t'); ends = Ends.same h }, t')

-- ---- no command comes into a term without commands

-- Shifting brings none, …
shift-bare : (c : ℕ) (e : Term) → Bare e → Bare (shift c e)
unfolding shift
shift-bare c (var i) p = on (ltb i c)
  where
    on : (b : Bool) → Bare (cond b (var i) (var (suc i)))
    on true = tt
    on false = tt
shift-bare c (fun f) p = tt
shift-bare c (con n) p = tt
shift-bare c (lam l b) p = shift-bare (suc c) b p
shift-bare c (app a b) p = (shift-bare c a p.0, shift-bare c b p.1)
shift-bare c (call_event f a r) p = absurd p
shift-bare c (emit f a r) p = absurd p
shift-bare c (sum a b) p = (shift-bare c a p.0, shift-bare c b p.1)
shift-bare c (branch e a b) p = (shift-bare c e p.0, shift-bare c a p.1, shift-bare c b p.2)

-- … nor substituting a value without commands, …
pub substitute-bare : (d : ℕ) (v e : Term) → Bare v → Bare e → Bare (substitute d v e)
unfolding substitute
substitute-bare d v (var i) p q = on (eqb i d) (ltb i d)
  where
    on : (x y : Bool) → Bare (cond x v (cond y (var i) (var (pred i))))
    on true y = p
    on false true = tt
    on false false = tt
substitute-bare d v (fun f) p q = tt
substitute-bare d v (con n) p q = tt
substitute-bare d v (lam l b) p q = substitute-bare (suc d) (shift 0 v) b (shift-bare 0 v p) q
substitute-bare d v (app a b) p q = (substitute-bare d v a p q.0, substitute-bare d v b p q.1)
substitute-bare d v (call_event f a r) p q = absurd q
substitute-bare d v (emit f a r) p q = absurd q
substitute-bare d v (sum a b) p q = (substitute-bare d v a p q.0, substitute-bare d v b p q.1)
substitute-bare d v (branch c a b) p q = (substitute-bare d v c p q.0, substitute-bare d v a p q.1, substitute-bare d v b p q.2)

-- … nor another term without commands in a context's hole; what stood in the hole had none.
pub plug-bare : (E : Context) (m : Term) → Bare (plug E m) → Bare m × ((r : Term) → Bare r → Bare (plug E r))
unfolding plug
plug-bare [] m p = (p, λ r q. q)
plug-bare (applied E b) m p = let (x, y) = plug-bare E m p.0 in (x, λ r q. (y r q, p.1))
plug-bare (argument v s E) m p = let (x, y) = plug-bare E m p.1 in (x, λ r q. (p.0, y r q))
plug-bare (augend E b) m p = let (x, y) = plug-bare E m p.0 in (x, λ r q. (y r q, p.1))
plug-bare (addend v s E) m p = let (x, y) = plug-bare E m p.1 in (x, λ r q. (p.0, y r q))
plug-bare (condition E a b) m p = let (x, y) = plug-bare E m p.0 in (x, λ r q. (y r q, p.1, p.2))

-- ---- from the target to the source

-- A step from a command in a context takes that command away.
step-command : {G : Guideline} {C : Codebase} {κ κ' : Conf} (E : Context) (m r : Term) → Becomes C m quiet r → κ.expr ≡ plug E m → Runs G C κ κ' → κ'.expr ≡ plug E r
step-command E m r b h one =
    let (ev, d, c) = log-apart one in
    let (x, b', k) = apart-hole E m (becomes-ready b) h d in
    k ∙ ap (plug E) (becomes-unique b' b).1

module _ (G : Guideline) (C : Codebase) (code : BareCode C) (e : Term) where
  -- The source comes to an expression, which has no command.
  record Comes (a : Term) : Type 0 where
    trace : Sequence Configuration
    traces : Traces C e trace
    ends : (last trace).expr ≡ a
    bare : Bare a

  -- The source follows the target's trace: it comes to the same expression; or, where commands of a call are to be done, it comes to the
  -- expression before the call and to the one after the commands.
  data Follows : Sequence Conf → Type 0 where
    level : {τ : Sequence Conf} → Comes (last τ).expr → Follows τ
    noting : {τ : Sequence Conf} {κ : Conf} (E : Context) (f : ℕ) (v r : Term) → Comes (last τ).expr → κ.expr ≡ plug E (call_event f v r) → Comes (plug E r) → Follows (then τ κ)
    noting_logged : {τ : Sequence Conf} {κ : Conf} (E : Context) (f : ℕ) (v r : Term) → Comes (last τ).expr → κ.expr ≡ plug E (call_event f v (emit f v r)) → Comes (plug E r) → Follows (then τ κ)
    emitting : {τ : Sequence Conf} {κ κ' : Conf} (E : Context) (f : ℕ) (v r : Term) → Comes (last τ).expr → κ'.expr ≡ plug E (emit f v r) → Comes (plug E r) → Follows (then (then τ κ) κ')

  -- The source goes on by a step in a context.
  comes-on : {a m r : Term} {ev : Event} (E : Context) → Comes a → a ≡ plug E m → Bare r → ((n : ℕ) → Reduces C m n ev r (suc n)) → Comes (plug E r)
  comes-on {r = r} E c h p s =
      let n = (last c.trace).time in
      record {
        trace = then c.trace record { expr = plug E r; time = suc n };
        traces = Traces.onward c.traces (context E (s n) (c.ends ∙ h) refl);
        ends = refl;
        bare = (plug-bare E _ (rw h at c.bare)).1 r p;
      }

  -- It comes level where it comes to the target's next expression.
  level-at : {τ : Sequence Conf} {κ : Conf} {a : Term} → κ.expr ≡ a → Comes a → Follows (then τ κ)
  level-at {τ} {κ} h c = level {τ = then τ κ} (rw h c)

  -- A call leads the target to the rewritten body.
  follows-call : {τ : Sequence Conf} {κ : Conf} (E : Context) (f : ℕ) (v b : Term) → C f ≡ some b → T (is_value v) → Comes (last τ).expr → (last τ).expr ≡ plug E (app (fun f) v) → κ.expr ≡ plug E (substitute 0 v (instrument G f b)) → Follows (then τ κ)
  unfolding instrument substitute
  follows-call {τ} {κ} E f v b q p c h k = on (logged G f) (R.noted G f) k
    where
      body : Comes (plug E (substitute 0 v b))
      body = comes-on E c h (substitute-bare 0 v b (plug-bare E _ (rw h at c.bare)).0.1 (code f b q)) (λ n. βCall p q refl)

      on : (x y : Bool) → κ.expr ≡ plug E (substitute 0 v (cond x (call_event f (var 0) (emit f (var 0) b)) (cond y (call_event f (var 0) b) b))) → Follows (then τ κ)
      on true y k = noting_logged E f v (substitute 0 v b) c k body
      on false true k = noting E f v (substitute 0 v b) c k body
      on false false k = level-at k body

  -- A step at a redex of two values.
  follows-redex : {τ : Sequence Conf} {κ : Conf} {ev : Event} (E : Context) (a v r : Term) → T (is_value v) → contract (rewritten_code G C) a v ≡ next ev r → Comes (last τ).expr → (last τ).expr ≡ plug E (app a v) → κ.expr ≡ plug E r → Follows (then τ κ)
  follows-redex E (var i) v r p q c h k = not-stuck-next q
  follows-redex {τ} {κ} {ev} E (fun f) v r p q c h k = on (C f) refl q
    where
      on : (o : Option Term) → C f ≡ o → contract_call f v (instrumented G f o) ≡ next ev r → Follows (then τ κ)
      on none j q = not-stuck-next q
      on (some b) j q = let u : r ≡ substitute 0 v (instrument G f b) = cc in follows-call E f v b j p c h (k ∙ ap (plug E) u)
  follows-redex E (con n) v r p q c h k = not-stuck-next q
  follows-redex E (lam l b) v r p q c h k =
      let u : r ≡ substitute 0 v b = cc in
      let (x, y) = (plug-bare E _ (rw h at c.bare)).0 in
      level-at k (comes-on E c h (rw u (substitute-bare 0 v b y x)) (λ n. β p u))
  follows-redex E (app a b) v r p q c h k = not-stuck-next q
  follows-redex E (call_event f a b) v r p q c h k = not-stuck-next q
  follows-redex E (emit f a b) v r p q c h k = not-stuck-next q
  follows-redex E (sum a b) v r p q c h k = not-stuck-next q
  follows-redex E (branch d a b) v r p q c h k = not-stuck-next q

  -- A step at a sum of two values, …
  follows-sum : {τ : Sequence Conf} {κ : Conf} {ev : Event} (E : Context) (a b r : Term) → Added a b ev r → Comes (last τ).expr → (last τ).expr ≡ plug E (sum a b) → κ.expr ≡ plug E r → Follows (then τ κ)
  follows-sum E a b r d c h k = level-at k (comes-on {ev = quiet} E c h (rw d.result tt) (λ n. rw (d.left, d.right) (add d.fits d.result)))

  -- … and at a branch on a value.
  follows_branch : {τ : Sequence Conf} {κ : Conf} {ev : Event} (E : Context) (d a b r : Term) → Chosen d a b ev r → Comes (last τ).expr → (last τ).expr ≡ plug E (branch d a b) → κ.expr ≡ plug E r → Follows (then τ κ)
  follows_branch E d a b r (on_zero p q u) c h k =
      let (x, y, z) = (plug-bare E _ (rw h at c.bare)).0 in
      level-at k (comes-on {ev = quiet} E c h (rw u y) (λ n. rw p (second u)))
  follows_branch E d a b r (on_other i p q u) c h k =
      let (x, y, z) = (plug-bare E _ (rw h at c.bare)).0 in
      level-at k (comes-on {ev = quiet} E c h (rw u z) (λ n. rw p (third u)))

  -- From an expression without commands the target's step is at a redex.
  follows-step : {τ : Sequence Conf} {κ : Conf} {ev : Event} (E : Context) (m r : Term) → Becomes (rewritten_code G C) m ev r → Comes (last τ).expr → (last τ).expr ≡ plug E m → κ.expr ≡ plug E r → Follows (then τ κ)
  follows-step E m r (contracted {a = a} {v = v} p q j) c h k = follows-redex E a v r q j c h k
  follows-step E m r (added {a = a} {b = b} {ev = ev} p q j) c h k = follows-sum E a b r (addition-next a b r ev j) c h k
  follows-step E m r (chosen {c = d} {a = a} {b = b} {ev = ev} p j) c h k = follows_branch E d a b r (choice-next d a b r ev j) c h k
  follows-step E m r noted c h k = absurd (plug-bare E _ (rw h at c.bare)).0
  follows-step E m r emitted c h k = absurd (plug-bare E _ (rw h at c.bare)).0

  -- The source follows each step of the target, …
  follows_on : {τ : Sequence Conf} {κ : Conf} → Follows τ → Runs G (rewritten_code G C) (last τ) κ → Follows (then τ κ)
  follows_on (level c) one = let (ev, d, c') = log-apart one in follows-step d.around d.hole d.result d.becomes c d.before d.after
  follows_on (noting E f v r c h c') one = level-at (step-command E (call_event f v r) r noted h one) c'
  follows_on (noting_logged E f v r c h c') one = emitting E f v r c (step-command E (call_event f v (emit f v r)) (emit f v r) noted h one) c'
  follows_on (emitting E f v r c h c') one = level-at (step-command E (emit f v r) r emitted h one) c'

  -- … and so each trace of it.
  follows : {τ : Sequence Conf} → Bare e → LogTraces G (rewritten_code G C) e τ → Follows τ
  follows p (LogTraces.start {κ = κ} h) =
      level {τ = alone κ}
      record {
        trace = alone record { expr = e; time = 0 };
        traces = Traces.start refl refl;
        ends = sym (ap (λ (κ : Conf). κ.expr) h);
        bare = rw h p;
      }
  follows p (LogTraces.onward t r) = follows_on (follows p t) r

  -- A trace of the source corresponds if it ends as Definition 10 says, …
  ending : {τ : Sequence Conf} {a : Term} → (first τ).expr ≡ e → (c : Comes a) → Ends (last c.trace).expr τ → (τ' : Sequence Configuration) × Corresponds τ' τ × Traces C e τ'
  ending h c k = (c.trace, record { begins = begins c.traces ∙ sym h; ends = k }, c.traces)

  -- … and one that follows does.
  back : {τ : Sequence Conf} → (first τ).expr ≡ e → Follows τ → (τ' : Sequence Configuration) × Corresponds τ' τ × Traces C e τ'
  back h (level c) = ending h c (Ends.same c.ends)
  back h (noting E f v r c k c') = ending h c (Ends.noting E f v r c.ends k)
  back h (noting_logged E f v r c k c') = ending h c (Ends.noting E f v (emit f v r) c.ends k)
  back h (emitting E f v r c k c') = ending h c (Ends.emitting E f v r c.ends k)

-- ---- rewriting preserves semantics

-- Theorem 4: "Algorithm R is semantics preserving (Definition 4)."
pub semantics-preserving : (G : Guideline) (S : Program) → Safe G → BareProgram S → SemanticsPreserving G S
semantics-preserving G S safe bare =
    record {
      forth = λ τ t. rw (rewritten-codebase G S) (forth G safe (codebase S) t);
      back = λ τ t. back G C code S.main (log-begins t) (follows G C code S.main bare.main (rw (rewritten-codebase G S) at t));
    }
  where
    C : Codebase
    C = codebase S

    code : BareCode C
    code = codebase-bare S bare
