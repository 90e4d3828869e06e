-- The plain run is a trace of the paper's rules, and its list of calls is pinned to its steps. Assumes nothing.
use mathlib.Core.Bool.{Bool, true, false}
use mathlib.Core.List.Memᴰ
use mathlib.Core.List.{[], ◌∷◌, ◌++◌, append-nil, Memᴰ}
use mathlib.Core.Logic.{◌↔◌, ◌⊎◌, inl, inr}
use mathlib.Core.Option.{Option, none, some}
use mathlib.Core.Path.{◌≡◌, refl, sym, ap, ap₂, ◌∙◌}
use native.Mathlib.Omega.{arith}
use Prim.Native.Nat.{ℕ, zero, suc, ◌+◌, ◌-◌, ◌≤◌, ◌<◌}
use lib.Dec.{T, leb, ltb, leb→le, nleb→lt, ltb→lt, lt→ltb}
use Rattle.calculus.specs.Lists.{keep, each}
use Rattle.calculus.specs.Term.{Term, Codebase, Program, ClosedCode, ClosedTerm, is_value, codebase}
use Rattle.calculus.specs.Term.Term.{fun, app}
use Rattle.calculus.specs.Step.{Event, step}
use Rattle.calculus.specs.Step.Event.{quiet, calls}
use Rattle.calculus.specs.Step.Next.{next}
use Rattle.calculus.specs.Rules.{Context, plug, Reduces}
use Rattle.calculus.specs.Rules.Reduces.{βCall, context}
use Rattle.calculus.specs.Entailment.{Call, Entry, entry}
use Rattle.calculus.specs.Run.{Conf, calls_of, initial, plain_tick, plain, plain_run}
use Rattle.calculus.specs.Trace.{Sequence, last, Configuration, Traces, Fact, Says, ToFol}
use Rattle.calculus.specs.Trace.Sequence.{alone, then}
use Rattle.calculus.specs.Trace.Traces.{start, onward}
use Rattle.calculus.specs.Claim.{entries, calls_below}
use Rattle.calculus.proofs.Lists.{T_false, keep_append, keep_all, each_append, each_from, each-into}
use Rattle.calculus.proofs.Steps.{not-stuck-next}
use Rattle.calculus.proofs.Rules.{step-reduces, contract_call, Becomes, within, within-plug, apart, apart-hole, reduces-time}
use Rattle.calculus.proofs.Rules.Becomes.{contracted}
use Rattle.calculus.proofs.Scope.{step-closed}
use Rattle.calculus.proofs.Run.{Moves, Advance, advance, run-zero, time-most}
use Rattle.calculus.proofs.Run.Advance.{rests, moves}

-- Step t of the plain run was made and makes the call.
abbrev pub Makes : Codebase → Term → Call → Type 0
Makes C e c = ((plain C (suc c.time) e).last.time ≡ suc c.time) × ((e' : Term) × (step C (plain C c.time e).last.expr ≡ next (calls c.function c.argument) e'))

-- What a step adds to the calls.
added : {C : Codebase} {κ κ' : Conf} (p : Moves C κ κ') → κ'.made ≡ κ.made ++ calls_of κ.time p.event
added p = ap (λ (κ : Conf). κ.made) p.goes

-- A longer budget loses no call.
made_more : (C : Codebase) (e : Term) (c : Call) (m k : ℕ) → m ≤ k → Memᴰ c (plain C m e).last.made → Memᴰ c (plain C k e).last.made
made_more C e c m zero l h = let q : m ≡ 0 = omega arith in rw q at h
made_more C e c m (suc k) l h = on (leb m k) refl (advance C e k) (λ l'. made_more C e c m k l' h)
  where
    on : (b : Bool) → leb m k ≡ b → Advance C e k → (m ≤ k → Memᴰ c (plain C k e).last.made) → Memᴰ c (plain C (suc k) e).last.made
    on false q a below = let l' = nleb→lt m k (rw q tt) in let z : m ≡ suc k = omega arith in rw z at h
    on true q (rests p) below = rw p (below (leb→le m k (rw q tt)))
    on true q (moves t p) below = rw (added p) (Memᴰ.append_left _ (below (leb→le m k (rw q tt))))

-- A call that a step adds has that step's time, function and argument.
added-call : (t : ℕ) (ev : Event) (c : Call) → Memᴰ c (calls_of t ev) → (c.time ≡ t) × (ev ≡ calls c.function c.argument)
added-call t quiet c m = absurd (Memᴰ.not-nil m)
added-call t (calls f v) c m = let q = Memᴰ.eq_of_singleton m in (ap (λ (d : Call). d.time) q, ap₂ calls (sym (ap (λ (d : Call). d.function) q)) (sym (ap (λ (d : Call). d.argument) q)))

-- A call in the list was made by its step …
made-by-step : (C : Codebase) (e : Term) (c : Call) (k : ℕ) → Memᴰ c (plain C k e).last.made → (c.time < k) × Makes C e c
unfolding plain
made-by-step C e c zero m = absurd (Memᴰ.not-nil (rw (run-zero (plain_tick C) (initial e)) at m))
made-by-step C e c (suc k) m = on (advance C e k) (made-by-step C e c k)
  where
    new : (plain C k e).last.time ≡ k → (p : Moves C (plain C k e).last (plain C (suc k) e).last) → Memᴰ c (calls_of (plain C k e).last.time p.event) → (c.time < suc k) × Makes C e c
    new t p i =
        let (u, v) = added-call (plain C k e).last.time p.event c i in
        let z : c.time ≡ k = u ∙ t in
        let w = ap (λ (κ : Conf). κ.time) p.goes in
        (omega arith, (rw z (w ∙ ap suc t), (p.expr, rw z (p.steps ∙ ap (λ (ev : Event). next ev p.expr) v))))

    split : (plain C k e).last.time ≡ k → (p : Moves C (plain C k e).last (plain C (suc k) e).last) → (Memᴰ c (plain C k e).last.made → (c.time < k) × Makes C e c) → Memᴰ c (plain C k e).last.made ⊎ Memᴰ c (calls_of (plain C k e).last.time p.event) → (c.time < suc k) × Makes C e c
    split t p below (inl i) = let r = below i in (omega arith, r.1)
    split t p below (inr i) = new t p i

    on : Advance C e k → (Memᴰ c (plain C k e).last.made → (c.time < k) × Makes C e c) → (c.time < suc k) × Makes C e c
    on (rests p) below = let r = below (rw p at m) in (omega arith, r.1)
    on (moves t p) below = split t p below (Memᴰ.append_cases (plain C k e).last.made (rw (added p) at m))

-- … and a step's call is in the list.
step-made : (C : Codebase) (e : Term) (c : Call) → Makes C e c → Memᴰ c (plain C (suc c.time) e).last.made
unfolding plain
step-made C e c (t, q) = on (advance C e c.time)
  where
    same : {ev ev' : Event} {a b : Term} → next ev a ≡ next ev' b → ev ≡ ev'
    same p = cc

    on : Advance C e c.time → Memᴰ c (plain C (suc c.time) e).last.made
    on (rests p) =
        let l = time-most C c.time (initial e) in
        let u = ap (λ (κ : Conf). κ.time) p in
        absurd (omega arith)
    on (moves u p) =
        let ev : p.event ≡ calls c.function c.argument = same (sym p.steps ∙ q.1) in
        rw (added p, ev, u) (Memᴰ.append_right (plain C c.time e).last.made (Memᴰ.head refl))

-- The calls of a run are those of its steps, each at its time.
pub made-exactly : (C : Codebase) (e : Term) (k : ℕ) (c : Call) → Memᴰ c (plain C k e).last.made ↔ ((c.time < k) × ((plain C (suc c.time) e).last.time ≡ suc c.time) × ((e' : Term) × (step C (plain C c.time e).last.expr ≡ next (calls c.function c.argument) e')))
made-exactly C e k c = (
  λ m. let r = made-by-step C e c k m in (r.0, r.1.0, r.1.1),
  λ r. made_more C e c (suc c.time) k r.0 (step-made C e c (r.1, r.2)),
)

-- ---- the same of the calls' entries

-- An entry of a run's calls has a time below the budget …
pub calls-time : (S : Program) (k : ℕ) (x : Entry) → Memᴰ x (calls_below S k) → x.time < k
calls-time S k x m =
    let (c, i, j) = each_from (λ (c : Call). entry c ∷ []) (plain_run S k).last.made m in
    let q = ap (λ (y : Entry). y.time) (Memᴰ.eq_of_singleton j) in
    let l = ((made-exactly (codebase S) S.main k c).0 i).0 in
    omega arith

-- … and is in every run whose budget is above that time.
pub calls-cut : (S : Program) (k m : ℕ) (x : Entry) → x.time < m → Memᴰ x (calls_below S k) → Memᴰ x (calls_below S m)
calls-cut S k m x l h =
    let (c, i, j) = each_from (λ (c : Call). entry c ∷ []) (plain_run S k).last.made h in
    let q = ap (λ (y : Entry). y.time) (Memᴰ.eq_of_singleton j) in
    let r = (made-exactly (codebase S) S.main k c).0 i in
    each-into (λ (c : Call). entry c ∷ []) ((made-exactly (codebase S) S.main m c).1 (omega arith, r.1, r.2)) j

-- A step at time k or later makes no call below k.
later-call : (k t : ℕ) (ev : Event) → k ≤ t → keep (λ (x : Entry). ltb x.time k) (entries (calls_of t ev)) ≡ []
unfolding keep each
later-call k t quiet l = refl
later-call k t (calls f v) l = rw (T_false (ltb t k) (λ h. let q = ltb→lt t k h in omega arith))

-- So j more in the budget add none.
calls-more : (S : Program) (k j : ℕ) → keep (λ x. ltb x.time k) (calls_below S (k + j)) ≡ calls_below S k
calls-more S k zero = let q : k + 0 ≡ k = omega arith in rw q (keep_all (λ (x : Entry). ltb x.time k) (calls_below S k) (λ x m. lt→ltb x.time k (calls-time S k x m)))
calls-more S k (suc j) = let q : k + suc j ≡ suc (k + j) = omega arith in rw q (on (advance (codebase S) S.main (k + j)) (calls-more S k j))
  where
    on : Advance (codebase S) S.main (k + j) → keep (λ (x : Entry). ltb x.time k) (calls_below S (k + j)) ≡ calls_below S k → keep (λ (x : Entry). ltb x.time k) (calls_below S (suc (k + j))) ≡ calls_below S k
    on (rests p) below = rw p below
    on (moves t p) below =
        let c : Conf = (plain_run S (k + j)).last in
        rw (added p, each_append (λ (c : Call). entry c ∷ []) c.made (calls_of c.time p.event))
        (rw (keep_append (λ (x : Entry). ltb x.time k) (entries c.made) (entries (calls_of c.time p.event)))
        (rw (later-call k c.time p.event (omega arith)) (append-nil _ ∙ below)))

-- The calls of a run are those of a longer one at times below its budget.
pub calls-first : (S : Program) (k n : ℕ) → k ≤ n → keep (λ x. ltb x.time k) (calls_below S n) ≡ calls_below S k
calls-first S k n l = let q : k + (n - k) ≡ n = omega arith in rw q at (calls-more S k (n - k))

-- ---- the paper's traces

-- What it means that toFOL(κ) says a call: the call's redex is κ's, at κ's time.
abbrev pub Means : Configuration → Fact → Type 0
Means κ (Fact.Value n v) = Unit {0}
Means κ (Fact.Call n f v) = (E : Context) × (n ≡ κ.time) × T (is_value v) × (κ.expr ≡ plug E (app (fun f) v))
Means κ (Fact.App n a v) = Unit {0}
Means κ (Fact.Context n E) = Unit {0}
Means κ (Fact.Codebase n f b) = Unit {0}

-- It means that.
pub says-means : {C : Codebase} {κ : Configuration} {φ : Fact} → Says C κ φ → Means κ φ
says-means (Says.value p) = tt
says-means (Says.call E p h) = (E, refl, p, h)
says-means (Says.application E p h) = tt
says-means (Says.call_context E f v p h) = tt
says-means (Says.application_context E l b v p h) = tt
says-means (Says.code h) = tt

-- What toFOL says of a call that is listed.
abbrev said_of : Call → Fact
said_of c = Fact.Call c.time c.function c.argument

-- toFOL(τ) says what τ's last configuration says.
last_says : {C : Codebase} (τ : Sequence Configuration) {φ : Fact} → Says C (last τ) φ → ToFol C τ φ
last_says (alone κ) s = s
last_says (then τ κ) s = inr s

-- A call in toFOL(τ) is of an earlier time than τ's last configuration, or that configuration says it.
earlier-or-last : {C : Codebase} {e : Term} {τ : Sequence Configuration} (c : Call) → Traces C e τ → ToFol C τ (said_of c) → (c.time < (last τ).time) ⊎ Says C (last τ) (said_of c)
earlier-or-last c (start h k) s = inr s
earlier-or-last {C} c (onward {τ = τ} {κ = κ} t r) s = on s (λ x. earlier-or-last c t x)
  where
    rises : (c.time < (last τ).time) ⊎ Says C (last τ) (said_of c) → c.time < κ.time
    rises (inl l) = let u = reduces-time r in omega arith
    rises (inr x) = let u = reduces-time r in let q = (says-means x).1 in omega arith

    on : ToFol C τ (said_of c) ⊎ Says C κ (said_of c) → (ToFol C τ (said_of c) → (c.time < (last τ).time) ⊎ Says C (last τ) (said_of c)) → (c.time < κ.time) ⊎ Says C κ (said_of c)
    on (inl x) below = inl (rises (below x))
    on (inr x) below = inr x

-- A step that makes a call has that call's redex, …
call-redex : {C : Codebase} {e e' : Term} {f n n' : ℕ} {v : Term} → Reduces C e n (calls f v) e' n' → (E : Context) × T (is_value v) × (e ≡ plug E (app (fun f) v))
unfolding plug
call-redex (βCall p c h) = (Context.[], p, refl)
call-redex {f = f} {v = v} (context E r h h') = let (F, p, q) = call-redex r in (within E F, p, h ∙ ap (plug E) q ∙ within-plug E F (app (fun f) v))

-- … and a step at a call's redex makes that call.
redex-call : {C : Codebase} {e e' : Term} {ev : Event} {n n' : ℕ} (E : Context) (f : ℕ) (v : Term) → T (is_value v) → e ≡ plug E (app (fun f) v) → Reduces C e n ev e' n' → ev ≡ calls f v
unfolding is_value
redex-call {C} {ev = ev} E f v p h s = let (r, b, k) = apart-hole E (app (fun f) v) (tt, p) h (apart s) in on r b
  where
    given : (r : Term) (o : Option Term) → contract_call f v o ≡ next ev r → ev ≡ calls f v
    given r none k = not-stuck-next k
    given r (some b) k = cc

    on : (r : Term) → Becomes C (app (fun f) v) ev r → ev ≡ calls f v
    on r (contracted q q' k) = given r (C f) k

-- There is a trace p ⇓ τ by the paper's rules that ends on the expression and the time of κ, where the plain run has come to; κ lists the
-- calls that toFOL(τ) says of earlier times. (toFOL(τ) also says the call that the last configuration is about to make, at its own time.)
pub record Traced (C : Codebase) (e : Term) (κ : Conf) : Type 0 where
  pub trace : Sequence Configuration
  pub traces : Traces C e trace
  pub expression : (last trace).expr ≡ κ.expr
  pub time : (last trace).time ≡ κ.time
  pub made : (c : Call) → Memᴰ c κ.made ↔ ((c.time < (last trace).time) × ToFol C trace (Fact.Call c.time c.function c.argument))

module _ {C : Codebase} {e : Term} {κ : Conf} {ev : Event} {e' : Term} (t : Traced C e κ) (r : Reduces C κ.expr κ.time ev e' (suc κ.time)) where
  -- The trace with one configuration more.
  abbrev longer : Sequence Configuration
  longer = then t.trace record { expr = e'; time = suc κ.time }

  -- toFOL says the calls that are listed after the step …
  pub made-said : (c : Call) → Memᴰ c κ.made ⊎ Memᴰ c (calls_of κ.time ev) → (c.time < suc κ.time) × ToFol C longer (said_of c)
  made-said c (inl i) = let (l, s) = (t.made c).0 i in let u = t.time in (omega arith, inl s)
  made-said c (inr i) =
      let (u, w) = added-call κ.time ev c i in
      let (E, p, h) = call-redex (rw w at r) in
      (omega arith, inl (last_says t.trace (rw (u ∙ sym t.time) (Says.call E p (t.expression ∙ h)))))

  -- … and no others.
  pub said-made : (c : Call) → c.time < suc κ.time → ToFol C longer (said_of c) → Memᴰ c (κ.made ++ calls_of κ.time ev)
  said-made c l (inl s) = on (earlier-or-last c t.traces s)
    where
      on : (c.time < (last t.trace).time) ⊎ Says C (last t.trace) (said_of c) → Memᴰ c (κ.made ++ calls_of κ.time ev)
      on (inl k) = Memᴰ.append_left _ ((t.made c).1 (k, s))
      on (inr x) =
          let (E, q, p, h) = says-means x in
          let w = redex-call E c.function c.argument p (sym t.expression ∙ h) r in
          Memᴰ.append_right κ.made (rw (w, sym (q ∙ t.time)) (Memᴰ.head refl))
  said-made c l (inr x) = let q = (says-means x).1 in absurd (omega arith)

  -- So a step goes on from a traced configuration to a traced one.
  unfoldable pub traced-more : Traced C e record { expr = e'; time = suc κ.time; made = κ.made ++ calls_of κ.time ev }
  traced-more =
      record {
        trace = longer;
        traces = onward {κ = last longer} {ev = ev} t.traces (rw (t.expression, t.time) r);
        expression = refl;
        time = refl;
        made = λ c. (λ m. made-said c (Memᴰ.append_cases κ.made m), λ (l, s). said-made c l s);
      }

-- Before the first step there is the trace of one configuration.
unfoldable pub traced-start : (C : Codebase) (e : Term) → Traced C e (initial e)
traced-start C e =
    record {
      trace = alone record { expr = e; time = 0 };
      traces = start refl refl;
      expression = refl;
      time = refl;
      made = λ c. (λ m. absurd (Memᴰ.not-nil m), λ (l, s). absurd (omega arith));
    }

-- Each configuration of the plain run is traced, and closed.
traced : (C : Codebase) → ClosedCode C → (e : Term) → ClosedTerm C e → (n : ℕ) → Traced C e (plain C n e).last × ClosedTerm C (plain C n e).last.expr
unfolding plain
traced C code e h zero = rw (run-zero (plain_tick C) (initial e)) (traced-start C e, h)
traced C code e h (suc n) = on (advance C e n) (traced C code e h n)
  where
    on : Advance C e n → Traced C e (plain C n e).last × ClosedTerm C (plain C n e).last.expr → Traced C e (plain C (suc n) e).last × ClosedTerm C (plain C (suc n) e).last.expr
    on (rests p) t = rw p t
    on (moves q p) (t, k) =
        let κ : Conf = (plain C n e).last in
        let r = (step-reduces C code κ.expr p.expr p.event κ.time (suc κ.time) k).1 (p.steps, refl) in
        rw p.goes (traced-more t r, step-closed C code κ.expr p.expr p.event k p.steps)

-- The plain run of a closed program is a trace by the paper's rules, and the calls listed are the Call(n, f, v) of the steps made.
pub plain-traces : (C : Codebase) → ClosedCode C → (e : Term) → ClosedTerm C e → (n : ℕ) → Traced C e (plain C n e).last
plain-traces C code e h n = (traced C code e h n).0
