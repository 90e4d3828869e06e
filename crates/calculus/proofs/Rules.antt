-- The step function is the paper's rules; the next redex is unique. Assumes nothing.
use mathlib.Core.Bool.{Bool, true, false}
use mathlib.Core.Logic.{◌↔◌}
use mathlib.Core.Option.{Option, none, some}
use mathlib.Core.Path.{◌≡◌, refl, sym, ap, ◌∙◌}
use native.Mathlib.Omega.{arith}
use Prim.Native.Nat.{ℕ, suc, ◌+◌}
use lib.Dec.{T, T_prop, leb, le→leb}
use Rattle.calculus.specs.Term.{Term, Codebase, Scoped, ClosedCode, ClosedTerm, is_value}
use Rattle.calculus.specs.Term.Term.{var, fun, con, lam, app, call_event, emit, sum, branch}
use Rattle.calculus.specs.Substitution.{substitute}
use Rattle.calculus.specs.Step.{Event, Next, constant, greatest, addition, choice, step}
use Rattle.calculus.specs.Step.Event.{quiet, calls}
use Rattle.calculus.specs.Step.Next.{at_stuck, next}
use Rattle.calculus.specs.Rules.{Context, plug, Reduces}
use Rattle.calculus.specs.Rules.Context.{[], applied, argument, augend, addend, condition}
use Rattle.calculus.specs.Rules.Reduces.{β, βCall, add, second, third, context}
use Rattle.calculus.proofs.Lists.{T_true, true-T}
use Rattle.calculus.proofs.Substitution.{closed-substitute}
use Rattle.calculus.proofs.Steps.{Steps, step-sound, step-complete}
use Rattle.calculus.proofs.Steps.Steps.{apply, call, left, right}

-- ---- the function and the rules

-- A step of a part in the hole is a step of the whole.
pub steps-plug : {C : Codebase} {a a' : Term} {ev : Event} (E : Context) → Steps C a ev a' → Steps C (plug E a) ev (plug E a')
unfolding plug
steps-plug [] s = s
steps-plug (applied E b) s = left (steps-plug E s)
steps-plug (argument v p E) s = right p (steps-plug E s)
steps-plug (augend E b) s = Steps.augend (steps-plug E s)
steps-plug (addend v p E) s = Steps.addend p (steps-plug E s)
steps-plug (condition E a b) s = Steps.condition (steps-plug E s)

-- What stands in the hole of a closed expression is closed.
pub plug-scoped : (E : Context) (e : Term) → Scoped 0 (plug E e) → Scoped 0 e
unfolding plug
plug-scoped [] e p = p
plug-scoped (applied E b) e p = plug-scoped E e p.0
plug-scoped (argument v q E) e p = plug-scoped E e p.1
plug-scoped (augend E b) e p = plug-scoped E e p.0
plug-scoped (addend v q E) e p = plug-scoped E e p.1
plug-scoped (condition E a b) e p = plug-scoped E e p.0

-- A step by the rules is a step of the function, …
reduces-steps : {C : Codebase} → ClosedCode C → {e e' : Term} {ev : Event} {n n' : ℕ} → Reduces C e n ev e' n' → Scoped 0 e → Steps C e ev e' × (n' ≡ suc n)
reduces-steps code (β {e = e} {v = v} p h) s = (apply p (h ∙ closed-substitute 0 v e s.1 s.0), refl)
reduces-steps code (βCall {f = f} {e = e} {v = v} p c h) s = (call p c (h ∙ closed-substitute 0 v e s.1 (code.body_scoped f e c)), refl)
reduces-steps code (add l h) s = (Steps.add l h, refl)
reduces-steps code (second h) s = (Steps.second h, refl)
reduces-steps code (third h) s = (Steps.third h, refl)
reduces-steps code (context {e = e} E r h h') s =
    let (t, u) = reduces-steps code r (plug-scoped E e (rw h at s)) in
    (rw (h, h') (steps-plug E t), u)

-- … and the other way round.
steps-reduces : {C : Codebase} → ClosedCode C → {e e' : Term} {ev : Event} (n : ℕ) → Steps C e ev e' → Scoped 0 e → Reduces C e n ev e' (suc n)
unfolding plug
steps-reduces code n (apply {b = b} {v = v} p h) s = β p (h ∙ sym (closed-substitute 0 v b s.1 s.0))
steps-reduces code n (call {f = f} {b = b} {v = v} p c h) s = βCall p c (h ∙ sym (closed-substitute 0 v b s.1 (code.body_scoped f b c)))
steps-reduces code n (Steps.add l h) s = add l h
steps-reduces code n (Steps.second h) s = second h
steps-reduces code n (Steps.third h) s = third h
steps-reduces code n (left {b = b} t) s = context (applied [] b) (steps-reduces code n t s.0) refl refl
steps-reduces code n (right {a = a} p t) s = context (argument a p []) (steps-reduces code n t s.1) refl refl
steps-reduces code n (Steps.augend {b = b} t) s = context (augend [] b) (steps-reduces code n t s.0) refl refl
steps-reduces code n (Steps.addend {a = a} p t) s = context (addend a p []) (steps-reduces code n t s.1) refl refl
steps-reduces code n (Steps.condition {a = a} {b = b} t) s = context (condition [] a b) (steps-reduces code n t s.0) refl refl

-- The function and the rules agree, both ways; a step costs one unit of time.
pub step-reduces : (C : Codebase) → ClosedCode C → (e e' : Term) (ev : Event) (n n' : ℕ) → ClosedTerm C e → Reduces C e n ev e' n' ↔ ((step C e ≡ next ev e') × (n' ≡ suc n))
step-reduces C code e e' ev n n' ce = (
  λ r. let (t, u) = reduces-steps code r ce.scoped in (step-complete t, u),
  λ h. rw h.1 (steps-reduces code n (step-sound C e e' ev h.0) ce.scoped),
)

-- ---- the next redex is unique

-- What is no value is none in a context.
pub plug-moves : (E : Context) (e : Term) → is_value e ≡ false → is_value (plug E e) ≡ false
unfolding plug is_value
plug-moves [] e h = h
plug-moves (applied E b) e h = refl
plug-moves (argument v p E) e h = refl
plug-moves (augend E b) e h = refl
plug-moves (addend v p E) e h = refl
plug-moves (condition E a b) e h = refl

-- What a rule other than Context begins on: an application or a sum of two values, a branch on a value, or a command.
abbrev pub Ready : Term → Type 0
Ready (var i) = ⊥
Ready (fun f) = ⊥
Ready (con n) = ⊥
Ready (lam l b) = ⊥
Ready (app a b) = T (is_value a) × T (is_value b)
Ready (call_event f a r) = Unit {0}
Ready (emit f a r) = Unit {0}
Ready (sum a b) = T (is_value a) × T (is_value b)
Ready (branch c a b) = T (is_value c)

-- It is no value.
pub ready-moves : (m : Term) → Ready m → is_value m ≡ false
unfolding is_value
ready-moves (var i) p = absurd p
ready-moves (fun f) p = absurd p
ready-moves (con n) p = absurd p
ready-moves (lam l b) p = absurd p
ready-moves (app a b) p = refl
ready-moves (call_event f a r) p = refl
ready-moves (emit f a r) p = refl
ready-moves (sum a b) p = refl
ready-moves (branch c a b) p = refl

-- What a rule begins on, and the context around it.
record Found : Type 0 where
  around : Context
  hole : Term

abbrev found_in : Context → Term → Found
found_in E m = record { around = E; hole = m }

-- The same one frame further out.
abbrev below : (Context → Context) → Found → Found
below k f = found_in (k f.around) f.hole

-- In an application, a sum and a branch, by what is found in their parts.
unfoldable in_application : (a b : Term) (x : Bool) → is_value a ≡ x → Bool → Found → Found → Found
in_application a b false e y f g = below (λ E. applied E b) f
in_application a b true e false f g = below (argument a (true-T (is_value a) e)) g
in_application a b true e true f g = found_in [] (app a b)

unfoldable in_sum : (a b : Term) (x : Bool) → is_value a ≡ x → Bool → Found → Found → Found
in_sum a b false e y f g = below (λ E. augend E b) f
in_sum a b true e false f g = below (addend a (true-T (is_value a) e)) g
in_sum a b true e true f g = found_in [] (sum a b)

unfoldable in_branch : (c a b : Term) → Bool → Found → Found
in_branch c a b false f = below (λ E. condition E a b) f
in_branch c a b true f = found_in [] (branch c a b)

-- What a rule begins on next, as a function of the expression.
unfoldable find : Term → Found
find (var i) = found_in [] (var i)
find (fun f) = found_in [] (fun f)
find (con n) = found_in [] (con n)
find (lam l b) = found_in [] (lam l b)
find (app a b) = in_application a b (is_value a) refl (is_value b) (find a) (find b)
find (call_event f a r) = found_in [] (call_event f a r)
find (emit f a r) = found_in [] (emit f a r)
find (sum a b) = in_sum a b (is_value a) refl (is_value b) (find a) (find b)
find (branch c a b) = in_branch c a b (is_value c) (find c)

-- It finds what stands alone …
find-ready : (m : Term) → Ready m → find m ≡ found_in [] m
unfolding find in_application in_sum in_branch
find-ready (var i) p = absurd p
find-ready (fun f) p = absurd p
find-ready (con n) p = absurd p
find-ready (lam l b) p = absurd p
find-ready (app a b) p = on (is_value a) (is_value b) refl p.0 p.1
  where
    on : (x y : Bool) (e : is_value a ≡ x) → T x → T y → in_application a b x e y (find a) (find b) ≡ found_in [] (app a b)
    on true true e u w = refl
    on true false e u w = absurd w
    on false y e u w = absurd u
find-ready (call_event f a r) p = refl
find-ready (emit f a r) p = refl
find-ready (sum a b) p = on (is_value a) (is_value b) refl p.0 p.1
  where
    on : (x y : Bool) (e : is_value a ≡ x) → T x → T y → in_sum a b x e y (find a) (find b) ≡ found_in [] (sum a b)
    on true true e u w = refl
    on true false e u w = absurd w
    on false y e u w = absurd u
find-ready (branch c a b) p = rw (T_true (is_value c) p)

-- … and what stands in a context.
find-plug : (E : Context) (m : Term) → Ready m → find (plug E m) ≡ found_in E m
unfolding find plug in_application in_sum in_branch
find-plug [] m p = find-ready m p
find-plug (applied E b) m p = on (is_value (plug E m)) (is_value b) refl (plug-moves E m (ready-moves m p)) (find-plug E m p)
  where
    on : (x y : Bool) (e : is_value (plug E m) ≡ x) → x ≡ false → find (plug E m) ≡ found_in E m → in_application (plug E m) b x e y (find (plug E m)) (find b) ≡ found_in (applied E b) m
    on true y e u h = absurd (let z : ◌≡◌ {A = ℕ} 0 1 = cc in omega arith)
    on false y e u h = rw h
find-plug (argument v q E) m p = on (is_value v) (is_value (plug E m)) refl q (plug-moves E m (ready-moves m p)) (find-plug E m p)
  where
    on : (x y : Bool) (e : is_value v ≡ x) → T x → y ≡ false → find (plug E m) ≡ found_in E m → in_application v (plug E m) x e y (find v) (find (plug E m)) ≡ found_in (argument v q E) m
    on true true e u w h = absurd (let z : ◌≡◌ {A = ℕ} 0 1 = cc in omega arith)
    on true false e u w h = rw h (λ i. found_in (argument v (T_prop (is_value v) (true-T (is_value v) e) q i) E) m)
    on false y e u w h = absurd u
find-plug (augend E b) m p = on (is_value (plug E m)) (is_value b) refl (plug-moves E m (ready-moves m p)) (find-plug E m p)
  where
    on : (x y : Bool) (e : is_value (plug E m) ≡ x) → x ≡ false → find (plug E m) ≡ found_in E m → in_sum (plug E m) b x e y (find (plug E m)) (find b) ≡ found_in (augend E b) m
    on true y e u h = absurd (let z : ◌≡◌ {A = ℕ} 0 1 = cc in omega arith)
    on false y e u h = rw h
find-plug (addend v q E) m p = on (is_value v) (is_value (plug E m)) refl q (plug-moves E m (ready-moves m p)) (find-plug E m p)
  where
    on : (x y : Bool) (e : is_value v ≡ x) → T x → y ≡ false → find (plug E m) ≡ found_in E m → in_sum v (plug E m) x e y (find v) (find (plug E m)) ≡ found_in (addend v q E) m
    on true true e u w h = absurd (let z : ◌≡◌ {A = ℕ} 0 1 = cc in omega arith)
    on true false e u w h = rw h (λ i. found_in (addend v (T_prop (is_value v) (true-T (is_value v) e) q i) E) m)
    on false y e u w h = absurd u
find-plug (condition E a b) m p = rw (plug-moves E m (ready-moves m p), find-plug E m p)

-- An expression has what a rule begins on in a context in one way at most.
pub ready-unique : (E F : Context) (m m' : Term) → Ready m → Ready m' → plug E m ≡ plug F m' → (E ≡ F) × (m ≡ m')
ready-unique E F m m' p q h =
    let u : found_in E m ≡ found_in F m' = sym (find-plug E m p) ∙ ap find h ∙ find-plug F m' q in
    (ap (λ (f : Found). f.around) u, ap (λ (f : Found). f.hole) u)

-- An expression is a redex of two values in a context in one way at most.
pub redex-unique : (E E' : Context) (a v a' v' : Term) → T (is_value a) → T (is_value v) → T (is_value a') → T (is_value v') → plug E (app a v) ≡ plug E' (app a' v') → (E ≡ E') × (a ≡ a') × (v ≡ v')
redex-unique E E' a v a' v' p q p' q' h =
    let (x, y) = ready-unique E E' (app a v) (app a' v') (p, q) (p', q') h in
    let u : a ≡ a' = cc in
    let w : v ≡ v' = cc in
    (x, u, w)

-- ---- a step taken apart

-- The rules at a redex of two values, as a function: a call of f on v, whose body is given.
abbrev pub contract_call : ℕ → Term → Option Term → Next
contract_call f v none = at_stuck
contract_call f v (some b) = next (calls f v) (substitute 0 v b)

-- The same of any function part.
abbrev pub contract : Codebase → Term → Term → Next
contract C (var i) v = at_stuck
contract C (fun f) v = contract_call f v (C f)
contract C (con n) v = at_stuck
contract C (lam l b) v = next quiet (substitute 0 v b)
contract C (app a b) v = at_stuck
contract C (call_event f a b) v = at_stuck
contract C (emit f a b) v = at_stuck
contract C (sum a b) v = at_stuck
contract C (branch c a b) v = at_stuck

-- What the rules other than Context make of what they begin on: the rules of Λcall contract a redex, add or choose, those of Λlog take a
-- command away.
pub data Becomes (C : Codebase) : Term → Event → Term → Type 0 where
  contracted : {a v r : Term} {ev : Event} → T (is_value a) → T (is_value v) → contract C a v ≡ next ev r → Becomes C (app a v) ev r
  added : {a b r : Term} {ev : Event} → T (is_value a) → T (is_value b) → addition (constant a) (constant b) ≡ next ev r → Becomes C (sum a b) ev r
  chosen : {c a b r : Term} {ev : Event} → T (is_value c) → choice (constant c) a b ≡ next ev r → Becomes C (branch c a b) ev r
  noted : {f : ℕ} {v r : Term} → Becomes C (call_event f v r) quiet r
  emitted : {f : ℕ} {v r : Term} → Becomes C (emit f v r) quiet r

-- They begin on it.
pub becomes-ready : {C : Codebase} {m r : Term} {ev : Event} → Becomes C m ev r → Ready m
becomes-ready (contracted p q h) = (p, q)
becomes-ready (added p q h) = (p, q)
becomes-ready (chosen p h) = p
becomes-ready noted = tt
becomes-ready emitted = tt

-- They make one thing of it.
pub becomes-unique : {C : Codebase} {m r r' : Term} {ev ev' : Event} → Becomes C m ev r → Becomes C m ev' r' → (ev ≡ ev') × (r ≡ r')
becomes-unique (contracted p q h) (contracted p' q' h') = (cc, cc)
becomes-unique (added p q h) (added p' q' h') = (cc, cc)
becomes-unique (chosen p h) (chosen p' h') = (cc, cc)
becomes-unique noted noted = (refl, refl)
becomes-unique emitted emitted = (refl, refl)

-- A step by the rules, taken apart: the context, what stands in its hole and what that becomes.
pub record Apart (C : Codebase) (e : Term) (ev : Event) (e' : Term) : Type 0 where
  pub around : Context
  pub hole : Term
  pub result : Term
  pub before : e ≡ plug around hole
  pub after : e' ≡ plug around result
  pub becomes : Becomes C hole ev result

-- A context in a context.
pub within : Context → Context → Context
within [] F = F
within (applied E b) F = applied (within E F) b
within (argument v p E) F = argument v p (within E F)
within (augend E b) F = augend (within E F) b
within (addend v p E) F = addend v p (within E F)
within (condition E a b) F = condition (within E F) a b

-- What it does to an expression.
pub within-plug : (E F : Context) (e : Term) → plug E (plug F e) ≡ plug (within E F) e
unfolding plug within
within-plug [] F e = refl
within-plug (applied E b) F e = ap (λ x. app x b) (within-plug E F e)
within-plug (argument v p E) F e = ap (app v) (within-plug E F e)
within-plug (augend E b) F e = ap (λ x. sum x b) (within-plug E F e)
within-plug (addend v p E) F e = ap (sum v) (within-plug E F e)
within-plug (condition E a b) F e = ap (λ x. branch x a b) (within-plug E F e)

-- A step with no context around it comes apart so, …
unfoldable pub apart-here : {C : Codebase} {m r : Term} {ev : Event} → Becomes C m ev r → Apart C m ev r
unfolding plug
apart-here {m = m} {r = r} h = record { around = []; hole = m; result = r; before = refl; after = refl; becomes = h }

-- … in a context too, …
unfoldable pub apart-within : {C : Codebase} {e e' a a' : Term} {ev : Event} (E : Context) → a ≡ plug E e → a' ≡ plug E e' → Apart C e ev e' → Apart C a ev a'
apart-within E h h' d =
    record {
      around = within E d.around;
      hole = d.hole;
      result = d.result;
      before = h ∙ ap (plug E) d.before ∙ within-plug E d.around d.hole;
      after = h' ∙ ap (plug E) d.after ∙ within-plug E d.around d.result;
      becomes = d.becomes;
    }

-- … and so every step of Λcall.
pub apart : {C : Codebase} {e e' : Term} {ev : Event} {n n' : ℕ} → Reduces C e n ev e' n' → Apart C e ev e'
unfolding is_value constant
apart (β p h) = apart-here (contracted tt p (ap (next quiet) (sym h)))
apart (βCall {f = f} {v = v} p c h) = apart-here (contracted tt p (ap (contract_call f v) c ∙ ap (next (calls f v)) (sym h)))
apart (add {i = i} {j = j} l h) = apart-here (added tt tt (rw (T_true (leb (i + j) greatest) (le→leb (i + j) greatest l)) (ap (next quiet) (sym h))))
apart (second h) = apart-here (chosen tt (ap (next quiet) (sym h)))
apart (third h) = apart-here (chosen tt (ap (next quiet) (sym h)))
apart (context E r h h') = apart-within E h h' (apart r)

-- What a step of Λcall begins on: an application, a sum or a branch.
abbrev pub Computes : Term → Type 0
Computes (var i) = ⊥
Computes (fun f) = ⊥
Computes (con n) = ⊥
Computes (lam l b) = ⊥
Computes (app a b) = Unit {0}
Computes (call_event f a r) = ⊥
Computes (emit f a r) = ⊥
Computes (sum a b) = Unit {0}
Computes (branch c a b) = Unit {0}

-- It begins on one.
pub apart-computes : {C : Codebase} {e e' : Term} {ev : Event} {n n' : ℕ} (r : Reduces C e n ev e' n') → Computes (apart r).hole
unfolding apart apart-here apart-within
apart-computes (β p h) = tt
apart-computes (βCall p c h) = tt
apart-computes (add l h) = tt
apart-computes (second h) = tt
apart-computes (third h) = tt
apart-computes (context E r h h') = apart-computes r

-- An expression with something in a context that a rule begins on has its step there.
pub apart-hole : {C : Codebase} {e e' : Term} {ev : Event} (E : Context) (m : Term) → Ready m → e ≡ plug E m → Apart C e ev e' → (r : Term) × Becomes C m ev r × (e' ≡ plug E r)
apart-hole E m p h d =
    let (x, y) = ready-unique E d.around m d.hole p (becomes-ready d.becomes) (sym h ∙ d.before) in
    (d.result, rw y d.becomes, rw x d.after)

-- ---- the rules are deterministic

-- A step costs one unit of time.
pub reduces-time : {C : Codebase} {e e' : Term} {ev : Event} {n n' : ℕ} → Reduces C e n ev e' n' → n' ≡ suc n
reduces-time (β p h) = refl
reduces-time (βCall p c h) = refl
reduces-time (add l h) = refl
reduces-time (second h) = refl
reduces-time (third h) = refl
reduces-time (context E r h h') = reduces-time r

-- The rules are deterministic.
pub deterministic : (C : Codebase) (e e' e'' : Term) (ev ev' : Event) (n n' n'' : ℕ) → Reduces C e n ev e' n' → Reduces C e n ev' e'' n'' → (ev ≡ ev') × (e' ≡ e'') × (n' ≡ n'')
deterministic C e e' e'' ev ev' n n' n'' r r' =
    let c = apart r in
    let (x, h, k) = apart-hole c.around c.hole (becomes-ready c.becomes) c.before (apart r') in
    let (u, w) = becomes-unique c.becomes h in
    (u, c.after ∙ ap (plug c.around) w ∙ sym k, reduces-time r ∙ sym (reduces-time r'))
