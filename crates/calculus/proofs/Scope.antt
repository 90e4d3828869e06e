-- Steps keep closed expressions closed; where a closed expression is stuck. Assumes nothing.
use mathlib.Core.Bool.{Bool, true, false}
use mathlib.Core.Logic.{◌↔◌}
use mathlib.Core.Option.{Option, none, some, IsSome}
use mathlib.Core.Path.{◌≡◌, refl, sym, ap, ◌∙◌}
use Prim.Native.Nat.{ℕ, zero, suc, ◌+◌, ◌<◌}
use native.Mathlib.Omega.{arith}
use lib.Dec.{T, leb, leb→le, nleb→lt}
use Rattle.calculus.specs.Term.{Term, Codebase, Scoped, Defined, ClosedCode, ClosedTerm, Bare, is_value}
use Rattle.calculus.specs.Term.Term.{var, fun, con, lam, app, call_event, emit, sum, branch}
use Rattle.calculus.specs.Step.{Event, Next, call_of, redex, constant, greatest, addition, choice, inside, step}
use Rattle.calculus.specs.Step.Next.{at_value, at_stuck, next}
use Rattle.calculus.specs.Rules.{Context, plug, Blocked}
use Rattle.calculus.specs.Rules.Context.{[], applied, argument, augend, addend, condition}
use Rattle.calculus.proofs.Lists.{T_true, true-T, T_false, false-T}
use Rattle.calculus.proofs.Substitution.{put-scoped, put-defined}
use Rattle.calculus.proofs.Steps.{Steps, step_left, step_right, step-redex, step-augend, step-addend, step-addition, step-condition, step-choice, constant-is, step-sound, inside-value, inside_stuck, not-value-stuck, not-value-next, not-stuck-next}
use Rattle.calculus.proofs.Steps.Steps.{apply, call, left, right}
use Rattle.calculus.proofs.Rules.{plug-moves}

-- ---- closed expressions

-- A step adds no free variable …
pub steps-scoped : {C : Codebase} → ClosedCode C → {e e' : Term} {ev : Event} → Steps C e ev e' → Scoped 0 e → Scoped 0 e'
steps-scoped code (apply {b = b} {v = v} p h) s = rw h (put-scoped 0 v b s.1 s.0)
steps-scoped code (call {f = f} {b = b} {v = v} p c h) s = rw h (put-scoped 0 v b s.1 (code.body_scoped f b c))
steps-scoped code (Steps.add l h) s = rw h tt
steps-scoped code (Steps.second h) s = rw h s.1
steps-scoped code (Steps.third h) s = rw h s.2
steps-scoped code (left t) s = (steps-scoped code t s.0, s.1)
steps-scoped code (right p t) s = (s.0, steps-scoped code t s.1)
steps-scoped code (Steps.augend t) s = (steps-scoped code t s.0, s.1)
steps-scoped code (Steps.addend p t) s = (s.0, steps-scoped code t s.1)
steps-scoped code (Steps.condition t) s = (steps-scoped code t s.0, s.1, s.2)

-- … and no name that is not defined.
pub steps-defined : {C : Codebase} → ClosedCode C → {e e' : Term} {ev : Event} → Steps C e ev e' → Defined C e → Defined C e'
steps-defined {C} code (apply {b = b} {v = v} p h) s = rw h (put-defined C 0 v b s.1 s.0)
steps-defined {C} code (call {f = f} {b = b} {v = v} p c h) s = rw h (put-defined C 0 v b s.1 (code.body_defined f b c))
steps-defined code (Steps.add l h) s = rw h tt
steps-defined code (Steps.second h) s = rw h s.1
steps-defined code (Steps.third h) s = rw h s.2
steps-defined code (left t) s = (steps-defined code t s.0, s.1)
steps-defined code (right p t) s = (s.0, steps-defined code t s.1)
steps-defined code (Steps.augend t) s = (steps-defined code t s.0, s.1)
steps-defined code (Steps.addend p t) s = (s.0, steps-defined code t s.1)
steps-defined code (Steps.condition t) s = (steps-defined code t s.0, s.1, s.2)

-- A step keeps a closed program's expression closed, with all names defined.
pub step-closed : (C : Codebase) → ClosedCode C → (e e' : Term) (ev : Event) → ClosedTerm C e → step C e ≡ next ev e' → ClosedTerm C e'
step-closed C code e e' ev ce h =
    let s = step-sound C e e' ev h in
    record { scoped = steps-scoped code s ce.scoped; defined = steps-defined code s ce.defined }

-- ---- stuck expressions

-- Stuck in a context.
abbrev StuckIn : Term → Type 0
StuckIn e = (E : Context) × (m : Term) × Blocked m × (e ≡ plug E m)

-- A closed redex of two values is stuck only at a constant.
redex-stuck : (C : Codebase) (a b : Term) → Scoped 0 a → Defined C a → T (is_value a) → T (is_value b) → redex C a b ≡ at_stuck → Blocked (app a b)
unfolding is_value
redex-stuck C (var i) b s d p q h = absurd (omega arith)
redex-stuck C (fun f) b s d p q h = on (C f) d h
  where
    on : (o : Option Term) → IsSome o → call_of f b o ≡ at_stuck → Blocked (app (fun f) b)
    on none k t = absurd k
    on (some r) k t = not-stuck-next (sym t)
redex-stuck C (con n) b s d p q h = Blocked.applied q
redex-stuck C (lam l r) b s d p q h = not-stuck-next (sym h)
redex-stuck C (app a r) b s d p q h = absurd p
redex-stuck C (call_event f a r) b s d p q h = absurd p
redex-stuck C (emit f a r) b s d p q h = absurd p
redex-stuck C (sum a r) b s d p q h = absurd p
redex-stuck C (branch c a r) b s d p q h = absurd p

-- A sum of two values is stuck only where they are no two constants with a sum that fits.
addition-stuck : (a b : Term) → addition (constant a) (constant b) ≡ at_stuck → (i j : ℕ) → a ≡ con i → b ≡ con j → greatest < i + j
unfolding constant
addition-stuck a b h i j p q = on (leb (i + j) greatest) refl
  where
    k : addition (some i) (some j) ≡ at_stuck
    k = rw (p, q) at h

    on : (x : Bool) → leb (i + j) greatest ≡ x → greatest < i + j
    on true u = not-stuck-next (sym (rw u at k))
    on false u = nleb→lt (i + j) greatest (rw u tt)

-- A branch on a value is stuck only where that is no constant.
choice-stuck : (c a b : Term) → choice (constant c) a b ≡ at_stuck → (n : ℕ) → c ≡ con n → ⊥
unfolding constant
choice-stuck c a b h zero p = not-stuck-next (sym (rw p at h))
choice-stuck c a b h (suc n) p = not-stuck-next (sym (rw p at h))

-- A closed expression without commands is stuck only there, …
stuck-blocked : (C : Codebase) (e : Term) → Scoped 0 e → Defined C e → Bare e → step C e ≡ at_stuck → StuckIn e
unfolding step plug
stuck-blocked C (var i) s d b h = not-value-stuck h
stuck-blocked C (fun f) s d b h = not-value-stuck h
stuck-blocked C (con n) s d b h = not-value-stuck h
stuck-blocked C (lam l r) s d b h = not-value-stuck h
stuck-blocked C (app x y) s d b h = on (is_value x) (is_value y) refl refl (stuck-blocked C x s.0 d.0 b.0) (stuck-blocked C y s.1 d.1 b.1)
  where
    on : (p q : Bool) → is_value x ≡ p → is_value y ≡ q → (step C x ≡ at_stuck → StuckIn x) → (step C y ≡ at_stuck → StuckIn y) → StuckIn (app x y)
    on false q u w below below' =
        let (E, m, r, k) = below (inside_stuck (λ z. app z y) (step C x) (sym (step_left C x y u) ∙ h)) in
        (applied E y, m, r, ap (λ z. app z y) k)
    on true false u w below below' =
        let (E, m, r, k) = below' (inside_stuck (λ z. app x z) (step C y) (sym (step_right C x y u w) ∙ h)) in
        (argument x (true-T (is_value x) u) E, m, r, ap (app x) k)
    on true true u w below below' =
        ([], app x y, redex-stuck C x y s.0 d.0 (true-T (is_value x) u) (true-T (is_value y) w) (sym (step-redex C x y u w) ∙ h), refl)
stuck-blocked C (call_event f a r) s d b h = absurd b
stuck-blocked C (emit f a r) s d b h = absurd b
stuck-blocked C (sum x y) s d b h = on (is_value x) (is_value y) refl refl (stuck-blocked C x s.0 d.0 b.0) (stuck-blocked C y s.1 d.1 b.1)
  where
    on : (p q : Bool) → is_value x ≡ p → is_value y ≡ q → (step C x ≡ at_stuck → StuckIn x) → (step C y ≡ at_stuck → StuckIn y) → StuckIn (sum x y)
    on false q u w below below' =
        let (E, m, r, k) = below (inside_stuck (λ z. sum z y) (step C x) (sym (step-augend C x y u) ∙ h)) in
        (augend E y, m, r, ap (λ z. sum z y) k)
    on true false u w below below' =
        let (E, m, r, k) = below' (inside_stuck (λ z. sum x z) (step C y) (sym (step-addend C x y u w) ∙ h)) in
        (addend x (true-T (is_value x) u) E, m, r, ap (sum x) k)
    on true true u w below below' = ([], sum x y, Blocked.added (true-T (is_value x) u) (true-T (is_value y) w) (addition-stuck x y (sym (step-addition C x y u w) ∙ h)), refl)
stuck-blocked C (branch c x y) s d b h = on (is_value c) refl (stuck-blocked C c s.0 d.0 b.0)
  where
    on : (p : Bool) → is_value c ≡ p → (step C c ≡ at_stuck → StuckIn c) → StuckIn (branch c x y)
    on false u below =
        let (E, m, r, k) = below (inside_stuck (λ z. branch z x y) (step C c) (sym (step-condition C c x y u) ∙ h)) in
        (condition E x y, m, r, ap (λ z. branch z x y) k)
    on true u below = ([], branch c x y, Blocked.chosen (true-T (is_value c) u) (choice-stuck c x y (sym (step-choice C c x y u) ∙ h)), refl)

-- … and any expression is stuck there: what is no value steps in a context as alone, …
inside-twice : (f g : Term → Term) (x : Next) → inside f (inside g x) ≡ inside (λ e. f (g e)) x
inside-twice f g at_value = refl
inside-twice f g at_stuck = refl
inside-twice f g (next ev e) = refl

pub step-plug : (C : Codebase) (E : Context) (m : Term) → is_value m ≡ false → step C (plug E m) ≡ inside (plug E) (step C m)
unfolding plug
step-plug C [] m p = on (step C m)
  where
    on : (x : Next) → x ≡ inside (λ e. e) x
    on at_value = refl
    on at_stuck = refl
    on (next ev e) = refl
step-plug C (applied E b) m p = step_left C (plug E m) b (plug-moves E m p) ∙ ap (inside (λ x. app x b)) (step-plug C E m p) ∙ inside-twice (λ x. app x b) (plug E) (step C m)
step-plug C (argument v q E) m p = step_right C v (plug E m) (T_true (is_value v) q) (plug-moves E m p) ∙ ap (inside (app v)) (step-plug C E m p) ∙ inside-twice (app v) (plug E) (step C m)
step-plug C (augend E b) m p = step-augend C (plug E m) b (plug-moves E m p) ∙ ap (inside (λ x. sum x b)) (step-plug C E m p) ∙ inside-twice (λ x. sum x b) (plug E) (step C m)
step-plug C (addend v q E) m p = step-addend C v (plug E m) (T_true (is_value v) q) (plug-moves E m p) ∙ ap (inside (sum v)) (step-plug C E m p) ∙ inside-twice (sum v) (plug E) (step C m)
step-plug C (condition E a b) m p = step-condition C (plug E m) a b (plug-moves E m p) ∙ ap (inside (λ x. branch x a b)) (step-plug C E m p) ∙ inside-twice (λ x. branch x a b) (plug E) (step C m)

-- … and what is blocked is stuck.
blocked-moves : {m : Term} → Blocked m → is_value m ≡ false
unfolding is_value
blocked-moves (Blocked.applied p) = refl
blocked-moves (Blocked.added p q h) = refl
blocked-moves (Blocked.chosen p h) = refl

blocked-stuck : (C : Codebase) {m : Term} → Blocked m → step C m ≡ at_stuck
unfolding is_value
blocked-stuck C (Blocked.applied {n} {v} p) = step-redex C (con n) v refl (T_true (is_value v) p)
blocked-stuck C (Blocked.added {a} {b} p q h) = step-addition C a b (T_true (is_value a) p) (T_true (is_value b) q) ∙ on (constant a) (constant b) refl refl
  where
    on : (x y : Option ℕ) → constant a ≡ x → constant b ≡ y → addition x y ≡ at_stuck
    on none y u w = refl
    on (some i) none u w = refl
    on (some i) (some j) u w =
        let l = h i j (constant-is a i u) (constant-is b j w) in
        rw (T_false (leb (i + j) greatest) (λ k. let k' = leb→le (i + j) greatest k in omega arith))
blocked-stuck C (Blocked.chosen {c} {a} {b} p h) = step-choice C c a b (T_true (is_value c) p) ∙ on (constant c) refl
  where
    on : (x : Option ℕ) → constant c ≡ x → choice x a b ≡ at_stuck
    on none u = refl
    on (some n) u = absurd (h n (constant-is c n u))

-- A closed expression without commands is stuck exactly where its next redex is blocked.
pub stuck-exactly : (C : Codebase) (e : Term) → ClosedTerm C e → Bare e → (step C e ≡ at_stuck) ↔ ((E : Context) × (m : Term) × Blocked m × (e ≡ plug E m))
stuck-exactly C e ce b = (
  λ h. stuck-blocked C e ce.scoped ce.defined b h,
  λ (E, m, p, k). rw k (step-plug C E m (blocked-moves p) ∙ ap (inside (plug E)) (blocked-stuck C p)),
)

-- ---- values

-- No redex is done.
redex-not-value : (C : Codebase) (a b : Term) → redex C a b ≡ at_value → {A : Type 0} → A
redex-not-value C (var i) b h = not-value-stuck (sym h)
redex-not-value C (fun f) b h = on (C f) h
  where
    on : (o : Option Term) → call_of f b o ≡ at_value → {A : Type 0} → A
    on none t = not-value-stuck (sym t)
    on (some r) t = not-value-next (sym t)
redex-not-value C (con n) b h = not-value-stuck (sym h)
redex-not-value C (lam l r) b h = not-value-next (sym h)
redex-not-value C (app a r) b h = not-value-stuck (sym h)
redex-not-value C (call_event f a r) b h = not-value-stuck (sym h)
redex-not-value C (emit f a r) b h = not-value-stuck (sym h)
redex-not-value C (sum a r) b h = not-value-stuck (sym h)
redex-not-value C (branch c a r) b h = not-value-stuck (sym h)

-- No sum is done, …
addition-not-value : (x y : Option ℕ) → addition x y ≡ at_value → {A : Type 0} → A
addition-not-value none y h = not-value-stuck (sym h)
addition-not-value (some i) none h = not-value-stuck (sym h)
addition-not-value (some i) (some j) h = on (leb (i + j) greatest) refl
  where
    on : (x : Bool) → leb (i + j) greatest ≡ x → {A : Type 0} → A
    on true u = not-value-next (sym (rw u at h))
    on false u = not-value-stuck (sym (rw u at h))

-- … and no branch.
choice-not-value : (x : Option ℕ) (a b : Term) → choice x a b ≡ at_value → {A : Type 0} → A
choice-not-value none a b h = not-value-stuck (sym h)
choice-not-value (some zero) a b h = not-value-next (sym h)
choice-not-value (some (suc n)) a b h = not-value-next (sym h)

-- What is done is a value, …
done-value : (C : Codebase) (e : Term) → step C e ≡ at_value → T (is_value e)
unfolding step is_value
done-value C (var i) h = tt
done-value C (fun f) h = tt
done-value C (con n) h = tt
done-value C (lam l b) h = tt
done-value C (app a b) h = on (is_value a) (is_value b) refl refl (λ k. done-value C a k) (λ k. done-value C b k)
  where
    on : (p q : Bool) → is_value a ≡ p → is_value b ≡ q → (step C a ≡ at_value → T (is_value a)) → (step C b ≡ at_value → T (is_value b)) → ⊥
    on false q u w below below' = false-T (is_value a) u (below (inside-value (λ x. app x b) (step C a) (sym (step_left C a b u) ∙ h)))
    on true false u w below below' = false-T (is_value b) w (below' (inside-value (λ x. app a x) (step C b) (sym (step_right C a b u w) ∙ h)))
    on true true u w below below' = redex-not-value C a b (sym (step-redex C a b u w) ∙ h)
done-value C (call_event f a r) h = not-value-stuck (sym h)
done-value C (emit f a r) h = not-value-stuck (sym h)
done-value C (sum a b) h = on (is_value a) (is_value b) refl refl (λ k. done-value C a k) (λ k. done-value C b k)
  where
    on : (p q : Bool) → is_value a ≡ p → is_value b ≡ q → (step C a ≡ at_value → T (is_value a)) → (step C b ≡ at_value → T (is_value b)) → ⊥
    on false q u w below below' = false-T (is_value a) u (below (inside-value (λ x. sum x b) (step C a) (sym (step-augend C a b u) ∙ h)))
    on true false u w below below' = false-T (is_value b) w (below' (inside-value (λ x. sum a x) (step C b) (sym (step-addend C a b u w) ∙ h)))
    on true true u w below below' = addition-not-value (constant a) (constant b) (sym (step-addition C a b u w) ∙ h)
done-value C (branch c a b) h = on (is_value c) refl (λ k. done-value C c k)
  where
    on : (p : Bool) → is_value c ≡ p → (step C c ≡ at_value → T (is_value c)) → ⊥
    on false u below = false-T (is_value c) u (below (inside-value (λ x. branch x a b) (step C c) (sym (step-condition C c a b u) ∙ h)))
    on true u below = choice-not-value (constant c) a b (sym (step-choice C c a b u) ∙ h)

-- … and a value is done.
value-done : (C : Codebase) (e : Term) → T (is_value e) → step C e ≡ at_value
unfolding step is_value
value-done C (var i) p = refl
value-done C (fun f) p = refl
value-done C (con n) p = refl
value-done C (lam l b) p = refl
value-done C (app a b) p = absurd p
value-done C (call_event f a r) p = absurd p
value-done C (emit f a r) p = absurd p
value-done C (sum a b) p = absurd p
value-done C (branch c a b) p = absurd p

-- It has no step because it is done exactly where it is a value.
pub value-exactly : (C : Codebase) (e : Term) → (step C e ≡ at_value) ↔ T (is_value e)
value-exactly C e = (done-value C e, value-done C e)
