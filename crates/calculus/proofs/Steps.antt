-- The step function's laws, and a step as a derivation, to prove by induction what holds of all steps. Assumes nothing.
use mathlib.Core.Bool.{Bool, true, false}
use mathlib.Core.Option.{Option, none, some}
use mathlib.Core.Path.{◌≡◌, refl, sym, ap, ◌∙◌}
use native.Mathlib.Omega.{arith}
use Prim.Native.Nat.{ℕ, zero, suc, ◌+◌, ◌≤◌}
use lib.Dec.{T, leb, leb→le, le→leb}
use Rattle.calculus.specs.Term.{Term, Codebase, is_value}
use Rattle.calculus.specs.Term.Term.{var, fun, con, lam, app, call_event, emit, sum, branch}
use Rattle.calculus.specs.Substitution.{put}
use Rattle.calculus.specs.Step.{Event, Next, call_of, redex, constant, greatest, addition, choice, inside, step}
use Rattle.calculus.specs.Step.Event.{quiet, calls}
use Rattle.calculus.specs.Step.Next.{at_value, at_stuck, next}
use Rattle.calculus.proofs.Lists.{T_true, true-T}

-- ---- a step of an application

-- A function part that is no value goes first, …
pub step_left : (C : Codebase) (a b : Term) → is_value a ≡ false → step C (app a b) ≡ inside (λ x. app x b) (step C a)
unfolding step
step_left C a b p = rw (p, step)

-- … the argument part goes next, …
pub step_right : (C : Codebase) (a b : Term) → is_value a ≡ true → is_value b ≡ false → step C (app a b) ≡ inside (λ x. app a x) (step C b)
unfolding step
step_right C a b p q = rw (p, step) (rw (q, step))

-- … and two values are the redex.
pub step-redex : (C : Codebase) (a b : Term) → is_value a ≡ true → is_value b ≡ true → step C (app a b) ≡ redex C a b
unfolding step
step-redex C a b p q = rw (p, step) (rw (q, step))

-- ---- a step of a sum and of a branch

-- A sum works out its left term, …
pub step-augend : (C : Codebase) (a b : Term) → is_value a ≡ false → step C (sum a b) ≡ inside (λ x. sum x b) (step C a)
unfolding step
step-augend C a b p = rw (p, step)

-- … then its right, …
pub step-addend : (C : Codebase) (a b : Term) → is_value a ≡ true → is_value b ≡ false → step C (sum a b) ≡ inside (λ x. sum a x) (step C b)
unfolding step
step-addend C a b p q = rw (p, step) (rw (q, step))

-- … and adds.
pub step-addition : (C : Codebase) (a b : Term) → is_value a ≡ true → is_value b ≡ true → step C (sum a b) ≡ addition (constant a) (constant b)
unfolding step
step-addition C a b p q = rw (p, step) (rw (q, step))

-- A branch works out its first term, …
pub step-condition : (C : Codebase) (c a b : Term) → is_value c ≡ false → step C (branch c a b) ≡ inside (λ x. branch x a b) (step C c)
unfolding step
step-condition C c a b p = rw (p, step)

-- … and goes by it.
pub step-choice : (C : Codebase) (c a b : Term) → is_value c ≡ true → step C (branch c a b) ≡ choice (constant c) a b
unfolding step
step-choice C c a b p = rw (p, step)

-- What has a constant's number is that constant.
pub constant-is : (e : Term) (n : ℕ) → constant e ≡ some n → e ≡ con n
unfolding constant
constant-is (var i) n h = absurd (let z : ◌≡◌ {A = ℕ} 0 1 = cc in omega arith)
constant-is (fun f) n h = absurd (let z : ◌≡◌ {A = ℕ} 0 1 = cc in omega arith)
constant-is (con m) n h = cc
constant-is (lam l b) n h = absurd (let z : ◌≡◌ {A = ℕ} 0 1 = cc in omega arith)
constant-is (app a b) n h = absurd (let z : ◌≡◌ {A = ℕ} 0 1 = cc in omega arith)
constant-is (call_event f a r) n h = absurd (let z : ◌≡◌ {A = ℕ} 0 1 = cc in omega arith)
constant-is (emit f a r) n h = absurd (let z : ◌≡◌ {A = ℕ} 0 1 = cc in omega arith)
constant-is (sum a b) n h = absurd (let z : ◌≡◌ {A = ℕ} 0 1 = cc in omega arith)
constant-is (branch c a b) n h = absurd (let z : ◌≡◌ {A = ℕ} 0 1 = cc in omega arith)

-- ---- the three answers

-- No two of them are the same: what rests on one is anything.
pub not-value-stuck : at_value ≡ at_stuck → {A : Type 0} → A
not-value-stuck h = absurd (let z : ◌≡◌ {A = ℕ} 0 1 = cc in omega arith)

pub not-value-next : {ev : Event} {e : Term} → at_value ≡ next ev e → {A : Type 0} → A
not-value-next h = absurd (let z : ◌≡◌ {A = ℕ} 0 1 = cc in omega arith)

pub not-stuck-next : {ev : Event} {e : Term} → at_stuck ≡ next ev e → {A : Type 0} → A
not-stuck-next h = absurd (let z : ◌≡◌ {A = ℕ} 0 1 = cc in omega arith)

-- A context makes a step only where its part makes one.
pub inside-next : (k : Term → Term) (n : Next) (ev : Event) (r : Term) → inside k n ≡ next ev r → (x : Term) × (n ≡ next ev x) × (r ≡ k x)
inside-next k at_value ev r h = not-value-next h
inside-next k at_stuck ev r h = not-stuck-next h
inside-next k (next ev' x) ev r h = (x, cc, cc)

-- A context is done only where its part is, …
pub inside-value : (k : Term → Term) (n : Next) → inside k n ≡ at_value → n ≡ at_value
inside-value k at_value h = refl
inside-value k at_stuck h = h
inside-value k (next ev x) h = not-value-next (sym h)

-- … and stuck only where its part is.
pub inside_stuck : (k : Term → Term) (n : Next) → inside k n ≡ at_stuck → n ≡ at_stuck
inside_stuck k at_value h = h
inside_stuck k at_stuck h = refl
inside_stuck k (next ev x) h = not-stuck-next (sym h)

-- ---- a step as a derivation

-- e makes a step with an event to e'.
pub data Steps (C : Codebase) : Term → Event → Term → Type 0 where
  apply : {l : ℕ} {b v r : Term} → T (is_value v) → r ≡ put 0 v b → Steps C (app (lam l b) v) quiet r
  call : {f : ℕ} {b v r : Term} → T (is_value v) → C f ≡ some b → r ≡ put 0 v b → Steps C (app (fun f) v) (calls f v) r
  add : {m n : ℕ} {r : Term} → m + n ≤ greatest → r ≡ con (m + n) → Steps C (sum (con m) (con n)) quiet r
  second : {a b r : Term} → r ≡ a → Steps C (branch (con zero) a b) quiet r
  third : {n : ℕ} {a b r : Term} → r ≡ b → Steps C (branch (con (suc n)) a b) quiet r
  left : {ev : Event} {a a' b : Term} → Steps C a ev a' → Steps C (app a b) ev (app a' b)
  right : {ev : Event} {a b b' : Term} → T (is_value a) → Steps C b ev b' → Steps C (app a b) ev (app a b')
  augend : {ev : Event} {a a' b : Term} → Steps C a ev a' → Steps C (sum a b) ev (sum a' b)
  addend : {ev : Event} {a b b' : Term} → T (is_value a) → Steps C b ev b' → Steps C (sum a b) ev (sum a b')
  condition : {ev : Event} {c c' a b : Term} → Steps C c ev c' → Steps C (branch c a b) ev (branch c' a b)

-- What makes a step is no value.
pub steps-moves : {C : Codebase} {e e' : Term} {ev : Event} → Steps C e ev e' → is_value e ≡ false
unfolding is_value
steps-moves (apply p h) = refl
steps-moves (call p c h) = refl
steps-moves (add l h) = refl
steps-moves (second h) = refl
steps-moves (third h) = refl
steps-moves (left s) = refl
steps-moves (right p s) = refl
steps-moves (augend s) = refl
steps-moves (addend p s) = refl
steps-moves (condition s) = refl

-- What the function says of a redex is a step.
redex-sound : (C : Codebase) (a v r : Term) (ev : Event) → T (is_value v) → redex C a v ≡ next ev r → Steps C (app a v) ev r
redex-sound C (var i) v r ev p h = not-stuck-next h
redex-sound C (fun f) v r ev p h = on (C f) refl h
  where
    on : (o : Option Term) → C f ≡ o → call_of f v o ≡ next ev r → Steps C (app (fun f) v) ev r
    on none c k = not-stuck-next k
    on (some b) c k =
        let s : ev ≡ calls f v = cc in
        let t : r ≡ put 0 v b = cc in
        rw s (call p c t)
redex-sound C (con n) v r ev p h = not-stuck-next h
redex-sound C (lam l b) v r ev p h =
    let s : ev ≡ quiet = cc in
    let t : r ≡ put 0 v b = cc in
    rw s (apply p t)
redex-sound C (app a b) v r ev p h = not-stuck-next h
redex-sound C (call_event f a b) v r ev p h = not-stuck-next h
redex-sound C (emit f a b) v r ev p h = not-stuck-next h
redex-sound C (sum a b) v r ev p h = not-stuck-next h
redex-sound C (branch c a b) v r ev p h = not-stuck-next h

-- What it says of a sum of values, taken apart, …
pub record Added (a b : Term) (ev : Event) (r : Term) : Type 0 where
  pub i : ℕ
  pub j : ℕ
  pub left : a ≡ con i
  pub right : b ≡ con j
  pub fits : i + j ≤ greatest
  pub quietly : ev ≡ quiet
  pub result : r ≡ con (i + j)

pub addition-next : (a b r : Term) (ev : Event) → addition (constant a) (constant b) ≡ next ev r → Added a b ev r
addition-next a b r ev h = on (constant a) (constant b) refl refl h
  where
    small : (m n : ℕ) → a ≡ con m → b ≡ con n → (x : Bool) → leb (m + n) greatest ≡ x → addition (some m) (some n) ≡ next ev r → Added a b ev r
    small m n p q false u k = not-stuck-next (rw u at k)
    small m n p q true u k =
        let w : next quiet (con (m + n)) ≡ next ev r = rw u at k in
        record { i = m; j = n; left = p; right = q; fits = leb→le (m + n) greatest (rw u tt); quietly = cc; result = cc }

    on : (x y : Option ℕ) → constant a ≡ x → constant b ≡ y → addition x y ≡ next ev r → Added a b ev r
    on none y p q k = not-stuck-next k
    on (some m) none p q k = not-stuck-next k
    on (some m) (some n) p q k = small m n (constant-is a m p) (constant-is b n q) (leb (m + n) greatest) refl k

-- … and of a branch on a value.
pub data Chosen (c a b : Term) (ev : Event) (r : Term) : Type 0 where
  on_zero : c ≡ con zero → ev ≡ quiet → r ≡ a → Chosen c a b ev r
  on_other : (n : ℕ) → c ≡ con (suc n) → ev ≡ quiet → r ≡ b → Chosen c a b ev r

pub choice-next : (c a b r : Term) (ev : Event) → choice (constant c) a b ≡ next ev r → Chosen c a b ev r
choice-next c a b r ev h = on (constant c) refl h
  where
    on : (x : Option ℕ) → constant c ≡ x → choice x a b ≡ next ev r → Chosen c a b ev r
    on none p k = not-stuck-next k
    on (some zero) p k =
        let s : ev ≡ quiet = cc in
        let t : r ≡ a = cc in
        on_zero (constant-is c zero p) s t
    on (some (suc n)) p k =
        let s : ev ≡ quiet = cc in
        let t : r ≡ b = cc in
        on_other n (constant-is c (suc n) p) s t

-- Both are steps.
addition-sound : (C : Codebase) (a b r : Term) (ev : Event) → Added a b ev r → Steps C (sum a b) ev r
addition-sound C a b r ev h = rw (h.left, h.right, h.quietly) (add h.fits h.result)

choice-sound : (C : Codebase) (c a b r : Term) (ev : Event) → Chosen c a b ev r → Steps C (branch c a b) ev r
choice-sound C c a b r ev (on_zero p q h) = rw (p, q) (second h)
choice-sound C c a b r ev (on_other n p q h) = rw (p, q) (third h)

-- What it says of any expression is a step, …
pub step-sound : (C : Codebase) (e e' : Term) (ev : Event) → step C e ≡ next ev e' → Steps C e ev e'
unfolding step
step-sound C (var i) e' ev h = not-value-next h
step-sound C (fun f) e' ev h = not-value-next h
step-sound C (con n) e' ev h = not-value-next h
step-sound C (lam l b) e' ev h = not-value-next h
step-sound C (app a b) e' ev h = on (is_value a) (is_value b) refl refl (λ x. step-sound C a x ev) (λ x. step-sound C b x ev)
  where
    on : (p q : Bool) → is_value a ≡ p → is_value b ≡ q → ((x : Term) → step C a ≡ next ev x → Steps C a ev x) → ((x : Term) → step C b ≡ next ev x → Steps C b ev x) → Steps C (app a b) ev e'
    on false q u w below below' =
        let (x, k, t) = inside-next (λ x. app x b) (step C a) ev e' (sym (step_left C a b u) ∙ h) in
        rw t (left (below x k))
    on true false u w below below' =
        let (x, k, t) = inside-next (λ x. app a x) (step C b) ev e' (sym (step_right C a b u w) ∙ h) in
        rw t (right (true-T (is_value a) u) (below' x k))
    on true true u w below below' = redex-sound C a b e' ev (true-T (is_value b) w) (sym (step-redex C a b u w) ∙ h)
step-sound C (call_event f a r) e' ev h = not-stuck-next h
step-sound C (emit f a r) e' ev h = not-stuck-next h
step-sound C (sum a b) e' ev h = on (is_value a) (is_value b) refl refl (λ x. step-sound C a x ev) (λ x. step-sound C b x ev)
  where
    on : (p q : Bool) → is_value a ≡ p → is_value b ≡ q → ((x : Term) → step C a ≡ next ev x → Steps C a ev x) → ((x : Term) → step C b ≡ next ev x → Steps C b ev x) → Steps C (sum a b) ev e'
    on false q u w below below' =
        let (x, k, t) = inside-next (λ x. sum x b) (step C a) ev e' (sym (step-augend C a b u) ∙ h) in
        rw t (augend (below x k))
    on true false u w below below' =
        let (x, k, t) = inside-next (λ x. sum a x) (step C b) ev e' (sym (step-addend C a b u w) ∙ h) in
        rw t (addend (true-T (is_value a) u) (below' x k))
    on true true u w below below' = addition-sound C a b e' ev (addition-next a b e' ev (sym (step-addition C a b u w) ∙ h))
step-sound C (branch c a b) e' ev h = on (is_value c) refl (λ x. step-sound C c x ev)
  where
    on : (p : Bool) → is_value c ≡ p → ((x : Term) → step C c ≡ next ev x → Steps C c ev x) → Steps C (branch c a b) ev e'
    on false u below =
        let (x, k, t) = inside-next (λ x. branch x a b) (step C c) ev e' (sym (step-condition C c a b u) ∙ h) in
        rw t (condition (below x k))
    on true u below = choice-sound C c a b e' ev (choice-next c a b e' ev (sym (step-choice C c a b u) ∙ h))

-- … and it says every step.
pub step-complete : {C : Codebase} {e e' : Term} {ev : Event} → Steps C e ev e' → step C e ≡ next ev e'
unfolding is_value constant
step-complete {C} (apply {l} {b} {v} p h) = rw h (step-redex C (lam l b) v refl (T_true (is_value v) p))
step-complete {C} (call {f} {b} {v} p c h) = rw h (step-redex C (fun f) v refl (T_true (is_value v) p) ∙ ap (call_of f v) c)
step-complete {C} (add {m} {n} l h) = rw h (step-addition C (con m) (con n) refl refl ∙ rw (T_true (leb (m + n) greatest) (le→leb (m + n) greatest l)))
step-complete {C} (second {a = a} {b = b} h) = rw h (step-choice C (con zero) a b refl)
step-complete {C} (third {n} {a} {b} h) = rw h (step-choice C (con (suc n)) a b refl)
step-complete {C} (left {a = a} {b = b} s) = step_left C a b (steps-moves s) ∙ ap (inside (λ x. app x b)) (step-complete s)
step-complete {C} (right {a = a} {b = b} p s) = step_right C a b (T_true (is_value a) p) (steps-moves s) ∙ ap (inside (λ x. app a x)) (step-complete s)
step-complete {C} (augend {a = a} {b = b} s) = step-augend C a b (steps-moves s) ∙ ap (inside (λ x. sum x b)) (step-complete s)
step-complete {C} (addend {a = a} {b = b} p s) = step-addend C a b (T_true (is_value a) p) (steps-moves s) ∙ ap (inside (λ x. sum a x)) (step-complete s)
step-complete {C} (condition {c = c} {a = a} {b = b} s) = step-condition C c a b (steps-moves s) ∙ ap (inside (λ x. branch x a b)) (step-complete s)
