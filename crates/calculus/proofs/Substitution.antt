-- Substitution of closed values is the general one, and keeps terms closed. Assumes nothing.
use mathlib.Core.Bool.{Bool, true, false, cond}
use mathlib.Core.Logic.{◌≢◌}
use mathlib.Core.Path.{◌≡◌, refl, ap, ap₂}
use native.Mathlib.Omega.{arith}
use Prim.Native.Nat.{ℕ, suc, pred, ◌≤◌, ◌<◌}
use lib.Dec.{eqb, ltb, lt→ltb}
use Rattle.calculus.specs.Term.{Term, Codebase, Scoped, Defined}
use Rattle.calculus.specs.Term.Term.{var, fun, con, lam, app, call_event, emit, sum, branch}
use Rattle.calculus.specs.Substitution.{shift, substitute, put}
use Rattle.calculus.proofs.Lists.{T_true, false-T, eqb_same}

-- ---- numbers

-- A number below another passes the test.
below : (m n : ℕ) → m < n → ltb m n ≡ true
below m n h = T_true (ltb m n) (lt→ltb m n h)

-- A number that the test tells from another is another.
other : (m n : ℕ) → eqb m n ≡ false → m ≢ n
other m n e h = false-T (eqb m n) e (eqb_same m n h)

-- ---- closed terms

-- More abstractions around a term do no harm.
pub scoped_more : (c d : ℕ) (e : Term) → c ≤ d → Scoped c e → Scoped d e
scoped_more c d (var i) h p = omega arith
scoped_more c d (fun f) h p = tt
scoped_more c d (con n) h p = tt
scoped_more c d (lam l b) h p = scoped_more (suc c) (suc d) b (omega arith) p
scoped_more c d (app a b) h p = (scoped_more c d a h p.0, scoped_more c d b h p.1)
scoped_more c d (call_event f a r) h p = (scoped_more c d a h p.0, scoped_more c d r h p.1)
scoped_more c d (emit f a r) h p = (scoped_more c d a h p.0, scoped_more c d r h p.1)
scoped_more c d (sum a b) h p = (scoped_more c d a h p.0, scoped_more c d b h p.1)
scoped_more c d (branch e a b) h p = (scoped_more c d e h p.0, scoped_more c d a h p.1, scoped_more c d b h p.2)

-- A closed term is closed under any number of abstractions.
pub scoped-under : (d : ℕ) (e : Term) → Scoped 0 e → Scoped d e
scoped-under d e p = scoped_more 0 d e (omega arith) p

-- Where no variable of e is from c on, there is none to shift.
pub shift-closed : (c : ℕ) (e : Term) → Scoped c e → shift c e ≡ e
unfolding shift
shift-closed c (var i) p = rw (below i c p)
shift-closed c (fun f) p = refl
shift-closed c (con n) p = refl
shift-closed c (lam l b) p = ap (lam l) (shift-closed (suc c) b p)
shift-closed c (app a b) p = ap₂ app (shift-closed c a p.0) (shift-closed c b p.1)
shift-closed c (call_event f a r) p = ap₂ (call_event f) (shift-closed c a p.0) (shift-closed c r p.1)
shift-closed c (emit f a r) p = ap₂ (emit f) (shift-closed c a p.0) (shift-closed c r p.1)
shift-closed c (sum a b) p = ap₂ sum (shift-closed c a p.0) (shift-closed c b p.1)
shift-closed c (branch e a b) p = rw (shift-closed c e p.0, shift-closed c a p.1, shift-closed c b p.2)

-- ---- substitution

-- Where v is closed and no variable of e is above d, putting v is e[v/x].
pub closed-substitute : (d : ℕ) (v e : Term) → Scoped 0 v → Scoped (suc d) e → substitute d v e ≡ put d v e
unfolding substitute put
closed-substitute d v (var i) p q = on (eqb i d) refl
  where
    on : (b : Bool) → eqb i d ≡ b → cond b v (cond (ltb i d) (var i) (var (pred i))) ≡ cond b v (var i)
    on true e = refl
    on false e = let h = other i d e in rw (below i d (omega arith))
closed-substitute d v (fun f) p q = refl
closed-substitute d v (con n) p q = refl
closed-substitute d v (lam l b) p q = rw (shift-closed 0 v p) (ap (lam l) (closed-substitute (suc d) v b p q))
closed-substitute d v (app a b) p q = ap₂ app (closed-substitute d v a p q.0) (closed-substitute d v b p q.1)
closed-substitute d v (call_event f a r) p q = ap₂ (call_event f) (closed-substitute d v a p q.0) (closed-substitute d v r p q.1)
closed-substitute d v (emit f a r) p q = ap₂ (emit f) (closed-substitute d v a p q.0) (closed-substitute d v r p q.1)
closed-substitute d v (sum a b) p q = ap₂ sum (closed-substitute d v a p q.0) (closed-substitute d v b p q.1)
closed-substitute d v (branch c a b) p q = rw (closed-substitute d v c p q.0, closed-substitute d v a p q.1, closed-substitute d v b p q.2)

-- Putting a closed value for the outermost variable leaves one abstraction less around the term.
pub put-scoped : (d : ℕ) (v e : Term) → Scoped 0 v → Scoped (suc d) e → Scoped d (put d v e)
unfolding put
put-scoped d v (var i) p q = on (eqb i d) refl
  where
    on : (b : Bool) → eqb i d ≡ b → Scoped d (cond b v (var i))
    on true e = scoped-under d v p
    on false e = let h = other i d e in omega arith
put-scoped d v (fun f) p q = tt
put-scoped d v (con n) p q = tt
put-scoped d v (lam l b) p q = put-scoped (suc d) v b p q
put-scoped d v (app a b) p q = (put-scoped d v a p q.0, put-scoped d v b p q.1)
put-scoped d v (call_event f a r) p q = (put-scoped d v a p q.0, put-scoped d v r p q.1)
put-scoped d v (emit f a r) p q = (put-scoped d v a p q.0, put-scoped d v r p q.1)
put-scoped d v (sum a b) p q = (put-scoped d v a p q.0, put-scoped d v b p q.1)
put-scoped d v (branch c a b) p q = (put-scoped d v c p q.0, put-scoped d v a p q.1, put-scoped d v b p q.2)

-- It adds no name that is not defined.
pub put-defined : (C : Codebase) (d : ℕ) (v e : Term) → Defined C v → Defined C e → Defined C (put d v e)
unfolding put
put-defined C d v (var i) p q = on (eqb i d)
  where
    on : (b : Bool) → Defined C (cond b v (var i))
    on true = p
    on false = tt
put-defined C d v (fun f) p q = q
put-defined C d v (con n) p q = tt
put-defined C d v (lam l b) p q = put-defined C (suc d) v b p q
put-defined C d v (app a b) p q = (put-defined C d v a p q.0, put-defined C d v b p q.1)
put-defined C d v (call_event f a r) p q = (put-defined C d v a p q.0, put-defined C d v r p q.1)
put-defined C d v (emit f a r) p q = (put-defined C d v a p q.0, put-defined C d v r p q.1)
put-defined C d v (sum a b) p q = (put-defined C d v a p q.0, put-defined C d v b p q.1)
put-defined C d v (branch c a b) p q = (put-defined C d v c p q.0, put-defined C d v a p q.1, put-defined C d v b p q.2)
