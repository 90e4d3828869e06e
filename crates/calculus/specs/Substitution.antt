-- Substitution. Assumes nothing.
use Rattle.std.specs.Prelude.{cond, ℕ, suc, pred, eqb, ltb}
use Rattle.calculus.specs.Term.{Term}
use Rattle.calculus.specs.Term.Term.{var, fun, con, lam, app, call_event, emit, sum, branch}

-- The variables from c on count one abstraction more.
unfoldable pub shift : ℕ → Term → Term
shift c (var i) = cond (ltb i c) (var i) (var (suc i))
shift c (fun f) = fun f
shift c (con n) = con n
shift c (lam l b) = lam l (shift (suc c) b)
shift c (app a b) = app (shift c a) (shift c b)
shift c (call_event f a r) = call_event f (shift c a) (shift c r)
shift c (emit f a r) = emit f (shift c a) (shift c r)
shift c (sum a b) = sum (shift c a) (shift c b)
shift c (branch e a b) = branch (shift c e) (shift c a) (shift c b)

-- e[v/x] of the source documents, capture-avoiding, for any v: v is put for variable d and its variables are shifted under each
-- abstraction; the variables above d count one abstraction less, since the one that bound d is gone.
unfoldable pub substitute : ℕ → Term → Term → Term
substitute d v (var i) = cond (eqb i d) v (cond (ltb i d) (var i) (var (pred i)))
substitute d v (fun f) = fun f
substitute d v (con n) = con n
substitute d v (lam l b) = lam l (substitute (suc d) (shift 0 v) b)
substitute d v (app a b) = app (substitute d v a) (substitute d v b)
substitute d v (call_event f a r) = call_event f (substitute d v a) (substitute d v r)
substitute d v (emit f a r) = emit f (substitute d v a) (substitute d v r)
substitute d v (sum a b) = sum (substitute d v a) (substitute d v b)
substitute d v (branch c a b) = branch (substitute d v c) (substitute d v a) (substitute d v b)

-- A closed value v for variable d: nothing has to be shifted. Where v is closed and no variable is above d this is e[v/x]
-- (proofs/Substitution.closed-substitute).
unfoldable pub put : ℕ → Term → Term → Term
put d v (var i) = cond (eqb i d) v (var i)
put d v (fun f) = fun f
put d v (con n) = con n
put d v (lam l b) = lam l (put (suc d) v b)
put d v (app a b) = app (put d v a) (put d v b)
put d v (call_event f a r) = call_event f (put d v a) (put d v r)
put d v (emit f a r) = emit f (put d v a) (put d v r)
put d v (sum a b) = sum (put d v a) (put d v b)
put d v (branch c a b) = branch (put d v c) (put d v a) (put d v b)
