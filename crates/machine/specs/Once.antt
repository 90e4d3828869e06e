-- There is at most one proof that bodies lie where a list says, so that a struct may keep this fact. Assumes nothing.
use mathlib.Core.HLevel.{Unit-prop, ×_prop}
use mathlib.Core.List.{List}
use native.Mathlib.Bridge.{le_prop}
use Prim.Native.Nat.{ℕ}
use denote.Struct.Props.{props}
use Rattle.calculus.specs.Term.{Term, Bare}
use Rattle.calculus.specs.Term.Term.{var, fun, con, lam, app, call_event, emit, sum, branch}
use Rattle.terms.specs.Encode.{Fits}
use Rattle.machine.specs.Bodies.{Positions}
use Rattle.machine.specs.declared.Body.{Body}

Bare-prop : (t : Term) → IsProp (Bare t)
Bare-prop (var i) = Unit-prop
Bare-prop (fun f) = Unit-prop
Bare-prop (con n) = Unit-prop
Bare-prop (lam l b) = Bare-prop b
Bare-prop (app a b) = ×_prop (Bare-prop a) (Bare-prop b)
Bare-prop (call_event f a r) = hlevel
Bare-prop (emit f a r) = hlevel
Bare-prop (sum a b) = ×_prop (Bare-prop a) (Bare-prop b)
Bare-prop (branch c a b) = hlevel (Bare-prop c, Bare-prop a, Bare-prop b)

Fits-prop : (t : Term) → IsProp (Fits t)
Fits-prop (var n) = le_prop
Fits-prop (fun n) = le_prop
Fits-prop (con n) = le_prop
Fits-prop (lam n b) = ×_prop le_prop (Fits-prop b)
Fits-prop (app a b) = ×_prop (Fits-prop a) (Fits-prop b)
Fits-prop (call_event n a r) = hlevel (le_prop, Fits-prop a, Fits-prop r)
Fits-prop (emit n a r) = hlevel (le_prop, Fits-prop a, Fits-prop r)
Fits-prop (sum a b) = ×_prop (Fits-prop a) (Fits-prop b)
Fits-prop (branch c a b) = hlevel (Fits-prop c, Fits-prop a, Fits-prop b)

pub Positions-prop : (s : List ℕ) (bodies : List Body) → IsProp (Positions s bodies)
Positions-prop s bodies = hlevel (Bare-prop, Fits-prop, props)
