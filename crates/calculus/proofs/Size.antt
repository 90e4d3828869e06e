-- What *large* counts: not every record, but each in a term without commands. Assumes nothing.
use mathlib.Core.Path.{◌≡◌, refl, ap}
use native.Mathlib.Omega.{arith}
use Prim.Native.Nat.{suc, ◌≤◌}
use Rattle.calculus.specs.Term.{Term, Bare, records, size}
use Rattle.calculus.specs.Term.Term.{var, fun, con, lam, app, call_event, emit, sum, branch}

-- Not every record counts.
pub size-most : (t : Term) → size t ≤ records t
unfolding size records
size-most (var i) = omega arith
size-most (fun f) = omega arith
size-most (con n) = omega arith
size-most (lam l b) = omega (arith, size-most b)
size-most (app a b) = omega (arith, size-most a, size-most b)
size-most (call_event f a r) = omega (arith, size-most r)
size-most (emit f a r) = omega (arith, size-most r)
size-most (sum a b) = omega (arith, size-most a, size-most b)
size-most (branch c a b) = omega (arith, size-most c, size-most a, size-most b)

-- The size of a term without commands is the count of its records.
pub bare-size : (t : Term) → Bare t → size t ≡ records t
unfolding size records
bare-size (var i) b = refl
bare-size (fun f) b = refl
bare-size (con n) b = refl
bare-size (lam l t) b = ap suc (bare-size t b)
bare-size (app a t) b = omega (arith, bare-size a b.0, bare-size t b.1)
bare-size (call_event f a r) b = absurd b
bare-size (emit f a r) b = absurd b
bare-size (sum a t) b = omega (arith, bare-size a b.0, bare-size t b.1)
bare-size (branch c a t) b = omega (arith, bare-size c b.0, bare-size a b.1, bare-size t b.2)
