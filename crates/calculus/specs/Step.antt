-- One step of Λcall, with sums and branches, as a function with its event. Assumes nothing.
use Rattle.std.specs.Prelude.{true, false, cond, ℕ, zero, suc, ◌+◌, leb}
use Rattle.std.proofs.Math.Option.{Option, none, some}
use Rattle.calculus.specs.Term.{Term, Codebase, is_value}
use Rattle.calculus.specs.Term.Term.{var, fun, con, lam, app, call_event, emit, sum, branch}
use Rattle.calculus.specs.Substitution.{put}

-- What a step does: "A step of the plain run calls f when it puts a value for the parameter of function f; that value is the argument."
pub data Event : Type 0 where
  quiet : Event
  calls : ℕ → Term → Event

-- Where an expression stands before a step.
pub data Next : Type 0 where
  at_value : Next
  at_stuck : Next
  next : Event → Term → Next

-- A call of function f on v, whose body is given.
abbrev pub call_of : ℕ → Term → Option Term → Next
call_of f v none = at_stuck
call_of f v (some b) = next (calls f v) (put 0 v b)

-- The redex of a function and an argument that are values.
abbrev pub redex : Codebase → Term → Term → Next
redex C (var i) v = at_stuck
redex C (fun f) v = call_of f v (C f)
redex C (con n) v = at_stuck
redex C (lam l b) v = next quiet (put 0 v b)
redex C (app a b) v = at_stuck
redex C (call_event f a r) v = at_stuck
redex C (emit f a r) v = at_stuck
redex C (sum a b) v = at_stuck
redex C (branch c a b) v = at_stuck

-- The number of a constant; other terms have none.
unfoldable pub constant : Term → Option ℕ
constant (var i) = none
constant (fun f) = none
constant (con n) = some n
constant (lam l b) = none
constant (app a b) = none
constant (call_event f a r) = none
constant (emit f a r) = none
constant (sum a b) = none
constant (branch c a b) = none

-- "a sum above 4,294,967,295"
abbrev pub greatest : ℕ
greatest = 4294967295

-- A sum with both terms worked out "adds two constants in one step"; "it is stuck on any other value or a sum above 4,294,967,295".
abbrev pub addition : Option ℕ → Option ℕ → Next
addition none y = at_stuck
addition (some m) none = at_stuck
addition (some m) (some n) = cond (leb (m + n) greatest) (next quiet (con (m + n))) at_stuck

-- A branch with its first term worked out "in one step becomes the second on constant 0, the third on another constant; else it is stuck".
abbrev pub choice : Option ℕ → Term → Term → Next
choice none a b = at_stuck
choice (some zero) a b = next quiet a
choice (some (suc n)) a b = next quiet b

-- The step inside a context.
abbrev pub inside : (Term → Term) → Next → Next
inside E at_value = at_value
inside E at_stuck = at_stuck
inside E (next ev e) = next ev (E e)

-- "Call by value, left before right, nothing under an abstraction." "A sum works out its left term, then its right", "A branch works out its
-- first term only".
unfoldable pub step : Codebase → Term → Next
step C (var i) = at_value
step C (fun f) = at_value
step C (con n) = at_value
step C (lam l b) = at_value
step C (app a b) =
    elim (is_value a) [
      | false ↦ inside (λ x. app x b) (step C a)
      | true ↦ elim (is_value b) [ false ↦ inside (λ x. app a x) (step C b) | true ↦ redex C a b ]
    ]
step C (call_event f a r) = at_stuck
step C (emit f a r) = at_stuck
step C (sum a b) =
    elim (is_value a) [
      | false ↦ inside (λ x. sum x b) (step C a)
      | true ↦ elim (is_value b) [ false ↦ inside (λ x. sum a x) (step C b) | true ↦ addition (constant a) (constant b) ]
    ]
step C (branch c a b) = elim (is_value c) [ false ↦ inside (λ x. branch x a b) (step C c) | true ↦ choice (constant c) a b ]
