-- An expression as a focus and the frames around it. Assumes nothing.
use Rattle.std.specs.Prelude.{true, List, [], ◌∷◌, ◌≡◌, ℕ, ◌+◌, ◌≤◌}
use Rattle.calculus.specs.Term.{Term, is_value}
use Rattle.calculus.specs.Term.Term.{var, fun, con, lam, app, call_event, emit, sum, branch}
use Rattle.calculus.specs.Step.{greatest}

-- The two that work out both their parts, left before right: an application and a sum.
pub data Pair : Type 0 where
  applies adds : Pair

abbrev pub join : Pair → Term → Term → Term
join applies a b = app a b
join adds a b = sum a b

abbrev pub pair_kind : Pair → ℕ
pair_kind applies = 5
pair_kind adds = 9

-- What stands around the focus: a pair whose second part is to come, or whose first part is done; or a branch whose other two terms wait.
pub data Frame : Type 0 where
  to_come : Pair → Term → Frame
  done : Pair → Term → Frame
  choosing : Term → Term → Frame

-- The kind of a frame's record.
abbrev pub kind_of : Frame → ℕ
kind_of (to_come w b) = pair_kind w
kind_of (done w a) = pair_kind w
kind_of (choosing a b) = 10

-- The focus in its frame.
abbrev pub fill : Frame → Term → Term
fill (to_come w b) t = join w t b
fill (done w a) t = join w a t
fill (choosing a b) t = branch t a b

-- The expression that a focus makes with its frames, the innermost frame first.
abbrev pub plug : List Frame → Term → Term
plug [] t = t
plug (f ∷ K) t = plug K (fill f t)

-- Each part that is done is a value: call by value, left before right, can go on at the focus.
abbrev pub Done : Frame → Type 0
Done (to_come w b) = Unit {0}
Done (done w a) = is_value a ≡ true
Done (choosing a b) = Unit {0}

abbrev pub Fine : List Frame → Type 0
Fine [] = Unit {0}
Fine (f ∷ K) = Done f × Fine K

-- A value that a step applies: a function name or an abstraction.
abbrev pub Callable : Term → Type 0
Callable (var i) = ⊥
Callable (fun f) = Unit {0}
Callable (con n) = ⊥
Callable (lam l b) = Unit {0}
Callable (app a b) = ⊥
Callable (call_event f a r) = ⊥
Callable (emit f a r) = ⊥
Callable (sum a b) = ⊥
Callable (branch c a b) = ⊥

-- A focus that is a value and its innermost frame are the next redex, and the step is made: a function applied, two constants with a sum that
-- fits, or a branch on a constant.
pub data Fires : Frame → Term → Type 0 where
  applied : {a v : Term} → Callable a → is_value v ≡ true → Fires (done applies a) v
  added : {i j : ℕ} → i + j ≤ greatest → Fires (done adds (con i)) (con j)
  chosen : {a b : Term} {n : ℕ} → Fires (choosing a b) (con n)
