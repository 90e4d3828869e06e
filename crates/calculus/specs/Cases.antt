-- The ten rehearsed cases of document 01, and cases of sums and branches and of overrides taken back, on trees. Assumes nothing.
use Rattle.std.specs.Prelude.{List, [], ◌∷◌, ◌≡◌, ℕ}
use Rattle.calculus.specs.Term.{Term, View, Program, view_of}
use Rattle.calculus.specs.Term.Term.{var, fun, con, lam, app, sum, branch}
use Rattle.calculus.specs.Guideline.{Guideline, Atom, Condition}
use Rattle.calculus.specs.Guideline.Condition.{before, related, none_since}
use Rattle.calculus.specs.Least.{Least}
use Rattle.calculus.specs.Derive.{fact_of}
use Rattle.calculus.specs.Entailment.{Entry}
use Rattle.calculus.specs.Rewriting.{rewrite}
use Rattle.calculus.specs.Run.{Outcome, Result}
use Rattle.calculus.specs.Run.Outcome.{value, stuck, spent}
use Rattle.calculus.specs.Log.{Conf, rewritten_run}

-- What a rehearsal shows: the outcome, the steps and the log.
pub record Shown : Type 0 where
  pub outcome : Outcome
  pub steps : ℕ
  pub log : List Entry

abbrev pub shows : Outcome → ℕ → List Entry → Shown
shows o k es = record { outcome = o; steps = k; log = es }

abbrev pub shown_of : Result Conf → Shown
shown_of r = shows r.outcome r.last.state.time r.last.state.log

-- Rewriting, then the rewritten run.
abbrev pub rehearsed : Guideline → Program → ℕ → Shown
rehearsed G S n = shown_of (rewritten_run G (rewrite G S) n)

-- A line of the listing: time, function, view kind, view number.
abbrev pub line : ℕ → ℕ → ℕ → ℕ → Entry
line t f k n = record { time = t; function = f; seen = view_of k n }

-- "Functions 0 (override) and 1 (fire) have variable 0 as body".
abbrev pub show : Term → Program
show e = record { definitions = var 0 ∷ var 0 ∷ []; main = e }

-- Function f on a constant, and then g on a constant, as in `5:0 4:0 5:0 2:g 3:b 5:0 2:f 3:a`.
abbrev pub in_turn : ℕ → ℕ → ℕ → ℕ → Term
in_turn f a g b = app (lam 0 (app (fun g) (con b))) (app (fun f) (con a))

abbrev pub logs : List ℕ → List Condition → Guideline
logs gs cs = record { facts = []; rules = []; clauses = record { function = 1; triggers = gs; conditions = cs } ∷ [] }

-- "G logs 1 with trigger 0."
abbrev pub after_override : Guideline
after_override = logs (0 ∷ []) []

abbrev pub constant : ℕ → View
constant n = view_of 3 n

abbrev pub atom : ℕ → ℕ → ℕ → Atom
atom p i j = record { predicate = p; first = i; second = j }

-- p0(1, 2), p0(2, 3), and p1 the closure of p0: p1(x0, x1) where p0(x0, x1), and p1(x0, x2) where p0(x0, x1) and p1(x1, x2).
abbrev pub closure : Guideline
closure =
    record {
      facts = fact_of 0 (constant 1) (constant 2) ∷ fact_of 0 (constant 2) (constant 3) ∷ [];
      rules = record { head = atom 1 0 1; body = atom 0 0 1 ∷ [] } ∷ record { head = atom 1 0 2; body = atom 0 0 1 ∷ atom 1 1 2 ∷ [] } ∷ [];
      clauses = [];
    }

-- p0(1, 1), and fire is logged where p0 holds of its argument, twice.
abbrev pub known_only : Guideline
known_only =
    record {
      facts = fact_of 0 (constant 1) (constant 1) ∷ [];
      rules = [];
      clauses = record { function = 1; triggers = []; conditions = related 0 0 0 ∷ [] } ∷ [];
    }

pub record TenCases : Type 0 where
  pub a : rehearsed after_override (show (in_turn 0 3 1 7)) 1000 ≡ shows value 3 (line 2 1 3 7 ∷ [])
  pub b : rehearsed after_override (show (in_turn 0 3 1 7)) 2 ≡ shows spent 2 []
  pub c : rehearsed after_override (show (in_turn 1 3 0 7)) 1000 ≡ shows value 3 []
  pub d : rehearsed after_override (show (con 1)) 0 ≡ shows value 0 []
  pub e : rehearsed after_override (show (app (con 7) (con 7))) 1000 ≡ shows stuck 0 []
  pub f : rehearsed (logs (1 ∷ []) []) (show (in_turn 1 5 1 7)) 1000 ≡ shows value 3 (line 2 1 3 7 ∷ [])
  pub g : rehearsed (logs [] []) (show (app (fun 1) (lam 9 (var 0)))) 1000 ≡ shows value 1 (line 0 1 4 9 ∷ [])
  pub h : Least closure 1 (constant 1) (constant 3) × (Least closure 1 (constant 3) (constant 1) → ⊥)
  pub i : rehearsed known_only (show (in_turn 1 7 1 1)) 1000 ≡ shows value 3 (line 2 1 3 1 ∷ [])
  pub j : rehearsed (logs (0 ∷ 0 ∷ []) (before 1 2 ∷ [])) (show (in_turn 0 3 1 7)) 1000 ≡ shows value 3 []

-- ---- sums and branches (document 02, Item 1), with every fire logged

abbrev pub fires : Term → ℕ → Shown
fires e n = rehearsed (logs [] []) (show e) n

abbrev pub fire : ℕ → Term
fire n = app (fun 1) (con n)

pub record SumCases : Type 0 where
  -- A cue thirty frames after frame 90: the sum is a step of its own.
  pub spaced : fires (app (fun 1) (sum (con 90) (con 30))) 1000 ≡ shows value 2 (line 1 1 3 120 ∷ [])
  -- The greatest sum; and one more, which is stuck though the budget is spent too.
  pub greatest : fires (app (fun 1) (sum (con 4294967290) (con 5))) 1000 ≡ shows value 2 (line 1 1 3 4294967295 ∷ [])
  pub above : fires (sum (con 4294967290) (con 6)) 0 ≡ shows stuck 0 []
  -- "with both worked out, it is stuck on any other value": the right is worked out whatever the left is.
  pub both : fires (sum (lam 0 (var 0)) (fire 7)) 1000 ≡ shows stuck 1 (line 0 1 3 7 ∷ [])
  -- "becomes the second on constant 0, the third on another constant": the other term is never worked out.
  pub second : fires (branch (con 0) (fire 2) (fire 3)) 1000 ≡ shows value 2 (line 1 1 3 2 ∷ [])
  pub third : fires (branch (con 1) (fire 2) (fire 3)) 1000 ≡ shows value 2 (line 1 1 3 3 ∷ [])
  pub third-too : fires (branch (con 4294967295) (fire 2) (fire 3)) 1000 ≡ shows value 2 (line 1 1 3 3 ∷ [])
  -- "else it is stuck"
  pub on-name : fires (branch (fun 1) (fire 2) (fire 3)) 1000 ≡ shows stuck 0 []
  pub on-abstraction : fires (branch (lam 0 (var 0)) (fire 2) (fire 3)) 1000 ≡ shows stuck 0 []
  -- A sum's result in function position.
  pub applied : fires (app (sum (con 1) (con 2)) (con 4)) 1000 ≡ shows stuck 1 []

-- ---- overrides taken back (document 02, Item 2)

-- Functions 0 (override), 1 (fire) and 2 (cancel) have variable 0 as body.
abbrev pub with_cancel : Term → Program
with_cancel e = record { definitions = var 0 ∷ var 0 ∷ var 0 ∷ []; main = e }

-- The functions in turn, each on constant 7: their calls are at times 0, 2, 4 and so on.
abbrev pub one_by_one : ℕ → List ℕ → Term
one_by_one f [] = app (fun f) (con 7)
one_by_one f (g ∷ gs) = app (lam 0 (one_by_one g gs)) (app (fun f) (con 7))

-- Fire is logged after an override, unless h was called since.
abbrev pub unless : ℕ → Guideline
unless h = logs (0 ∷ []) (none_since 1 h ∷ [])

pub record TakenBack : Type 0 where
  -- Override, cancel, fire: nothing is logged.
  pub cancelled : rehearsed (unless 2) (with_cancel (one_by_one 0 (2 ∷ 1 ∷ []))) 1000 ≡ shows value 5 []
  -- Override, cancel, override, fire: the second override stands.
  pub again : rehearsed (unless 2) (with_cancel (one_by_one 0 (2 ∷ 0 ∷ 1 ∷ []))) 1000 ≡ shows value 7 (line 6 1 3 7 ∷ [])
  -- The override itself does not take itself back.
  pub itself : rehearsed (unless 0) (with_cancel (one_by_one 0 (1 ∷ []))) 1000 ≡ shows value 3 (line 2 1 3 7 ∷ [])
  -- Of two fires the first takes the override back for the second, not for itself.
  pub once : rehearsed (unless 1) (with_cancel (one_by_one 0 (1 ∷ 1 ∷ []))) 1000 ≡ shows value 5 (line 2 1 3 7 ∷ [])
