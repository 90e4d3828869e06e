-- Runs with a budget, and the plain run (document 01, "The plain run"). Assumes nothing.
use Rattle.std.specs.Prelude.{cond, List, [], ◌∷◌, ◌++◌, ℕ, zero, suc, leb}
use Rattle.calculus.specs.Term.{Term, Codebase, Program, records, codebase}
use Rattle.calculus.specs.Step.{Event, Next, step}
use Rattle.calculus.specs.Step.Event.{quiet, calls}
use Rattle.calculus.specs.Step.Next.{at_value, at_stuck, next}
use Rattle.calculus.specs.Entailment.{Call}

pub data Outcome : Type 0 where
  value stuck spent large full : Outcome

-- ---- one machine for both runs

-- A configuration before a step: it has an outcome that is tested before the budget (value, stuck), or one that is tested after it
-- (large, full), or a step leads on.
pub data Tick (S : Type 0) : Type 0 where
  halt : Outcome → Tick S
  stop : Outcome → Tick S
  go : S → Tick S

pub record Result (S : Type 0) : Type 0 where
  pub outcome : Outcome
  pub last : S

abbrev pub result : {S : Type 0} → Outcome → S → Result S
result o s = record { outcome = o; last = s }

module _ {S : Type 0} where
  -- "spent (steps made equal the budget)"
  abbrev pub ended : S → Tick S → Result S
  ended s (halt o) = result o s
  ended s (stop o) = result spent s
  ended s (go s') = result spent s

  abbrev pub onward : S → (S → Result S) → Tick S → Result S
  onward s κ (halt o) = result o s
  onward s κ (stop o) = result o s
  onward s κ (go s') = κ s'

  -- "Outcomes, tested in this order before each step: value; stuck; spent; large", and "One more outcome, tested last: full": the run
  -- with a budget from a configuration on, as an iteration of one tick.
  unfoldable pub run : (S → Tick S) → ℕ → S → Result S
  run tick zero s = ended s (tick s)
  run tick (suc n) s = onward s (λ s'. run tick n s') (tick s)

-- ---- the plain run

-- κ ::= (e, n, C), with the calls of the steps made so far.
pub record Conf : Type 0 where
  pub expr : Term
  pub time : ℕ
  pub made : List Call

-- The call of step t, if it makes one.
abbrev pub calls_of : ℕ → Event → List Call
calls_of t quiet = []
calls_of t (calls f v) = record { time = t; function = f; argument = v } ∷ []

-- "1,024 records"
abbrev pub limit : ℕ
limit = 1024

-- "large (the step would leave over 1,024 records)"
abbrev pub plain_move : Conf → Event → Term → Tick Conf
plain_move κ ev e = cond (leb (records e) limit) (go record { expr = e; time = suc κ.time; made = κ.made ++ calls_of κ.time ev }) (stop large)

abbrev pub plain_next : Conf → Next → Tick Conf
plain_next κ at_value = halt value
plain_next κ at_stuck = halt stuck
plain_next κ (next ev e) = plain_move κ ev e

unfoldable pub plain_tick : Codebase → Conf → Tick Conf
plain_tick C κ = plain_next κ (step C κ.expr)

abbrev pub initial : Term → Conf
initial e = record { expr = e; time = 0; made = [] }

-- The plain run of (e, C) with budget n.
unfoldable pub plain : Codebase → ℕ → Term → Result Conf
plain C n e = run (plain_tick C) n (initial e)

abbrev pub plain_run : Program → ℕ → Result Conf
plain_run S n = plain (codebase S) n S.main
