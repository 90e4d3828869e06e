-- Laws of the machine that makes both runs, and of the plain run's clock. Assumes nothing.
use mathlib.Core.Bool.{Bool, true, false}
use mathlib.Core.List.{◌++◌}
use mathlib.Core.Path.{◌≡◌, refl, sym, ap, ◌∙◌}
use native.Mathlib.Omega.{arith}
use Prim.Native.Nat.{ℕ, zero, suc, ◌+◌, ◌≤◌}
use lib.Dec.{leb}
use Rattle.calculus.specs.Term.{Term, Codebase, records}
use Rattle.calculus.specs.Step.{Event, Next, step}
use Rattle.calculus.specs.Step.Next.{at_value, at_stuck, next}
use Rattle.calculus.specs.Run.{Outcome, Tick, Result, result, run, Conf, calls_of, limit, plain_tick, plain_next, plain_move, initial, plain}
use Rattle.calculus.specs.Run.Outcome.{spent}
use Rattle.calculus.specs.Run.Tick.{halt, stop, go}

module _ {S : Type 0} where
  -- What leads on is no outcome, and leads to one configuration.
  halt-not-go : {o : Outcome} {s : S} → halt o ≡ go s → ⊥
  halt-not-go e = let z : ◌≡◌ {A = ℕ} 0 1 = cc in omega arith

  stop-not-go : {o : Outcome} {s : S} → stop o ≡ go s → ⊥
  stop-not-go e = let z : ◌≡◌ {A = ℕ} 0 1 = cc in omega arith

  go_same : {s s' : S} → go s ≡ go s' → s ≡ s'
  go_same e = cc

module _ {S : Type 0} (tick : S → Tick S) where
  -- An outcome tested before the budget ends the run at once …
  pub run-halt : (n : ℕ) (s : S) (o : Outcome) → tick s ≡ halt o → run tick n s ≡ result o s
  unfolding run
  run-halt zero s o e = rw e
  run-halt (suc n) s o e = rw e

  -- … one tested after it does so where some budget is left …
  pub run-stop : (n : ℕ) (s : S) (o : Outcome) → tick s ≡ stop o → run tick (suc n) s ≡ result o s
  unfolding run
  run-stop n s o e = rw e

  -- … and where none is left the budget is spent, …
  pub run_out : (s : S) (o : Outcome) → tick s ≡ stop o → run tick zero s ≡ result spent s
  unfolding run
  run_out s o e = rw e

  -- … also where a step would lead on, …
  pub run-spent : (s s' : S) → tick s ≡ go s' → run tick zero s ≡ result spent s
  unfolding run
  run-spent s s' e = rw e

  -- … else a step leads on.
  pub run-go : (n : ℕ) (s s' : S) → tick s ≡ go s' → run tick (suc n) s ≡ run tick n s'
  unfolding run
  run-go n s s' e = rw e

  -- Without a budget a run ends where it begins.
  pub run-zero : (s : S) → (run tick zero s).last ≡ s
  run-zero s = on (tick s) refl
    where
      on : (t : Tick S) → tick s ≡ t → (run tick zero s).last ≡ s
      on (halt o) e = rw (run-halt zero s o e)
      on (stop o) e = rw (run_out s o e)
      on (go s') e = rw (run-spent s s' e)

  -- A run with one more in the budget is one tick more.
  pub run-next : (n : ℕ) (s : S) → run tick (suc n) s ≡ run tick 1 (run tick n s).last
  run-next zero s = rw (run-zero s)
  run-next (suc n) s = on (tick s) refl (λ s'. run-next n s')
    where
      on : (t : Tick S) → tick s ≡ t → ((s' : S) → run tick (suc n) s' ≡ run tick 1 (run tick n s').last) → run tick (suc (suc n)) s ≡ run tick 1 (run tick (suc n) s).last
      on (halt o) e below = rw (run-halt (suc (suc n)) s o e, run-halt (suc n) s o e, run-halt 1 s o e)
      on (stop o) e below = rw (run-stop (suc n) s o e, run-stop n s o e, run-stop 0 s o e)
      on (go s') e below = rw (run-go (suc n) s s' e, run-go n s s' e) (below s')

  -- A run is a shorter one and then the rest.
  pub run-last : (m j : ℕ) (s : S) → (run tick (m + j) s).last ≡ (run tick j (run tick m s).last).last
  run-last m zero s = let e : m + 0 ≡ m = omega arith in rw (e, run-zero (run tick m s).last)
  run-last m (suc j) s =
      let e : m + suc j ≡ suc (m + j) = omega arith in
      rw (e, run-next (m + j) s, run-next j (run tick m s).last, run-last m j s)

-- ---- the plain run

-- A step of the plain run: the expression has a next one, which is not large, and time and calls go on.
pub record Moves (C : Codebase) (κ κ' : Conf) : Type 0 where
  pub event : Event
  pub expr : Term
  pub steps : step C κ.expr ≡ next event expr
  pub goes : κ' ≡ record { expr = expr; time = suc κ.time; made = κ.made ++ calls_of κ.time event }

-- Where the plain run leads on, it makes a step.
pub plain-moves : (C : Codebase) (κ κ' : Conf) → plain_tick C κ ≡ go κ' → Moves C κ κ'
unfolding plain_tick
plain-moves C κ κ' h = on (step C κ.expr) refl h
  where
    small : (ev : Event) (e : Term) → step C κ.expr ≡ next ev e → (b : Bool) → leb (records e) limit ≡ b → plain_move κ ev e ≡ go κ' → Moves C κ κ'
    small ev e q false p k = absurd (stop-not-go (rw p at k))
    small ev e q true p k = record { event = ev; expr = e; steps = q; goes = sym (go_same (rw p at k)) }

    on : (x : Next) → step C κ.expr ≡ x → plain_next κ x ≡ go κ' → Moves C κ κ'
    on at_value q k = absurd (halt-not-go k)
    on at_stuck q k = absurd (halt-not-go k)
    on (next ev e) q k = small ev e q (leb (records e) limit) refl k

-- A run's time is at most its budget, counted from the start …
pub time-most : (C : Codebase) (n : ℕ) (κ : Conf) → (run (plain_tick C) n κ).last.time ≤ κ.time + n
time-most C zero κ = rw (run-zero (plain_tick C) κ) (omega arith)
time-most C (suc n) κ = on (plain_tick C κ) refl (λ κ'. time-most C n κ')
  where
    on : (t : Tick Conf) → plain_tick C κ ≡ t → ((κ' : Conf) → (run (plain_tick C) n κ').last.time ≤ κ'.time + n) → (run (plain_tick C) (suc n) κ).last.time ≤ κ.time + suc n
    on (halt o) e below = rw (run-halt (plain_tick C) (suc n) κ o e) (omega arith)
    on (stop o) e below = rw (run-stop (plain_tick C) n κ o e) (omega arith)
    on (go κ') e below = let l = below κ' in let t = ap (λ (c : Conf). c.time) (plain-moves C κ κ' e).goes in rw (run-go (plain_tick C) n κ κ' e) (omega arith)

-- … and equal to it where a step still leads on.
pub time-exact : (C : Codebase) (n : ℕ) (κ κ'' : Conf) → plain_tick C (run (plain_tick C) n κ).last ≡ go κ'' → (run (plain_tick C) n κ).last.time ≡ κ.time + n
time-exact C zero κ κ'' h = rw (run-zero (plain_tick C) κ) (omega arith)
time-exact C (suc n) κ κ'' h = on (plain_tick C κ) refl (λ κ'. time-exact C n κ' κ'')
  where
    on : (t : Tick Conf) → plain_tick C κ ≡ t → ((κ' : Conf) → plain_tick C (run (plain_tick C) n κ').last ≡ go κ'' → (run (plain_tick C) n κ').last.time ≡ κ'.time + n) → (run (plain_tick C) (suc n) κ).last.time ≡ κ.time + suc n
    on (halt o) e below = absurd (halt-not-go (sym e ∙ (rw (run-halt (plain_tick C) (suc n) κ o e) at h)))
    on (stop o) e below = absurd (stop-not-go (sym e ∙ (rw (run-stop (plain_tick C) n κ o e) at h)))
    on (go κ') e below =
        let l = below κ' (rw (run-go (plain_tick C) n κ κ' e) at h) in
        let t = ap (λ (c : Conf). c.time) (plain-moves C κ κ' e).goes in
        rw (run-go (plain_tick C) n κ κ' e) (omega arith)

-- With one more in the budget the plain run makes step n, or it ends where it did.
pub data Advance (C : Codebase) (e : Term) (n : ℕ) : Type 0 where
  rests : (plain C (suc n) e).last ≡ (plain C n e).last → Advance C e n
  moves : (plain C n e).last.time ≡ n → Moves C (plain C n e).last (plain C (suc n) e).last → Advance C e n

-- One or the other.
pub advance : (C : Codebase) (e : Term) (n : ℕ) → Advance C e n
unfolding plain
advance C e n = on (plain_tick C s) refl
  where
    s : Conf
    s = (run (plain_tick C) n (initial e)).last

    onward : (plain C (suc n) e).last ≡ (run (plain_tick C) 1 s).last
    onward = ap (λ (r : Result Conf). r.last) (run-next (plain_tick C) n (initial e))

    on : (t : Tick Conf) → plain_tick C s ≡ t → Advance C e n
    on (halt o) q = rests (onward ∙ ap (λ (r : Result Conf). r.last) (run-halt (plain_tick C) 1 s o q))
    on (stop o) q = rests (onward ∙ ap (λ (r : Result Conf). r.last) (run-stop (plain_tick C) 0 s o q))
    on (go s') q =
        let t = time-exact C n (initial e) s' q in
        let u = onward ∙ ap (λ (r : Result Conf). r.last) (run-go (plain_tick C) 0 s s' q) ∙ run-zero (plain_tick C) s' in
        moves (omega arith) (rw u (plain-moves C s s' q))
