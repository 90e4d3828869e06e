-- Where commands stand only where document 01 allows them, none is left in a run's expression; rewriting puts them only there. Assumes
-- nothing.
use mathlib.Core.Bool.{Bool, true, false, cond}
use mathlib.Core.Option.{Option, none, some}
use mathlib.Core.Path.{◌≡◌, refl, sym}
use native.Mathlib.Omega.{arith}
use Prim.Native.Nat.{ℕ, zero, suc}
use lib.Dec.{leb}
use Rattle.calculus.specs.Term.{Term, Codebase, size, Bare, BareCode, Placed, PlacedCode}
use Rattle.calculus.specs.Term.Term.{var, call_event, emit}
use Rattle.calculus.specs.Term.Placed.{plain, noting, logging}
use Rattle.calculus.specs.Step.{Next, step}
use Rattle.calculus.specs.Step.Next.{at_value, at_stuck, next}
use Rattle.calculus.specs.Guideline.{Guideline}
use Rattle.calculus.specs.Rewriting.{logged, noted, instrument, instrumented, rewritten_code}
use Rattle.calculus.specs.Run.{Outcome, Tick, run, ended, onward, limit}
use Rattle.calculus.specs.Run.Tick.{halt, stop, go}
use Rattle.calculus.specs.Log as L
use Rattle.calculus.specs.Log.{Conf, State, at, tick, settle, is_full, log_next, log_tick}
use Rattle.calculus.proofs.Peel.{step-bare, settle-bare, Similar}
use Rattle.calculus.specs.Strip.{strip_code}
use Rattle.calculus.proofs.Strip.{stripped-bare, book_code, stripped-peel}

-- The expression has no command left once those due are done.
abbrev Clears : Guideline → Next → Type 0
Clears G at_value = Unit {0}
Clears G at_stuck = Unit {0}
Clears G (next ev e) = (s : State) → Bare (settle G e s).expr

-- A step's commands done, none is left.
step-clears : (G : Guideline) (C : Codebase) → PlacedCode C → (e : Term) → Bare e → Clears G (step C e)
step-clears G C placed e p = on (step (strip_code C) e) (step C e) refl (stripped-peel G C placed e p)
  where
    on : (x x' : Next) → step (strip_code C) e ≡ x → Similar G (book_code G C) x x' → Clears G x'
    on at_value x' q h = rw h tt
    on at_stuck x' q h = rw h tt
    on (next ev r) x' q (r', h, l, k) = rw h (λ s. rw (k s) (step-bare (strip_code C) (stripped-bare C placed) e r ev p q))

module _ (G : Guideline) (C : Codebase) (placed : PlacedCode C) where
  abbrev BareTick : Tick Conf → Type 0
  BareTick (halt o) = Unit {0}
  BareTick (stop o) = Unit {0}
  BareTick (go κ) = Bare κ.expr

  tick-bare : (κ : Conf) → Bare κ.expr → BareTick (log_tick G C κ)
  unfolding log_tick
  tick-bare κ p = on (step C κ.expr) (step-clears G C placed κ.expr p)
    where
      moved : (e : Term) → ((s : State) → Bare (settle G e s).expr) → (x y : Bool) → BareTick (cond x (cond y (stop Outcome.full) (go (settle G e (tick κ.state)))) (stop Outcome.large))
      moved e h true true = tt
      moved e h true false = h (tick κ.state)
      moved e h false y = tt

      on : (x : Next) → Clears G x → BareTick (log_next G C κ x)
      on at_value h = tt
      on at_stuck h = tt
      on (next ev e) h = moved e h (leb (size e) limit) (is_full C κ.state ev)

  run-bare : (n : ℕ) (κ : Conf) → Bare κ.expr → Bare (run (log_tick G C) n κ).last.expr
  unfolding run
  run-bare zero κ p = on (log_tick G C κ)
    where
      on : (x : Tick Conf) → Bare (ended κ x).last.expr
      on (halt o) = p
      on (stop o) = p
      on (go κ') = p
  run-bare (suc n) κ p = on (log_tick G C κ) (tick-bare κ p) (λ κ' q. run-bare n κ' q)
    where
      on : (x : Tick Conf) → BareTick x → ((κ' : Conf) → Bare κ'.expr → Bare (run (log_tick G C) n κ').last.expr) → Bare (onward κ (λ κ'. run (log_tick G C) n κ') x).last.expr
      on (halt o) h below = p
      on (stop o) h below = p
      on (go κ') h below = below κ' h

  -- "a finished run has none pending": no command is left in a run's expression.
  pub none_left : (e : Term) → Bare e → (n : ℕ) → Bare (L.logged G C n e).last.expr
  unfolding L.logged
  none_left e p n = rw (settle-bare G e L.fresh p) (run-bare n (at e L.fresh) p)

-- Rewriting puts commands only where they are allowed.
instrument-placed : (G : Guideline) (f : ℕ) (b : Term) → Bare b → Placed f (instrument G f b)
unfolding instrument
instrument-placed G f b p = on (logged G f) (noted G f)
  where
    on : (x y : Bool) → Placed f (cond x (call_event f (var 0) (emit f (var 0) b)) (cond y (call_event f (var 0) b) b))
    on true y = logging b p refl
    on false true = noting b p refl
    on false false = plain p

pub rewritten-placed : (G : Guideline) (C : Codebase) → BareCode C → PlacedCode (rewritten_code G C)
rewritten-placed G C bare f b e = on (C f) refl e
  where
    on : (o : Option Term) → C f ≡ o → instrumented G f o ≡ some b → Placed f b
    on none q h = absurd (let z : ◌≡◌ {A = ℕ} 0 1 = cc in omega arith)
    on (some r) q h = let k : instrument G f r ≡ b = cc in rw (sym k) (instrument-placed G f r (bare f r q))
