-- The numbers of a program that fit their four bytes do so in every call of its plain run. Assumes nothing.
use mathlib.Core.List.Memᴰ
use mathlib.Core.List.{◌∷◌, [], Memᴰ}
use mathlib.Core.Option.{some}
use mathlib.Core.Path.{◌≡◌}
use Prim.Native.Nat.{ℕ, zero, suc, ◌^◌, ◌<◌, ◌≤◌}
use native.Mathlib.Omega.{arith}
use Rattle.calculus.specs.Term.{Term, Codebase, Program, codebase, view}
use Rattle.calculus.specs.Term.Term.{var, fun, con, lam, app, call_event, emit, sum, branch}
use Rattle.calculus.specs.Step.{Event}
use Rattle.calculus.specs.Step.Event.{calls}
use Rattle.calculus.specs.Entailment.{Call, entry}
use Rattle.calculus.specs.Run.{initial, plain_tick, plain, plain_run}
use Rattle.calculus.specs.Claim.{calls_below}
use Rattle.calculus.proofs.Lists.{each_from}
use Rattle.calculus.proofs.Steps.{Steps, step-sound}
use Rattle.calculus.proofs.Steps.Steps.{apply, call, add, second, third, left, right, augend, addend, condition}
use Rattle.calculus.proofs.Run.{Advance, advance, run-zero}
use Rattle.calculus.proofs.Run.Advance.{rests, moves}
use Rattle.calculus.proofs.Trace.{made-exactly}
use Rattle.terms.specs.Encode.{Fits}
use Rattle.substitution.proofs.Laws.{put-fits}
use Rattle.script.proofs.Program.{FitsProgram}
use Rattle.machine.proofs.Program.{body-among}
use Rattle.history.specs.Entries.{AllInRange}

-- ---- steps

-- The numbers of every body fit.
abbrev FitsCode : Codebase → Type 0
FitsCode C = (f : ℕ) (b : Term) → C f ≡ some b → Fits b

-- A step keeps numbers that fit, …
steps-fit : {C : Codebase} → FitsCode C → {e e' : Term} {ev : Event} → Steps C e ev e' → Fits e → Fits e'
steps-fit code (apply {b = b} {v = v} p h) w = rw h (put-fits 0 v b w.1 w.0.1)
steps-fit code (call {f = f} {b = b} {v = v} p c h) w = rw h (put-fits 0 v b w.1 (code f b c))
steps-fit code (add l h) w = rw h (omega arith)
steps-fit code (second h) w = rw h w.1
steps-fit code (third h) w = rw h w.2
steps-fit code (left t) w = (steps-fit code t w.0, w.1)
steps-fit code (right p t) w = (w.0, steps-fit code t w.1)
steps-fit code (augend t) w = (steps-fit code t w.0, w.1)
steps-fit code (addend p t) w = (w.0, steps-fit code t w.1)
steps-fit code (condition t) w = (steps-fit code t w.0, w.1, w.2)

-- … and so do those of the call that it makes.
call_fits : {C : Codebase} {e e' : Term} {f : ℕ} {v : Term} → Steps C e (calls f v) e' → Fits e → (f < 2 ^ 32) × Fits v
call_fits (call p c h) w = (w.0, w.1)
call_fits (left t) w = call_fits t w.0
call_fits (right p t) w = call_fits t w.1
call_fits (augend t) w = call_fits t w.0
call_fits (addend p t) w = call_fits t w.1
call_fits (condition t) w = call_fits t w.0

-- ---- the plain run

-- So do those of every expression of a plain run.
plain_fits : (C : Codebase) → FitsCode C → (e : Term) → Fits e → (n : ℕ) → Fits (plain C n e).last.expr
unfolding plain
plain_fits C code e w zero = rw (run-zero (plain_tick C) (initial e)) w
plain_fits C code e w (suc n) = on (advance C e n) (plain_fits C code e w n)
  where
    on : Advance C e n → Fits (plain C n e).last.expr → Fits (plain C (suc n) e).last.expr
    on (rests p) below = rw p below
    on (moves t p) below = rw p.goes (steps-fit code (step-sound C (plain C n e).last.expr p.expr p.event p.steps) below)

-- ---- entries

-- A view's kind is one of nine, and its number is one of the term's or 0.
view-fits : (v : Term) → Fits v → ((view v).kind < 2 ^ 32) × ((view v).number < 2 ^ 32)
unfolding view
view-fits (var i) w = (omega arith, w)
view-fits (fun f) w = (omega arith, w)
view-fits (con n) w = (omega arith, w)
view-fits (lam l b) w = (omega arith, w.0)
view-fits (app a b) w = (omega arith, omega arith)
view-fits (call_event f a r) w = (omega arith, w.0)
view-fits (emit f a r) w = (omega arith, w.0)
view-fits (sum a b) w = (omega arith, omega arith)
view-fits (branch c a b) w = (omega arith, omega arith)

module _ (S : Program) (fits : FitsProgram S) where
  -- The numbers of a call fit.
  made-fits : (k : ℕ) (c : Call) → Memᴰ c (plain_run S k).last.made → (c.time < k) × (c.function < 2 ^ 32) × Fits c.argument
  made-fits k c m =
      let C : Codebase = codebase S in
      let (l, t, (e', q)) = (made-exactly C S.main k c).0 m in
      let code : FitsCode C = λ f b i. fits.bodies b (body-among S.definitions f b i) in
      let r = call_fits (step-sound C (plain C c.time S.main).last.expr e' (calls c.function c.argument) q) (plain_fits C code S.main fits.main c.time) in
      (l, r.0, r.1)

  -- So an entry is read as it was written.
  pub calls-ranged : (k : ℕ) → k ≤ 2 ^ 32 → AllInRange (calls_below S k)
  calls-ranged k h x m =
      let (c, i, j) = each_from (λ (c : Call). entry c ∷ []) (plain_run S k).last.made m in
      let (l, f, a) = made-fits k c i in
      let v = view-fits c.argument a in
      rw (Memᴰ.eq_of_singleton j) record { time = omega arith; function = f; kind = v.0; number = v.1 }
