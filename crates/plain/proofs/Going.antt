-- The run on the buffers is the calculus's plain run. Assumes nothing.
use mathlib.Core.Bool.{Bool, true, false, cond}
use mathlib.Core.List.{List, [], ◌++◌}
use mathlib.Core.Path.{◌≡◌, refl, sym, ◌∙◌}
use native.Mathlib.Decide.{dec_lt}
use native.Mathlib.Numerals.{add-one}
use native.Mathlib.Omega.{arith}
use Prim.Native.Nat.{ℕ, zero, suc, ◌+◌, ◌-◌, ◌<◌, ◌≤◌}
use lib.ListN.{length}
use borrow.Author.Tests.{le-leb, lt-leb, eqb-true}
use lib.Dec.{eqb}
use Rattle.calculus.specs.Term.{Term, Codebase, ClosedCode, ClosedTerm, is_value, records}
use Rattle.calculus.specs.Step.{step}
use Rattle.calculus.specs.Step.Next.{at_stuck}
use Rattle.calculus.specs.Entailment.{Call}
use Rattle.calculus.specs.Run as runs
use Rattle.calculus.specs.Run.{result, Conf, calls_of, limit, plain_tick, plain_run}
use Rattle.calculus.specs.Run.Outcome.{value, stuck, spent, large}
use Rattle.calculus.specs.Run.Tick.{halt, stop, go}
use Rattle.calculus.proofs.Size.{size-most}
use Rattle.calculus.proofs.Run.{run-halt, run-stop, run_out, run-spent, run-go}
use Rattle.calculus.proofs.Scope.{step-closed}
use Rattle.script.specs.declared.Purpose.TheVariants.{PlainRun}
use Rattle.terms.specs.Read.{term_at}
use Rattle.zipper.specs.Zipper.{whole_in, ZipOf, Flat, Poised, SoughtIs, Loaded}
use Rattle.zipper.specs.declared.Entry.{Entry}
use Rattle.zipper.specs.declared.Gap.{Gap}
use Rattle.zipper.specs.declared.Redex.{Redex}
use Rattle.zipper.specs.declared.Sought.{Sought}
use Rattle.zipper.specs.declared.Sought.TheVariants as sought
use Rattle.zipper.proofs.Context.{step_value}
use Rattle.zipper.proofs.Whole.{zip-own, zip-flat, zip-whole, poised-flat, poised-whole}
use Rattle.zipper.proofs.Ends.{loaded-zip}
use Rattle.script.specs.File.{program_in}
use Rattle.machine.specs.Program.{code_in, Formed}
use Rattle.machine.specs.Bodies.{Positions, Found}
use Rattle.std.specs.Prelude.{Option, Some, None}
use Rattle.machine.specs.Fire.{Ready, FiredIs}
use Rattle.machine.specs.declared.Body.{Body}
use Rattle.machine.specs.Outcome.{outcome_of}
use Rattle.machine.proofs.Program.{formed-any, formed-closed, plain_code}
use Rattle.machine.proofs.Contract.{Moves, poised-ready, poised-moves, fired-moved, fired-large}
use Rattle.plain.specs.Answer.{rested, due_of, rest_of, Rested}
use Rattle.plain.specs.declared.Counts.{Counts}
use Rattle.plain.proofs.Resting.{redex-due, step-left}

-- ---- a tick of the plain run

abbrev pub conf : Term → ℕ → List Call → Conf
conf T k m = record { expr = T; time = k; made = m }

module _ (C : Codebase) (T : Term) (k : ℕ) (m : List Call) where
  value-tick : is_value T ≡ true → plain_tick C (conf T k m) ≡ halt value
  unfolding plain_tick
  value-tick v = rw (step_value C T v)

  stuck-tick : step C T ≡ at_stuck → plain_tick C (conf T k m) ≡ halt stuck
  unfolding plain_tick
  stuck-tick e = rw e

  module _ (h : Moves C T) where
    small-tick : records h.expr ≤ limit → plain_tick C (conf T k m) ≡ go (conf h.expr (suc k) (m ++ calls_of k h.event))
    unfolding plain_tick
    small-tick l = rw (h.steps, le-leb (records h.expr) limit l)

    large-tick : limit < records h.expr → plain_tick C (conf T k m) ≡ stop large
    unfolding plain_tick
    large-tick l = rw (h.steps, lt-leb (records h.expr) limit l)

    -- Without budget the step is not made, whether it would be large or not.
    spent-run : runs.run (plain_tick C) zero (conf T k m) ≡ result spent (conf T k m)
    spent-run = on (dec_lt limit (records h.expr))
      where
        on : Dec (limit < records h.expr) → runs.run (plain_tick C) zero (conf T k m) ≡ result spent (conf T k m)
        on (yes l) = run_out (plain_tick C) (conf T k m) large (large-tick l)
        on (no l) = run-spent (plain_tick C) (conf T k m) _ (small-tick (omega arith))

-- ---- the run

module _ (s : List ℕ) (budget : ℕ) where
  -- The buffers hold the expression after k steps; the plain run from there is the whole plain run.
  pub record Going (e : List ℕ) (fs : List Entry) (l r n k : ℕ) : Type 0 where
    pub made : List Call
    pub zip : ZipOf e fs l r n (whole_in e l r)
    pub closed : ClosedTerm (code_in s) (whole_in e l r)
    pub same : runs.run (plain_tick (code_in s)) (budget - k) (conf (whole_in e l r) k made) ≡ plain_run (program_in s) budget
    pub within : k ≤ budget

  -- The main term, loaded.
  pub begins : Formed PlainRun s → (bodies : List Body) (main : ℕ) → Found s bodies main → (r : ℕ) (e e' : List ℕ) → Loaded (term_at s main) r e e'
      → length e ≡ 24576 → (fs : List Entry) → 1024 ≤ length fs → Going e' fs 0 r 0 0
  unfolding runs.plain
  begins h bodies main f r e e' a w fs g =
      let z : ZipOf e' fs 0 r 0 (term_at s main) = loaded-zip a f.last.sound w fs g in
      let t : whole_in e' 0 r ≡ (program_in s).main = zip-whole z ∙ f.is-main in
      let b : budget - 0 ≡ budget = omega arith in
      record {
        made = [];
        zip = zip-own z;
        closed = rw t (formed-closed (formed-any h));
        same = rw (t, b, plain_code h);
        within = omega arith;
      }

  module _ {e : List ℕ} {fs : List Entry} {l r n : ℕ} {k : Counts} (h : Going e fs l r n k.steps) (bodies : List Body) (c : Positions s bodies) where
    -- An outcome of the run from here on is the run's.
    rests : (o : runs.Outcome) (g : Gap) (e₂ : List ℕ)
        → runs.run (plain_tick (code_in s)) (budget - k.steps) (conf (whole_in e l r) k.steps h.made) ≡ result o (conf (whole_in e l r) k.steps h.made)
        → Flat e₂ g.l g.r (whole_in e l r) → Rested (plain_run (program_in s) budget) (rested (outcome_of o) k g) e₂
    rests o g e₂ z f = rw (← h.same, z) record { outcome = refl; steps = refl; flat = f }

    -- Where no step is due, the run rests.
    pub rests-due : (x : Sought) (e' : List ℕ) (fs' : List Entry) → SoughtIs (whole_in e l r) x e' fs' → due_of x (eqb k.steps budget) ≡ None
        → Rested (plain_run (program_in s) budget) (rest_of x k) e'
    rests-due (sought.Value g) e' fs' b q =
        rests value g e' (run-halt (plain_tick (code_in s)) (budget - k.steps) (conf (whole_in e l r) k.steps h.made) value (value-tick (code_in s) (whole_in e l r) k.steps h.made b.0)) b.1
    rests-due (sought.Stuck g) e' fs' b q =
        rests stuck g e' (run-halt (plain_tick (code_in s)) (budget - k.steps) (conf (whole_in e l r) k.steps h.made) stuck (stuck-tick (code_in s) (whole_in e l r) k.steps h.made (b.0 (code_in s)))) b.1
    rests-due (sought.Redex x) e' fs' b q = on (eqb k.steps budget) q refl
      where
        on : (a : Bool) → cond a None (Some x) ≡ None → eqb k.steps budget ≡ a → Rested (plain_run (program_in s) budget) (rested (outcome_of spent) k x.gap) e'
        on true q i =
            let o : budget - k.steps ≡ 0 = omega (arith, eqb-true k.steps budget i) in
            rests spent x.gap e' (rw o (spent-run (code_in s) (whole_in e l r) k.steps h.made (poised-moves b h.closed.defined c))) (poised-flat b)
        on false q i = let z : ◌≡◌ {A = ℕ} 0 1 = cc in absurd (omega arith)

    module _ (x : Sought) (e' : List ℕ) (fs' : List Entry) (b : SoughtIs (whole_in e l r) x e' fs') (y : Redex) (q : due_of x (eqb k.steps budget) ≡ Some y) where
      at-redex : Poised e' fs' y.p y.gap.l y.gap.r y.depth (whole_in e l r)
      at-redex = rw (redex-due (eqb k.steps budget) x y q).0 at b

      pub is-ready : Ready (code_in s) e' y.p y.gap.l y.gap.r (whole_in e' y.gap.l y.gap.r)
      is-ready = poised-ready (code_in s) at-redex h.closed.defined

      -- The budget has a step left.
      pub unspent : k.steps < budget
      unspent = step-left k.steps budget h.within x y q

      module _ (f : Option ℕ) (e₂ : List ℕ) (d : FiredIs (whole_in e' y.gap.l y.gap.r) (step (code_in s) (whole_in e' y.gap.l y.gap.r)) y.p y.gap.l y.gap.r f e' e₂) where
        fired : FiredIs (whole_in e l r) (step (code_in s) (whole_in e l r)) y.p y.gap.l y.gap.r f e' e₂
        fired = rw (poised-whole at-redex) at d

        more : budget - k.steps ≡ suc (budget - suc k.steps)
        more = omega (arith, unspent)

        pub rests-large : f ≡ None → Rested (plain_run (program_in s) budget) (rested (outcome_of large) k y.gap) e₂
        rests-large g =
            let a = fired-large (code_in s) (whole_in e l r) y.p y.gap.l y.gap.r f e' e₂ fired g in
            rests large y.gap e₂
            (rw more (run-stop (plain_tick (code_in s)) (budget - suc k.steps) (conf (whole_in e l r) k.steps h.made) large (large-tick (code_in s) (whole_in e l r) k.steps h.made a.move (omega (arith, a.large, size-most a.move.expr)))))
            (rw a.same (poised-flat at-redex))

        pub goes_on : ClosedCode (code_in s) → (r₂ : ℕ) → f ≡ Some r₂ → (k₂ : ℕ) → k₂ ≡ k.steps + 1 → Going e₂ fs' y.p r₂ (y.depth - 1) k₂
        goes_on code r₂ g k₂ u =
            let a = fired-moved (code_in s) (whole_in e l r) y.p y.gap.l y.gap.r f e' e₂ fired r₂ g in
            let t : ZipOf e₂ fs' y.p r₂ (y.depth - 1) a.move.expr = a.zip fs' y.depth at-redex in
            let w : whole_in e₂ y.p r₂ ≡ a.move.expr = zip-whole t in
            record {
              made = h.made ++ calls_of k.steps a.move.event;
              zip = zip-own t;
              closed = rw w (step-closed (code_in s) code (whole_in e l r) a.move.expr a.move.event h.closed a.move.steps);
              same =
                  rw (w, u, add-one k.steps)
                  (sym (run-go (plain_tick (code_in s)) (budget - suc k.steps) (conf (whole_in e l r) k.steps h.made) _ (small-tick (code_in s) (whole_in e l r) k.steps h.made a.move (zip-flat t).sound.small))
                  ∙ (rw more at h.same));
              within = omega (arith, more);
            }
