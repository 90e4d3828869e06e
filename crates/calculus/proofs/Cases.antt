-- The ten cases, those of sums and branches and those of overrides taken back, by computing. Assumes nothing.
use mathlib.Core.Path.{◌≡◌, refl}
use mathlib.Core.Bool.{true, false}
use mathlib.Core.List.Memᴰ
use mathlib.Core.List.{[], ◌∷◌, Memᴰ}
use mathlib.Core.Logic.{inl, inr}
use Prim.Native.Nat.{ℕ, ◌<◌}
use native.Mathlib.Omega.{arith}
use Rattle.calculus.specs.Lists.{any, all, keep, each, distinct}
use Rattle.calculus.specs.Term.{is_value, view, size, bodies}
use Rattle.calculus.specs.Guideline.{Atom, In, SafeRule, Safe}
use Rattle.calculus.specs.Substitution.{put}
use Rattle.calculus.specs.Step as S
use Rattle.calculus.specs.Derive.{holds, derived, rounds, next_round, yields, given, candidates, predicates, values, appearing}
use Rattle.calculus.specs.Entailment.{fits, entails?}
use Rattle.calculus.specs.Rewriting.{logevents, triggers, logged, noted, instrument, rewrite_from}
use Rattle.calculus.specs.Run.{run}
use Rattle.calculus.specs.Log as L
use Rattle.calculus.specs.Cases.{TenCases, SumCases, TakenBack, atom, closure, constant}
use Rattle.calculus.proofs.Lists.{true-T, false-T}
use Rattle.calculus.proofs.Least.{holds-least}

up : holds closure 1 (constant 1) (constant 3) ≡ true
unfolding any all keep each distinct holds derived rounds next_round yields given candidates predicates values appearing
up = refl

down : holds closure 1 (constant 3) (constant 1) ≡ false
unfolding any all keep each distinct holds derived rounds next_round yields given candidates predicates values appearing
down = refl

-- Each head variable of the two rules stands in the body, and there are at most three.
base-safe : SafeRule (record { head = atom 1 0 1; body = atom 0 0 1 ∷ [] })
base-safe = record { bound = λ i h. (atom 0 0 1, Memᴰ.head refl, h); few = few }
  where
    few : (a : Atom) → Memᴰ a (atom 0 0 1 ∷ []) → (a.first < 4) × (a.second < 4)
    few a m = rw (Memᴰ.eq_of_singleton m) (omega arith)

step-safe : SafeRule (record { head = atom 1 0 2; body = atom 0 0 1 ∷ atom 1 1 2 ∷ [] })
step-safe = record { bound = bound; few = few }
  where
    bound : (i : ℕ) → In i (atom 1 0 2) → (a : Atom) × Memᴰ a (atom 0 0 1 ∷ atom 1 1 2 ∷ []) × In i a
    bound i (inl e) = (atom 0 0 1, Memᴰ.head refl, inl e)
    bound i (inr e) = (atom 1 1 2, Memᴰ.tail (Memᴰ.head refl), inr e)

    few : (a : Atom) → Memᴰ a (atom 0 0 1 ∷ atom 1 1 2 ∷ []) → (a.first < 4) × (a.second < 4)
    few a (Memᴰ.head e) = rw e (omega arith)
    few a (Memᴰ.tail m) = rw (Memᴰ.eq_of_singleton m) (omega arith)

closure-safe : Safe closure
closure-safe r (Memᴰ.head e) = rw e base-safe
closure-safe r (Memᴰ.tail m) = rw (Memᴰ.eq_of_singleton m) step-safe

ten : TenCases
unfolding any all keep each distinct is_value view size bodies put S.step holds derived rounds next_round yields given candidates predicates values appearing fits entails? logevents triggers logged noted instrument rewrite_from run L.emit_call L.settle L.log_tick L.logged
ten =
    record {
      a = refl;
      b = refl;
      c = refl;
      d = refl;
      e = refl;
      f = refl;
      g = refl;
      h = ((holds-least closure closure-safe 1 (constant 1) (constant 3)).0 (true-T _ up), λ l. false-T _ down ((holds-least closure closure-safe 1 (constant 3) (constant 1)).1 l));
      i = refl;
      j = refl;
    }

pub sums : SumCases
unfolding any all keep each distinct is_value view size bodies put S.constant S.step holds derived rounds next_round yields given candidates predicates values appearing fits entails? logevents triggers logged noted instrument rewrite_from run L.emit_call L.settle L.log_tick L.logged
sums =
    record {
      spaced = refl;
      greatest = refl;
      above = refl;
      both = refl;
      second = refl;
      third = refl;
      third-too = refl;
      on-name = refl;
      on-abstraction = refl;
      applied = refl;
    }

pub taken_back_lem : TakenBack
unfolding any all keep each distinct is_value view size bodies put S.step holds derived rounds next_round yields given candidates predicates values appearing fits entails? logevents triggers logged noted instrument rewrite_from run L.emit_call L.settle L.log_tick L.logged
taken_back_lem = record { cancelled = refl; again = refl; itself = refl; once = refl }
