-- What is due after a search. Assumes nothing.
use mathlib.Core.Bool.{Bool, true, false, cond}
use mathlib.Core.Path.{◌≡◌, refl}
use native.Mathlib.Omega.{arith}
use Prim.Native.Nat.{ℕ, ◌<◌, ◌≤◌}
use borrow.Author.Tests.{eqb-false}
use lib.Dec.{eqb}
use Rattle.std.specs.Prelude.{Some, None}
use Rattle.zipper.specs.declared.Redex.{Redex}
use Rattle.zipper.specs.declared.Sought.{Sought}
use Rattle.zipper.specs.declared.Sought.TheVariants as sought
use Rattle.plain.specs.Answer.{due_of}

-- A redex that is due was found, and the budget is not spent.
pub redex-due : (b : Bool) (x : Sought) (y : Redex) → due_of x b ≡ Some y → (x ≡ sought.Redex y) × (b ≡ false)
redex-due b (sought.Value g) y q = let z : ◌≡◌ {A = ℕ} 0 1 = cc in absurd (omega arith)
redex-due b (sought.Stuck g) y q = let z : ◌≡◌ {A = ℕ} 0 1 = cc in absurd (omega arith)
redex-due b (sought.Redex x) y q = on b q refl
  where
    on : (a : Bool) → cond a None (Some x) ≡ Some y → b ≡ a → (sought.Redex x ≡ sought.Redex y) × (b ≡ false)
    on true q e = let z : ◌≡◌ {A = ℕ} 0 1 = cc in absurd (omega arith)
    on false q e = (cc, e)

-- With the test that the runs make, a step is left.
pub step-left : (steps budget : ℕ) → steps ≤ budget → (x : Sought) (y : Redex) → due_of x (eqb steps budget) ≡ Some y → steps < budget
step-left steps budget l x y q =
    let z = eqb-false steps budget (redex-due (eqb steps budget) x y q).1 in omega (arith, z)
