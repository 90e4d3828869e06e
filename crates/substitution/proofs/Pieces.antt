-- The pieces that are written one after another, and their answers. Assumes nothing.
use mathlib.Core.List.{List, ◌++◌}
use mathlib.Core.Path.{◌≡◌, ap, ◌∙◌}
use Prim.Native.Nat.{ℕ, ◌+◌, ◌≤◌, ◌<◌}
use native.Mathlib.Omega.{arith}
use lib.ListN.{length, length-append}
use Rattle.std.specs.Prelude.{Option, Some, None}
use Rattle.words.specs.Put.{put, put-length, put-put}
use Rattle.substitution.specs.Copied.{WrittenIs}

module _ (w o : List ℕ) (p : ℕ) (r : Option ℕ) (o₁ : List ℕ) (g : WrittenIs w o p r o₁) where
  pub done-is : (q : ℕ) → r ≡ Some q → (q ≡ p + length w) × (q ≤ length o) × (o₁ ≡ put o p w)
  done-is q e = rw e at g

  pub full_is : r ≡ None → (length o < p + length w) × (length o₁ ≡ length o)
  full_is e = rw e at g

-- A piece and then another are one piece.
module _ (w u o : List ℕ) (p q : ℕ) (o₁ : List ℕ) (x : WrittenIs w o p (Some q) o₁) where
  kept : length o₁ ≡ length o
  kept = ap length x.2 ∙ put-length o p w (omega arith)

  pub both-written : (q' : ℕ) (o₂ : List ℕ) → WrittenIs u o₁ q (Some q') o₂ → WrittenIs (w ++ u) o p (Some q') o₂
  both-written q' o₂ y =
      (omega (arith, length-append w u), omega (arith, kept), y.2 ∙ rw (x.2, x.0) (put-put o p w (omega arith) u))

  -- The second has no room.
  pub second-none : (o₂ : List ℕ) → WrittenIs u o₁ q None o₂ → WrittenIs (w ++ u) o p None o₂
  second-none o₂ y = (omega (arith, length-append w u, kept), y.1 ∙ kept)

-- The first has none.
pub first-none : (w u o : List ℕ) (p : ℕ) (o₁ : List ℕ) → WrittenIs w o p None o₁ → WrittenIs (w ++ u) o p None o₁
first-none w u o p o₁ x = (omega (arith, length-append w u), x.1)
