-- The count of set bits, by which `single` tests. Assumes nothing.
use mathlib.Core.Path.{◌≡◌, ap, ◌∙◌}
use mathlib.Core.Bool.{true}
use mathlib.Core.Logic.{◌↔◌}
use Prim.Native.Nat.{ℕ, suc, ◌+◌, ◌*◌, ◌/◌, ◌%◌, ◌^◌}
use native.Mathlib.Decide.{ℕ_discrete}
use native.Mathlib.Omega.{arith}
use lib.Arith.{bin_ind}
use lib.Count.{ones as count_ones, ones_step, ones_cat}
use lib.Dec.{eqb}
use lib.Pow.{pow_pos}
use borrow.Author.Tests.{eqb-true, eq-eqb}
use Rattle.std.proofs.lemmas.Nat.{zero_from_ones}
use Rattle.bits.specs.Bits.{Single}

-- A power of two has one set bit.
one-set : (a : ℕ) → count_ones (2 ^ a) ≡ 1
unfolding count_ones
one-set a =
    let e : 2 ^ a ≡ 1 * 2 ^ a + 0 = omega arith in
    ap count_ones e ∙ ones_cat a 1 0 (pow_pos a)

-- 0 has none.
none-set : count_ones 0 ≡ 1 → ⊥
unfolding count_ones
none-set e = omega arith

-- A word with one set bit is a power of two.
set-one : (w : ℕ) → count_ones w ≡ 1 → Single w
set-one = bin_ind (λ (w : ℕ). count_ones w ≡ 1 → Single w) (λ e. absurd (none-set e)) by-half
  where
    by-half : (w : ℕ) → (count_ones (w / 2) ≡ 1 → Single (w / 2)) → count_ones w ≡ 1 → Single w
    by-half w ih e = go (ℕ_discrete (w % 2) 1)
      where
        go : Dec (w % 2 ≡ 1) → Single w
        go (yes o) = let z = zero_from_ones (w / 2) (omega (arith, ones_step w)) in (0, omega arith)
        go (no n) = let s = ih (omega (arith, ones_step w)) in (suc s.0, let h = s.1 in omega arith)

-- The test of `single`.
pub single-is : (w : ℕ) → (eqb (count_ones w) 1 ≡ true) ↔ Single w
single-is w = ((λ q. set-one w (eqb-true (count_ones w) 1 q)), λ s. eq-eqb (count_ones w) 1 (ap count_ones s.1 ∙ one-set s.0))
