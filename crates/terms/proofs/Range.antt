-- The range of numbers of each kind. Assumes nothing.
use mathlib.Core.Bool.{true, false}
use mathlib.Core.Path.{◌≡◌}
use Prim.Native.Nat.{ℕ, ◌≤◌}
use native.Mathlib.Omega.{arith}
use lib.Dec.{eqb, leb}
use borrow.Author.Tests.{le-leb, lt-leb, ne_eqb}
use Rattle.terms.specs.Record.{in_range}

-- A variable.
pub range-var : (k n : ℕ) → k ≡ 1 → in_range k n ≡ leb n 1023
unfolding in_range
range-var k n e = rw e

-- A function name or a constant.
pub range-name : (k n : ℕ) → 2 ≤ k → k ≤ 3 → in_range k n ≡ true
unfolding in_range
range-name k n h g = rw (ne_eqb k 1 (λ e. omega arith), le-leb 2 k h, le-leb k 3 g)

-- An abstraction.
pub range-lam : (k n : ℕ) → k ≡ 4 → in_range k n ≡ leb n 65535
unfolding in_range
range-lam k n e = rw e

-- An application.
pub range-app : (k n : ℕ) → k ≡ 5 → in_range k n ≡ eqb n 0
unfolding in_range
range-app k n e = rw e

-- A command or a definition.
pub range-function : (k n : ℕ) → 6 ≤ k → k ≤ 8 → in_range k n ≡ true
unfolding in_range
range-function k n h g =
    rw (ne_eqb k 1 (λ e. omega arith), le-leb 2 k (omega arith), lt-leb k 3 (omega arith), ne_eqb k 4 (λ e. omega arith), ne_eqb k 5 (λ e. omega arith), le-leb 6 k h, le-leb k 8 g)

-- A sum or a branch.
pub range-sum : (k n : ℕ) → 9 ≤ k → k ≤ 10 → in_range k n ≡ eqb n 0
unfolding in_range
range-sum k n h g =
    rw (ne_eqb k 1 (λ e. omega arith), le-leb 2 k (omega arith), lt-leb k 3 (omega arith), ne_eqb k 4 (λ e. omega arith), ne_eqb k 5 (λ e. omega arith), le-leb 6 k (omega arith), lt-leb k 8 (omega arith), le-leb 9 k h, le-leb k 10 g)

-- Kind 0 has no range.
pub range-zero : (k n : ℕ) → k ≡ 0 → in_range k n ≡ false
unfolding in_range
range-zero k n e = rw e

-- Nor has a kind above 10.
pub range-high : (k n : ℕ) → 11 ≤ k → in_range k n ≡ false
unfolding in_range
range-high k n h =
    rw (ne_eqb k 1 (λ e. omega arith), le-leb 2 k (omega arith), lt-leb k 3 (omega arith), ne_eqb k 4 (λ e. omega arith), ne_eqb k 5 (λ e. omega arith), le-leb 6 k (omega arith), lt-leb k 8 (omega arith), le-leb 9 k (omega arith), lt-leb k 10 h)
