-- The first record that fails a test. Assumes nothing.
use Rattle.std.specs.Prelude.{Bool, true, false, ◌≡◌, refl, ℕ, zero, suc, ◌+◌, ◌-◌, ◌<◌, ◌≤◌}
use Rattle.std.proofs.Common.{true≢false, sym, ◌∙◌}
use Rattle.std.proofs.Math.Decide.{dec_lt}
use native.Mathlib.Omega.{arith}

-- The first of the k numbers from i on that passes the test, or the number after them.
unfoldable pub first_from : (ℕ → Bool) → ℕ → ℕ → ℕ
first_from p i zero = i
first_from p i (suc k) = elim (p i) [ false ↦ first_from p (i + 1) k | true ↦ i ]

-- The first number below n that passes the test, or n.
unfoldable pub first_below : (ℕ → Bool) → ℕ → ℕ
first_below p n = first_from p 0 n

-- ---- a search that has come to i

module _ (p : ℕ → Bool) (n i : ℕ) where
  left : i < n → n - i ≡ suc (n - (i + 1))
  left h = omega arith

  pub first-here : i < n → p i ≡ true → first_from p i (n - i) ≡ i
  unfolding first_from
  first-here h e = rw (left h, e, first_from)

  pub first_on : i < n → p i ≡ false → first_from p i (n - i) ≡ first_from p (i + 1) (n - (i + 1))
  unfolding first_from
  first_on h e = rw (left h, e, first_from)

  pub first-end : n ≤ i → first_from p i (n - i) ≡ i
  unfolding first_from
  first-end h = let e : n - i ≡ 0 = omega arith in rw e

-- ---- what is found

-- What is found lies in the range of the search or right after it.
pub first-in : (p : ℕ → Bool) (i k : ℕ) → (i ≤ first_from p i k) × (first_from p i k ≤ i + k)
unfolding first_from
first-in p i zero = (omega arith, omega arith)
first-in p i (suc k) = on (p i) (first-in p (i + 1) k)
  where
    on : (b : Bool) → (i + 1 ≤ first_from p (i + 1) k) × (first_from p (i + 1) k ≤ i + 1 + k) → (i ≤ elim b as (λ _. ℕ) [ false ↦ first_from p (i + 1) k | true ↦ i ]) × (elim b as (λ _. ℕ) [ false ↦ first_from p (i + 1) k | true ↦ i ] ≤ i + suc k)
    on false h = (omega arith, omega arith)
    on true h = (omega arith, omega arith)

pub first-most : (p : ℕ → Bool) (n : ℕ) → first_below p n ≤ n
unfolding first_below
first-most p n = omega (arith, (first-in p 0 n).1)

pub first_passes : (p : ℕ → Bool) (i k : ℕ) → first_from p i k < i + k → p (first_from p i k) ≡ true
unfolding first_from
first_passes p i zero h = absurd (omega arith)
first_passes p i (suc k) h = on (p i) refl (λ l. first_passes p (i + 1) k l) h
  where
    on : (b : Bool) → p i ≡ b → (first_from p (i + 1) k < i + 1 + k → p (first_from p (i + 1) k) ≡ true) → elim b as (λ _. ℕ) [ false ↦ first_from p (i + 1) k | true ↦ i ] < i + suc k → p (elim b as (λ _. ℕ) [ false ↦ first_from p (i + 1) k | true ↦ i ]) ≡ true
    on false e below l = below (omega arith)
    on true e below l = e

-- What is found passes the test, …
pub first_found : (p : ℕ → Bool) (n : ℕ) → first_below p n < n → p (first_below p n) ≡ true
unfolding first_below
first_found p n h = first_passes p 0 n (omega arith)

pub first-fails : (p : ℕ → Bool) (i k j : ℕ) → i ≤ j → j < first_from p i k → p j ≡ false
unfolding first_from
first-fails p i zero j l h = absurd (omega arith)
first-fails p i (suc k) j l h = on (p i) refl (λ m u. first-fails p (i + 1) k j m u) h
  where
    past : Dec (i < j) → p i ≡ false → (i + 1 ≤ j → j < first_from p (i + 1) k → p j ≡ false) → j < first_from p (i + 1) k → p j ≡ false
    past (yes v) q below u = below (omega arith) u
    past (no v) q below u = let w : j ≡ i = omega arith in rw w q

    on : (b : Bool) → p i ≡ b → (i + 1 ≤ j → j < first_from p (i + 1) k → p j ≡ false) → j < elim b as (λ _. ℕ) [ false ↦ first_from p (i + 1) k | true ↦ i ] → p j ≡ false
    on false e below u = past (dec_lt i j) e below u
    on true e below u = absurd (omega arith)

-- … and nothing before it does.
pub first-before : (p : ℕ → Bool) (n j : ℕ) → j < first_below p n → p j ≡ false
unfolding first_below
first-before p n j h = first-fails p 0 n j (omega arith) h

-- Nothing is found where nothing passes.
pub first-none : (p : ℕ → Bool) (n : ℕ) → ((j : ℕ) → j < n → p j ≡ false) → first_below p n ≡ n
first-none p n h = on (dec_lt (first_below p n) n)
  where
    on : Dec (first_below p n < n) → first_below p n ≡ n
    on (yes l) = absurd (true≢false (sym (first_found p n l) ∙ h (first_below p n) l))
    on (no l) = let m = first-most p n in omega arith

-- A number that passes, where none before it does.
pub first-is : (p : ℕ → Bool) (n : ℕ) {i : ℕ} → i < n → p i ≡ true → ((j : ℕ) → j < i → p j ≡ false) → first_below p n ≡ i
first-is p n {i} l t before = on (dec_lt (first_below p n) i) (dec_lt i (first_below p n))
  where
    on : Dec (first_below p n < i) → Dec (i < first_below p n) → first_below p n ≡ i
    on (yes h) d = absurd (true≢false (sym (first_found p n (omega arith)) ∙ before (first_below p n) h))
    on (no h) (yes k) = absurd (true≢false (sym t ∙ first-before p n i k))
    on (no h) (no k) = omega arith
