-- Trailing zeros, by which the walk over the set bits finds the next one. Assumes nothing.
use mathlib.Core.Path.{◌≡◌, refl, sym, ap, ◌∙◌}
use mathlib.Core.Bool.{false, false≢true}
use mathlib.Core.Logic.{◌↔◌}
use Prim.Native.Nat.{ℕ, zero, suc, ◌-◌, ◌/◌, ◌%◌, ◌^◌, ◌<◌, ◌≤◌}
use native.Mathlib.Nat.{not-suc-le-zero, le_of_suc-le-suc}
use native.Mathlib.Decide.{dec_lt}
use native.Mathlib.Omega.{arith}
use lib.Bits.{bit_and}
use lib.Count.{count_trailing_zeros, under}
use lib.Dec.{eqb}
use borrow.Author.Tests.{eqb-true, eq-eqb}
use Rattle.bits.specs.Bits.{bit_of, On, FirstBit}
use Rattle.bits.proofs.Bits.{low, half, and_both, and_left, and_right, zero-none, some-on, subset-le, word_below}

-- The bits below the count of trailing zeros are clear.
trailing-clear : (k n b : ℕ) → b < count_trailing_zeros k n → bit_of n b ≡ false
unfolding count_trailing_zeros
trailing-clear zero n b l = absurd (not-suc-le-zero l)
trailing-clear (suc k) n b l = go (n % 2) refl b l (trailing-clear k (n / 2))
  where
    go : (r : ℕ) → n % 2 ≡ r → (c : ℕ) → c < under r (count_trailing_zeros k (n / 2))
        → ((c : ℕ) → c < count_trailing_zeros k (n / 2) → bit_of (n / 2) c ≡ false) → bit_of n c ≡ false
    go zero e zero u ih = low n ∙ ap (λ (x : ℕ). eqb x 1) e
    go zero e (suc c) u ih = half n c ∙ ih c (le_of_suc-le-suc u)
    go (suc r) e c u ih = absurd (not-suc-le-zero u)

-- The bit at the count of trailing zeros is set, if there is one.
trailing-on : (k n : ℕ) → count_trailing_zeros k n < k → On n (count_trailing_zeros k n)
unfolding count_trailing_zeros
trailing-on zero n l = absurd (not-suc-le-zero l)
trailing-on (suc k) n l = go (n % 2) refl l (trailing-on k (n / 2))
  where
    go : (r : ℕ) → n % 2 ≡ r → under r (count_trailing_zeros k (n / 2)) < suc k
        → (count_trailing_zeros k (n / 2) < k → On (n / 2) (count_trailing_zeros k (n / 2))) → On n (under r (count_trailing_zeros k (n / 2)))
    go zero e u ih = half n (count_trailing_zeros k (n / 2)) ∙ ih (le_of_suc-le-suc u)
    go (suc r) e u ih = let z : n % 2 ≡ 1 = omega arith in low n ∙ eq-eqb (n % 2) 1 z

-- Of the set bits of a word all but the first, a, are set in the number before it.
before-bit : (w a b : ℕ) → On w a → ((c : ℕ) → On w c → a ≤ c) → On w b → On (w - 1) b ↔ (b ≡ a → ⊥)
before-bit w zero zero o f p =
    let odd : w % 2 ≡ 1 = eqb-true (w % 2) 1 (sym (low w) ∙ p) in
    let e : (w - 1) % 2 ≡ 0 = omega arith in
    ((λ q. absurd (false≢true (ap (λ (x : ℕ). eqb x 1) (sym e) ∙ sym (low (w - 1)) ∙ q))), λ n. absurd (n refl))
before-bit w zero (suc b) o f p =
    let odd : w % 2 ≡ 1 = eqb-true (w % 2) 1 (sym (low w) ∙ o) in
    let e : (w - 1) / 2 ≡ w / 2 = omega arith in
    ((λ _ z. omega arith), λ _. half (w - 1) b ∙ ap (λ (x : ℕ). bit_of x b) e ∙ sym (half w b) ∙ p)
before-bit w (suc a) zero o f p = absurd (omega (arith, f 0 p))
before-bit w (suc a) (suc b) o f p =
    let even : w % 2 ≡ 1 → ⊥ = λ z. omega (arith, f 0 (low w ∙ eq-eqb (w % 2) 1 z)) in
    let pos : w ≡ 0 → ⊥ = λ z. zero-none w (suc a) z o in
    let e : (w - 1) / 2 ≡ w / 2 - 1 = omega arith in
    let h = before-bit (w / 2) a b (sym (half w a) ∙ o) (λ c q. omega (arith, f (suc c) (half w c ∙ q))) (sym (half w b) ∙ p) in (
      (λ q z. h.0 (ap (λ (x : ℕ). bit_of x b) (sym e) ∙ sym (half (w - 1) b) ∙ q) (omega arith)),
      λ n. half (w - 1) b ∙ ap (λ (x : ℕ). bit_of x b) e ∙ h.1 (λ z. n (omega arith)),
    )

-- The bit at the count of trailing zeros is the first, and with the bits of the number before it the word has the others.
pub first-bit : (w : ℕ) → w < 2 ^ 64 → (w ≡ 0 → ⊥) → FirstBit w (count_trailing_zeros 64 w) (bit_and w (w - 1))
first-bit w l n =
    let a = count_trailing_zeros 64 w in
    let s = some-on w n in
    let first : (b : ℕ) → On w b → a ≤ b = λ b p. at-most b p (dec_lt b a) in
    let on = trailing-on 64 w (omega (arith, first s.0 s.1, word_below 64 w s.0 l s.1)) in
    record {
      on = on;
      first = first;
      others = λ b. (
        (λ q. let p = and_left w (w - 1) b q in (p, (before-bit w a b on first p).0 (and_right w (w - 1) b q))),
        λ q. and_both w (w - 1) b q.0 ((before-bit w a b on first q.0).1 q.1),
      );
    }
  where
    at-most : (b : ℕ) → On w b → Dec (b < count_trailing_zeros 64 w) → count_trailing_zeros 64 w ≤ b
    at-most b p (yes q) = absurd (false≢true (sym (trailing-clear 64 w b q) ∙ p))
    at-most b p (no q) = omega arith

-- The word that is left is smaller.
pub fewer : {w a v : ℕ} → FirstBit w a v → v < w
fewer {w} {a} {v} f =
    let l = subset-le v w (λ b p. ((f.others b).0 p).0) in
    let n : v ≡ w → ⊥ = λ e. ((f.others a).0 (rw e f.on)).1 refl in
    omega arith
