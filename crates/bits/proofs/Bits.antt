-- Laws of the bits of a word. Assumes nothing.
use mathlib.Core.Path.{◌≡◌, refl, sym, ap, subst, ◌∙◌}
use mathlib.Core.Bool.{Bool, true, false, ◌&&◌, ◌||◌, xor, or-true, false≢true}
use mathlib.Core.Logic.{◌⊎◌, inl, inr}
use Prim.Native.Nat.{ℕ, zero, suc, ◌+◌, ◌*◌, ◌/◌, ◌%◌, ◌^◌, ◌<◌, ◌≤◌}
use native.Mathlib.Nat.{mod-eq_of_lt, div-lt_iff_lt-mul}
use native.Mathlib.Decide.{ℕ_discrete, dec_lt}
use native.Mathlib.Omega.{arith}
use lib.Arith.{bin_ind}
use lib.Bits.{bit_and, bit_or, bit_xor, and_shr, or_shr, xor_shr, and_mod, or_mod, xor_mod, and_mask, shifted_half, shifted_even}
use lib.Dec.{eqb, eqb-suc-suc}
use lib.Pow.{pow_pos, pow-lt, pow_mono, shr-shr}
use borrow.Author.Tests.{eqb-true, eq-eqb, ne_eqb}
use Rattle.bits.specs.Bits.{bit_of, On, Single}

-- ---- operators

-- An operator f that works digit by digit does on each bit what g does on truth values, if it does so on the digits 0 and 1.
module _ (f : ℕ → ℕ → ℕ) (g : Bool → Bool → Bool)
    (shr : (a b k : ℕ) → f a b / 2 ^ k ≡ f (a / 2 ^ k) (b / 2 ^ k)) (rem : (a b k : ℕ) → f a b % 2 ^ k ≡ f (a % 2 ^ k) (b % 2 ^ k))
    (f00 : eqb (f 0 0) 1 ≡ g false false) (f01 : eqb (f 0 1) 1 ≡ g false true)
    (f10 : eqb (f 1 0) 1 ≡ g true false) (f11 : eqb (f 1 1) 1 ≡ g true true) where
  -- It does so on every two digits.
  on-digits : (x y : ℕ) → x < 2 → y < 2 → eqb (f x y) 1 ≡ g (eqb x 1) (eqb y 1)
  on-digits zero zero p q = f00
  on-digits zero (suc zero) p q = f01
  on-digits (suc zero) zero p q = f10
  on-digits (suc zero) (suc zero) p q = f11
  on-digits zero (suc (suc y)) p q = absurd (omega arith)
  on-digits (suc zero) (suc (suc y)) p q = absurd (omega arith)
  on-digits (suc (suc x)) y p q = absurd (omega arith)

  -- It does so on every bit.
  on-bits : (a b k : ℕ) → bit_of (f a b) k ≡ g (bit_of a k) (bit_of b k)
  unfolding bit_of
  on-bits a b k =
      ap (λ (x : ℕ). eqb (x % 2) 1) (shr a b k) ∙ ap (λ (x : ℕ). eqb x 1) (rem (a / 2 ^ k) (b / 2 ^ k) 1)
      ∙ on-digits _ _ (omega arith) (omega arith)

-- Bit k of `a & b`.
pub and-on : (a b k : ℕ) → bit_of (bit_and a b) k ≡ bit_of a k && bit_of b k
and-on = on-bits bit_and ◌&&◌ and_shr and_mod refl refl refl refl

-- Bit k of `a | b`.
pub or-on : (a b k : ℕ) → bit_of (bit_or a b) k ≡ bit_of a k || bit_of b k
or-on = on-bits bit_or ◌||◌ or_shr or_mod refl refl refl refl

-- Bit k of `a ^ b`.
xor-on : (a b k : ℕ) → bit_of (bit_xor a b) k ≡ xor (bit_of a k) (bit_of b k)
unfolding xor
xor-on = on-bits bit_xor xor xor_shr xor_mod refl refl refl refl

-- A bit of a and of b is one of `a & b`.
pub and_both : (a b k : ℕ) → On a k → On b k → On (bit_and a b) k
and_both a b k p q = rw (and-on a b k, p, q)

both_true : (x y : Bool) → x && y ≡ true → (x ≡ true) × (y ≡ true)
both_true true y e = (refl, e)
both_true false y e = absurd (false≢true e)

-- A bit of `a & b` is one of a.
pub and_left : (a b k : ℕ) → On (bit_and a b) k → On a k
and_left a b k p = (both_true (bit_of a k) (bit_of b k) (sym (and-on a b k) ∙ p)).0

-- A bit of `a & b` is one of b.
pub and_right : (a b k : ℕ) → On (bit_and a b) k → On b k
and_right a b k p = (both_true (bit_of a k) (bit_of b k) (sym (and-on a b k) ∙ p)).1

-- A bit of a is one of `a | b`.
pub or_left : (a b k : ℕ) → On a k → On (bit_or a b) k
or_left a b k p = rw (or-on a b k, p)

-- A bit of b is one of `a | b`.
pub or_right : (a b k : ℕ) → On b k → On (bit_or a b) k
or_right a b k p = rw (or-on a b k, p) (or-true (bit_of a k))

-- A bit of `a | b` is one of a or one of b.
pub or-either : (a b k : ℕ) → On (bit_or a b) k → On a k ⊎ On b k
or-either a b k p = cases (bit_of a k) (bit_of b k) (sym (or-on a b k) ∙ p)
  where
    cases : (x y : Bool) → x || y ≡ true → (x ≡ true) ⊎ (y ≡ true)
    cases true y e = inl refl
    cases false y e = inr e

-- A bit of a that b lacks is one of `a ^ b`.
pub xor-new : (a b k : ℕ) → On a k → bit_of b k ≡ false → On (bit_xor a b) k
unfolding xor
xor-new a b k p q = rw (xor-on a b k, p, q)

-- ---- shifts

-- Bit c of `w >> a` is bit a + c of w.
pub shift-bit : (w a c : ℕ) → bit_of (w / 2 ^ a) c ≡ bit_of w (a + c)
unfolding bit_of
shift-bit w a c = ap (λ (x : ℕ). eqb (x % 2) 1) (shr-shr w a c)

-- Bit 0 of w says whether w is odd.
pub low : (w : ℕ) → bit_of w 0 ≡ eqb (w % 2) 1
unfolding bit_of
low w = let e : w / 1 ≡ w = omega arith in ap (λ (x : ℕ). eqb (x % 2) 1) e

-- The bits of w above bit 0 are those of w / 2.
pub half : (w b : ℕ) → bit_of w (suc b) ≡ bit_of (w / 2) b
half w b = let e : 1 + b ≡ suc b = omega arith in sym (shift-bit w 1 b ∙ ap (bit_of w) e)

-- ---- words by their bits

-- No bit of 0 is set.
zero-off : (b : ℕ) → bit_of 0 b ≡ false
zero-off zero = low 0
zero-off (suc b) = half 0 b ∙ zero-off b

-- A word that is 0 has no set bit.
pub zero-none : (w b : ℕ) → w ≡ 0 → On w b → ⊥
zero-none w b e p = false≢true (sym (zero-off b) ∙ subst (λ (x : ℕ). On x b) e p)

-- A word that is not 0 has a set bit.
pub some-on : (w : ℕ) → (w ≡ 0 → ⊥) → (b : ℕ) × On w b
some-on = bin_ind (λ (w : ℕ). (w ≡ 0 → ⊥) → (b : ℕ) × On w b) (λ n. absurd (n refl)) by-half
  where
    by-half : (w : ℕ) → ((w / 2 ≡ 0 → ⊥) → (b : ℕ) × On (w / 2) b) → (w ≡ 0 → ⊥) → (b : ℕ) × On w b
    by-half w ih n = go (ℕ_discrete (w % 2) 1)
      where
        go : Dec (w % 2 ≡ 1) → (b : ℕ) × On w b
        go (yes e) = (0, low w ∙ eq-eqb (w % 2) 1 e)
        go (no m) = let r = ih (λ z. n (omega arith)) in (suc r.0, half w r.0 ∙ r.1)

-- Bit a is the only bit of 2 ^ a, as an equation.
one_bit : (a b : ℕ) → bit_of (2 ^ a) b ≡ eqb b a
one_bit zero zero = low 1
one_bit zero (suc b) = half 1 b ∙ zero-off b ∙ sym (ne_eqb (suc b) 0 (λ e. omega arith))
one_bit (suc a) zero =
    let e : 2 ^ suc a ≡ 1 * 2 ^ suc a = omega arith in
    low (2 ^ suc a) ∙ ap (λ (x : ℕ). eqb x 1) (ap (λ (x : ℕ). x % 2) e ∙ shifted_even 1 a) ∙ sym (ne_eqb 0 (suc a) (λ z. omega arith))
one_bit (suc a) (suc b) =
    let e : 2 ^ suc a ≡ 1 * 2 ^ suc a = omega arith in
    let f : 1 * 2 ^ a ≡ 2 ^ a = omega arith in
    half (2 ^ suc a) b ∙ ap (λ (x : ℕ). bit_of x b) (ap (λ (x : ℕ). x / 2) e ∙ shifted_half 1 a ∙ f) ∙ one_bit a b ∙ sym (eqb-suc-suc b a)

-- Bit a of 2 ^ a is set.
pub one_on : (a : ℕ) → On (2 ^ a) a
one_on a = one_bit a a ∙ eq-eqb a a refl

-- A set bit of 2 ^ a is bit a.
pub one_only : (a b : ℕ) → On (2 ^ a) b → b ≡ a
one_only a b p = eqb-true b a (sym (one_bit a b) ∙ p)

-- A word with one set bit has no two.
pub single-same : {w : ℕ} → Single w → (b c : ℕ) → On w b → On w c → b ≡ c
single-same s b c p q =
    one_only s.0 b (subst (λ (x : ℕ). On x b) s.1 p) ∙ sym (one_only s.0 c (subst (λ (x : ℕ). On x c) s.1 q))

-- The bits from k on of a word below 2 ^ k are clear.
word-off : (k w b : ℕ) → w < 2 ^ k → k ≤ b → bit_of w b ≡ false
unfolding bit_of
word-off k w b l m =
    let z : w / 2 ^ b < 1 = (div-lt_iff_lt-mul (pow_pos b)).1 (omega (arith, pow_mono {i = k} {j = b} m)) in
    let e : w / 2 ^ b ≡ 0 = omega arith in
    ap (λ (x : ℕ). eqb (x % 2) 1) e

-- A set bit of a word below 2 ^ k is below k.
pub word_below : (k w b : ℕ) → w < 2 ^ k → On w b → b < k
word_below k w b l p = go (dec_lt b k)
  where
    go : Dec (b < k) → b < k
    go (yes q) = q
    go (no q) = absurd (false≢true (sym (word-off k w b l (omega arith)) ∙ p))

-- All 64 bits of the largest word are set.
pub full-on : (b : ℕ) → b < 64 → On 18446744073709551615 b
full-on b l =
    let m = and_mask (2 ^ b) 64 ∙ mod-eq_of_lt (pow-lt {i = b} {j = 64} l) in
    and_right (2 ^ b) _ b (subst (λ (x : ℕ). On x b) (sym m) (one_on b))

-- A word whose set bits are all set in v is at most v.
pub subset-le : (w v : ℕ) → ((b : ℕ) → On w b → On v b) → w ≤ v
subset-le = bin_ind (λ (w : ℕ). (v : ℕ) → ((b : ℕ) → On w b → On v b) → w ≤ v) (λ v f. omega arith) by-half
  where
    by-half : (w : ℕ) → ((v : ℕ) → ((b : ℕ) → On (w / 2) b → On v b) → w / 2 ≤ v) → (v : ℕ) → ((b : ℕ) → On w b → On v b) → w ≤ v
    by-half w ih v f = go (ℕ_discrete (w % 2) 1) (ih (v / 2) (λ b p. sym (half v b) ∙ f (suc b) (half w b ∙ p)))
      where
        go : Dec (w % 2 ≡ 1) → w / 2 ≤ v / 2 → w ≤ v
        go (yes e) h = let q = eqb-true (v % 2) 1 (sym (low v) ∙ f 0 (low w ∙ eq-eqb (w % 2) 1 e)) in omega arith
        go (no m) h = omega arith
