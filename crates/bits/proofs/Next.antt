-- The set bits of a word from a place on: those of `w >> a`, so many places up. Assumes nothing.
use Rattle.std.specs.Prelude.{◌≡◌, refl, Bool, true, false, ℕ, ◌+◌, ◌-◌, ◌/◌, ◌^◌, ◌<◌, ◌≤◌}
use Rattle.std.proofs.Common.{sym, ap, ◌∙◌, arith}
use Rattle.bits.specs.Bits.{bit_of, On, FirstBit, NextBit}
use Rattle.bits.proofs.Bits.{shift-bit, zero-none, word_below}

-- Bit c of w from a on, by the word shifted.
bit-from : (w a c : ℕ) → a ≤ c → bit_of (w / 2 ^ a) (c - a) ≡ bit_of w c
bit-from w a c h = let e : a + (c - a) ≡ c = omega arith in shift-bit w a (c - a) ∙ ap (bit_of w) e

-- A bit that is not set is clear.
clear : (w b : ℕ) → (On w b → ⊥) → bit_of w b ≡ false
clear w b n = go (bit_of w b) refl
  where
    go : (t : Bool) → bit_of w b ≡ t → bit_of w b ≡ false
    go true e = absurd (n e)
    go false e = e

-- Where `SetBits(w >> a)` has none, no bit of w is set from a on.
pub next_none : (w a : ℕ) → a ≤ 64 → w / 2 ^ a ≡ 0 → NextBit w a 64
next_none w a h z =
    record {
      from = h;
      upto = omega arith;
      clear = λ b l m. clear w b (λ p. zero-none (w / 2 ^ a) (b - a) z (bit-from w a b l ∙ p));
      on = λ l. absurd (omega arith);
    }

-- Else its first, a places up, is the first set bit of w from a on.
pub next-is : (w a b v : ℕ) → w < 2 ^ 64 → FirstBit (w / 2 ^ a) b v → NextBit w a (a + b)
next-is w a b v h f =
    let on : On w (a + b) = sym (shift-bit w a b) ∙ f.on in
    let below : a + b < 64 = word_below 64 w (a + b) h on in
    record {
      from = omega arith;
      upto = omega arith;
      clear = λ c l m. clear w c (λ p. let e : b ≤ c - a = f.first (c - a) (bit-from w a c l ∙ p) in absurd (omega arith));
      on = λ l. on;
    }
