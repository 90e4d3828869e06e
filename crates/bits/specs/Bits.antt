-- Bits of a word, counted from 0 at the low end. Assumes nothing.
use Rattle.std.specs.Prelude.{◌≡◌, ◌↔◌, Bool, true, false, ℕ, ◌/◌, ◌%◌, ◌^◌, ◌<◌, ◌≤◌, eqb}

-- Bit b of w.
unfoldable pub bit_of : ℕ → ℕ → Bool
bit_of w b = eqb (w / 2 ^ b % 2) 1

-- Bit b of w is set.
abbrev pub On : ℕ → ℕ → Type 0
On w b = bit_of w b ≡ true

-- Exactly one bit of w is set: w is a power of two.
abbrev pub Single : ℕ → Type 0
Single w = (a : ℕ) × (w ≡ 2 ^ a)

-- a is the first set bit of w, and v has the others.
pub record FirstBit (w a v : ℕ) : Type 0 where
  pub on : On w a
  pub first : (b : ℕ) → On w b → a ≤ b
  pub others : (b : ℕ) → On v b ↔ (On w b × (b ≡ a → ⊥))

-- r is the first set bit of w from a on, or 64 where none is set.
pub record NextBit (w a r : ℕ) : Type 0 where
  pub from : a ≤ r
  pub upto : r ≤ 64
  pub clear : (b : ℕ) → a ≤ b → b < r → bit_of w b ≡ false
  pub on : r < 64 → On w r
