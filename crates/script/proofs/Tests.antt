-- The test for number 2, in the form of the code. Assumes nothing.
use mathlib.Core.Bool.{Bool, not}
use mathlib.Core.List.{List}
use mathlib.Core.Path.{◌≡◌, refl, sym, ap, ◌∙◌}
use Prim.Native.Nat.{ℕ, ◌+◌, ◌*◌, ◌/◌, ◌<◌}
use native.Mathlib.Omega.{arith}
use lib.Dec.{eqb}
use borrow.Author.Tests.{eq-eqb, ne_eqb}
use Rattle.words.specs.Bytes.{number_at, number-next}
use Rattle.terms.specs.Record.{count, kind_at, spare_at, record_number, in_range}
use Rattle.script.specs.Check.{malformed}

-- The first four bytes of a record, read as the number w: the kind, and 256 times the spare bytes.
module _ (s : List ℕ) (i : ℕ) (h : i < count s) (l : kind_at s i < 256) {w : ℕ} (e : w ≡ number_at 4 s (8 * i)) where
  spare-read : w / 256 ≡ spare_at s i
  spare-read =
      let q : number_at 4 s (8 * i) ≡ kind_at s i + 256 * spare_at s i = number-next 3 s (8 * i) (8 * i + 1) (omega arith) refl in
      omega arith

  -- A spare byte is not zero.
  pub malformed-spare : (w / 256 ≡ 0 → ⊥) → not (eqb (w / 256) 0) ≡ malformed s i
  malformed-spare n = rw (ne_eqb (w / 256) 0 n, ne_eqb (spare_at s i) 0 (λ z. n (spare-read ∙ z)))

  -- The spare bytes are zero: the number's range decides.
  pub malformed-range : w / 256 ≡ 0 → {n : ℕ} → n ≡ record_number s i → {b : Bool} → b ≡ in_range (kind_at s i) n → not b ≡ malformed s i
  malformed-range z q r = rw (eq-eqb (spare_at s i) 0 (sym spare-read ∙ z)) (ap not (r ∙ ap (in_range (kind_at s i)) q))
