-- What it says that a number is not due. Assumes nothing.
use mathlib.Core.Bool.{Bool, true, false, cond, not, ◌&&◌, ◌||◌}
use mathlib.Core.List.{List}
use Rattle.std.specs.Prelude.{Option, None, Some}
use Rattle.std.proofs.lemmas.Option.{none-some}
use mathlib.Core.Path.{◌≡◌, refl, sym, ◌∙◌}
use Prim.Native.Nat.{ℕ, ◌*◌, ◌%◌, ◌<◌, ◌≤◌}
use native.Mathlib.Decide.{dec_lt}
use native.Mathlib.Omega.{arith}
use lib.Dec.{eqb, ltb}
use lib.ListN.{length}
use borrow.Author.Tests.{le-ltb, ltb-false, eqb-true, eqb-false, eq-eqb, ne_eqb, not-false}
use Rattle.terms.specs.Record.{count, kind_at, spare_at, record_number, in_range}
use Rattle.terms.specs.Encode.{Clean}
use Rattle.terms.proofs.Encode.{range-clean}
use Rattle.refusal.specs.First.{first_below, first-before, first-none}
use Rattle.std.specs.Option.{option_or}
use Rattle.refusal.specs.Refusal.{due_below, due-at, due-not}
use Rattle.script.specs.Check.{most_records, due1, first_in, malformed}
use Rattle.script.specs.declared.Purpose.{Purpose}
use Rattle.script.proofs.Each.{Between}

-- ---- tests

-- Both of two tests pass.
pub both_true : (a b : Bool) → a && b ≡ true → (a ≡ true) × (b ≡ true)
both_true true b e = (refl, e)
both_true false b e = let z : ◌≡◌ {A = ℕ} 0 1 = cc in absurd (omega arith)

-- Neither of two tests passes.
pub both_false : (a b : Bool) → a || b ≡ false → (a ≡ false) × (b ≡ false)
both_false true b e = let z : ◌≡◌ {A = ℕ} 0 1 = cc in absurd (omega arith)
both_false false b e = (refl, e)

-- A number that is not due where a test fails: the test did not.
pub cond-none : (b : Bool) (n : ℕ) → cond b (Some n) None ≡ None → b ≡ false
cond-none true n e = absurd (none-some n (sym e))
cond-none false n e = refl

-- ---- searches

-- A search comes to its end exactly where nothing before it is found.
pub below_none : (m n : ℕ) → due_below m n ≡ None → n ≤ m
below_none m n e = on (dec_lt m n)
  where
    on : Dec (m < n) → n ≤ m
    on (yes h) = absurd (none-some m (sym e ∙ due-at m n h))
    on (no h) = omega arith

-- No record of the file fails the test, …
pub first-clear : (s : List ℕ) (p : ℕ → Bool) → first_in s p ≡ None → Between (λ k. p k ≡ false) 0 (count s)
first-clear s p e k l h =
    first-before p (count s) k (omega (arith, below_none (first_below p (count s)) (count s) e))

-- … exactly where no number is due for it.
pub clear_first : (s : List ℕ) (p : ℕ → Bool) → Between (λ k. p k ≡ false) 0 (count s) → first_in s p ≡ None
clear_first s p h =
    let e = first-none p (count s) (λ k l. h k (omega arith) l) in due-not (first_below p (count s)) (count s) (omega arith)

-- The first of two searches.
pub else-none : (p q : Option ℕ) → option_or p q ≡ None → (p ≡ None) × (q ≡ None)
else-none None q e = (refl, e)
else-none (Some p) q e = absurd (none-some p (sym e))

-- ---- number 1

-- A file of whole records, at least one and not too many.
pub record Lengths (u : Purpose) (s : List ℕ) : Type 0 where
  pub filled : 0 < length s
  pub eights : length s ≡ 8 * count s
  pub most : count s ≤ most_records u

-- It is so where number 1 is not due, …
pub due1-none : (u : Purpose) (s : List ℕ) → due1 u s ≡ None → Lengths u s
due1-none u s e =
    let t = both_false (eqb (length s) 0) (not (eqb (length s % 8) 0) || ltb (most_records u) (count s)) (cond-none _ 0 e) in
    let r = both_false (not (eqb (length s % 8) 0)) (ltb (most_records u) (count s)) t.1 in
    let n = eqb-false (length s) 0 t.0 in
    let m = eqb-true (length s % 8) 0 (not-false (eqb (length s % 8) 0) r.0) in
    record { filled = omega arith; eights = omega arith; most = ltb-false (most_records u) (count s) r.1 }

-- … and there only.
pub none-due1 : (u : Purpose) (s : List ℕ) → Lengths u s → due1 u s ≡ None
none-due1 u s h =
    let m : length s % 8 ≡ 0 = omega (arith, h.eights) in
    rw (ne_eqb (length s) 0 (λ e. omega (arith, h.filled)), m, le-ltb (most_records u) (count s) h.most)

-- ---- number 2

-- A record that is not malformed has zero spare bytes and a number in its range.
pub malformed-not : (s : List ℕ) (i : ℕ) → malformed s i ≡ false → (spare_at s i ≡ 0) × (in_range (kind_at s i) (record_number s i) ≡ true)
malformed-not s i e =
    let p = both_true (eqb (spare_at s i) 0) (in_range (kind_at s i) (record_number s i)) (not-false _ e) in
    (eqb-true (spare_at s i) 0 p.0, p.1)

-- And back.
pub not-malformed : (s : List ℕ) (i : ℕ) → spare_at s i ≡ 0 → in_range (kind_at s i) (record_number s i) ≡ true → malformed s i ≡ false
not-malformed s i z r = rw (eq-eqb (spare_at s i) 0 z, r)

-- It is clean.
pub malformed-clean : (s : List ℕ) (i : ℕ) → malformed s i ≡ false → Clean s i
malformed-clean s i e = let p = malformed-not s i e in range-clean s i p.0 p.1
