-- Files longer than the limits, whatever their length. The program reads up to a record more than the limit, so what it reads of them is
-- longer than the limit too. Assumes nothing.
use mathlib.Core.Bool.{Bool, true, false}
use mathlib.Core.List.{List}
use Rattle.std.specs.Prelude.{Some}
use mathlib.Core.Path.{◌≡◌, refl, sym, ◌∙◌}
use Prim.Native.Nat.{ℕ, ◌/◌, ◌%◌, ◌<◌}
use native.Mathlib.Omega.{arith}
use lib.Dec.{eqb}
use lib.ListN.{length}
use borrow.Author.Tests.{ne_eqb, eqb-true, lt-ltb}
use Rattle.refusal.specs.Refusal.{Verdict, verdict, accepted, refuse-due, then-refused, then-passed}
use Rattle.script.specs.File.{file_of}
use Rattle.script.specs.Check.{due1, script_verdict, definition_count}
use Rattle.script.specs.declared.Purpose.TheVariants.{Checking}
use Rattle.guideline.specs.Check.{due11, guideline_due, guideline_verdict}
use Rattle.records.specs.Entries.{check_of}
use Rattle.listing.specs.Text.{refusal_line}
use Rattle.listing.specs.Listing.{listing}
use Rattle.listing.proofs.Printed.{listing-refused}

-- ---- scripts

-- Its length is no multiple of 8, or there are too many records.
script-due : (s : List ℕ) → 8192 < length s → due1 Checking s ≡ Some 0
script-due s h = on (eqb (length s % 8) 0) refl
  where
    on : (b : Bool) → eqb (length s % 8) 0 ≡ b → due1 Checking s ≡ Some 0
    on true q =
        let m = eqb-true (length s % 8) 0 q in
        rw (ne_eqb (length s) 0 (λ z. omega arith), q, lt-ltb 1024 (length s / 8) (omega arith)) refl
    on false q = rw (ne_eqb (length s) 0 (λ z. omega arith), q) refl

script-refused : (s : List ℕ) → 8192 < length s → verdict 1 0 ≡ script_verdict Checking s
unfolding script_verdict
script-refused s h = sym (refuse-due 1 _ (script-due s h))

-- ---- guidelines

-- Its length is no multiple of 16, or there are too many records.
guideline-due : (g : List ℕ) → 4096 < length g → due11 g ≡ Some 0
guideline-due g h = on (eqb (length g % 16) 0) refl
  where
    on : (b : Bool) → eqb (length g % 16) 0 ≡ b → due11 g ≡ Some 0
    on true q = let m = eqb-true (length g % 16) 0 q in rw (q, lt-ltb 256 (length g / 16) (omega arith)) refl
    on false q = rw q refl

guideline-refused : (n : ℕ) (g : List ℕ) → 4096 < length g → verdict 11 0 ≡ guideline_verdict n g
unfolding guideline_due
guideline-refused n g h = sym (refuse-due 11 _ (guideline-due g h))

-- ---- their listings

-- A refusal of checking is all that is printed.
printed : (s g : List ℕ) (v : Verdict) → v ≡ check_of s g → (v.number ≡ 0 → ⊥) → listing s g ≡ refusal_line v
printed s g v q z = rw q (listing-refused s g (rw q at z))

pub long-script : (s g : List ℕ) → 8192 < length s → listing s g ≡ refusal_line (verdict 1 0)
long-script s g h = printed s g (verdict 1 0) (then-refused (script_verdict Checking s) _ (script-refused s h) (λ z. omega arith)) (λ z. omega arith)

pub long-guideline : (s g : List ℕ) → script_verdict Checking s ≡ accepted → 4096 < length g → listing s g ≡ refusal_line (verdict 11 0)
long-guideline s g p h =
    printed s g (verdict 11 0)
    (guideline-refused (definition_count (file_of s)) g h ∙ then-passed (script_verdict Checking s) _ (sym p) refl) (λ z. omega arith)
