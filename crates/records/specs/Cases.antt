-- The rehearsed cases (h) and (i), on bytes. Assumes nothing.
use Rattle.std.specs.Prelude.{true, false, List, [], ◌∷◌, ◌≡◌, ℕ, get_or}
use Rattle.calculus.specs.Term.{View, view_of}
use Rattle.calculus.specs.Least.{Least}
use Rattle.refusal.specs.Refusal.{accepted}
use Rattle.guideline.specs.Read.{guideline_of}
use Rattle.bits.specs.Bits.{bit_of}
use Rattle.records.specs.Entries.{derive_of}

-- "(h) p0(1,2), p0(2,3), p1 the closure of p0": two facts of constants, p1(x, y) where p0(x, y), p1(x, z) where p0(x, y) and p1(y, z).
abbrev pub case_h : List ℕ
case_h =
    1 ∷ 0 ∷ 3 ∷ 3 ∷ 1 ∷ 0 ∷ 0 ∷ 0 ∷ 2 ∷ 0 ∷ 0 ∷ 0 ∷ 0 ∷ 0 ∷ 0 ∷ 0 ∷
    1 ∷ 0 ∷ 3 ∷ 3 ∷ 2 ∷ 0 ∷ 0 ∷ 0 ∷ 3 ∷ 0 ∷ 0 ∷ 0 ∷ 0 ∷ 0 ∷ 0 ∷ 0 ∷
    2 ∷ 1 ∷ 0 ∷ 1 ∷ 0 ∷ 0 ∷ 0 ∷ 0 ∷ 0 ∷ 0 ∷ 0 ∷ 0 ∷ 0 ∷ 0 ∷ 0 ∷ 0 ∷
    3 ∷ 0 ∷ 0 ∷ 1 ∷ 0 ∷ 0 ∷ 0 ∷ 0 ∷ 0 ∷ 0 ∷ 0 ∷ 0 ∷ 0 ∷ 0 ∷ 0 ∷ 0 ∷
    2 ∷ 1 ∷ 0 ∷ 2 ∷ 0 ∷ 0 ∷ 0 ∷ 0 ∷ 0 ∷ 0 ∷ 0 ∷ 0 ∷ 0 ∷ 0 ∷ 0 ∷ 0 ∷
    3 ∷ 0 ∷ 0 ∷ 1 ∷ 0 ∷ 0 ∷ 0 ∷ 0 ∷ 0 ∷ 0 ∷ 0 ∷ 0 ∷ 0 ∷ 0 ∷ 0 ∷ 0 ∷
    3 ∷ 1 ∷ 1 ∷ 2 ∷ 0 ∷ 0 ∷ 0 ∷ 0 ∷ 0 ∷ 0 ∷ 0 ∷ 0 ∷ 0 ∷ 0 ∷ 0 ∷ 0 ∷ []

-- "(i) an argument outside the facts satisfies no p0": p0(1,1), and function 1 logged where p0 holds of its argument twice.
abbrev pub case_i : List ℕ
case_i =
    1 ∷ 0 ∷ 3 ∷ 3 ∷ 1 ∷ 0 ∷ 0 ∷ 0 ∷ 1 ∷ 0 ∷ 0 ∷ 0 ∷ 0 ∷ 0 ∷ 0 ∷ 0 ∷
    4 ∷ 0 ∷ 0 ∷ 0 ∷ 1 ∷ 0 ∷ 0 ∷ 0 ∷ 0 ∷ 0 ∷ 0 ∷ 0 ∷ 0 ∷ 0 ∷ 0 ∷ 0 ∷
    7 ∷ 0 ∷ 0 ∷ 0 ∷ 0 ∷ 0 ∷ 0 ∷ 0 ∷ 0 ∷ 0 ∷ 0 ∷ 0 ∷ 0 ∷ 0 ∷ 0 ∷ 0 ∷ []

-- (h) "p1(1,3) holds, p1(3,1) not": 1, 2, 3 are values 0, 1, 2, so p1(1,3) is bit 2 of byte 512 and p1(3,1) bit 0 of byte 528.
pub record CaseH (table : List ℕ) : Type 0 where
  pub accepts : (derive_of case_h table).verdict ≡ accepted
  pub up : bit_of (get_or (derive_of case_h table).table 512 0) 2 ≡ true
  pub down : bit_of (get_or (derive_of case_h table).table 528 0) 0 ≡ false

-- (i) The fact is there, and constant 7 is outside the facts.
pub record CaseI (table : List ℕ) : Type 0 where
  pub accepts : (derive_of case_i table).verdict ≡ accepted
  pub inside : bit_of (get_or (derive_of case_i table).table 0 0) 0 ≡ true
  pub first : (b : View) → Least (guideline_of case_i) 0 (view_of 3 7) b → ⊥
  pub second : (a : View) → Least (guideline_of case_i) 0 a (view_of 3 7) → ⊥
