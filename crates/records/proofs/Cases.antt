-- The rehearsed cases (h) and (i) on bytes, by computing. Assumes nothing.
use mathlib.Core.Bool.{true, false}
use mathlib.Core.List.Memᴰ
use mathlib.Core.List.{List, [], ◌∷◌, Memᴰ}
use mathlib.Core.Path.{◌≡◌, refl, ap, ◌∙◌}
use Prim.Native.Nat.{ℕ, ◌≤◌}
use native.Mathlib.Omega.{arith}
use lib.ListN.{length}
use Rattle.words.specs.Bytes.{number, part}
use Rattle.calculus.specs.Lists.{any, all, keep, each, distinct}
use Rattle.calculus.specs.Term.{View, view_of}
use Rattle.calculus.specs.Guideline.{Guideline, Safe}
use Rattle.calculus.specs.Derive.{holds, derived, rounds, next_round, yields, given, candidates, predicates, values, appearing}
use Rattle.calculus.specs.Cases.{closure, constant}
use Rattle.calculus.proofs.Least.{outside}
use Rattle.refusal.specs.First.{first_from, first_below}
use Rattle.refusal.specs.Refusal.{accepted, refuse_if, due_below}
use Rattle.guideline.specs.Record.{kind_at, predicate_at, first_at, second_at, well_formed}
use Rattle.guideline.specs.Read.{numbers_from, end_of, row_from, of_kind, guideline_of}
use Rattle.guideline.specs.Check.{misplaced, facts_below, clauses_below, triggers_before, guideline_due, file_verdict}
use Rattle.table.specs.Table.{table_bit}
use Rattle.predicates.specs.Table.{in_table}
use Rattle.records.specs.Entries.{Derived}
use Rattle.records.specs.Cases.{case_h, case_i, CaseH, CaseI}
use Rattle.records.proofs.Laws.{derive-leaves}
use Rattle.records.proofs.Table.{derived-bit}

-- ---- (h)

accepts-h : file_verdict case_h ≡ accepted
unfolding number part any each appearing first_from first_below refuse_if due_below kind_at predicate_at first_at second_at well_formed numbers_from end_of row_from misplaced facts_below clauses_below triggers_before guideline_due
accepts-h = refl

read-h : guideline_of case_h ≡ closure
unfolding number part each first_from kind_at predicate_at first_at second_at numbers_from end_of row_from of_kind guideline_of
read-h = refl

up-h : in_table closure 1 0 2 ≡ true
unfolding any all keep each distinct holds derived rounds next_round yields given candidates predicates values appearing in_table
up-h = refl

down-h : in_table closure 1 2 0 ≡ false
unfolding any all keep each distinct holds derived rounds next_round yields given candidates predicates values appearing in_table
down-h = refl

pub case-h : (table : List ℕ) → 8192 ≤ length table → CaseH table
unfolding table_bit
case-h t l =
    record {
      accepts = ap (λ (d : Derived). d.verdict) (derive-leaves case_h t l accepts-h);
      up = derived-bit case_h t l accepts-h 1 0 2 (omega arith) (omega arith) (omega arith) ∙ ap (λ (G : Guideline). in_table G 1 0 2) read-h ∙ up-h;
      down = derived-bit case_h t l accepts-h 1 2 0 (omega arith) (omega arith) (omega arith) ∙ ap (λ (G : Guideline). in_table G 1 2 0) read-h ∙ down-h;
    }

-- ---- (i)

accepts-i : file_verdict case_i ≡ accepted
unfolding number part any each appearing first_from first_below refuse_if due_below kind_at predicate_at first_at second_at well_formed numbers_from end_of row_from misplaced facts_below clauses_below triggers_before guideline_due
accepts-i = refl

inside-i : in_table (guideline_of case_i) 0 0 0 ≡ true
unfolding number part any all keep each distinct holds derived rounds next_round yields given candidates predicates values appearing in_table first_from kind_at predicate_at first_at second_at numbers_from end_of row_from of_kind guideline_of
inside-i = refl

rules-i : (guideline_of case_i).rules ≡ []
unfolding each kind_at numbers_from of_kind guideline_of
rules-i = refl

values-i : values (guideline_of case_i) ≡ constant 1 ∷ []
unfolding number part any each values appearing kind_at predicate_at first_at second_at numbers_from of_kind guideline_of
values-i = refl

safe-i : Safe (guideline_of case_i)
safe-i r m = absurd (Memᴰ.not-nil (rw rules-i at m))

none-i : Memᴰ (view_of 3 7) (values (guideline_of case_i)) → ⊥
none-i m = let e : ◌≡◌ {A = ℕ} 7 1 = ap (λ (v : View). v.number) (Memᴰ.eq_of_singleton (rw values-i at m)) in omega arith

pub case-i : (table : List ℕ) → 8192 ≤ length table → CaseI table
unfolding table_bit
case-i t l =
    record {
      accepts = ap (λ (d : Derived). d.verdict) (derive-leaves case_i t l accepts-i);
      inside = derived-bit case_i t l accepts-i 0 0 0 (omega arith) (omega arith) (omega arith) ∙ inside-i;
      first = λ b d. none-i (outside (guideline_of case_i) safe-i 0 (view_of 3 7) b d).0;
      second = λ a d. none-i (outside (guideline_of case_i) safe-i 0 a (view_of 3 7) d).1;
    }
