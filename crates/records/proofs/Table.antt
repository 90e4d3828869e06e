-- What the derived table says. Assumes nothing.
use mathlib.Core.Bool.{true}
use mathlib.Core.List.{List, Memᴰ}
use mathlib.Core.Logic.{◌⊎◌, inl, inr, ◌↔◌}
use mathlib.Core.Path.{◌≡◌, ap, ◌∙◌}
use Prim.Native.Nat.{ℕ, ◌<◌, ◌≤◌}
use lib.ListN.{length}
use Rattle.words.specs.Bytes.{AllBytes}
use Rattle.calculus.specs.Term.{View}
use Rattle.calculus.specs.Least.{Least}
use Rattle.calculus.specs.Derive.{values}
use Rattle.calculus.proofs.Least.{outside}
use Rattle.refusal.specs.Refusal.{accepted}
use Rattle.guideline.specs.Read.{guideline_of}
use Rattle.guideline.specs.Check.{file_verdict}
use Rattle.guideline.specs.Values.{value_at}
use Rattle.guideline.proofs.Accepted.{accepted-safe}
use Rattle.table.specs.Table.{table_bit}
use Rattle.predicates.specs.Table.{in_table, table_of}
use Rattle.predicates.proofs.Table.{table-bit, filled-bit, table-least}
use Rattle.records.specs.Entries.{Derived, derive_of}
use Rattle.records.proofs.Laws.{derive-leaves}

module _ (g t : List ℕ) (l : 8192 ≤ length t) (e : file_verdict g ≡ accepted) (p a b : ℕ) (lp : p < 16) (la : a < 64) (lb : b < 64) where
  -- The bits that deriving leaves are those of the guideline's table, …
  derived-same : table_bit (derive_of g t).table p a b ≡ table_bit (table_of (guideline_of g)) p a b
  derived-same = ap (λ (d : Derived). table_bit d.table p a b) (derive-leaves g t l e) ∙ filled-bit (guideline_of g) t p a b lp la lb

  pub derived-bit : table_bit (derive_of g t).table p a b ≡ in_table (guideline_of g) p a b
  derived-bit = derived-same ∙ table-bit (guideline_of g) p a b lp la lb

  -- … so after deriving bit p(a, b) is set exactly when a and b are numbers of values and p of these is in the least set.
  pub derived-least : AllBytes g → (table_bit (derive_of g t).table p a b ≡ true) ↔ ((a < length (values (guideline_of g))) × (b < length (values (guideline_of g))) × Least (guideline_of g) p (value_at (values (guideline_of g)) a) (value_at (values (guideline_of g)) b))
  derived-least all = rw derived-same (table-least (guideline_of g) (accepted-safe g all e) p a b lp la lb)

-- "A value outside the facts satisfies no predicate."
pub outside-none : (g : List ℕ) → AllBytes g → file_verdict g ≡ accepted → (p : ℕ) (a b : View) → (Memᴰ a (values (guideline_of g)) → ⊥) ⊎ (Memᴰ b (values (guideline_of g)) → ⊥) → Least (guideline_of g) p a b → ⊥
outside-none g all e p a b h d = on h (outside (guideline_of g) (accepted-safe g all e) p a b d)
  where
    on : (Memᴰ a (values (guideline_of g)) → ⊥) ⊎ (Memᴰ b (values (guideline_of g)) → ⊥) → Memᴰ a (values (guideline_of g)) × Memᴰ b (values (guideline_of g)) → ⊥
    on (inl n) m = n m.0
    on (inr n) m = n m.1
