-- What the entries answer, and what deriving leaves. Assumes nothing.
use mathlib.Core.List.{List}
use mathlib.Core.Path.{◌≡◌, refl, sym, ap, ◌∙◌}
use Prim.Native.Nat.{ℕ, ◌<◌, ◌≤◌}
use native.Mathlib.Omega.{arith}
use lib.ListN.{length}
use borrow.Author.Tests.{ne_eqb, lt-ltb, le-ltb}
use Rattle.words.specs.Filled.{filled}
use Rattle.std.specs.Prelude.{Result, Ok, Err}
use Rattle.refusal.specs.declared.Refusal.{Refusal}
use Rattle.refusal.specs.Refusal.{Verdict, verdict, accepted, refused_as, verdict_of, refuse-due, refuse-not}
use Rattle.guideline.specs.Read.{guideline_of}
use Rattle.guideline.specs.Check.{file_verdict}
use Rattle.predicates.specs.Table.{table_of}
use Rattle.records.specs.Entries.{derive_verdict, leaves, derive_by, derive_of}

-- The verdict of a check that refused, and of one that did not.
module _ {T : Type 0} {a : Result T Refusal} {v : Verdict} where
  pub verdict-err : {r : Refusal} → a ≡ Err r → verdict_of a ≡ v → refused_as r ≡ v
  verdict-err q e = sym (ap verdict_of q) ∙ e

  pub verdict-ok : {x : T} → a ≡ Ok x → verdict_of a ≡ v → accepted ≡ v
  verdict-ok q e = sym (ap verdict_of q) ∙ e

refused-by : (v : Verdict) (g t : List ℕ) → (v.number ≡ 0 → ⊥) → leaves t v ≡ derive_by v g t
unfolding derive_by
refused-by v g t n = rw (ne_eqb v.number 0 n)

accepted-by : (g t : List ℕ) → leaves (filled 8192 (table_of (guideline_of g)) t) accepted ≡ derive_by accepted g t
unfolding derive_by
accepted-by g t = refl

module _ (g t : List ℕ) where
  pub derive-short : length t < 8192 → leaves t (verdict 23 0) ≡ derive_of g t
  derive-short l = rw (lt-ltb (length t) 8192 l, refuse-due 23 {p = 0} (file_verdict g) refl) (refused-by (verdict 23 0) g t (λ z. omega arith))

  module _ (l : 8192 ≤ length t) {v : Verdict} (e : v ≡ file_verdict g) where
    long : derive_verdict g t ≡ v
    long = rw (le-ltb (length t) 8192 l) (refuse-not 23 (file_verdict g) refl ∙ sym e)

    pub derive-refused : (v.number ≡ 0 → ⊥) → leaves t v ≡ derive_of g t
    derive-refused n = refused-by v g t n ∙ ap (λ (w : Verdict). derive_by w g t) (sym long)

    pub derive-accepted : {u : List ℕ} → v ≡ accepted → u ≡ filled 8192 (table_of (guideline_of g)) t → leaves u v ≡ derive_of g t
    derive-accepted q h = rw (q, h) (accepted-by g t ∙ ap (λ (w : Verdict). derive_by w g t) (sym q ∙ sym long))

-- What deriving leaves where nothing is refused.
pub derive-leaves : (g t : List ℕ) → 8192 ≤ length t → file_verdict g ≡ accepted → derive_of g t ≡ leaves (filled 8192 (table_of (guideline_of g)) t) accepted
derive-leaves g t l e = sym (derive-accepted g t l refl e refl) ∙ ap (λ (v : Verdict). leaves (filled 8192 (table_of (guideline_of g)) t) v) e
