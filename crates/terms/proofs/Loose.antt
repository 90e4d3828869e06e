-- The first loose variable of a term: there is none exactly where the term is scoped. Assumes nothing.
use mathlib.Core.Bool.{cond, ◌&&◌}
use mathlib.Core.List.{List}
use mathlib.Core.Logic.{◌↔◌}
use mathlib.Core.Path.{◌≡◌, refl}
use Prim.Native.Nat.{ℕ, zero, suc, ◌+◌, ◌<◌, ◌≤◌}
use native.Mathlib.Omega.{arith}
use native.Mathlib.Decide.{dec_lt}
use native.Mathlib.Numerals.{add-one}
use lib.Dec.{eqb, ltb, leb}
use borrow.Author.Tests.{lt-ltb, le-ltb, lt-leb, le-leb, ne_eqb}
use Rattle.std.specs.Prelude.{Option, Some, None}
use Rattle.std.specs.Option.{option_or}
use Rattle.std.specs.Bool.{then_some}
use Rattle.calculus.specs.Term.{Term, records, Scoped}
use Rattle.calculus.specs.Term.Term.{var, fun, con, lam, app, call_event, emit, sum, branch}
use Rattle.terms.specs.Record.{kind_at}
use Rattle.terms.specs.Read.{leaf_term, pair_term}
use Rattle.terms.specs.Walk.{loose}
use Rattle.terms.proofs.Stands.{Stands}

-- ---- the first of two

pub or_assoc : (a b c : Option ℕ) → option_or (option_or a b) c ≡ option_or a (option_or b c)
or_assoc (Some x) b c = refl
or_assoc None b c = refl

-- What is found is found in one of them.
either : {a b : Option ℕ} {m : ℕ} {P : Type 0} → option_or a b ≡ Some m → (a ≡ Some m → P) → (b ≡ Some m → P) → P
either {a = Some x} e f g = f e
either {a = None} e f g = g e

or_none : {a b : Option ℕ} → option_or a b ≡ None → (a ≡ None) × (b ≡ None)
or_none {a = Some x} e = cc
or_none {a = None} e = (refl, e)

none_or : {a b : Option ℕ} → a ≡ None → b ≡ None → option_or a b ≡ None
none_or e f = rw (e, f)

-- ---- by the shape of the term

-- Of a leaf only a variable may be loose: one that is not below the depth.
pub leaf-loose : (d i k n : ℕ) → loose d i (leaf_term k n) ≡ then_some (eqb k 1 && leb d n) i
unfolding loose
leaf-loose d i zero n = refl
leaf-loose d i (suc zero) n = on (dec_lt n d)
  where
    on : Dec (n < d) → cond (ltb n d) None (Some i) ≡ then_some (leb d n) i
    on (yes h) = rw (lt-ltb n d h, lt-leb d n h)
    on (no h) = let g : d ≤ n = omega arith in rw (le-ltb n d g, le-leb d n g)
leaf-loose d i (suc (suc zero)) n = refl
leaf-loose d i (suc (suc (suc k))) n = rw (ne_eqb (suc (suc (suc k))) 1 (λ e. omega arith))

-- A pair has the first of its two terms.
pub pair-loose : (d i k n : ℕ) (a b : Term) → loose d i (pair_term k n a b) ≡ option_or (loose d (i + 1) a) (loose d (i + 1 + records a) b)
unfolding loose
pair-loose d i zero n a b = refl
pair-loose d i (suc zero) n a b = refl
pair-loose d i (suc (suc zero)) n a b = refl
pair-loose d i (suc (suc (suc zero))) n a b = refl
pair-loose d i (suc (suc (suc (suc zero)))) n a b = refl
pair-loose d i (suc (suc (suc (suc (suc zero))))) n a b = refl
pair-loose d i (suc (suc (suc (suc (suc (suc zero)))))) n a b = refl
pair-loose d i (suc (suc (suc (suc (suc (suc (suc zero))))))) n a b = refl
pair-loose d i (suc (suc (suc (suc (suc (suc (suc (suc k)))))))) n a b = refl

-- ---- where it lies

-- It lies in the term.
pub loose-bounds : (d i : ℕ) (t : Term) (m : ℕ) → loose d i t ≡ Some m → (i ≤ m) × (m < i + records t)
unfolding loose records
loose-bounds d i (var n) m e = on (dec_lt n d)
  where
    on : Dec (n < d) → (i ≤ m) × (m < i + 1)
    on (yes h) = let z : None ≡ Some m = rw (lt-ltb n d h) at e in absurd cc
    on (no h) = let z : Some i ≡ Some m = rw (le-ltb n d (omega arith)) at e in let q : i ≡ m = cc in omega arith
loose-bounds d i (fun n) m e = cc
loose-bounds d i (con n) m e = cc
loose-bounds d i (lam n b) m e = let h = loose-bounds (d + 1) (i + 1) b m e in omega arith
loose-bounds d i (app a b) m e =
    either e (λ q. let h = loose-bounds d (i + 1) a m q in omega arith) (λ q. let h = loose-bounds d (i + 1 + records a) b m q in omega arith)
loose-bounds d i (call_event n a b) m e =
    either e (λ q. let h = loose-bounds d (i + 1) a m q in omega arith) (λ q. let h = loose-bounds d (i + 1 + records a) b m q in omega arith)
loose-bounds d i (emit n a b) m e =
    either e (λ q. let h = loose-bounds d (i + 1) a m q in omega arith) (λ q. let h = loose-bounds d (i + 1 + records a) b m q in omega arith)
loose-bounds d i (sum a b) m e =
    either e (λ q. let h = loose-bounds d (i + 1) a m q in omega arith) (λ q. let h = loose-bounds d (i + 1 + records a) b m q in omega arith)
loose-bounds d i (branch c a b) m e =
    either e (λ q. let h = loose-bounds d (i + 1) c m q in omega arith)
    (λ r. either r (λ q. let h = loose-bounds d (i + 1 + records c) a m q in omega arith) (λ q. let h = loose-bounds d (i + 1 + records c + records a) b m q in omega arith))

-- ---- none, exactly where the term is scoped

-- A scoped term has no loose variable.
pub scoped-loose : (d i : ℕ) (t : Term) → Scoped d t → loose d i t ≡ None
unfolding loose
scoped-loose d i (var n) h = rw (lt-ltb n d h)
scoped-loose d i (fun n) h = refl
scoped-loose d i (con n) h = refl
scoped-loose d i (lam n b) h = scoped-loose (d + 1) (i + 1) b (rw (add-one d) h)
scoped-loose d i (app a b) h = none_or (scoped-loose d (i + 1) a h.0) (scoped-loose d (i + 1 + records a) b h.1)
scoped-loose d i (call_event n a b) h = none_or (scoped-loose d (i + 1) a h.0) (scoped-loose d (i + 1 + records a) b h.1)
scoped-loose d i (emit n a b) h = none_or (scoped-loose d (i + 1) a h.0) (scoped-loose d (i + 1 + records a) b h.1)
scoped-loose d i (sum a b) h = none_or (scoped-loose d (i + 1) a h.0) (scoped-loose d (i + 1 + records a) b h.1)
scoped-loose d i (branch c a b) h =
    none_or (scoped-loose d (i + 1) c h.0) (none_or (scoped-loose d (i + 1 + records c) a h.1) (scoped-loose d (i + 1 + records c + records a) b h.2))

-- A term with none is scoped.
pub loose-scoped : (d i : ℕ) (t : Term) → loose d i t ≡ None → Scoped d t
unfolding loose
loose-scoped d i (var n) e = on (dec_lt n d)
  where
    on : Dec (n < d) → n < d
    on (yes h) = h
    on (no h) = let z : Some i ≡ None = rw (le-ltb n d (omega arith)) at e in cc
loose-scoped d i (fun n) e = tt
loose-scoped d i (con n) e = tt
loose-scoped d i (lam n b) e = rw (add-one d) at (loose-scoped (d + 1) (i + 1) b e)
loose-scoped d i (app a b) e = let h = or_none e in (loose-scoped d (i + 1) a h.0, loose-scoped d (i + 1 + records a) b h.1)
loose-scoped d i (call_event n a b) e = let h = or_none e in (loose-scoped d (i + 1) a h.0, loose-scoped d (i + 1 + records a) b h.1)
loose-scoped d i (emit n a b) e = let h = or_none e in (loose-scoped d (i + 1) a h.0, loose-scoped d (i + 1 + records a) b h.1)
loose-scoped d i (sum a b) e = let h = or_none e in (loose-scoped d (i + 1) a h.0, loose-scoped d (i + 1 + records a) b h.1)
loose-scoped d i (branch c a b) e =
    let h = or_none e in
    let g = or_none h.1 in
    (loose-scoped d (i + 1) c h.0, loose-scoped d (i + 1 + records c) a g.0, loose-scoped d (i + 1 + records c + records a) b g.1)

-- No loose variable, exactly where the term is scoped.
pub loose-exact : (d i : ℕ) (t : Term) → (loose d i t ≡ None) ↔ Scoped d t
loose-exact d i t = (loose-scoped d i t, scoped-loose d i t)

-- ---- the record there

-- The first loose variable is a variable's record.
pub loose-kind : (s : List ℕ) (d i : ℕ) (t : Term) → Stands s i t → (m : ℕ) → loose d i t ≡ Some m → kind_at s m ≡ 1
unfolding loose
loose-kind s d i (var n) h m e = on (dec_lt n d)
  where
    on : Dec (n < d) → kind_at s m ≡ 1
    on (yes l) = let z : None ≡ Some m = rw (lt-ltb n d l) at e in cc
    on (no l) = let z : Some i ≡ Some m = rw (le-ltb n d (omega arith)) at e in let q : i ≡ m = cc in rw (← q) h.kind
loose-kind s d i (fun n) h m e = cc
loose-kind s d i (con n) h m e = cc
loose-kind s d i (lam n b) h m e = loose-kind s (d + 1) (i + 1) b h.1 m e
loose-kind s d i (app a b) h m e = either e (loose-kind s d (i + 1) a h.1 m) (loose-kind s d (i + 1 + records a) b h.2 m)
loose-kind s d i (call_event n a b) h m e = either e (loose-kind s d (i + 1) a h.1 m) (loose-kind s d (i + 1 + records a) b h.2 m)
loose-kind s d i (emit n a b) h m e = either e (loose-kind s d (i + 1) a h.1 m) (loose-kind s d (i + 1 + records a) b h.2 m)
loose-kind s d i (sum a b) h m e = either e (loose-kind s d (i + 1) a h.1 m) (loose-kind s d (i + 1 + records a) b h.2 m)
loose-kind s d i (branch c a b) h m e =
    either e (loose-kind s d (i + 1) c h.1 m) (λ r. either r (loose-kind s d (i + 1 + records c) a h.2 m) (loose-kind s d (i + 1 + records c + records a) b h.3 m))
