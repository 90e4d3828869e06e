-- The function names of a term are defined exactly where none of its records names a function past the definitions. Assumes nothing.
use mathlib.Core.Bool.{false, not}
use mathlib.Core.List.{List, [], ◌∷◌}
use mathlib.Core.Option.{IsSome}
use mathlib.Core.Path.{◌≡◌}
use Prim.Native.Nat.{ℕ, zero, suc, ◌+◌, ◌<◌}
use native.Mathlib.Omega.{arith}
use lib.Dec.{ltb}
use lib.ListN.{length}
use borrow.Author.Tests.{lt-ltb, ltb-true, ne_eqb, not-false}
use Rattle.calculus.specs.Term.{Term, Codebase, records, Defined, bodies}
use Rattle.calculus.specs.Term.Term.{var, fun, con, lam, app, call_event, emit, sum, branch}
use Rattle.terms.specs.Record.{kind_at}
use Rattle.terms.proofs.Stands.{At, Stands}
use Rattle.script.specs.Check.{undefined_name}
use Rattle.script.proofs.Each.{Each}

-- A function has a body exactly where its number is below the count of definitions.
pub bodies-below : (bs : List Term) (f : ℕ) → IsSome (bodies bs f) → f < length bs
unfolding bodies
bodies-below [] f h = absurd h
bodies-below (b ∷ bs) zero h = omega arith
bodies-below (b ∷ bs) (suc f) h = omega (arith, bodies-below bs f h)

-- And back.
pub below-bodies : (bs : List Term) (f : ℕ) → f < length bs → IsSome (bodies bs f)
unfolding bodies
below-bodies [] f h = absurd (omega arith)
below-bodies (b ∷ bs) zero h = tt
below-bodies (b ∷ bs) (suc f) h = below-bodies bs f (omega arith)

module _ (s : List ℕ) (n : ℕ) where
  -- The record names no function from n on.
  abbrev pub Known : ℕ → Type 0
  Known k = undefined_name s n k ≡ false

  -- A record of another kind names none, …
  pub other-known : (i : ℕ) → (kind_at s i ≡ 2 → ⊥) → Known i
  other-known i h = rw (ne_eqb (kind_at s i) 2 h)

  -- … and one of kind 2 names one below n.
  name-known : (i f : ℕ) → At s i 2 f → f < n → Known i
  name-known i f h l = rw (h.kind, h.number, lt-ltb f n l)

  -- And back.
  known-name : (i f : ℕ) → At s i 2 f → Known i → f < n
  known-name i f h e =
      let q : not (ltb f n) ≡ false = rw (h.kind, h.number) at e in ltb-true f n (not-false (ltb f n) q)

  module _ (C : Codebase) where
    -- From the records.
    pub defined-from : ((f : ℕ) → f < n → IsSome (C f)) → (i : ℕ) (t : Term) → Stands s i t → Each Known i t → Defined C t
    defined-from g i (var m) h c = tt
    defined-from g i (fun m) h c = g m (known-name i m h c)
    defined-from g i (con m) h c = tt
    defined-from g i (lam m b) h c = defined-from g (i + 1) b h.1 c.1
    defined-from g i (app a b) h c = (defined-from g (i + 1) a h.1 c.1, defined-from g (i + 1 + records a) b h.2 c.2)
    defined-from g i (call_event m a r) h c = (defined-from g (i + 1) a h.1 c.1, defined-from g (i + 1 + records a) r h.2 c.2)
    defined-from g i (emit m a r) h c = (defined-from g (i + 1) a h.1 c.1, defined-from g (i + 1 + records a) r h.2 c.2)
    defined-from g i (sum a r) h c = (defined-from g (i + 1) a h.1 c.1, defined-from g (i + 1 + records a) r h.2 c.2)
    defined-from g i (branch d a r) h c = (defined-from g (i + 1) d h.1 c.1, defined-from g (i + 1 + records d) a h.2 c.2, defined-from g (i + 1 + records d + records a) r h.3 c.3)

    -- To the records.
    pub defined-into : ((f : ℕ) → IsSome (C f) → f < n) → (i : ℕ) (t : Term) → Stands s i t → Defined C t → Each Known i t
    defined-into g i (var m) h d = other-known i (λ e. omega arith)
    defined-into g i (fun m) h d = name-known i m h (g m d)
    defined-into g i (con m) h d = other-known i (λ e. omega arith)
    defined-into g i (lam m b) h d = (other-known i (λ e. omega arith), defined-into g (i + 1) b h.1 d)
    defined-into g i (app a b) h d =
        (other-known i (λ e. omega arith), defined-into g (i + 1) a h.1 d.0, defined-into g (i + 1 + records a) b h.2 d.1)
    defined-into g i (call_event m a r) h d =
        (other-known i (λ e. omega arith), defined-into g (i + 1) a h.1 d.0, defined-into g (i + 1 + records a) r h.2 d.1)
    defined-into g i (emit m a r) h d =
        (other-known i (λ e. omega arith), defined-into g (i + 1) a h.1 d.0, defined-into g (i + 1 + records a) r h.2 d.1)
    defined-into g i (sum a r) h d =
        (other-known i (λ e. omega arith), defined-into g (i + 1) a h.1 d.0, defined-into g (i + 1 + records a) r h.2 d.1)
    defined-into g i (branch c a r) h d = (
      other-known i (λ e. omega arith),
      defined-into g (i + 1) c h.1 d.0,
      defined-into g (i + 1 + records c) a h.2 d.1,
      defined-into g (i + 1 + records c + records a) r h.3 d.2,
    )
