-- What stands at a record of the file: a definition, the main term or nothing that could. Assumes nothing.
use mathlib.Core.Bool.{Bool, true, false, cond, ◌&&◌}
use mathlib.Core.List.{List, []}
use mathlib.Core.Path.{◌≡◌, refl}
use Prim.Native.Nat.{ℕ, ◌+◌, ◌<◌}
use lib.Dec.{eqb, ltb}
use borrow.Author.Tests.{ltb-true, eq-eqb, ne_eqb}
use Rattle.calculus.specs.Term.{Term}
use Rattle.terms.specs.Record.{count, kind_at, record_number}
use Rattle.terms.specs.Read.{read_at}
use Rattle.terms.specs.Read.Read.{got, stuck}
use Rattle.script.specs.File.{add_definition, is_definition, file_from}
use Rattle.script.specs.File.File.{whole, broken}
use Rattle.script.specs.File.Laws.{file-step}

and_left : (a b : Bool) → a && b ≡ true → a ≡ true
and_left true b e = refl
and_left false b e = e

-- A definition begins in the file.
pub definition-here : (s : List ℕ) (i : ℕ) → is_definition s i ≡ true → i < count s
definition-here s i e = ltb-true i (count s) (and_left (ltb i (count s)) (eqb (kind_at s i) 8) e)

module _ (s : List ℕ) (i : ℕ) where
  module _ (h : is_definition s i ≡ true) where
    -- A definition, and what stands after it.
    pub file-definition : (b : Term) (j : ℕ) → read_at s (i + 1) ≡ got b j
        → file_from s i ≡ add_definition record { place = i; number = record_number s i; body = b } (file_from s j)
    file-definition b j e = rw (file-step s i, h, e)

    -- A definition whose body cannot go on.
    pub file-no-body : (j : ℕ) → read_at s (i + 1) ≡ stuck j → file_from s i ≡ broken j
    file-no-body j e = rw (file-step s i, h, e)

  module _ (h : is_definition s i ≡ false) where
    -- The main term, and whether nothing stands after it.
    pub file-end : (e : Term) (j : ℕ) → read_at s i ≡ got e j → file_from s i ≡ cond (eqb j (count s)) (whole [] i e) (broken j)
    file-end e j r = rw (file-step s i, h, r)

    -- The main term, with nothing after it.
    pub file-main : (e : Term) (j : ℕ) → read_at s i ≡ got e j → j ≡ count s → file_from s i ≡ whole [] i e
    file-main e j r q = rw (file-step s i, h, r, eq-eqb j (count s) q)

    -- The main term, with a record after it.
    pub file-more : (e : Term) (j : ℕ) → read_at s i ≡ got e j → (j ≡ count s → ⊥) → file_from s i ≡ broken j
    file-more e j r n = rw (file-step s i, h, r, ne_eqb j (count s) n)

    -- No main term.
    pub file-no-main : (j : ℕ) → read_at s i ≡ stuck j → file_from s i ≡ broken j
    file-no-main j r = rw (file-step s i, h, r)
