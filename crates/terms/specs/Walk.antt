-- What passing over a term says, and what walking it says of its variables. Assumes nothing.
use Rattle.std.specs.Prelude.{cond, List, ℕ, zero, suc, ◌+◌, ltb, Option, Some, None, option_and_then, Result, Ok, Err}
use Rattle.std.specs.Option.{option_or}
use Rattle.calculus.specs.Term.{Term, records}
use Rattle.calculus.specs.Term.Term.{var, fun, con, lam, app, call_event, emit, sum, branch}
use Rattle.terms.specs.Record.{arity_at}
use Rattle.terms.specs.Read.{Read, read_at}
use Rattle.terms.specs.Read.Read.{got, stuck}
use Rattle.terms.specs.declared.Arity.{Arity}
use Rattle.terms.specs.declared.Arity.TheVariants.{NoTerm, Leaf, One, Two, Three}
use Rattle.terms.specs.declared.Extent.{Extent}

abbrev pub passed_of : Read → Option ℕ
passed_of (got t j) = Some j
passed_of (stuck j) = None

-- "passes over a whole term to the record after it, going by kinds alone; where no whole term of kinds 1 to 7", 9 and 10 "begins, or no such record
-- is, it answers none"
abbrev pub pass_term : List ℕ → ℕ → Option ℕ
pass_term s i = passed_of (read_at s i)

-- The record after n terms in a row.
unfoldable pub many : ℕ → List ℕ → ℕ → Option ℕ
many zero s i = Some i
many (suc n) s i = option_and_then (many n s) (pass_term s i)

-- "promises no, one, two or three subterms by kind": the record after the terms that follow a record of that arity, the first of them at i.
abbrev pub pass_subterms : Arity → List ℕ → ℕ → Option ℕ
pass_subterms NoTerm s i = None
pass_subterms Leaf s i = many 0 s i
pass_subterms One s i = many 1 s i
pass_subterms Two s i = many 2 s i
pass_subterms Three s i = many 3 s i

-- "A variable must be below the count of abstractions around it": the first record of a term at record i that has a larger one, with d
-- abstractions around the term.
unfoldable pub loose : ℕ → ℕ → Term → Option ℕ
loose d i (var n) = cond (ltb n d) None (Some i)
loose d i (fun n) = None
loose d i (con n) = None
loose d i (lam l b) = loose (d + 1) (i + 1) b
loose d i (app a b) = option_or (loose d (i + 1) a) (loose d (i + 1 + records a) b)
loose d i (call_event f a r) = option_or (loose d (i + 1) a) (loose d (i + 1 + records a) r)
loose d i (emit f a r) = option_or (loose d (i + 1) a) (loose d (i + 1 + records a) r)
loose d i (sum a b) = option_or (loose d (i + 1) a) (loose d (i + 1 + records a) b)
loose d i (branch c a b) =
    option_or (loose d (i + 1) c) (option_or (loose d (i + 1 + records c) a) (loose d (i + 1 + records c + records a) b))

-- What a walk over the term at record i says: the record after it and its first loose variable, or where no term can go on.
abbrev pub walked_of : ℕ → ℕ → Read → Result Extent ℕ
walked_of d i (got t j) = Ok record { end = j; loose = loose d i t }
walked_of d i (stuck j) = Err j

abbrev pub walked : List ℕ → ℕ → ℕ → Result Extent ℕ
walked s d i = walked_of d i (read_at s i)

-- The same of a value, which begins with a kind from 1 to 4.
abbrev pub value_only : Arity → ℕ → Result Extent ℕ → Result Extent ℕ
value_only NoTerm i w = w
value_only Leaf i w = w
value_only One i w = w
value_only Two i w = Err i
value_only Three i w = Err i

abbrev pub walked_value : List ℕ → ℕ → ℕ → Result Extent ℕ
walked_value s d i = value_only (arity_at s i) i (walked s d i)

-- What walks say of two terms, one right after the other.
abbrev pub both_terms : Extent → Extent → Extent
both_terms x y = record { end = y.end; loose = option_or x.loose y.loose }
