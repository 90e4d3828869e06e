-- The term that stands at a record of a file. Assumes nothing.
pub mod Laws
mod Examples
use Rattle.std.specs.Prelude.{List, ℕ, zero, suc, ◌+◌, ◌-◌}
use Rattle.calculus.specs.Term.{Term}
use Rattle.calculus.specs.Term.Term.{var, fun, con, lam, app, call_event, emit, sum, branch}
use Rattle.terms.specs.Record.{count, kind_at, record_number, arity_at}
use Rattle.terms.specs.declared.Arity.{Arity}
use Rattle.terms.specs.declared.Arity.TheVariants.{NoTerm, Leaf, One, Two, Three}

-- A record of kind 1, 2 or 3 and its number.
abbrev pub leaf_term : ℕ → ℕ → Term
leaf_term zero n = con n
leaf_term (suc zero) n = var n
leaf_term (suc (suc zero)) n = fun n
leaf_term (suc (suc (suc k))) n = con n

-- A record of kind 5, 6, 7 or 9, its number and the two terms that follow.
abbrev pub pair_term : ℕ → ℕ → Term → Term → Term
pair_term zero n a b = app a b
pair_term (suc zero) n a b = app a b
pair_term (suc (suc zero)) n a b = app a b
pair_term (suc (suc (suc zero))) n a b = app a b
pair_term (suc (suc (suc (suc zero)))) n a b = app a b
pair_term (suc (suc (suc (suc (suc zero))))) n a b = app a b
pair_term (suc (suc (suc (suc (suc (suc zero)))))) n a b = call_event n a b
pair_term (suc (suc (suc (suc (suc (suc (suc zero))))))) n a b = emit n a b
pair_term (suc (suc (suc (suc (suc (suc (suc (suc k)))))))) n a b = sum a b

-- A term and the record after it, or the record at which no term can go on.
pub data Read : Type 0 where
  got : Term → ℕ → Read
  stuck : ℕ → Read

abbrev pub under_one : ℕ → Read → Read
under_one n (got t j) = got (lam n t) j
under_one n (stuck j) = stuck j

abbrev pub under_two : (Term → Term) → Read → Read
under_two f (got b j) = got (f b) j
under_two f (stuck j) = stuck j

abbrev pub and_then : (Term → Term → Term) → Read → (ℕ → Read) → Read
and_then f (got a j) go = under_two (f a) (go j)
and_then f (stuck j) go = stuck j

-- The first of the three terms of a branch, and then the other two.
abbrev pub then_two : Read → (ℕ → Read) → Read
then_two (got c j) go = and_then (branch c) (go j) go
then_two (stuck j) go = stuck j

-- One record, with what stands further on.
abbrev pub read_step : Arity → List ℕ → ℕ → (ℕ → Read) → Read
read_step NoTerm s i go = stuck i
read_step Leaf s i go = got (leaf_term (kind_at s i) (record_number s i)) (i + 1)
read_step One s i go = under_one (record_number s i) (go (i + 1))
read_step Two s i go = and_then (pair_term (kind_at s i) (record_number s i)) (go (i + 1)) go
read_step Three s i go = then_two (go (i + 1)) go

read_f : ℕ → List ℕ → ℕ → Read
read_f zero s i = stuck i
read_f (suc f) s i = read_step (arity_at s i) s i (read_f f s)

-- What stands at record i: each record read leaves one less, so a fuel of the records left is enough.
pub read_at : List ℕ → ℕ → Read
read_at s i = read_f (count s - i) s i

-- The term of a reading. Where there is none it is a constant: no contract that cites it admits such bytes.
abbrev pub term_of : Read → Term
term_of (got t j) = t
term_of (stuck j) = con 0

-- The term that stands at record i of a file.
unfoldable pub term_at : List ℕ → ℕ → Term
term_at s i = term_of (read_at s i)
