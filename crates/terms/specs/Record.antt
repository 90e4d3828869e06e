-- Script records (document 01, "Script records"): eight bytes each, the kind, three spare bytes, a 32-bit number. Assumes nothing.
use Rattle.std.specs.Prelude.{Bool, true, cond, ◌&&◌, List, ◌∷◌, ◌++◌, ℕ, ◌+◌, ◌*◌, ◌/◌, eqb, leb, ltb, length, get_or}
use Rattle.words.specs.Bytes.{bytes, number_at}
use Rattle.terms.specs.declared.Arity.{Arity}
use Rattle.terms.specs.declared.Arity.TheVariants.{NoTerm, Leaf, One, Two, Three}

-- How many whole records a file has; a part of a record at the end is none.
abbrev pub count : List ℕ → ℕ
count s = length s / 8

-- "byte 0 the kind, bytes 1 to 3 zero, bytes 4 to 7 a 32-bit number"
abbrev pub kind_at : List ℕ → ℕ → ℕ
kind_at s i = get_or s (8 * i) 0

abbrev pub spare_at : List ℕ → ℕ → ℕ
spare_at s i = number_at 3 s (8 * i + 1)

abbrev pub record_number : List ℕ → ℕ → ℕ
record_number s i = number_at 4 s (8 * i + 4)

-- A record's bytes, and then the rest.
abbrev pub record8 : ℕ → ℕ → List ℕ → List ℕ
record8 k n rest = k ∷ 0 ∷ 0 ∷ 0 ∷ (bytes 4 n ++ rest)

-- How many terms follow a record that begins a term: kinds 1 to 3 none, 4 one, 5 to 7 and 9 two, 10 three. No term begins with another kind.
unfoldable pub arity_of : ℕ → Arity
arity_of k = cond (leb 1 k && leb k 3) Leaf (cond (eqb k 4) One (cond (leb 5 k && leb k 7) Two (cond (eqb k 9) Two (cond (eqb k 10) Three NoTerm))))

-- The same of a record of the file; past its end no term begins.
unfoldable pub arity_at : List ℕ → ℕ → Arity
arity_at s i = cond (ltb i (count s)) (arity_of (kind_at s i)) NoTerm

-- "The record kinds are 1 to 8, each with its own range of numbers", and 9 and 10 "have number 0".
unfoldable pub in_range : ℕ → ℕ → Bool
in_range k n =
    cond (eqb k 1) (leb n 1023)
    (cond (leb 2 k && leb k 3) true
    (cond (eqb k 4) (leb n 65535)
    (cond (eqb k 5) (eqb n 0)
    (cond (leb 6 k && leb k 8) true
    ((leb 9 k && leb k 10) && eqb n 0)))))
