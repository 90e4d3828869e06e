-- Tests and selections on lists. Assumes nothing.
use Rattle.std.specs.Prelude.{Bool, true, false, cond, List, [], ◌∷◌, ◌++◌, ℕ, eqb}

module _ {A : Type 0} where
  -- Some element passes the test; it looks no further than the first that does.
  unfoldable pub any : (A → Bool) → List A → Bool
  any p [] = false
  any p (x ∷ xs) = elim (p x) [ false ↦ any p xs | true ↦ true ]

  -- Every element passes the test.
  unfoldable pub all : (A → Bool) → List A → Bool
  all p [] = true
  all p (x ∷ xs) = elim (p x) [ false ↦ false | true ↦ all p xs ]

  -- The elements that pass the test, in order.
  unfoldable pub keep : (A → Bool) → List A → List A
  keep p [] = []
  keep p (x ∷ xs) = cond (p x) (x ∷ keep p xs) (keep p xs)

module _ {A B : Type 0} where
  -- The lists that the elements give, in a row.
  unfoldable pub each : (A → List B) → List A → List B
  each f [] = []
  each f (x ∷ xs) = f x ++ each f xs

-- The number is in the list.
abbrev pub among : ℕ → List ℕ → Bool
among n ns = any (eqb n) ns

-- The list's numbers, each once.
unfoldable pub distinct : List ℕ → List ℕ
distinct [] = []
distinct (n ∷ ns) = cond (among n ns) (distinct ns) (n ∷ distinct ns)
