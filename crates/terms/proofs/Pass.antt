-- Passing over a term, and over several in a row, as the loop does; a term is passed by the kinds alone. Assumes nothing.
use mathlib.Core.List.{List}
use mathlib.Core.Path.{◌≡◌, refl, sym, ap, ◌∙◌}
use Prim.Native.Nat.{ℕ, zero, suc, ◌+◌, ◌-◌, ◌<◌, ◌≤◌}
use native.Mathlib.Numerals.{add-one}
use native.Mathlib.Decide.{ℕ_discrete, dec_lt}
use native.Mathlib.Omega.{arith}
use Rattle.std.specs.Prelude.{Option, Some, None, option_and_then}
use Rattle.calculus.specs.Term.{Term}
use Rattle.calculus.specs.Term.Term.{branch}
use Rattle.terms.specs.Record.{count, kind_at, record_number, arity_of}
use Rattle.terms.specs.Read.{Read, pair_term, under_one, under_two, and_then, then_two, read_at}
use Rattle.terms.specs.Read.Read.{got, stuck}
use Rattle.terms.specs.Read.Laws.{arity-sum, arity-three, Beyond, beyond, left-ind, read_past, read_none, read-leaf, read_one, read-two, read-three}
use Rattle.terms.specs.Walk.{passed_of, pass_term, many, pass_subterms}
use Rattle.terms.specs.declared.Arity.{Arity}
use Rattle.terms.specs.declared.Arity.TheVariants.{NoTerm, Leaf, One, Two, Three}
use Rattle.terms.proofs.Stands.{read-within}

-- ---- one term

one-passed : (n : ℕ) (r : Read) → passed_of (under_one n r) ≡ passed_of r
one-passed n (got t j) = refl
one-passed n (stuck j) = refl

two-passed : (f : Term → Term) (r : Read) → passed_of (under_two f r) ≡ passed_of r
two-passed f (got t j) = refl
two-passed f (stuck j) = refl

then-passed : (f : Term → Term → Term) (r : Read) (go : ℕ → Read) → passed_of (and_then f r go) ≡ option_and_then (λ j. passed_of (go j)) (passed_of r)
then-passed f (got a j) go = two-passed (f a) (go j)
then-passed f (stuck j) go = refl

three-passed : (r : Read) (go : ℕ → Read) → passed_of (then_two r go) ≡ option_and_then (λ j. option_and_then (λ l. passed_of (go l)) (passed_of (go j))) (passed_of r)
three-passed (got c j) go = then-passed (branch c) (go j) go
three-passed (stuck j) go = refl

passed-got : (r : Read) (j : ℕ) → passed_of r ≡ Some j → (t : Term) × (r ≡ got t j)
passed-got (got t k) j e = let q : k ≡ j = cc in (t, ap (got t) q)
passed-got (stuck k) j e = let z : ◌≡◌ {A = ℕ} 0 1 = cc in absurd (omega arith)

module _ (s : List ℕ) (i : ℕ) where
  -- Where a term is passed, one is read.
  pub pass-read : (j : ℕ) → pass_term s i ≡ Some j → (t : Term) × (read_at s i ≡ got t j)
  pass-read j e = passed-got (read_at s i) j e

  -- The record after a term is after the term's first, and in the file or its end.
  pub pass-within : (j : ℕ) → pass_term s i ≡ Some j → (i < j) × (j ≤ count s)
  pass-within j e =
      let w = pass-read j e in
      let b : Beyond i (got w.0 j) = rw w.1 at (beyond s i) in
      (b, read-within s i w.0 j w.1)

  -- Nothing is past the end.
  pub pass-past : count s ≤ i → pass_term s i ≡ None
  pass-past h = rw (read_past s i h)

  module _ (h : i < count s) where
    -- Nothing begins with a kind of no arity.
    pub pass-none : arity_of (kind_at s i) ≡ NoTerm → pass_term s i ≡ None
    pass-none e = rw (read_none s i h e)

    -- A leaf is passed at once.
    pub pass-leaf : arity_of (kind_at s i) ≡ Leaf → pass_term s i ≡ Some (i + 1)
    pass-leaf e = rw (read-leaf s i h e)

    -- An abstraction is passed by its body.
    pub pass-one : arity_of (kind_at s i) ≡ One → pass_term s i ≡ pass_term s (i + 1)
    pass-one e = rw (read_one s i h e) (one-passed (record_number s i) (read_at s (i + 1)))

    -- A pair is passed by its two terms.
    pub pass-two : arity_of (kind_at s i) ≡ Two → pass_term s i ≡ option_and_then (pass_term s) (pass_term s (i + 1))
    pass-two e = rw (read-two s i h e) (then-passed (pair_term (kind_at s i) (record_number s i)) (read_at s (i + 1)) (read_at s))

    -- A branch is passed by its three terms.
    pub pass-three : arity_of (kind_at s i) ≡ Three → pass_term s i ≡ option_and_then (λ j. option_and_then (pass_term s) (pass_term s j)) (pass_term s (i + 1))
    pass-three e = rw (read-three s i h e) (three-passed (read_at s (i + 1)) (read_at s))

-- ---- by the kinds alone

-- of terms further on than i
then-alike : (s s' : List ℕ) (i j : ℕ) → i < j → (w : Option ℕ) → pass_term s j ≡ w → ((k : ℕ) → i < k → pass_term s k ≡ pass_term s' k) → option_and_then (pass_term s) w ≡ option_and_then (pass_term s') w
then-alike s s' i j l (Some k) e h = let b = (pass-within s j k e).0 in h k (omega arith)
then-alike s s' i j l None e h = refl

three-alike : (s s' : List ℕ) (i : ℕ) (w : Option ℕ) → pass_term s (i + 1) ≡ w → ((j : ℕ) → i < j → pass_term s j ≡ pass_term s' j)
    → option_and_then (λ j. option_and_then (pass_term s) (pass_term s j)) w ≡ option_and_then (λ j. option_and_then (pass_term s') (pass_term s' j)) w
three-alike s s' i (Some j) e h =
    let b = (pass-within s (i + 1) j e).0 in
    then-alike s s' i j (omega arith) (pass_term s j) refl h ∙ ap (λ (w : Option ℕ). option_and_then (pass_term s') w) (h j (omega arith))
three-alike s s' i None e h = refl

module _ (s s' : List ℕ) (i : ℕ) (h : i < count s) (h' : i < count s') where
  alike : (a : Arity) → arity_of (kind_at s i) ≡ a → arity_of (kind_at s' i) ≡ a → ((j : ℕ) → i < j → pass_term s j ≡ pass_term s' j) → pass_term s i ≡ pass_term s' i
  alike NoTerm e f ih = pass-none s i h e ∙ sym (pass-none s' i h' f)
  alike Leaf e f ih = pass-leaf s i h e ∙ sym (pass-leaf s' i h' f)
  alike One e f ih = pass-one s i h e ∙ ih (i + 1) (omega arith) ∙ sym (pass-one s' i h' f)
  alike Two e f ih =
      pass-two s i h e
      ∙ then-alike s s' i (i + 1) (omega arith) (pass_term s (i + 1)) refl ih
      ∙ ap (λ (w : Option ℕ). option_and_then (pass_term s') w) (ih (i + 1) (omega arith))
      ∙ sym (pass-two s' i h' f)
  alike Three e f ih =
      pass-three s i h e
      ∙ three-alike s s' i (pass_term s (i + 1)) refl ih
      ∙ ap (λ (w : Option ℕ). option_and_then (λ j. option_and_then (pass_term s') (pass_term s' j)) w) (ih (i + 1) (omega arith))
      ∙ sym (pass-three s' i h' f)

-- Files of the same kinds are passed alike.
pub kinds-alone : (s s' : List ℕ) → count s ≡ count s' → ((i : ℕ) → i < count s → kind_at s i ≡ kind_at s' i) → (i : ℕ) → pass_term s i ≡ pass_term s' i
kinds-alone s s' n e =
    left-ind (λ i. pass_term s i ≡ pass_term s' i) (count s)
    (λ i h. pass-past s i h ∙ sym (pass-past s' i (omega arith)))
    (λ i h ih. alike s s' i h (omega arith) (arity_of (kind_at s i)) refl (ap arity_of (sym (e i h))) ih)

-- ---- several terms in a row

then_next : (w : Option ℕ) → option_and_then Some w ≡ w
then_next (Some j) = refl
then_next None = refl

then-then : (w : Option ℕ) (f g : ℕ → Option ℕ) → option_and_then g (option_and_then f w) ≡ option_and_then (λ j. option_and_then g (f j)) w
then-then (Some j) f g = refl
then-then None f g = refl

then-cong : (w : Option ℕ) (f g : ℕ → Option ℕ) → ((j : ℕ) → f j ≡ g j) → option_and_then f w ≡ option_and_then g w
then-cong (Some j) f g h = h j
then-cong None f g h = refl

module _ (s : List ℕ) (i : ℕ) where
  -- One term is wanted at first.
  pub many-one : many 1 s i ≡ pass_term s i
  unfolding many
  many-one = then_next (pass_term s i)

  -- With none wanted the record is reached.
  pub many-none : (n : ℕ) → n ≡ 0 → many n s i ≡ Some i
  unfolding many
  many-none n e = rw e

  -- A turn of the loop past the end.
  pub many-past : (n : ℕ) → 0 < n → count s ≤ i → many n s i ≡ None
  unfolding many
  many-past zero p h = absurd (omega arith)
  many-past (suc n) p h = rw (pass-past s i h)

  -- Where terms in a row are passed, there is a record.
  pub many-inside : (n : ℕ) → 0 < n → (j : ℕ) → many n s i ≡ Some j → i < count s
  many-inside n p j e = on (dec_lt i (count s))
    where
      on : Dec (i < count s) → i < count s
      on (yes h) = h
      on (no h) = let q : None ≡ Some j = sym (many-past n p (omega arith)) ∙ e in let z : ◌≡◌ {A = ℕ} 0 1 = cc in absurd (omega arith)

  module _ (h : i < count s) where
    -- A turn at a record that begins no term.
    pub many_stuck : (n : ℕ) → 0 < n → arity_of (kind_at s i) ≡ NoTerm → many n s i ≡ None
    unfolding many
    many_stuck zero p e = absurd (omega arith)
    many_stuck (suc n) p e = rw (pass-none s i h e)

    -- At a leaf one less is wanted.
    pub many-leaf : (n : ℕ) → 0 < n → arity_of (kind_at s i) ≡ Leaf → many n s i ≡ many (n - 1) s (i + 1)
    unfolding many
    many-leaf zero p e = absurd (omega arith)
    many-leaf (suc n) p e = let q : suc n - 1 ≡ n = omega arith in rw (q, pass-leaf s i h e)

    -- At an abstraction as many.
    pub many-lam : (n : ℕ) → 0 < n → arity_of (kind_at s i) ≡ One → many n s i ≡ many n s (i + 1)
    unfolding many
    many-lam zero p e = absurd (omega arith)
    many-lam (suc n) p e = rw (pass-one s i h e)

    -- At a pair one more.
    pub many-pair : (n : ℕ) → 0 < n → arity_of (kind_at s i) ≡ Two → many n s i ≡ many (n + 1) s (i + 1)
    unfolding many
    many-pair zero p e = absurd (omega arith)
    many-pair (suc n) p e = rw (add-one (suc n), pass-two s i h e) (then-then (pass_term s (i + 1)) (pass_term s) (many n s))

    -- At a branch two more.
    many-three : (n : ℕ) → 0 < n → arity_of (kind_at s i) ≡ Three → many n s i ≡ many (n + 2) s (i + 1)
    unfolding many
    many-three zero p e = absurd (omega arith)
    many-three (suc n) p e =
        let q : suc n + 2 ≡ suc (suc (suc n)) = omega arith in
        rw (q, pass-three s i h e)
        (then-then (pass_term s (i + 1)) (λ j. option_and_then (pass_term s) (pass_term s j)) (many n s)
        ∙ then-cong (pass_term s (i + 1)) (λ j. option_and_then (many n s) (option_and_then (pass_term s) (pass_term s j))) (λ j. option_and_then (λ l. option_and_then (many n s) (pass_term s l)) (pass_term s j)) (λ j. then-then (pass_term s j) (pass_term s) (many n s)))

    -- At a sum one more, at a branch two.
    pub many-later : (n : ℕ) → 0 < n → 9 ≤ kind_at s i → kind_at s i ≤ 10 → (m : ℕ) → m ≡ kind_at s i - 8 → many n s i ≡ many (n + m) s (i + 1)
    many-later n p a b m e = on (ℕ_discrete (kind_at s i) 9)
      where
        on : Dec (kind_at s i ≡ 9) → many n s i ≡ many (n + m) s (i + 1)
        on (yes k) = let q : m ≡ 1 = omega arith in rw q (many-pair n p (arity-sum (kind_at s i) k))
        on (no k) = let q : m ≡ 2 = omega arith in rw q (many-three n p (arity-three (kind_at s i) (omega arith)))

-- ---- by the kind of the first record

-- A term is passed by as many terms as its first record's kind has.
pub pass-by-kind : (s : List ℕ) (i : ℕ) → i < count s → pass_term s i ≡ pass_subterms (arity_of (kind_at s i)) s (i + 1)
pass-by-kind s i h = on (arity_of (kind_at s i)) refl
  where
    on : (a : Arity) → arity_of (kind_at s i) ≡ a → pass_term s i ≡ pass_subterms a s (i + 1)
    on NoTerm e = pass-none s i h e
    on Leaf e = sym (many-one s i) ∙ many-leaf s i h 1 (omega arith) e
    on One e = sym (many-one s i) ∙ many-lam s i h 1 (omega arith) e
    on Two e = sym (many-one s i) ∙ many-pair s i h 1 (omega arith) e
    on Three e = sym (many-one s i) ∙ many-three s i h 1 (omega arith) e
