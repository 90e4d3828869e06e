-- The laws of `read_at`: its one equation and the inductions by which other modules go. Below `Read`, so that they may unfold what is shut there.
-- Assumes nothing.
use Rattle.std.specs.Prelude.{Bool, true, false, cond, ◌&&◌, List, ◌⊎◌, ◌≡◌, refl, ℕ, zero, suc, ◌+◌, ◌-◌, ◌<◌, ◌≤◌, eqb, leb}
use Rattle.std.proofs.Common.{inl, inr, sym, ap, ◌∙◌, arith, lt-ltb, le-ltb, le-leb, ne_eqb, leb-true, eqb-true}
use Rattle.std.proofs.Math.Decide.{dec_lt}
use Rattle.std.proofs.lemmas.Bool.{lt-leb}
use Rattle.calculus.specs.Term.{Term}
use Rattle.calculus.specs.Term.Term.{branch}
use Rattle.terms.specs.Record.{count, kind_at, record_number, arity_of, arity_at}
use Rattle.terms.specs.Read.{Read, leaf_term, pair_term, under_one, under_two, and_then, then_two, read_step, read_f, read_at}
use Rattle.terms.specs.Read.Read.{got, stuck}
use Rattle.terms.specs.declared.Arity.{Arity}
use Rattle.terms.specs.declared.Arity.TheVariants.{NoTerm, Leaf, One, Two, Three}

-- ---- the arity of a record

-- Past the end no term begins.
pub arity-past : (s : List ℕ) (i : ℕ) → count s ≤ i → arity_at s i ≡ NoTerm
unfolding arity_at
arity-past s i h = rw (le-ltb i (count s) h)

-- Before the end the kind says it.
pub arity-in : (s : List ℕ) (i : ℕ) → i < count s → arity_at s i ≡ arity_of (kind_at s i)
unfolding arity_at
arity-in s i h = rw (lt-ltb i (count s) h)

in-file : (s : List ℕ) (i : ℕ) (a : Arity) → arity_at s i ≡ a → (a ≡ NoTerm → ⊥) → Dec (i < count s) → i < count s
in-file s i a e n (yes h) = h
in-file s i a e n (no h) = absurd (n (sym e ∙ arity-past s i (omega arith)))

-- A record that begins a term is in the file.
pub arity-inside : (s : List ℕ) (i : ℕ) (a : Arity) → arity_at s i ≡ a → (a ≡ NoTerm → ⊥) → i < count s
arity-inside s i a e n = in-file s i a e n (dec_lt i (count s))

both : (a b : Bool) → a && b ≡ true → (a ≡ true) × (b ≡ true)
both true b e = (refl, e)
both false b e = let z : ◌≡◌ {A = ℕ} 0 1 = cc in absurd (omega arith)

-- which test passed, by the arity
abbrev Passes : Bool → Bool → Bool → Bool → Bool → Arity → Type 0
Passes a b c d e NoTerm = Unit {0}
Passes a b c d e Leaf = a ≡ true
Passes a b c d e One = b ≡ true
Passes a b c d e Two = (c ≡ true) ⊎ (d ≡ true)
Passes a b c d e Three = e ≡ true

passes : (a b c d e : Bool) → Passes a b c d e (cond a Leaf (cond b One (cond c Two (cond d Two (cond e Three NoTerm)))))
passes true b c d e = refl
passes false true c d e = refl
passes false false true d e = inl refl
passes false false false true e = inr refl
passes false false false false true = refl
passes false false false false false = tt

-- The kinds of each arity.
abbrev pub Kinds : ℕ → Arity → Type 0
Kinds k NoTerm = Unit {0}
Kinds k Leaf = (1 ≤ k) × (k ≤ 3)
Kinds k One = k ≡ 4
Kinds k Two = ((5 ≤ k) × (k ≤ 7)) ⊎ (k ≡ 9)
Kinds k Three = k ≡ 10

kinds : (k : ℕ) (a : Arity) → Passes (leb 1 k && leb k 3) (eqb k 4) (leb 5 k && leb k 7) (eqb k 9) (eqb k 10) a → Kinds k a
kinds k NoTerm h = tt
kinds k Leaf h = let p = both (leb 1 k) (leb k 3) h in (leb-true 1 k p.0, leb-true k 3 p.1)
kinds k One h = eqb-true k 4 h
kinds k Two (inl h) = let p = both (leb 5 k) (leb k 7) h in inl (leb-true 5 k p.0, leb-true k 7 p.1)
kinds k Two (inr h) = inr (eqb-true k 9 h)
kinds k Three h = eqb-true k 10 h

-- A kind is among those of its arity.
pub arity-kinds : (k : ℕ) (a : Arity) → arity_of k ≡ a → Kinds k a
unfolding arity_of
arity-kinds k a e = rw e at (kinds k (arity_of k) (passes (leb 1 k && leb k 3) (eqb k 4) (leb 5 k && leb k 7) (eqb k 9) (eqb k 10)))

-- No term begins with kind 0.
pub arity-zero : (k : ℕ) → k < 1 → arity_of k ≡ NoTerm
unfolding arity_of
arity-zero k h = let e : k ≡ 0 = omega arith in rw e

-- Kinds 1 to 3.
pub arity-leaf : (k : ℕ) → 1 ≤ k → k ≤ 3 → arity_of k ≡ Leaf
unfolding arity_of
arity-leaf k h g = rw (le-leb 1 k h, le-leb k 3 g)

-- Kind 4.
pub arity-one : (k : ℕ) → k ≡ 4 → arity_of k ≡ One
unfolding arity_of
arity-one k e = rw e

-- Kinds 5 to 7.
pub arity-two : (k : ℕ) → 5 ≤ k → k ≤ 7 → arity_of k ≡ Two
unfolding arity_of
arity-two k h g = rw (le-leb 1 k (omega arith), lt-leb k 3 (omega arith), ne_eqb k 4 (λ e. omega arith), le-leb 5 k h, le-leb k 7 g)

-- Kind 9.
pub arity-sum : (k : ℕ) → k ≡ 9 → arity_of k ≡ Two
unfolding arity_of
arity-sum k e = rw e

-- Kind 10.
pub arity-three : (k : ℕ) → k ≡ 10 → arity_of k ≡ Three
unfolding arity_of
arity-three k e = rw e

-- Nor with another above 7.
pub arity-none : (k : ℕ) → 8 ≤ k → (k ≡ 9 → ⊥) → (k ≡ 10 → ⊥) → arity_of k ≡ NoTerm
unfolding arity_of
arity-none k h n m =
    rw (le-leb 1 k (omega arith), lt-leb k 3 (omega arith), ne_eqb k 4 (λ e. omega arith), le-leb 5 k (omega arith), lt-leb k 7 (omega arith), ne_eqb k 9 n, ne_eqb k 10 m)

-- ---- a term ends after it begins

-- A reading from record i ends after it; a reading that is stuck is so at or after it.
abbrev pub Beyond : ℕ → Read → Type 0
Beyond i (got t j) = i < j
Beyond i (stuck j) = i ≤ j

one-beyond : (n i : ℕ) (r : Read) → Beyond (i + 1) r → Beyond i (under_one n r)
one-beyond n i (got t j) h = omega arith
one-beyond n i (stuck j) h = omega arith

two-beyond : (f : Term → Term) (i j : ℕ) (r : Read) → i < j → Beyond j r → Beyond i (under_two f r)
two-beyond f i j (got t k) h g = omega arith
two-beyond f i j (stuck k) h g = omega arith

then-beyond : (f : Term → Term → Term) (i : ℕ) (r : Read) (go : ℕ → Read) → Beyond (i + 1) r → ((j : ℕ) → Beyond j (go j)) → Beyond i (and_then f r go)
then-beyond f i (got a j) go h g = two-beyond (f a) i j (go j) (omega arith) (g j)
then-beyond f i (stuck j) go h g = omega arith

-- A reading that ends after a later record ends after an earlier one.
pub beyond-less : (i j : ℕ) (r : Read) → i ≤ j → Beyond j r → Beyond i r
beyond-less i j (got t k) h g = omega arith
beyond-less i j (stuck k) h g = omega arith

three-beyond : (i : ℕ) (r : Read) (go : ℕ → Read) → Beyond (i + 1) r → ((j : ℕ) → Beyond j (go j)) → Beyond i (then_two r go)
three-beyond i (got c j) go h g = then-beyond (branch c) i (go j) go (beyond-less (i + 1) j (go j) (omega arith) (g j)) g
three-beyond i (stuck j) go h g = omega arith

step-beyond : (a : Arity) (s : List ℕ) (i : ℕ) (go : ℕ → Read) → ((j : ℕ) → Beyond j (go j)) → Beyond i (read_step a s i go)
step-beyond NoTerm s i go g = omega arith
step-beyond Leaf s i go g = omega arith
step-beyond One s i go g = one-beyond (record_number s i) i (go (i + 1)) (g (i + 1))
step-beyond Two s i go g = then-beyond (pair_term (kind_at s i) (record_number s i)) i (go (i + 1)) go (g (i + 1)) g
step-beyond Three s i go g = three-beyond i (go (i + 1)) go (g (i + 1)) g

beyond_f : (f : ℕ) (s : List ℕ) (i : ℕ) → Beyond i (read_f f s i)
unfolding read_f
beyond_f zero s i = omega arith
beyond_f (suc f) s i = step-beyond (arity_at s i) s i (read_f f s) (beyond_f f s)

-- A term ends after it begins.
pub beyond : (s : List ℕ) (i : ℕ) → Beyond i (read_at s i)
unfolding read_at
beyond s i = beyond_f (count s - i) s i

-- ---- the fuel does not matter, where it is enough

then-cong : (f : Term → Term → Term) (i : ℕ) (r : Read) (go go' : ℕ → Read) → Beyond (i + 1) r → ((j : ℕ) → i < j → go j ≡ go' j)
    → and_then f r go ≡ and_then f r go'
then-cong f i (got a j) go go' h e = ap (under_two (f a)) (e j (omega arith))
then-cong f i (stuck j) go go' h e = refl

three-cong : (i : ℕ) (r : Read) (go go' : ℕ → Read) → Beyond (i + 1) r → ((j : ℕ) → Beyond j (go j)) → ((j : ℕ) → i < j → go j ≡ go' j) → then_two r go ≡ then_two r go'
three-cong i (got c j) go go' h b e =
    then-cong (branch c) i (go j) go go' (beyond-less (i + 1) j (go j) (omega arith) (b j)) e ∙ ap (λ (r : Read). and_then (branch c) r go') (e j (omega arith))
three-cong i (stuck j) go go' h b e = refl

step-cong : (a : Arity) (s : List ℕ) (i : ℕ) (go go' : ℕ → Read) → ((j : ℕ) → Beyond j (go j)) → ((j : ℕ) → i < j → go j ≡ go' j)
    → read_step a s i go ≡ read_step a s i go'
step-cong NoTerm s i go go' b e = refl
step-cong Leaf s i go go' b e = refl
step-cong One s i go go' b e = ap (under_one (record_number s i)) (e (i + 1) (omega arith))
step-cong Two s i go go' b e =
    let f : Term → Term → Term = pair_term (kind_at s i) (record_number s i) in
    then-cong f i (go (i + 1)) go go' (b (i + 1)) e ∙ ap (λ (r : Read). and_then f r go') (e (i + 1) (omega arith))
step-cong Three s i go go' b e = three-cong i (go (i + 1)) go go' (b (i + 1)) b e ∙ ap (λ (r : Read). then_two r go') (e (i + 1) (omega arith))

same : (s : List ℕ) (f g i : ℕ) → count s - i ≤ f → count s - i ≤ g → read_f f s i ≡ read_f g s i
unfolding read_f
same s zero zero i hf hg = refl
same s zero (suc g) i hf hg = rw (arity-past s i (omega arith))
same s (suc f) zero i hf hg = rw (arity-past s i (omega arith))
same s (suc f) (suc g) i hf hg =
    step-cong (arity_at s i) s i (read_f f s) (read_f g s) (beyond_f f s) (λ j h. same s f g j (omega arith) (omega arith))

-- The one equation of `read_at`: all that a proof needs of it.
pub read-step : (s : List ℕ) (i : ℕ) → read_at s i ≡ read_step (arity_at s i) s i (read_at s)
unfolding read_f read_at
read-step s i =
    same s (count s - i) (suc (count s - i)) i (omega arith) (omega arith)
    ∙ step-cong (arity_at s i) s i (read_f (count s - i) s) (read_at s) (beyond_f (count s - i) s)
    (λ j h. same s (count s - i) (count s - j) j (omega arith) (omega arith))

-- What a step keeps holds of `read_at`: the induction that a proof of another module goes by.
pub read-ind : (P : ℕ → Read → Type 0) (s : List ℕ) → ((i : ℕ) → P i (stuck i))
    → ((i : ℕ) (go : ℕ → Read) → ((j : ℕ) → P j (go j)) → P i (read_step (arity_at s i) s i go)) → (i : ℕ) → P i (read_at s i)
unfolding read_f read_at
read-ind P s z h i = go (count s - i) i
  where
    go : (f i : ℕ) → P i (read_f f s i)
    go zero i = z i
    go (suc f) i = h i (read_f f s) (go f)

-- Induction by the records that are left, for a claim about every record.
pub left-ind : (P : ℕ → Type 0) (n : ℕ) → ((i : ℕ) → n ≤ i → P i) → ((i : ℕ) → i < n → ((j : ℕ) → i < j → P j) → P i) → (i : ℕ) → P i
left-ind P n none more i = go (n - i) i (omega arith)
  where
    pick : (f i : ℕ) → ((j : ℕ) → i < j → P j) → Dec (i < n) → P i
    pick f i ih (yes h) = more i h ih
    pick f i ih (no h) = none i (omega arith)

    go : (f i : ℕ) → n - i ≤ f → P i
    go zero i h = none i (omega arith)
    go (suc f) i h = pick f i (λ j k. go f j (omega arith)) (dec_lt i n)

-- ---- the equation by the arity of the record

module _ (s : List ℕ) (i : ℕ) where
  -- No term begins past the end.
  pub read_past : count s ≤ i → read_at s i ≡ stuck i
  read_past h = rw (read-step s i, arity-past s i h)

  module _ (h : i < count s) where
    -- No term begins with a kind of no arity.
    pub read_none : arity_of (kind_at s i) ≡ NoTerm → read_at s i ≡ stuck i
    read_none e = rw (read-step s i, arity-in s i h, e)

    -- A record of kind 1 to 3 is a term.
    pub read-leaf : arity_of (kind_at s i) ≡ Leaf → read_at s i ≡ got (leaf_term (kind_at s i) (record_number s i)) (i + 1)
    read-leaf e = rw (read-step s i, arity-in s i h, e)

    -- A record of kind 4 and the term after it.
    pub read_one : arity_of (kind_at s i) ≡ One → read_at s i ≡ under_one (record_number s i) (read_at s (i + 1))
    read_one e = rw (read-step s i, arity-in s i h, e)

    -- A record of kind 5, 6, 7 or 9 and the two terms after it.
    pub read-two : arity_of (kind_at s i) ≡ Two → read_at s i ≡ and_then (pair_term (kind_at s i) (record_number s i)) (read_at s (i + 1)) (read_at s)
    read-two e = rw (read-step s i, arity-in s i h, e)

    -- A record of kind 10 and the three terms after it.
    pub read-three : arity_of (kind_at s i) ≡ Three → read_at s i ≡ then_two (read_at s (i + 1)) (read_at s)
    read-three e = rw (read-step s i, arity-in s i h, e)
