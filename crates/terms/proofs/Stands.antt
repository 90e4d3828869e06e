-- A term that stands at a record: `read_at` finds it, and what `read_at` finds stands there. Assumes nothing.
use mathlib.Core.List.{List}
use mathlib.Core.Logic.{◌⊎◌, inl, inr}
use mathlib.Core.Path.{◌≡◌, refl, sym, ap, ap₂, ◌∙◌}
use Prim.Native.Nat.{ℕ, zero, suc, ◌+◌, ◌<◌, ◌≤◌}
use native.Mathlib.Omega.{arith}
use Rattle.calculus.specs.Term.{Term, records}
use Rattle.calculus.specs.Term.Term.{var, fun, con, lam, app, call_event, emit, sum, branch}
use Rattle.terms.specs.Record.{count, kind_at, record_number, arity_of, arity_at}
use Rattle.terms.specs.Read.{Read, leaf_term, pair_term, under_one, under_two, and_then, then_two, read_step, read_at}
use Rattle.terms.specs.Read.Read.{got, stuck}
use Rattle.terms.specs.Read.Laws.{arity-past, arity-in, arity-inside, arity-kinds, Beyond, beyond, beyond-less, read-step, read-ind, left-ind, read_past, read-leaf, read_one, read-two, read-three}
use Rattle.terms.specs.declared.Arity.{Arity}
use Rattle.terms.specs.declared.Arity.TheVariants.{NoTerm, Leaf, One, Two, Three}

-- Record i has the kind k and the number n.
pub record At (s : List ℕ) (i k n : ℕ) : Type 0 where
  pub inside : i < count s
  pub kind : kind_at s i ≡ k
  pub number : record_number s i ≡ n

-- The term stands at record i; it ends before record i + records t.
abbrev pub Stands : List ℕ → ℕ → Term → Type 0
Stands s i (var n) = At s i 1 n
Stands s i (fun n) = At s i 2 n
Stands s i (con n) = At s i 3 n
Stands s i (lam n b) = At s i 4 n × Stands s (i + 1) b
Stands s i (app a b) = At s i 5 (record_number s i) × Stands s (i + 1) a × Stands s (i + 1 + records a) b
Stands s i (call_event n a r) = At s i 6 n × Stands s (i + 1) a × Stands s (i + 1 + records a) r
Stands s i (emit n a r) = At s i 7 n × Stands s (i + 1) a × Stands s (i + 1 + records a) r
Stands s i (sum a b) = At s i 9 (record_number s i) × Stands s (i + 1) a × Stands s (i + 1 + records a) b
Stands s i (branch c a b) = At s i 10 (record_number s i) × Stands s (i + 1) c × Stands s (i + 1 + records c) a × Stands s (i + 1 + records c + records a) b

-- ---- what stands is found

module _ (s : List ℕ) (i k n : ℕ) (h : At s i k n) where
  leaf-found : arity_of k ≡ Leaf → read_at s i ≡ got (leaf_term k n) (i + 1)
  leaf-found e =
      read-leaf s i h.inside (ap arity_of h.kind ∙ e)
      ∙ ap₂ (λ (k n : ℕ). got (leaf_term k n) (i + 1)) h.kind h.number

  one_found : arity_of k ≡ One → {t : Term} {j : ℕ} → read_at s (i + 1) ≡ got t j → read_at s i ≡ got (lam n t) j
  one_found e f =
      read_one s i h.inside (ap arity_of h.kind ∙ e) ∙ ap₂ under_one h.number f

  two-found : arity_of k ≡ Two → {a b : Term} {j l : ℕ} → read_at s (i + 1) ≡ got a j → read_at s j ≡ got b l → read_at s i ≡ got (pair_term k n a b) l
  two-found e {a} {b} {j} {l} f g =
      read-two s i h.inside (ap arity_of h.kind ∙ e)
      ∙ ap₂ (λ (k n : ℕ). and_then (pair_term k n) (read_at s (i + 1)) (read_at s)) h.kind h.number
      ∙ ap (λ (r : Read). and_then (pair_term k n) r (read_at s)) f
      ∙ ap (under_two (pair_term k n a)) g

  three-found : arity_of k ≡ Three → {c a b : Term} {j l m : ℕ} → read_at s (i + 1) ≡ got c j → read_at s j ≡ got a l → read_at s l ≡ got b m → read_at s i ≡ got (branch c a b) m
  three-found e {c} {a} {b} {j} {l} {m} f g h' =
      read-three s i h.inside (ap arity_of h.kind ∙ e)
      ∙ ap (λ (r : Read). then_two r (read_at s)) f
      ∙ ap (λ (r : Read). and_then (branch c) r (read_at s)) g
      ∙ ap (under_two (branch c a)) h'

-- What stands is found.
pub stands_read : (s : List ℕ) (i : ℕ) (t : Term) → Stands s i t → read_at s i ≡ got t (i + records t)
unfolding arity_of records
stands_read s i (var n) h = leaf-found s i 1 n h refl
stands_read s i (fun n) h = leaf-found s i 2 n h refl
stands_read s i (con n) h = leaf-found s i 3 n h refl
stands_read s i (lam n b) h = one_found s i 4 n h.0 refl (stands_read s (i + 1) b h.1) ∙ ap (got (lam n b)) (omega arith)
stands_read s i (app a b) h =
    two-found s i 5 (record_number s i) h.0 refl (stands_read s (i + 1) a h.1) (stands_read s (i + 1 + records a) b h.2)
    ∙ ap (got (app a b)) (omega arith)
stands_read s i (call_event n a r) h =
    two-found s i 6 n h.0 refl (stands_read s (i + 1) a h.1) (stands_read s (i + 1 + records a) r h.2)
    ∙ ap (got (call_event n a r)) (omega arith)
stands_read s i (emit n a r) h =
    two-found s i 7 n h.0 refl (stands_read s (i + 1) a h.1) (stands_read s (i + 1 + records a) r h.2)
    ∙ ap (got (emit n a r)) (omega arith)
stands_read s i (sum a b) h =
    two-found s i 9 (record_number s i) h.0 refl (stands_read s (i + 1) a h.1) (stands_read s (i + 1 + records a) b h.2)
    ∙ ap (got (sum a b)) (omega arith)
stands_read s i (branch c a b) h =
    three-found s i 10 (record_number s i) h.0 refl (stands_read s (i + 1) c h.1) (stands_read s (i + 1 + records c) a h.2) (stands_read s (i + 1 + records c + records a) b h.3)
    ∙ ap (got (branch c a b)) (omega arith)

-- ---- what is found stands

abbrev Sound : List ℕ → ℕ → Read → Type 0
Sound s i (got t j) = Stands s i t × (j ≡ i + records t)
Sound s i (stuck j) = Unit {0}

-- A leaf has one record.
pub leaf-records : (k n : ℕ) → records (leaf_term k n) ≡ 1
unfolding records
leaf-records zero n = refl
leaf-records (suc zero) n = refl
leaf-records (suc (suc zero)) n = refl
leaf-records (suc (suc (suc k))) n = refl

-- A pair has one more than its two terms.
pub pair-records : (k n : ℕ) (a b : Term) → records (pair_term k n a b) ≡ 1 + records a + records b
unfolding records
pair-records zero n a b = omega arith
pair-records (suc zero) n a b = omega arith
pair-records (suc (suc zero)) n a b = omega arith
pair-records (suc (suc (suc zero))) n a b = omega arith
pair-records (suc (suc (suc (suc zero)))) n a b = omega arith
pair-records (suc (suc (suc (suc (suc zero))))) n a b = omega arith
pair-records (suc (suc (suc (suc (suc (suc zero)))))) n a b = omega arith
pair-records (suc (suc (suc (suc (suc (suc (suc zero))))))) n a b = omega arith
pair-records (suc (suc (suc (suc (suc (suc (suc (suc k)))))))) n a b = omega arith

leaf-stands : (s : List ℕ) (i k : ℕ) → At s i k (record_number s i) → (1 ≤ k) × (k ≤ 3) → Stands s i (leaf_term k (record_number s i))
leaf-stands s i zero h l = absurd (omega arith)
leaf-stands s i (suc zero) h l = h
leaf-stands s i (suc (suc zero)) h l = h
leaf-stands s i (suc (suc (suc k))) h l = let e : suc (suc (suc k)) ≡ 3 = omega arith in rw e at h

pair-stands : (s : List ℕ) (i k : ℕ) (a b : Term) → At s i k (record_number s i) → ((5 ≤ k) × (k ≤ 7)) ⊎ (k ≡ 9) → Stands s (i + 1) a → Stands s (i + 1 + records a) b
    → Stands s i (pair_term k (record_number s i) a b)
pair-stands s i zero a b h (inl l) x y = absurd (omega arith)
pair-stands s i zero a b h (inr l) x y = absurd (omega arith)
pair-stands s i (suc zero) a b h (inl l) x y = absurd (omega arith)
pair-stands s i (suc zero) a b h (inr l) x y = absurd (omega arith)
pair-stands s i (suc (suc zero)) a b h (inl l) x y = absurd (omega arith)
pair-stands s i (suc (suc zero)) a b h (inr l) x y = absurd (omega arith)
pair-stands s i (suc (suc (suc zero))) a b h (inl l) x y = absurd (omega arith)
pair-stands s i (suc (suc (suc zero))) a b h (inr l) x y = absurd (omega arith)
pair-stands s i (suc (suc (suc (suc zero)))) a b h (inl l) x y = absurd (omega arith)
pair-stands s i (suc (suc (suc (suc zero)))) a b h (inr l) x y = absurd (omega arith)
pair-stands s i (suc (suc (suc (suc (suc zero))))) a b h l x y = (h, x, y)
pair-stands s i (suc (suc (suc (suc (suc (suc zero)))))) a b h l x y = (h, x, y)
pair-stands s i (suc (suc (suc (suc (suc (suc (suc zero))))))) a b h l x y = (h, x, y)
pair-stands s i (suc (suc (suc (suc (suc (suc (suc (suc k)))))))) a b h (inl l) x y = absurd (omega arith)
pair-stands s i (suc (suc (suc (suc (suc (suc (suc (suc k)))))))) a b h (inr l) x y = (rw l at h, x, y)

one-sound : (s : List ℕ) (i : ℕ) (r : Read) → At s i 4 (record_number s i) → Sound s (i + 1) r → Sound s i (under_one (record_number s i) r)
unfolding records
one-sound s i (got t j) h g = ((h, g.0), omega arith)
one-sound s i (stuck j) h g = tt

module _ (s : List ℕ) (i k : ℕ) (h : At s i k (record_number s i)) (l : ((5 ≤ k) × (k ≤ 7)) ⊎ (k ≡ 9)) where
  two-sound : (a : Term) (j : ℕ) (r : Read) → Stands s (i + 1) a → j ≡ i + 1 + records a → Sound s j r → Sound s i (under_two (pair_term k (record_number s i) a) r)
  two-sound a j (got b e) x q g =
      (pair-stands s i k a b h l x (rw q at g.0), omega (arith, pair-records k (record_number s i) a b))
  two-sound a j (stuck e) x q g = tt

  then-sound : (r : Read) (go : ℕ → Read) → Sound s (i + 1) r → ((j : ℕ) → Sound s j (go j)) → Sound s i (and_then (pair_term k (record_number s i)) r go)
  then-sound (got a j) go x g = two-sound a j (go j) x.0 x.1 (g j)
  then-sound (stuck j) go x g = tt

-- The three terms of a branch.
three-sound : (s : List ℕ) (i : ℕ) (r : Read) (go : ℕ → Read) → At s i 10 (record_number s i) → Sound s (i + 1) r → ((j : ℕ) → Sound s j (go j)) → Sound s i (then_two r go)
unfolding records
three-sound s i (got c j) go h x g = second (go j) (g j)
  where
    third : (a : Term) (k : ℕ) (r : Read) → Stands s j a → k ≡ j + records a → Sound s k r → Sound s i (under_two (branch c a) r)
    third a k (got b m) y q w =
        let p = x.1 in
        let z : k ≡ i + 1 + records c + records a = omega arith in
        ((h, x.0, rw p at y, rw z at w.0), omega arith)
    third a k (stuck m) y q w = tt

    second : (r : Read) → Sound s j r → Sound s i (and_then (branch c) r go)
    second (got a k) y = third a k (go k) y.0 y.1 (g k)
    second (stuck k) y = tt
three-sound s i (stuck j) go h x g = tt

at_here : (s : List ℕ) (i k : ℕ) → i < count s → kind_at s i ≡ k → At s i k (record_number s i)
at_here s i k h e = record { inside = h; kind = e; number = refl }

step-sound : (s : List ℕ) (i : ℕ) (a : Arity) (go : ℕ → Read) → arity_at s i ≡ a → ((j : ℕ) → Sound s j (go j)) → Sound s i (read_step a s i go)
step-sound s i NoTerm go e g = tt
step-sound s i Leaf go e g =
    let h = arity-inside s i Leaf e (λ q. let z : ◌≡◌ {A = ℕ} 0 1 = cc in omega arith) in (
      leaf-stands s i (kind_at s i) (at_here s i (kind_at s i) h refl) (arity-kinds (kind_at s i) Leaf (sym (arity-in s i h) ∙ e)),
      omega (arith, leaf-records (kind_at s i) (record_number s i)),
    )
step-sound s i One go e g =
    let h = arity-inside s i One e (λ q. let z : ◌≡◌ {A = ℕ} 0 1 = cc in omega arith) in
    one-sound s i (go (i + 1)) (at_here s i 4 h (arity-kinds (kind_at s i) One (sym (arity-in s i h) ∙ e))) (g (i + 1))
step-sound s i Two go e g =
    let h = arity-inside s i Two e (λ q. let z : ◌≡◌ {A = ℕ} 0 1 = cc in omega arith) in
    then-sound s i (kind_at s i) (at_here s i (kind_at s i) h refl) (arity-kinds (kind_at s i) Two (sym (arity-in s i h) ∙ e)) (go (i + 1)) go (g (i + 1)) g
step-sound s i Three go e g =
    let h = arity-inside s i Three e (λ q. let z : ◌≡◌ {A = ℕ} 0 1 = cc in omega arith) in
    three-sound s i (go (i + 1)) go (at_here s i 10 h (arity-kinds (kind_at s i) Three (sym (arity-in s i h) ∙ e))) (g (i + 1)) g

sound : (s : List ℕ) (i : ℕ) → Sound s i (read_at s i)
sound s = read-ind (Sound s) s (λ i. tt) (λ i go g. step-sound s i (arity_at s i) go refl g)

-- What is found stands, and ends where its records do.
pub read-stands : (s : List ℕ) (i : ℕ) (t : Term) (j : ℕ) → read_at s i ≡ got t j → Stands s i t × (j ≡ i + records t)
read-stands s i t j e = rw e at (sound s i)

-- A term that is found ends where its records do.
pub read-end : (s : List ℕ) (i : ℕ) (t : Term) (j : ℕ) → read_at s i ≡ got t j → j ≡ i + records t
read-end s i t j e = (read-stands s i t j e).1

-- A term that stands lies within the file.
pub stands-within : (s : List ℕ) (i : ℕ) (t : Term) → Stands s i t → i + records t ≤ count s
unfolding records
stands-within s i (var n) h = omega arith
stands-within s i (fun n) h = omega arith
stands-within s i (con n) h = omega arith
stands-within s i (lam n b) h = omega (arith, stands-within s (i + 1) b h.1)
stands-within s i (app a b) h = omega (arith, stands-within s (i + 1 + records a) b h.2)
stands-within s i (call_event n a r) h = omega (arith, stands-within s (i + 1 + records a) r h.2)
stands-within s i (emit n a r) h = omega (arith, stands-within s (i + 1 + records a) r h.2)
stands-within s i (sum a b) h = omega (arith, stands-within s (i + 1 + records a) b h.2)
stands-within s i (branch c a b) h = omega (arith, stands-within s (i + 1 + records c + records a) b h.3)

-- A term that is found lies within the file.
pub read-within : (s : List ℕ) (i : ℕ) (t : Term) (j : ℕ) → read_at s i ≡ got t j → j ≤ count s
read-within s i t j e = let h = read-stands s i t j e in omega (arith, stands-within s i t h.0)

-- ---- where a reading is stuck

abbrev Halts : List ℕ → Read → Type 0
Halts s (got t j) = j ≤ count s
Halts s (stuck j) = (j ≤ count s) × (arity_at s j ≡ NoTerm)

one-halts : (s : List ℕ) (n : ℕ) (r : Read) → Halts s r → Halts s (under_one n r)
one-halts s n (got t j) h = h
one-halts s n (stuck j) h = h

two-halts : (s : List ℕ) (f : Term → Term) (r : Read) → Halts s r → Halts s (under_two f r)
two-halts s f (got t j) h = h
two-halts s f (stuck j) h = h

then-halts : (s : List ℕ) (f : Term → Term → Term) (i : ℕ) (r : Read) → Beyond (i + 1) r → Halts s r → ((j : ℕ) → i < j → j ≤ count s → Halts s (read_at s j))
    → Halts s (and_then f r (read_at s))
then-halts s f i (got a j) b h g = two-halts s (f a) (read_at s j) (g j (omega arith) h)
then-halts s f i (stuck j) b h g = h

three-halts : (s : List ℕ) (i : ℕ) (r : Read) → Beyond (i + 1) r → Halts s r → ((j : ℕ) → i < j → j ≤ count s → Halts s (read_at s j))
    → Halts s (then_two r (read_at s))
three-halts s i (got c j) b h g = then-halts s (branch c) i (read_at s j) (beyond-less (i + 1) j (read_at s j) (omega arith) (beyond s j)) (g j (omega arith) h) g
three-halts s i (stuck j) b h g = h

step-halts : (s : List ℕ) (i : ℕ) (a : Arity) → arity_at s i ≡ a → i < count s → ((j : ℕ) → i < j → j ≤ count s → Halts s (read_at s j))
    → Halts s (read_step a s i (read_at s))
step-halts s i NoTerm e l g = (omega arith, e)
step-halts s i Leaf e l g = omega arith
step-halts s i One e l g = one-halts s (record_number s i) (read_at s (i + 1)) (g (i + 1) (omega arith) (omega arith))
step-halts s i Two e l g =
    then-halts s (pair_term (kind_at s i) (record_number s i)) i (read_at s (i + 1)) (beyond s (i + 1)) (g (i + 1) (omega arith) (omega arith)) g
step-halts s i Three e l g = three-halts s i (read_at s (i + 1)) (beyond s (i + 1)) (g (i + 1) (omega arith) (omega arith)) g

halts : (s : List ℕ) (i : ℕ) → i ≤ count s → Halts s (read_at s i)
halts s =
    left-ind (λ i. i ≤ count s → Halts s (read_at s i)) (count s)
    (λ i h l. rw (read_past s i h) (l, arity-past s i h))
    (λ i h g l. rw (read-step s i) (step-halts s i (arity_at s i) refl h g))

-- A reading is stuck at a record where no term begins, or at the end of the file.
pub stuck-none : (s : List ℕ) (i j : ℕ) → i ≤ count s → read_at s i ≡ stuck j → (i ≤ j) × (j ≤ count s) × (arity_at s j ≡ NoTerm)
stuck-none s i j l e =
    let h : Halts s (stuck j) = rw e at (halts s i l) in
    let b : Beyond i (stuck j) = rw e at (beyond s i) in
    (b, h.0, h.1)
