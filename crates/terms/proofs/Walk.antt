-- The equations of the walk, one for each way of the code. Assumes nothing.
use mathlib.Core.Bool.{◌&&◌}
use mathlib.Core.List.{List}
use mathlib.Core.Path.{◌≡◌, refl, sym, ap, ap₂, ◌∙◌}
use Prim.Native.Nat.{ℕ, ◌+◌, ◌<◌, ◌≤◌}
use lib.Dec.{eqb, leb}
use Rattle.std.specs.Prelude.{Result, Ok, Err}
use Rattle.std.specs.Option.{option_or}
use Rattle.std.specs.Bool.{then_some}
use Rattle.calculus.specs.Term.{Term, records}
use Rattle.terms.specs.Record.{count, kind_at, record_number, arity_of}
use Rattle.terms.specs.Read.{Read, under_one, read_at}
use Rattle.terms.specs.Read.Read.{got, stuck}
use Rattle.terms.specs.Read.Laws.{arity-past, arity-in, Beyond, beyond, read_past, read_none, read-leaf, read_one, read-two, read-three}
use Rattle.terms.specs.Walk.{loose, walked_of, walked, value_only, walked_value, both_terms}
use Rattle.terms.specs.declared.Arity.TheVariants.{NoTerm, Leaf, One, Two, Three}
use Rattle.terms.specs.declared.Arity.{Arity}
use Rattle.terms.specs.declared.Extent.{Extent}
use Rattle.terms.proofs.Stands.{read-stands, read-within}
use Rattle.terms.proofs.Loose.{or_assoc, leaf-loose, pair-loose}

-- ---- what was read

-- A walk that is whole read a term.
found : (d i : ℕ) (x : Extent) (r : Read) → walked_of d i r ≡ Ok x → (t : Term) × (r ≡ got t x.end) × (loose d i t ≡ x.loose)
found d i x (got t k) e =
    let y : Extent = record { end = k; loose = loose d i t } in
    let q : y ≡ x = cc in
    (t, ap (λ (x : Extent). got t x.end) q, ap (λ (x : Extent). x.loose) q)
found d i x (stuck k) e = cc

ended : (d i j : ℕ) (r : Read) → walked_of d i r ≡ Err j → r ≡ stuck j
ended d i j (got t k) e = cc
ended d i j (stuck k) e = let q : k ≡ j = cc in ap stuck q

no-pair : (a : Arity) (i : ℕ) (w : Result Extent ℕ) → (a ≡ Two → ⊥) → (a ≡ Three → ⊥) → value_only a i w ≡ w
no-pair NoTerm i w n m = refl
no-pair Leaf i w n m = refl
no-pair One i w n m = refl
no-pair Two i w n m = absurd (n refl)
no-pair Three i w n m = absurd (m refl)

body : (d i n : ℕ) (r : Read) → walked_of d i (under_one n r) ≡ walked_of (d + 1) (i + 1) r
unfolding loose
body d i n (got t j) = refl
body d i n (stuck j) = refl

module _ (s : List ℕ) (d i : ℕ) where
  -- A walk that is whole passed a term, whose first loose variable it tells.
  pub walked-read : (x : Extent) → walked s d i ≡ Ok x → (t : Term) × (read_at s i ≡ got t x.end) × (loose d i t ≡ x.loose)
  walked-read x e = found d i x (read_at s i) e

  -- A walk that stops is stuck there.
  pub walked-stuck : (j : ℕ) → walked s d i ≡ Err j → read_at s i ≡ stuck j
  walked-stuck j e = ended d i j (read_at s i) e

  -- The term ends after it begins and within the file.
  pub walked-within : (x : Extent) → walked s d i ≡ Ok x → (i < x.end) × (x.end ≤ count s)
  walked-within x e =
      let w = walked-read x e in
      let b : Beyond i (got w.0 x.end) = rw w.1 at (beyond s i) in
      (b, read-within s i w.0 x.end w.1)

  -- Past the end a walk stops at once.
  pub walked-past : count s ≤ i → walked s d i ≡ Err i
  walked-past h = rw (read_past s i h)

  -- So does a value's.
  pub value-past : count s ≤ i → walked_value s d i ≡ Err i
  value-past h = rw (arity-past s i h, read_past s i h)

  module _ (h : i < count s) where
    -- A term that is no pair is walked as a value.
    pub walked-value : (arity_of (kind_at s i) ≡ Two → ⊥) → (arity_of (kind_at s i) ≡ Three → ⊥) → walked_value s d i ≡ walked s d i
    walked-value n m = rw (arity-in s i h) (no-pair (arity_of (kind_at s i)) i (walked s d i) n m)

    -- A value does not begin with a pair's record.
    pub value-two : arity_of (kind_at s i) ≡ Two → walked_value s d i ≡ Err i
    value-two e = rw (arity-in s i h, e)

    -- Nor with a branch's.
    pub value-three : arity_of (kind_at s i) ≡ Three → walked_value s d i ≡ Err i
    value-three e = rw (arity-in s i h, e)

    -- Nor with a record that begins no term.
    pub value_none : arity_of (kind_at s i) ≡ NoTerm → walked_value s d i ≡ Err i
    value_none e = rw (arity-in s i h, e, read_none s i h e)

    -- Of a leaf only a variable may be loose: one that is not below the depth.
    pub value-leaf : arity_of (kind_at s i) ≡ Leaf → walked_value s d i ≡ Ok record { end = i + 1; loose = then_some (eqb (kind_at s i) 1 && leb d (record_number s i)) i }
    value-leaf e = rw (arity-in s i h, e, read-leaf s i h e) (ap (λ m. Ok record { end = i + 1; loose = m }) (leaf-loose d i (kind_at s i) (record_number s i)))

    -- An abstraction is walked by its body, one deeper.
    pub value-one : arity_of (kind_at s i) ≡ One → walked_value s d i ≡ walked s (d + 1) (i + 1)
    value-one e = rw (arity-in s i h, e, read_one s i h e) (body d i (record_number s i) (read_at s (i + 1)))

    -- A pair whose first term stops, …
    pub two-stopped : arity_of (kind_at s i) ≡ Two → (j : ℕ) → walked s d (i + 1) ≡ Err j → walked s d i ≡ Err j
    two-stopped e j w = rw (read-two s i h e, ended d (i + 1) j (read_at s (i + 1)) w)

    -- … whose second does, …
    pub two-stopped-later : arity_of (kind_at s i) ≡ Two → (x : Extent) (j : ℕ) → walked s d (i + 1) ≡ Ok x → walked s d x.end ≡ Err j → walked s d i ≡ Err j
    two-stopped-later e x j w v =
        let f = found d (i + 1) x (read_at s (i + 1)) w in
        rw (read-two s i h e, f.1, ended d x.end j (read_at s x.end) v)

    -- … or a whole one.
    pub two-whole : arity_of (kind_at s i) ≡ Two → (x y : Extent) → walked s d (i + 1) ≡ Ok x → walked s d x.end ≡ Ok y → walked s d i ≡ Ok (both_terms x y)
    two-whole e x y w v =
        let f = found d (i + 1) x (read_at s (i + 1)) w in
        let g = found d x.end y (read_at s x.end) v in
        let q : i + 1 + records f.0 ≡ x.end = sym (read-stands s (i + 1) f.0 x.end f.1).1 in
        rw (read-two s i h e, f.1, g.1)
        (ap (λ m. Ok record { end = y.end; loose = m })
        (pair-loose d i (kind_at s i) (record_number s i) f.0 g.0
        ∙ ap (λ n. option_or (loose d (i + 1) f.0) (loose d n g.0)) q
        ∙ ap₂ option_or f.2 g.2))

    -- A branch whose first term stops, …
    pub three-stopped : arity_of (kind_at s i) ≡ Three → (j : ℕ) → walked s d (i + 1) ≡ Err j → walked s d i ≡ Err j
    three-stopped e j w = rw (read-three s i h e, ended d (i + 1) j (read_at s (i + 1)) w)

    -- … whose second does, …
    pub three-stopped-second : arity_of (kind_at s i) ≡ Three → (x : Extent) (j : ℕ) → walked s d (i + 1) ≡ Ok x → walked s d x.end ≡ Err j → walked s d i ≡ Err j
    three-stopped-second e x j w v =
        let f = found d (i + 1) x (read_at s (i + 1)) w in
        rw (read-three s i h e, f.1, ended d x.end j (read_at s x.end) v)

    -- … whose third does, …
    pub three-stopped-third : arity_of (kind_at s i) ≡ Three → (x y : Extent) (j : ℕ) → walked s d (i + 1) ≡ Ok x → walked s d x.end ≡ Ok y → walked s d y.end ≡ Err j → walked s d i ≡ Err j
    three-stopped-third e x y j w v u =
        let f = found d (i + 1) x (read_at s (i + 1)) w in
        let g = found d x.end y (read_at s x.end) v in
        rw (read-three s i h e, f.1, g.1, ended d y.end j (read_at s y.end) u)

    -- … or a whole one.
    pub three-whole : arity_of (kind_at s i) ≡ Three → (x y z : Extent) → walked s d (i + 1) ≡ Ok x → walked s d x.end ≡ Ok y → walked s d y.end ≡ Ok z
        → walked s d i ≡ Ok (both_terms (both_terms x y) z)
    unfolding loose
    three-whole e x y z w v u =
        let f = found d (i + 1) x (read_at s (i + 1)) w in
        let g = found d x.end y (read_at s x.end) v in
        let k = found d y.end z (read_at s y.end) u in
        let q : i + 1 + records f.0 ≡ x.end = sym (read-stands s (i + 1) f.0 x.end f.1).1 in
        let q' : x.end + records g.0 ≡ y.end = sym (read-stands s x.end g.0 y.end g.1).1 in
        rw (read-three s i h e, f.1, g.1, k.1)
        (ap (λ m. Ok record { end = z.end; loose = m })
        (ap (λ n. option_or (loose d (i + 1) f.0) (option_or (loose d n g.0) (loose d (n + records g.0) k.0))) q
        ∙ ap (λ n. option_or (loose d (i + 1) f.0) (option_or (loose d x.end g.0) (loose d n k.0))) q'
        ∙ ap₂ option_or f.2 (ap₂ option_or g.2 k.2)
        ∙ sym (or_assoc x.loose y.loose z.loose)))
