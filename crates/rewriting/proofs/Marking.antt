-- The marks: a turn of the loop that reads them, and what they are by the guideline. Assumes nothing.
use mathlib.Core.Bool.{Bool, true, false, cond, ◌&&◌, ◌||◌}
use mathlib.Core.List.Memᴰ
use mathlib.Core.List.{List, [], ◌∷◌, Memᴰ}
use mathlib.Core.Logic.{◌⊎◌, inl, inr, ⊎_elim}
use mathlib.Core.Path.{◌≡◌, refl, sym, ap, ◌∙◌}
use Prim.Native.Nat.{ℕ, zero, suc, ◌+◌, ◌*◌, ◌<◌, ◌≤◌}
use native.Mathlib.Omega.{arith}
use native.Mathlib.Numerals.{add-one}
use lib.Dec.{T, eqb}
use lib.ListN.{length, get_or, set, take, drop, replicate, length-set, length-replicate, get_or-replicate}
use lib.Seq.{get_or-set_same, get_or-set_other}
use Rattle.std.specs.List.{sum}
use Rattle.std.proofs.lemmas.List.{drop_more}
use Rattle.std.proofs.lemmas.List.Sums.{sum_by-cons}
use borrow.Author.Tests.{eqb-true, eqb-false, eq-eqb, ne_eqb, lt-ltb, le-ltb}
use Rattle.calculus.specs.Lists.{each, among}
use Rattle.calculus.specs.Guideline.{Guideline, Condition, Clause}
use Rattle.calculus.specs.Guideline.Condition.{before, related, equal, differing, none_since}
use Rattle.calculus.specs.Rewriting.{logevents, taken_back, watched, triggers, logged, noted}
use Rattle.calculus.proofs.Lists.{T_true, true-T, same-T, and_both, both-and, or_cases, or_left, or_right, each-into, each_from, among-into, among-from}
use Rattle.guideline.specs.Record.{count, kind_at as kind_of, first_at, first_number}
use Rattle.guideline.specs.Read.{condition_at}
use Rattle.guideline.specs.Encode.{encode_function, encode_condition}
use Rattle.guideline.specs.Check.{is_kind}
use Rattle.guideline.proofs.At.{TriggerAt, ConditionAt, since-read}
use Rattle.guideline.proofs.Blocks.{Among, blocks-member, at-moves}
use Rattle.guideline.proofs.Standing.{ClauseAt, Standing, clause-moves}
use Rattle.guideline.proofs.Place.{Place, place}
use Rattle.guideline.proofs.Place.Place.{a_fact, a_head, an_atom, a_logged, a_trigger, a_condition}
use Rattle.terms.specs.Record.{kind_at, record_number}
use Rattle.rewriting.specs.Marks.{later, mark_below, Marks, gains}
use Rattle.rewriting.specs.Grown.{gain_at}

-- ---- the loop

-- No record is read yet.
pub marks-none : (g : List ℕ) → Marks g 0 (replicate 128 0)
unfolding mark_below
marks-none g = record { size = length-replicate 128 zero; mark = λ f h. get_or-replicate 128 f 0 0 h }

module _ {g : List ℕ} {i : ℕ} {ms : List ℕ} (h : Marks g i ms) {f : ℕ} (is_f : f ≡ first_number g i) where
  -- A record names a function: its mark is looked at again.
  pub marks-on : {v : ℕ} → f < 128 → v ≡ later (get_or ms f 0) (kind_of g i) → Marks g (i + 1) (set ms f v)
  unfolding mark_below
  marks-on {v} l is-v = record { size = length-set ms f v ∙ h.size; mark = λ x m. rw (add-one i) (on x m (eqb (first_number g i) x) refl) }
    where
      on : (x : ℕ) → x < 128 → (b : Bool) → eqb (first_number g i) x ≡ b → get_or (set ms f v) x 0 ≡ cond b (later (mark_below g x i) (kind_of g i)) (mark_below g x i)
      on x m true e =
          let q : f ≡ x = is_f ∙ eqb-true (first_number g i) x e in
          ap (λ (y : ℕ). get_or (set ms f v) y 0) (sym q) ∙ get_or-set_same ms f v 0 (omega (arith, h.size)) ∙ is-v ∙ rw (h.mark f l, q)
      on x m false e =
          let q : x ≡ f → ⊥ = λ z. eqb-false (first_number g i) x e (sym is_f ∙ sym z) in
          get_or-set_other ms f x v 0 q ∙ h.mark x m

  -- It names none below 128.
  pub marks-past : 128 ≤ f → Marks g (i + 1) ms
  unfolding mark_below
  marks-past l = record { size = h.size; mark = λ x m. rw (add-one i, ne_eqb (first_number g i) x (λ z. omega arith)) (h.mark x m) }

-- ---- their sum

-- The sum of n marks from function f on, each of one byte.
pub gains-sum : (ms : List ℕ) → ((i : ℕ) → get_or ms i 0 < 256) → (f n : ℕ) → f + n ≤ length ms → (sum (take n (drop f ms)) ≡ gains ms f n) × (sum (take n (drop f ms)) ≤ 255 * n)
unfolding gains
gains-sum ms b f zero l = (refl, omega arith)
gains-sum ms b f (suc n) l =
    let h = gains-sum ms b (f + 1) n (omega arith) in
    let e = sum_by-cons (λ (x : ℕ). x) (get_or ms f 0) (take n (drop (f + 1) ms)) in
    rw (drop_more ms f 0 (omega arith)) (omega (arith, e, h), omega (arith, e, h, b f))

-- ---- a definition's mark

module _ (ms s : List ℕ) (i : ℕ) where
  -- No definition.
  pub gain-other : (kind_at s i ≡ 8 → ⊥) → gain_at ms s i ≡ 0
  unfolding gain_at
  gain-other n = rw (ne_eqb (kind_at s i) 8 n)

  module _ (e : kind_at s i ≡ 8) {f : ℕ} (q : f ≡ record_number s i) where
    -- A function that has a mark.
    pub gain-of : f < 128 → gain_at ms s i ≡ get_or ms f 0
    unfolding gain_at
    gain-of l = rw (e, ← q, lt-ltb f 128 l)

    -- A function that has none.
    pub gain-past : 128 ≤ f → gain_at ms s i ≡ 0
    unfolding gain_at
    gain-past l = rw (e, ← q, le-ltb f 128 l)

-- ---- by the guideline

-- What the body of a function gains.
unfoldable pub gain_of : Guideline → ℕ → ℕ
gain_of G f = cond (logged G f) 4 (cond (noted G f) 2 0)

-- The mark of a function that some record of kind 4, and that some record of kind 5 or 9 names.
by_both : Bool → Bool → ℕ
by_both x y = cond x 4 (cond y 2 0)

module _ (g : List ℕ) (f : ℕ) where
  -- A record of kind k among the first n names f.
  named : ℕ → ℕ → Bool
  named k zero = false
  named k (suc n) = (eqb (first_number g n) f && is_kind g k n) || named k n

  -- The mark by the kinds that name the function.
  mark-named : (n : ℕ) → mark_below g f n ≡ by_both (named 4 n) (named 5 n || named 9 n)
  unfolding mark_below named later by_both
  mark-named zero = refl
  mark-named (suc n) = rw (mark-named n) (on (eqb (first_number g n) f) (is_kind g 4 n) (is_kind g 5 n) (is_kind g 9 n) (named 4 n) (named 5 n) (named 9 n))
    where
      again : (c d y z : Bool) → ((true && c) || y) || ((true && d) || z) ≡ (c || d) || (y || z)
      again true d y z = refl
      again false true true z = refl
      again false true false z = refl
      again false false y z = refl

      other : (o x y : Bool) → cond o (cond (eqb (by_both x y) 4) 4 2) (by_both x y) ≡ by_both x (o || y)
      other false x y = refl
      other true true y = refl
      other true false true = refl
      other true false false = refl

      on : (a b c d x y z : Bool)
          → cond a (cond b 4 (cond (c || d) (cond (eqb (by_both x (y || z)) 4) 4 2) (by_both x (y || z)))) (by_both x (y || z))
          ≡ by_both ((a && b) || x) (((a && c) || y) || ((a && d) || z))
      on false b c d x y z = refl
      on true true c d x y z = refl
      on true false c d x y z = other (c || d) x (y || z) ∙ ap (by_both x) (sym (again c d y z))

  -- Such a record, …
  named-from : (k n : ℕ) → T (named k n) → (j : ℕ) × (j < n) × (first_number g j ≡ f) × (kind_of g j ≡ k)
  unfolding named
  named-from k zero t = absurd t
  named-from k (suc n) t = on (λ u. named-from k n u) (or_cases (eqb (first_number g n) f && is_kind g k n) (named k n) t)
    where
      on : (T (named k n) → (j : ℕ) × (j < n) × (first_number g j ≡ f) × (kind_of g j ≡ k)) → T (eqb (first_number g n) f && is_kind g k n) ⊎ T (named k n)
          → (j : ℕ) × (j < suc n) × (first_number g j ≡ f) × (kind_of g j ≡ k)
      on below (inl u) =
          let p = and_both (eqb (first_number g n) f) (is_kind g k n) u in
          (n, omega arith, eqb-true (first_number g n) f (T_true _ p.0), eqb-true (kind_of g n) k (T_true _ p.1))
      on below (inr u) = let (j, l, p, q) = below u in (j, omega arith, p, q)

  -- … and back.
  named-into : (k n j : ℕ) → j < n → first_number g j ≡ f → kind_of g j ≡ k → T (named k n)
  unfolding named
  named-into k zero j l p q = absurd (omega arith)
  named-into k (suc n) j l p q = on (eqb j n) refl (λ h. named-into k n j h p q)
    where
      on : (b : Bool) → eqb j n ≡ b → (j < n → T (named k n)) → T ((eqb (first_number g n) f && is_kind g k n) || named k n)
      on true e below =
          let z : n ≡ j = sym (eqb-true j n e) in
          or_left (eqb (first_number g n) f && is_kind g k n) (named k n)
          (both-and (eqb (first_number g n) f) (is_kind g k n)
          (true-T _ (eq-eqb (first_number g n) f (ap (first_number g) z ∙ p))) (true-T _ (eq-eqb (kind_of g n) k (ap (kind_of g) z ∙ q))))
      on false e below =
          let z : j ≡ n → ⊥ = eqb-false j n e in
          or_right (eqb (first_number g n) f && is_kind g k n) (named k n) (below (omega (arith, z)))

  module _ (G : Guideline) (s : Standing g G) where
    -- A clause stands somewhere in the file.
    stands : (c : Clause) → Memᴰ c G.clauses → Among (ClauseAt g) G.clauses s.clause_start (count g) c
    stands c k = blocks-member (ClauseAt g) (clause-moves g) s.clause_start G.clauses (count g) s.clauses c k

    -- The logged functions are those that records of kind 4 name.
    logged-named : named 4 (count g) ≡ logged G f
    unfolding logged logevents
    logged-named = same-T (named 4 (count g)) (among f (logevents G)) into from
      where
        at : (j : ℕ) → first_number g j ≡ f → kind_of g j ≡ 4 → Place g G j → T (among f (logevents G))
        at j p q (a_fact x i a) = let h = a.high in absurd (omega arith)
        at j p q (a_head r m i b) = let h = b.head.high in absurd (omega arith)
        at j p q (an_atom r h m i b u v x a) = let l = a.high in absurd (omega arith)
        at j p q (a_logged c m i b) =
            let e : c.function ≡ f = sym b.head.is ∙ p in
            rw e at (among-into (each-into (λ (c : Clause). c.function ∷ []) i (Memᴰ.head refl)))
        at j p q (a_trigger c h m i b u v x o a) = let l = a.low in absurd (omega arith)
        at j p q (a_condition c h m i b u v x o a) = let l = a.low in absurd (omega arith)

        into : T (named 4 (count g)) → T (among f (logevents G))
        into t = let (j, l, p, q) = named-from 4 (count g) t in at j p q (place g G j s l)

        found : (c : Clause) → f ≡ c.function → Among (ClauseAt g) G.clauses s.clause_start (count g) c → T (named 4 (count g))
        found c e a =
            let h = a.block.head in
            let l = h.low in
            let u = h.high in
            named-into 4 (count g) a.start h.inside (h.is ∙ sym e) (omega arith)

        from : T (among f (logevents G)) → T (named 4 (count g))
        from t = let (c, k, o) = each_from (λ (c : Clause). c.function ∷ []) G.clauses (among-from f (logevents G) t) in found c (Memᴰ.eq_of_singleton o) (stands c k)

    -- The triggers are those that records of kinds 5 and 9 name.
    trigger-named : (named 5 (count g) || named 9 (count g)) ≡ among f (triggers G)
    unfolding triggers
    trigger-named = same-T (named 5 (count g) || named 9 (count g)) (among f (triggers G)) into from
      where
        at : (j : ℕ) → first_number g j ≡ f → kind_of g j ≡ 5 → Place g G j → T (among f (triggers G))
        at j p q (a_fact x i a) = let h = a.high in absurd (omega arith)
        at j p q (a_head r m i b) = let h = b.head.high in absurd (omega arith)
        at j p q (an_atom r h m i b u v x a) = let l = a.high in absurd (omega arith)
        at j p q (a_logged c m i b) = let h = b.head.high in absurd (omega arith)
        at j p q (a_trigger c h m i b u v x o a) =
            let e : x ≡ f = sym a.is ∙ p in
            rw e at (among-into (each-into watched i (Memᴰ.append_left (each taken_back c.conditions) o)))
        at j p q (a_condition c h m i b u v x o a) = let l = a.low in absurd (omega arith)

        at-nine : (j : ℕ) → first_number g j ≡ f → kind_of g j ≡ 9 → Place g G j → T (among f (triggers G))
        at-nine j p q (a_fact x i a) = let h = a.high in absurd (omega arith)
        at-nine j p q (a_head r m i b) = let h = b.head.high in absurd (omega arith)
        at-nine j p q (an_atom r h m i b u v x a) = let l = a.high in absurd (omega arith)
        at-nine j p q (a_logged c m i b) = let h = b.head.high in absurd (omega arith)
        at-nine j p q (a_trigger c h m i b u v x o a) = let l = a.high in absurd (omega arith)
        at-nine j p q (a_condition c h m i b u v x o a) =
            let e : x ≡ none_since (first_at g j) f = sym a.is ∙ rw (q, p) in
            among-into (each-into watched i (Memᴰ.append_right c.triggers (each-into taken_back (rw e at o) (Memᴰ.head refl))))

        into : T (named 5 (count g) || named 9 (count g)) → T (among f (triggers G))
        into t =
            ⊎_elim (λ u. let (j, l, p, q) = named-from 5 (count g) u in at j p q (place g G j s l)) (λ u. let (j, l, p, q) = named-from 9 (count g) u in at-nine j p q (place g G j s l))
            (or_cases (named 5 (count g)) (named 9 (count g)) t)

        found : (c : Clause) → Memᴰ f c.triggers → Among (ClauseAt g) G.clauses s.clause_start (count g) c → T (named 5 (count g))
        found c m a =
            let t = blocks-member (TriggerAt g) (at-moves g 5 5 (first_number g) (encode_function 5)) (a.start + 1) c.triggers a.block.middle a.block.triggers f m in
            let l = t.block.low in
            let u = t.block.high in
            named-into 5 (count g) t.start t.block.inside t.block.is (omega arith)

        taken : (c : Clause) (i : ℕ) → Memᴰ (none_since i f) c.conditions → Among (ClauseAt g) G.clauses s.clause_start (count g) c → T (named 9 (count g))
        taken c i m a =
            let t = blocks-member (ConditionAt g) (at-moves g 6 9 (condition_at g) encode_condition) a.block.middle c.conditions a.stop a.block.conditions (none_since i f) m in
            let r = since-read g t.start i f t.block.is in
            named-into 9 (count g) t.start t.block.inside r.1 r.0

        from-nine : (c : Clause) (x : Condition) → Memᴰ x c.conditions → Memᴰ f (taken_back x) → Among (ClauseAt g) G.clauses s.clause_start (count g) c → T (named 9 (count g))
        from-nine c (before i j) m u a = absurd (Memᴰ.not-nil u)
        from-nine c (related p i j) m u a = absurd (Memᴰ.not-nil u)
        from-nine c (equal i j) m u a = absurd (Memᴰ.not-nil u)
        from-nine c (differing i j) m u a = absurd (Memᴰ.not-nil u)
        from-nine c (none_since i h) m u a = taken c i (rw (sym (Memᴰ.eq_of_singleton u)) at m) a

        from : T (among f (triggers G)) → T (named 5 (count g) || named 9 (count g))
        from t =
            let (c, k, o) = each_from watched G.clauses (among-from f (triggers G) t) in
            ⊎_elim (λ m. or_left (named 5 (count g)) (named 9 (count g)) (found c m (stands c k)))
            (λ m. let (x, i, u) = each_from taken_back c.conditions m in or_right (named 5 (count g)) (named 9 (count g)) (from-nine c x i u (stands c k)))
            (Memᴰ.append_cases c.triggers o)

    -- A mark is what the function's body gains.
    pub mark-is : mark_below g f (count g) ≡ gain_of G f
    unfolding gain_of noted by_both
    mark-is = mark-named (count g) ∙ rw (logged-named, trigger-named) (on (logged G f) (among f (triggers G)))
      where
        on : (x y : Bool) → by_both x y ≡ cond x 4 (cond (x || y) 2 0)
        on true y = refl
        on false y = refl
