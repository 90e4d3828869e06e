-- How much rewriting adds. Assumes nothing.
use mathlib.Core.Bool.{Bool, true, false, cond, not, ◌&&◌, ◌||◌}
use mathlib.Core.List.{List, [], ◌∷◌, Memᴰ}
use mathlib.Core.Path.{◌≡◌, refl, sym, ap, ◌∙◌}
use native.Mathlib.Omega.{arith}
use Prim.Native.Nat.{ℕ, zero, suc, ◌+◌, ◌*◌, ◌<◌, ◌≤◌}
use lib.Dec.{eqb, eqb→eq}
use lib.ListN.{length}
use Rattle.calculus.specs.Lists.{any, keep, among, distinct}
use Rattle.calculus.specs.Term.{Term, Program, records, definition_records, program_records}
use Rattle.calculus.specs.Guideline.{Guideline}
use Rattle.calculus.specs.Rewriting.{logevents, triggers, logged, noted, instrument, rewrite_from, rewrite}
use Rattle.calculus.proofs.Lists.{T_true, true-T, T_false, false-T, eqb_same, keep-yes, keep-no}

-- ---- how many of the numbers below n pass a test

unit : Bool → ℕ
unit b = cond b 1 0

tally : (ℕ → Bool) → ℕ → ℕ
tally p zero = 0
tally p (suc n) = unit (p n) + tally p n

tally-cong : (p q : ℕ → Bool) (n : ℕ) → ((i : ℕ) → p i ≡ q i) → tally p n ≡ tally q n
unfolding tally
tally-cong p q zero h = refl
tally-cong p q (suc n) h = rw (h n, tally-cong p q n h)

-- One number more that passes.
module _ (p q : ℕ → Bool) (m : ℕ) (fresh : p m ≡ false) (new : q m ≡ true) (old : (i : ℕ) → (i ≡ m → ⊥) → q i ≡ p i) where
  tally-below : (n : ℕ) → n < suc m → tally q n ≡ tally p n
  unfolding tally
  tally-below zero h = refl
  tally-below (suc n) h = rw (old n (λ e. omega arith), tally-below n (omega arith))

  tally-more : (n : ℕ) → m < n → tally q n ≡ suc (tally p n)
  unfolding tally unit
  tally-more zero h = absurd (omega arith)
  tally-more (suc n) h = on (eqb n m) refl (λ k. tally-more n k)
    where
      on : (b : Bool) → eqb n m ≡ b → (m < n → tally q n ≡ suc (tally p n)) → unit (q n) + tally q n ≡ suc (unit (p n) + tally p n)
      on true e below =
          let k : n ≡ m = eqb→eq n m (true-T (eqb n m) e) in
          let a : q n ≡ true = ap q k ∙ new in
          let b : p n ≡ false = ap p k ∙ fresh in
          let c : tally q n ≡ tally p n = tally-below n (omega arith) in
          rw (a, b, c) (omega arith)
      on false e below =
          let k : n ≡ m → ⊥ = λ z. false-T (eqb n m) e (eqb_same n m z) in
          let c : tally q n ≡ suc (tally p n) = below (omega arith) in
          rw (old n k, c) (omega arith)

-- ---- the distinct numbers of a list that pass a test are so many numbers below a bound

and-false : (b : Bool) → (b && false) ≡ false
and-false true = refl
and-false false = refl

tally-none : (q : ℕ → Bool) (n : ℕ) → tally (λ i. q i && among i []) n ≡ 0
unfolding tally unit any
tally-none q zero = refl
tally-none q (suc n) = rw (and-false (q n), tally-none q n)

among-here : (m : ℕ) (ns : List ℕ) → among m (m ∷ ns) ≡ true
unfolding any
among-here m ns = rw (T_true (eqb m m) (eqb_same m m refl), any)

among-other : (i m : ℕ) (ns : List ℕ) → (i ≡ m → ⊥) → among i (m ∷ ns) ≡ among i ns
unfolding any
among-other i m ns h = rw (T_false (eqb i m) (λ k. h (eqb→eq i m k)), any)

-- A number that is in the list already adds none.
among-again : (i m : ℕ) (ns : List ℕ) → among m ns ≡ true → among i (m ∷ ns) ≡ among i ns
among-again i m ns h = on (eqb i m) refl
  where
    on : (b : Bool) → eqb i m ≡ b → among i (m ∷ ns) ≡ among i ns
    on true e =
        let k : i ≡ m = eqb→eq i m (true-T (eqb i m) e) in
        ap (λ (x : ℕ). among x (m ∷ ns)) k ∙ among-here m ns ∙ sym h ∙ ap (λ (x : ℕ). among x ns) (sym k)
    on false e = among-other i m ns (λ k. false-T (eqb i m) e (eqb_same i m k))

module _ (q : ℕ → Bool) (n : ℕ) where
  distinct-tally : (ns : List ℕ) → ((m : ℕ) → Memᴰ m ns → m < n) → tally (λ i. q i && among i ns) n ≡ length (keep q (distinct ns))
  unfolding keep distinct
  distinct-tally [] h = tally-none q n
  distinct-tally (m ∷ ns) h = on_again (among m ns) refl (distinct-tally ns (λ i k. h i (Memᴰ.tail k)))
    where
      fresh : among m ns ≡ false → (q m && among m ns) ≡ false
      fresh e = rw e (and-false (q m))

      on_new : (b : Bool) → q m ≡ b → among m ns ≡ false → tally (λ i. q i && among i ns) n ≡ length (keep q (distinct ns)) → tally (λ i. q i && among i (m ∷ ns)) n ≡ length (keep q (m ∷ distinct ns))
      on_new true k e below =
          tally-more (λ i. q i && among i ns) (λ i. q i && among i (m ∷ ns)) m (fresh e) (rw (k, among-here m ns)) (λ i z. ap (λ (b : Bool). q i && b) (among-other i m ns z)) n (h m (Memᴰ.head refl))
          ∙ ap suc below
          ∙ ap (λ (l : List ℕ). length l) (sym (keep-yes q m (distinct ns) k))
      on_new false k e below =
          tally-cong (λ i. q i && among i (m ∷ ns)) (λ i. q i && among i ns) n (λ i. same i (eqb i m) refl)
          ∙ below
          ∙ ap (λ (l : List ℕ). length l) (sym (keep-no q m (distinct ns) k))
        where
          same : (i : ℕ) (b : Bool) → eqb i m ≡ b → (q i && among i (m ∷ ns)) ≡ (q i && among i ns)
          same i true z =
              let w : i ≡ m = eqb→eq i m (true-T (eqb i m) z) in
              let u : q i ≡ false = ap q w ∙ k in
              rw u
          same i false z = ap (λ (b : Bool). q i && b) (among-other i m ns (λ w. false-T (eqb i m) z (eqb_same i m w)))

      on_again : (b : Bool) → among m ns ≡ b → tally (λ i. q i && among i ns) n ≡ length (keep q (distinct ns)) → tally (λ i. q i && among i (m ∷ ns)) n ≡ length (keep q (distinct (m ∷ ns)))
      on_again true e below =
          tally-cong (λ i. q i && among i (m ∷ ns)) (λ i. q i && among i ns) n (λ i. ap (λ (b : Bool). q i && b) (among-again i m ns e))
          ∙ below
          ∙ ap (λ (b : Bool). length (keep q (cond b (distinct ns) (m ∷ distinct ns)))) (sym e)
      on_again false e below = on_new (q m) refl e below ∙ ap (λ (b : Bool). length (keep q (cond b (distinct ns) (m ∷ distinct ns)))) (sym e)

-- ---- a definition's growth

-- Logged functions, and triggers that are not logged.
only : Guideline → ℕ → Bool
only G f = not (logged G f) && among f (triggers G)

instrument-records : (G : Guideline) (f : ℕ) (e : Term) → records (instrument G f e) ≡ (4 * unit (logged G f) + 2 * unit (only G f)) + records e
unfolding instrument noted only unit records
instrument-records G f e = on (logged G f) (among f (triggers G))
  where
    on : (a b : Bool) → records (cond a (Term.call_event f (Term.var 0) (Term.emit f (Term.var 0) e)) (cond (a || b) (Term.call_event f (Term.var 0) e) e)) ≡ (4 * cond a 1 0 + 2 * cond (not a && b) 1 0) + records e
    on true b = omega arith
    on false true = omega arith
    on false false = omega arith

-- The growth of n definitions from number f on.
gain : Guideline → ℕ → ℕ → ℕ
gain G f zero = 0
gain G f (suc n) = (4 * unit (logged G f) + 2 * unit (only G f)) + gain G (suc f) n

definitions-grow : (G : Guideline) (f : ℕ) (es : List Term) → definition_records (rewrite_from G f es) ≡ gain G f (length es) + definition_records es
unfolding rewrite_from definition_records gain
definitions-grow G f [] = refl
definitions-grow G f (e ∷ es) = rw (instrument-records G f e, definitions-grow G (suc f) es) (omega arith)

-- The same growth, counted from the last definition.
gain-last : (G : Guideline) (f n : ℕ) → gain G f (suc n) ≡ gain G f n + (4 * unit (logged G (f + n)) + 2 * unit (only G (f + n)))
unfolding gain
gain-last G f zero = let e : f + 0 ≡ f = omega arith in rw e (omega arith)
gain-last G f (suc n) =
    let e : suc f + n ≡ f + suc n = omega arith in
    rw (gain-last G (suc f) n, e) (omega arith)

gain-tally : (G : Guideline) (n : ℕ) → gain G 0 n ≡ 4 * tally (logged G) n + 2 * tally (only G) n
unfolding gain tally
gain-tally G zero = refl
gain-tally G (suc n) = gain-last G 0 n ∙ step (gain-tally G n)
  where
    step : gain G 0 n ≡ 4 * tally (logged G) n + 2 * tally (only G) n → gain G 0 n + (4 * unit (logged G (0 + n)) + 2 * unit (only G (0 + n))) ≡ 4 * tally (logged G) (suc n) + 2 * tally (only G) (suc n)
    step h = let e : 0 + n ≡ n = omega arith in rw e (omega arith)

-- ---- the whole script

keep_all : (ns : List ℕ) → keep (λ _. true) ns ≡ ns
unfolding keep
keep_all [] = refl
keep_all (n ∷ ns) = ap (λ (l : List ℕ). n ∷ l) (keep_all ns)

logged-distinct : (G : Guideline) (n : ℕ) → ((f : ℕ) → Memᴰ f (logevents G) → f < n) → tally (logged G) n ≡ length (distinct (logevents G))
unfolding logged
logged-distinct G n h = distinct-tally (λ _. true) n (logevents G) h ∙ ap (λ (l : List ℕ). length l) (keep_all (distinct (logevents G)))

only-distinct : (G : Guideline) (n : ℕ) → ((f : ℕ) → Memᴰ f (triggers G) → f < n) → tally (only G) n ≡ length (keep (λ f. not (logged G f)) (distinct (triggers G)))
unfolding only
only-distinct G n h = distinct-tally (λ f. not (logged G f)) n (triggers G) h

-- "The output has 4 records more for each distinct logged function and 2 for each other trigger", where the script defines G's functions.
pub rewrite-grows : (G : Guideline) (S : Program) → ((f : ℕ) → Memᴰ f (logevents G) → f < length S.definitions) → ((f : ℕ) → Memᴰ f (triggers G) → f < length S.definitions)
    → program_records (rewrite G S) ≡ program_records S + (4 * length (distinct (logevents G)) + 2 * length (keep (λ f. not (logged G f)) (distinct (triggers G))))
rewrite-grows G S hl ht =
    let n : ℕ = length S.definitions in
    let a = definitions-grow G 0 S.definitions in
    let b = gain-tally G n in
    let c : tally (logged G) n ≡ length (distinct (logevents G)) = logged-distinct G n hl in
    let d : tally (only G) n ≡ length (keep (λ f. not (logged G f)) (distinct (triggers G))) = only-distinct G n ht in
    omega arith

-- No number is of both sorts.
both_most : (G : Guideline) (n : ℕ) → tally (logged G) n + tally (only G) n ≤ n
unfolding tally unit only
both_most G zero = omega arith
both_most G (suc n) = on (logged G n) (among n (triggers G)) (both_most G n)
  where
    on : (a b : Bool) → tally (logged G) n + tally (only G) n ≤ n → (cond a 1 0 + tally (logged G) n) + (cond (not a && b) 1 0 + tally (only G) n) ≤ suc n
    on true b h = omega arith
    on false true h = omega arith
    on false false h = omega arith

-- Logged functions and other triggers are together no more than the definitions.
pub functions-most : (G : Guideline) (n : ℕ) → ((f : ℕ) → Memᴰ f (logevents G) → f < n) → ((f : ℕ) → Memᴰ f (triggers G) → f < n)
    → length (distinct (logevents G)) + length (keep (λ f. not (logged G f)) (distinct (triggers G))) ≤ n
functions-most G n hl ht = omega (arith, both_most G n, logged-distinct G n hl, only-distinct G n ht)
