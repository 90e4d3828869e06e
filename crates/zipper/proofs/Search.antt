-- The search for the next redex, by the code's tests. Assumes nothing.
use mathlib.Core.Bool.{Bool, true, false, cond, false≢true}
use mathlib.Core.List.{List, [], ◌∷◌}
use mathlib.Core.Logic.{◌⊎◌, inl, inr}
use mathlib.Core.Option.{none}
use mathlib.Core.Path.{◌≡◌, refl, sym, ap, ◌∙◌}
use Prim.Native.Nat.{ℕ, ◌+◌, ◌-◌, ◌*◌, ◌<◌, ◌≤◌}
use native.Mathlib.Omega.{arith}
use borrow.Author.Tests.{ne_eqb, le-leb, lt-leb}
use lib.Dec.{leb, leb→le}
use lib.ListN.{length, set, get_or}
use Rattle.std.proofs.lemmas.Option.{get_or_from_slice_get}
use Rattle.words.specs.Bytes.{bytes, part}
use Rattle.words.specs.Put.{put}
use Rattle.calculus.specs.Term.{Term, Codebase, view, is_value, Bare}
use Rattle.calculus.specs.Term.Term.{var, fun, con, lam, app, call_event, emit, sum, branch}
use Rattle.calculus.specs.Step.{constant, greatest, addition, inside, step}
use Rattle.calculus.specs.Step.Next.{at_stuck}
use Rattle.terms.specs.Record.{count, kind_at, record_number}
use Rattle.terms.proofs.Stands.{Stands}
use Rattle.zipper.specs.declared.Entry.{Entry}
use Rattle.zipper.specs.Frame.{Pair, join, Frame, fill, plug}
use Rattle.zipper.specs.Frame.Pair.{applies, adds}
use Rattle.zipper.specs.Frame.Frame.{to_come, done, choosing}
use Rattle.zipper.specs.Frame.Fires.{applied, added, chosen}
use Rattle.zipper.specs.Layout.{left_size, is_half_done, Zip}
use Rattle.zipper.specs.Zipper.{end_at, Whole, copied_to, ZipOf, SoughtIs, head_case, sum_case, pair_case, branch_case}
use Rattle.zipper.specs.declared.Redex.{Redex}
use Rattle.zipper.specs.declared.Sought.TheVariants as sought
use Rattle.zipper.proofs.Context.{step-two, step_sum, step-branch}
use Rattle.zipper.proofs.Parts.{records-some, first_kind, first-inside, bounds, focus-bare, focus-stands}
use Rattle.zipper.proofs.Moves.{enter, turn, frame-kind, frame-inside, first-stands}
use Rattle.zipper.proofs.Whole.{end-there, whole-there, zip-flat}

-- A term without commands whose kind is at most 4 is a value.
kind-value : (t : Term) → Bare t → (view t).kind ≤ 4 → is_value t ≡ true
unfolding view is_value
kind-value (var n) b h = refl
kind-value (fun n) b h = refl
kind-value (con n) b h = refl
kind-value (lam n t) b h = refl
kind-value (app x y) b h = absurd (omega arith)
kind-value (call_event n x y) b h = absurd b
kind-value (emit n x y) b h = absurd b
kind-value (sum x y) b h = absurd (omega arith)
kind-value (branch c x y) b h = absurd (omega arith)

-- Its kind is a value's, or that of an application, a sum or a branch.
kind-none : (t : Term) → Bare t → (1 ≤ (view t).kind → (view t).kind ≤ 4 → ⊥) → ((view t).kind ≡ 5 → ⊥) → (9 ≤ (view t).kind → (view t).kind ≤ 10 → ⊥) → ⊥
unfolding view
kind-none (var n) b v p q = v (omega arith) (omega arith)
kind-none (fun n) b v p q = v (omega arith) (omega arith)
kind-none (con n) b v p q = v (omega arith) (omega arith)
kind-none (lam n t) b v p q = v (omega arith) (omega arith)
kind-none (app x y) b v p q = p refl
kind-none (call_event n x y) b v p q = b
kind-none (emit n x y) b v p q = b
kind-none (sum x y) b v p q = q (omega arith) (omega arith)
kind-none (branch c x y) b v p q = q (omega arith) (omega arith)

-- A term as its first record shows it: the constant of that number, or no constant.
data Shown (e : List ℕ) (i : ℕ) (t : Term) : Type 0 where
  is_constant : kind_at e i ≡ 3 → t ≡ con (record_number e i) → Shown e i t
  no_constant : (kind_at e i ≡ 3 → ⊥) → constant t ≡ none → Shown e i t

shown : (e : List ℕ) (i : ℕ) (t : Term) → Stands e i t → Shown e i t
unfolding constant
shown e i (var n) h = let x = h.kind in no_constant (λ k. omega arith) refl
shown e i (fun n) h = let x = h.kind in no_constant (λ k. omega arith) refl
shown e i (con n) h = is_constant h.kind (ap con (sym h.number))
shown e i (lam n b) h = let x = h.0.kind in no_constant (λ k. omega arith) refl
shown e i (app a b) h = let x = h.0.kind in no_constant (λ k. omega arith) refl
shown e i (call_event n a r) h = let x = h.0.kind in no_constant (λ k. omega arith) refl
shown e i (emit n a r) h = let x = h.0.kind in no_constant (λ k. omega arith) refl
shown e i (sum a b) h = let x = h.0.kind in no_constant (λ k. omega arith) refl
shown e i (branch c a b) h = let x = h.0.kind in no_constant (λ k. omega arith) refl

-- The answer at two values, from the code's tests: an application's …
module _ (k : ℕ) (x : Redex) where
  pub head-applied : (k ≡ 2) ⊎ (k ≡ 4) → sought.Redex x ≡ head_case k x
  head-applied (inl e) = rw e
  head-applied (inr e) = rw e

  pub head-stuck : ((k ≡ 2) ⊎ (k ≡ 4) → ⊥) → sought.Stuck x.gap ≡ head_case k x
  head-stuck h = rw (ne_eqb k 2 (λ e. h (inl e)), ne_eqb k 4 (λ e. h (inr e)))

  -- … and a branch's; …
  pub branch_decided : k ≡ 3 → sought.Redex x ≡ branch_case k x
  branch_decided e = rw e

  pub branch_stuck : (k ≡ 3 → ⊥) → sought.Stuck x.gap ≡ branch_case k x
  branch_stuck h = rw (ne_eqb k 3 h)

-- … a sum's.
module _ (k k' i j : ℕ) (x : Redex) where
  pub sum_first : (k ≡ 3 → ⊥) → sought.Stuck x.gap ≡ sum_case k k' i j x
  unfolding sum_case
  sum_first h = rw (ne_eqb k 3 h)

  pub sum-second : k ≡ 3 → (k' ≡ 3 → ⊥) → sought.Stuck x.gap ≡ sum_case k k' i j x
  unfolding sum_case
  sum-second e h = rw (e, ne_eqb k' 3 h)

  pub sum-large : k ≡ 3 → k' ≡ 3 → greatest < i + j → sought.Stuck x.gap ≡ sum_case k k' i j x
  unfolding sum_case
  sum-large e e' h = rw (e, e', lt-leb (i + j) greatest h)

  pub sum_added : k ≡ 3 → k' ≡ 3 → i + j ≤ greatest → sought.Redex x ≡ sum_case k k' i j x
  unfolding sum_case
  sum_added e e' h = rw (e, e', le-leb (i + j) greatest h)

-- Which of the two it is, the record at p says.
module _ (e : List ℕ) (x : Redex) where
  pub pair-head : kind_at e x.p ≡ 5 → head_case (kind_at e (x.p + 1)) x ≡ pair_case e x
  unfolding pair_case
  pair-head k = rw k

  pub pair-sum : kind_at e x.p ≡ 9
      → sum_case (kind_at e (x.p + 1)) (kind_at e x.gap.r) (record_number e (x.p + 1)) (record_number e x.gap.r) x ≡ pair_case e x
  unfolding pair_case
  pair-sum k = rw k

  pub pair-none : (kind_at e x.p ≡ 5 → ⊥) → (kind_at e x.p ≡ 9 → ⊥) → sought.Stuck x.gap ≡ pair_case e x
  unfolding pair_case
  pair-none k m = rw (ne_eqb (kind_at e x.p) 5 k, ne_eqb (kind_at e x.p) 9 m)

-- The redex whose numbers these are.
abbrev pub redex_at : (p l r n : ℕ) → Redex
redex_at p l r n = record { p = p; gap = record { l = l; r = r }; depth = n }

-- What a frame's entry says.
abbrev Marks : Entry → Frame → List Frame → Type 0
Marks x f K = (x.place ≡ left_size K) × (x.done ≡ is_half_done f)

-- The numbers that the code's indices go by.
pub record Seen (e : List ℕ) (fs : List Entry) (l r n : ℕ) : Type 0 where
  pub right-in : r < 3072
  pub left_in : l < 1024
  pub few-frames : n ≤ l
  pub order : l ≤ r
  pub wide : length e ≡ 24576
  pub high : 1024 ≤ length fs

module _ {e : List ℕ} {fs : List Entry} {l r n : ℕ} {T : Term} (h : ZipOf e fs l r n T) where
  -- They follow from what the buffers hold.
  pub seen : Seen e fs l r n
  seen =
      let b = bounds h.zip in
      record {
        right-in = b.right-in;
        left_in = b.left_in;
        few-frames = b.few-frames;
        order = h.zip.order;
        wide = h.zip.wide;
        high = h.zip.high;
      }

  -- ---- no value

  into : (t : Term) → Zip e fs l r n h.frames t → plug h.frames t ≡ T → (1 ≤ kind_at e r → kind_at e r ≤ 4 → ⊥)
      → (e' : List ℕ) (fs' : List Entry) → e' ≡ put e (8 * l) (bytes 8 (kind_at e r)) → fs' ≡ set fs n record { place = l; done = false } → ZipOf e' fs' (l + 1) (r + 1) (n + 1) T
  into (var i) z w k e' fs' p q = let x = (focus-stands z).kind in absurd (k (omega arith) (omega arith))
  into (fun i) z w k e' fs' p q = let x = (focus-stands z).kind in absurd (k (omega arith) (omega arith))
  into (con i) z w k e' fs' p q = let x = (focus-stands z).kind in absurd (k (omega arith) (omega arith))
  into (lam i b) z w k e' fs' p q = let x = (focus-stands z).0.kind in absurd (k (omega arith) (omega arith))
  into (app a b) z w k e' fs' p q =
      record { frames = to_come applies b ∷ h.frames; focus = a; zip = enter (to_come applies b) a tt refl refl refl z _ (focus-stands z).0.kind e' fs' p q; whole = w }
  into (call_event i a b) z w k e' fs' p q = absurd (focus-bare z)
  into (emit i a b) z w k e' fs' p q = absurd (focus-bare z)
  into (sum a b) z w k e' fs' p q =
      record { frames = to_come adds b ∷ h.frames; focus = a; zip = enter (to_come adds b) a tt refl refl refl z _ (focus-stands z).0.kind e' fs' p q; whole = w }
  into (branch c a b) z w k e' fs' p q =
      record { frames = choosing a b ∷ h.frames; focus = c; zip = enter (choosing a b) c tt refl refl refl z _ (focus-stands z).0.kind e' fs' p q; whole = w }

  -- A focus whose kind is not in the range of values is entered.
  pub seek-enter : (1 ≤ kind_at e r → kind_at e r ≤ 4 → ⊥) → (e' : List ℕ) (fs' : List Entry) → e' ≡ put e (8 * l) (bytes 8 (kind_at e r)) → fs' ≡ set fs n record { place = l; done = false }
      → ZipOf e' fs' (l + 1) (r + 1) (n + 1) T
  seek-enter = into h.focus h.zip h.whole

  -- No expression has a focus of another kind.
  pub seek-none : (1 ≤ kind_at e r → kind_at e r ≤ 4 → ⊥) → (kind_at e r ≡ 5 → ⊥) → (9 ≤ kind_at e r → kind_at e r ≤ 10 → ⊥) → ⊥
  seek-none = rw (first_kind e r h.focus (focus-stands h.zip)) (kind-none h.focus (focus-bare h.zip))

  -- ---- a value

  module _ (k : kind_at e r ≤ 4) where
    focus-value : is_value h.focus ≡ true
    focus-value =
        let x = first_kind e r h.focus (focus-stands h.zip) in
        kind-value h.focus (focus-bare h.zip) (omega arith)

    alone : (K : List Frame) → plug K h.focus ≡ T → length K ≡ 0 → is_value T ≡ true
    alone [] w z = rw (← w) focus-value
    alone (f ∷ K) w z = absurd (omega arith)

    -- With no frame it is the whole expression.
    pub seek-value : n ≡ 0 → SoughtIs T (sought.Value record { l = l; r = r }) e fs
    seek-value z = (alone h.frames h.whole (sym h.zip.deep ∙ z), zip-flat h)

    module _ (some : n ≡ 0 → ⊥) (top : Entry) (at : top ≡ get_or fs (n - 1) record { place = 0; done = false }) where
      -- The value ends after its records, within the buffer.
      pub end-in : (r < end_at e r) × (end_at e r ≤ 3072)
      end-in =
          let b = bounds h.zip in
          let z = end-there e r h.focus (focus-stands h.zip) in
          let p = records-some h.focus in
          (omega arith, omega arith)

      -- It is whole.
      pub value-whole : Whole e r
      value-whole = whole-there e r h.focus (focus-stands h.zip)

      -- The innermost frame, and what its entry says.
      innermost : (P : Type 0) → ((f : Frame) (K : List Frame) → Zip e fs l r n (f ∷ K) h.focus → plug K (fill f h.focus) ≡ T → Marks top f K → P) → P
      innermost P go = on h.frames h.zip h.whole
        where
          on : (K : List Frame) → Zip e fs l r n K h.focus → plug K h.focus ≡ T → P
          on [] z w = absurd (some z.deep)
          on (f ∷ K) z w =
              let i : n - 1 ≡ length K = omega (arith, z.deep) in
              let q = at ∙ ap (λ (x : ℕ). get_or fs x record { place = 0; done = false }) i ∙ get_or_from_slice_get fs (length K) _ _ z.stack.0 in
              go f K z w (ap (λ (x : Entry). x.place) q, ap (λ (x : Entry). x.done) q)

      module _ (p : ℕ) (its : p ≡ top.place) where
        -- Its record is in the buffer.
        pub frame-in : p < count e
        frame-in = innermost (p < count e) on
          where
            on : (f : Frame) (K : List Frame) → Zip e fs l r n (f ∷ K) h.focus → plug K (fill f h.focus) ≡ T → Marks top f K → p < count e
            on (to_come w b) K z y q = omega (arith, frame-inside (to_come w b) h.focus z)
            on (done w a) K z y q = omega (arith, frame-inside (done w a) h.focus z)
            on (choosing a b) K z y q = omega (arith, frame-inside (choosing a b) h.focus z)

        -- ---- a pair whose second part is to come

        -- The value is left behind, and the second part is the focus.
        pub seek-turn : top.done ≡ false → (kind_at e p ≡ 10 → ⊥) → (l' r' : ℕ) → r' ≡ end_at e r → l' ≡ l + (r' - r) → (e' : List ℕ) (fs' : List Entry)
            → e' ≡ copied_to e l r → fs' ≡ set fs (n - 1) record { place = top.place; done = true } → ZipOf e' fs' l' r' n T
        unfolding copied_to
        seek-turn s c l' end g d e' fs' u v = rw d (innermost (ZipOf e' fs' (l + (end - r)) end n T) on)
          where
            on : (f : Frame) (K : List Frame) → Zip e fs l r n (f ∷ K) h.focus → plug K (fill f h.focus) ≡ T → Marks top f K → ZipOf e' fs' (l + (end - r)) end n T
            on (to_come w b) K z y q = record {
              frames = done w h.focus ∷ K;
              focus = b;
              zip = turn w b h.focus z focus-value end (g ∙ end-there e r h.focus (focus-stands z)) top at e' fs' (u ∙ ap (λ (x : ℕ). put e (8 * l) (part e (8 * r) (8 * (x - r)))) (sym g)) v;
              whole = y;
            }
            on (done w a) K z y q = absurd (false≢true (sym s ∙ q.1))
            on (choosing a b) K z y q =
                let i : p ≡ left_size K = omega arith in
                absurd (c (ap (kind_at e) i ∙ frame-kind (choosing a b) h.focus z))

        -- ---- a branch

        -- A constant is the redex; all else is stuck.
        pub seek-branch : top.done ≡ false → kind_at e p ≡ 10 → SoughtIs T (branch_case (kind_at e r) (redex_at p l r n)) e fs
        seek-branch s c = innermost (SoughtIs T (branch_case (kind_at e r) (redex_at p l r n)) e fs) on
          where
            by : (a b : Term) (K : List Frame) → Zip e fs l r n (choosing a b ∷ K) h.focus → plug K (branch h.focus a b) ≡ T → p ≡ left_size K → Shown e r h.focus
                → SoughtIs T (branch_case (kind_at e r) (redex_at p l r n)) e fs
            by a b K z y i (is_constant k x) =
                rw k record { frames = K; frame = choosing a b; focus = h.focus; zip = z; whole = y; place = i; fires = rw x chosen }
            by a b K z y i (no_constant k x) =
                rw (ne_eqb (kind_at e r) 3 k) (λ C. rw (← y) (step-branch C K h.focus a b z.fine.1 focus-value ∙ rw x), zip-flat h)

            on : (f : Frame) (K : List Frame) → Zip e fs l r n (f ∷ K) h.focus → plug K (fill f h.focus) ≡ T → Marks top f K
                → SoughtIs T (branch_case (kind_at e r) (redex_at p l r n)) e fs
            on (to_come applies b) K z y q =
                let i : p ≡ left_size K = omega arith in
                let x = ap (kind_at e) i ∙ frame-kind (to_come applies b) h.focus z in absurd (omega arith)
            on (to_come adds b) K z y q =
                let i : p ≡ left_size K = omega arith in
                let x = ap (kind_at e) i ∙ frame-kind (to_come adds b) h.focus z in absurd (omega arith)
            on (done w a) K z y q = absurd (false≢true (sym s ∙ q.1))
            on (choosing a b) K z y q = by a b K z y (omega arith) (shown e r h.focus (focus-stands z))

        -- ---- a pair of two values

        module _ (s : top.done ≡ true) where
          -- What the frame whose first part is done says, handed on.
          frame-done : (P : Type 0) → ((w : Pair) (a : Term) (K : List Frame) → Zip e fs l r n (done w a ∷ K) h.focus → plug K (join w a h.focus) ≡ T → p ≡ left_size K → P) → P
          frame-done P go = innermost P on
            where
              on : (f : Frame) (K : List Frame) → Zip e fs l r n (f ∷ K) h.focus → plug K (fill f h.focus) ≡ T → Marks top f K → P
              on (to_come w b) K z y q = absurd (false≢true (sym q.1 ∙ s))
              on (done w a) K z y q = go w a K z y (omega arith)
              on (choosing a b) K z y q = absurd (false≢true (sym q.1 ∙ s))

          -- The first part's record is in the buffer.
          pub first-in : p + 1 < count e
          first-in = frame-done (p + 1 < count e) (λ w a K z y i. omega (arith, first-inside e (left_size K + 1) a (first-stands w a h.focus z)))

          module _ (K : List Frame) (i : p ≡ left_size K) where
            stuck_at : (t : Term) → plug K t ≡ T → ((C : Codebase) → step C (plug K t) ≡ at_stuck) → SoughtIs T (sought.Stuck record { l = l; r = r }) e fs
            stuck_at t y c = (λ C. rw (← y) (c C), zip-flat h)

            by-head : (a : Term) → Zip e fs l r n (done applies a ∷ K) h.focus → plug K (app a h.focus) ≡ T
                → SoughtIs T (head_case (view a).kind (redex_at p l r n)) e fs
            unfolding view is_value
            by-head (var m) z y = stuck_at (app (var m) h.focus) y (λ C. step-two C K (var m) h.focus z.fine.1 refl focus-value)
            by-head (fun m) z y = record { frames = K; frame = done applies (fun m); focus = h.focus; zip = z; whole = y; place = i; fires = applied tt focus-value }
            by-head (con m) z y = stuck_at (app (con m) h.focus) y (λ C. step-two C K (con m) h.focus z.fine.1 refl focus-value)
            by-head (lam m b) z y = record { frames = K; frame = done applies (lam m b); focus = h.focus; zip = z; whole = y; place = i; fires = applied tt focus-value }
            by-head (app a b) z y = absurd (false≢true z.fine.0)
            by-head (call_event m a b) z y = absurd (false≢true z.fine.0)
            by-head (emit m a b) z y = absurd (false≢true z.fine.0)
            by-head (sum a b) z y = absurd (false≢true z.fine.0)
            by-head (branch c a b) z y = absurd (false≢true z.fine.0)

            module _ (a : Term) (z : Zip e fs l r n (done adds a ∷ K) h.focus) (y : plug K (sum a h.focus) ≡ T) where
              sum-steps : (C : Codebase) → step C (plug K (sum a h.focus)) ≡ inside (plug K) (addition (constant a) (constant h.focus))
              sum-steps C = step_sum C K a h.focus z.fine.1 z.fine.0 focus-value

              by_size : a ≡ con (record_number e (p + 1)) → h.focus ≡ con (record_number e r) → (x : Bool) → leb (record_number e (p + 1) + record_number e r) greatest ≡ x
                  → SoughtIs T (cond x (sought.Redex (redex_at p l r n)) (sought.Stuck record { l = l; r = r })) e fs
              unfolding constant
              by_size u v false x = stuck_at (sum a h.focus) y (λ C. sum-steps C ∙ rw (u, v, x))
              by_size u v true x =
                  let f = leb→le (record_number e (p + 1) + record_number e r) greatest (rw x tt) in
                  record { frames = K; frame = done adds a; focus = h.focus; zip = z; whole = y; place = i; fires = rw (u, v) (added f) }

              by-sum : Shown e (p + 1) a → Shown e r h.focus
                  → SoughtIs T (sum_case (kind_at e (p + 1)) (kind_at e r) (record_number e (p + 1)) (record_number e r) (redex_at p l r n)) e fs
              unfolding constant sum_case
              by-sum (is_constant k u) (is_constant m v) = rw (k, m) (by_size u v (leb (record_number e (p + 1) + record_number e r) greatest) refl)
              by-sum (is_constant k u) (no_constant m v) = rw (k, ne_eqb (kind_at e r) 3 m) (stuck_at (sum a h.focus) y (λ C. sum-steps C ∙ rw (u, v)))
              by-sum (no_constant k u) s' = rw (ne_eqb (kind_at e (p + 1)) 3 k) (stuck_at (sum a h.focus) y (λ C. sum-steps C ∙ rw u))

            by-pair : (w : Pair) (a : Term) → Zip e fs l r n (done w a ∷ K) h.focus → plug K (join w a h.focus) ≡ T → SoughtIs T (pair_case e (redex_at p l r n)) e fs
            by-pair applies a z y =
                let k : kind_at e p ≡ 5 = ap (kind_at e) i ∙ frame-kind (done applies a) h.focus z in
                let j : kind_at e (p + 1) ≡ (view a).kind = ap (λ (x : ℕ). kind_at e (x + 1)) i ∙ first_kind e (left_size K + 1) a (first-stands applies a h.focus z) in
                rw (← pair-head e (redex_at p l r n) k, j) (by-head a z y)
            by-pair adds a z y =
                let k : kind_at e p ≡ 9 = ap (kind_at e) i ∙ frame-kind (done adds a) h.focus z in
                rw (← pair-sum e (redex_at p l r n) k) (by-sum a z y (shown e (p + 1) a (rw i (first-stands adds a h.focus z))) (shown e r h.focus (focus-stands z)))

          -- With both parts done their first records decide.
          pub seek-pair : SoughtIs T (pair_case e (redex_at p l r n)) e fs
          seek-pair = frame-done (SoughtIs T (pair_case e (redex_at p l r n)) e fs) (λ w a K z y i. by-pair K i w a z y)
