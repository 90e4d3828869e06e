-- The test of entailment decides the proposition, whatever triggers are chosen; only earlier noted calls matter. Assumes nothing.
use mathlib.Core.Bool.{◌&&◌}
use mathlib.Core.List.Memᴰ
use mathlib.Core.List.{List, [], ◌∷◌, ◌++◌, append-nil, append_assoc, Memᴰ}
use mathlib.Core.Logic.{◌↔◌}
use mathlib.Core.Path.{◌≡◌, refl, sym}
use Prim.Native.Nat.{ℕ, ◌<◌}
use lib.Dec.{T, eqb, ltb, eqb→eq, ltb→lt, lt→ltb, T_not, not_T}
use Rattle.calculus.specs.Term.{Term}
use Rattle.calculus.specs.Guideline.{Guideline, Clause, Condition, Safe}
use Rattle.calculus.specs.Guideline.Condition.{before, related, equal, differing, none_since}
use Rattle.calculus.specs.Lists.{any, each}
use Rattle.calculus.specs.Derive.{same_view}
use Rattle.calculus.specs.Entailment.{Entry, True, takes?, true?, chosen, Triggered, Entails, fits, entails?}
use Rattle.calculus.specs.Entailment.Triggered.{none, one}
use Rattle.calculus.specs.Rewriting.{logevents, taken_back, watched, triggers, logged, noted}
use Rattle.calculus.specs.Log.{State, emit_call, add_entry, triple}
use Rattle.calculus.proofs.Lists.{T_true, T_false, same-T, and_both, both-and, or_right, eqb_same, view-same, same_view_lem, any_some, some-any, all-each, each_all, each-into, among-into}
use Rattle.calculus.proofs.Least.{holds-least}

-- A condition passes the test where it is true.
true-decides : (G : Guideline) → Safe G → (K : List Entry) (x : Entry) (ys : List Entry) (c : Condition) → T (true? G K x ys c) ↔ True G K x ys c
true-decides G safe K x ys (before i j) = (ltb→lt _ _, lt→ltb _ _)
true-decides G safe K x ys (related p i j) = holds-least G safe p _ _
true-decides G safe K x ys (equal i j) = (view-same _ _, same_view_lem _ _)
true-decides G safe K x ys (differing i j) =
    let a = (chosen x ys i).seen in
    let b = (chosen x ys j).seen in
    (λ h e. T_not (same_view a b) h (same_view_lem a b e), λ h. not_T (same_view a b) (λ k. h (view-same a b k)))
true-decides G safe K x ys (none_since i f) = (λ h y m e l l'. T_not (any (takes? x z f) K) h (some-any (takes? x z f) m (taken y e l l')), λ h. not_T (any (takes? x z f) K) (λ k. none h (any_some (takes? x z f) K k)))
  where
    z : Entry
    z = chosen x ys i

    taken : (y : Entry) → y.function ≡ f → z.time < y.time → y.time < x.time → T (takes? x z f y)
    taken y e l l' = both-and (eqb y.function f) (ltb z.time y.time && ltb y.time x.time) (eqb_same y.function f e) (both-and (ltb z.time y.time) (ltb y.time x.time) (lt→ltb _ _ l) (lt→ltb _ _ l'))

    none : True G K x ys (none_since i f) → (y : Entry) × Memᴰ y K × T (takes? x z f y) → ⊥
    none h r =
        let y = r.0 in
        let u = and_both (eqb y.function f) (ltb z.time y.time && ltb y.time x.time) r.2 in
        let w = and_both (ltb z.time y.time) (ltb y.time x.time) u.1 in
        h y r.1 (eqb→eq _ _ u.0) (ltb→lt _ _ w.0) (ltb→lt _ _ w.1)

-- What the search for triggers finds is a choice of triggers that makes the conditions true …
fits-sound : (G : Guideline) → Safe G → (K : List Entry) (x : Entry) (cs : List Condition) (gs : List ℕ) (ys : List Entry) → T (fits G K x cs gs ys) → (zs : List Entry) × Triggered K x.time gs zs × ((c : Condition) → Memᴰ c cs → True G K x (ys ++ zs) c)
unfolding fits
fits-sound G safe K x cs [] ys h = ([], none, λ c m. rw append-nil ((true-decides G safe K x ys c).0 (all-each (true? G K x ys) m h)))
fits-sound G safe K x cs (g ∷ gs) ys h =
    let r = any_some _ K h in
    let y = r.0 in
    let more = fits G K x cs gs (ys ++ (y ∷ [])) in
    let u = and_both (eqb y.function g) (ltb y.time x.time && more) r.2 in
    let w = and_both (ltb y.time x.time) more u.1 in
    let s = fits-sound G safe K x cs gs (ys ++ (y ∷ [])) w.1 in
    (y ∷ s.0, one r.1 (eqb→eq _ _ u.0) (ltb→lt _ _ w.0) s.1, λ c m. rw append_assoc at (s.2 c m))

-- … and it finds one where there is one.
fits-complete : (G : Guideline) → Safe G → (K : List Entry) (x : Entry) (cs : List Condition) {gs : List ℕ} (ys : List Entry) {zs : List Entry} → Triggered K x.time gs zs → ((c : Condition) → Memᴰ c cs → True G K x (ys ++ zs) c) → T (fits G K x cs gs ys)
unfolding fits
fits-complete G safe K x cs ys none h = each_all (true? G K x ys) cs (λ c m. (true-decides G safe K x ys c).1 (rw append-nil at (h c m)))
fits-complete G safe K x cs ys (one {g = g} {gs = gs} {y = y} {ys = zs} m e l t) h =
    let more = fits G K x cs gs (ys ++ (y ∷ [])) in
    let r = fits-complete G safe K x cs (ys ++ (y ∷ [])) t (λ c k. rw append_assoc (h c k)) in
    let earlier = ltb y.time x.time in
    some-any _ m (both-and (eqb y.function g) (earlier && more) (eqb_same y.function g e) (both-and earlier more (lt→ltb _ _ l) r))

-- A call passes the test where it is entailed.
pub entails-decides : (G : Guideline) → Safe G → (K : List Entry) (x : Entry) → T (entails? G K x) ↔ Entails G K x
unfolding entails?
entails-decides G safe K x = (sound, complete)
  where
    sound : T (entails? G K x) → Entails G K x
    sound h =
        let r = any_some _ G.clauses h in
        let c = r.0 in
        let u = and_both (eqb c.function x.function) (fits G K x c.conditions c.triggers []) r.2 in
        let s = fits-sound G safe K x c.conditions c.triggers [] u.1 in
        record { clause = c; among = r.1; logs = eqb→eq _ _ u.0; choice = s.0; triggers = s.1; conditions = s.2 }

    complete : Entails G K x → T (entails? G K x)
    complete h =
        let c = h.clause in
        some-any _ h.among
        (both-and (eqb c.function x.function) (fits G K x c.conditions c.triggers []) (eqb_same c.function x.function h.logs)
        (fits-complete G safe K x c.conditions [] h.triggers h.conditions))

-- The choice of triggers is the program's: any clause and any fitting choice of triggers give the same state.
pub any-choice : (G : Guideline) → Safe G → (f : ℕ) (a : Term) (s : State) → Entails G s.history (triple f a s) → emit_call G f a s ≡ add_entry (triple f a s) s
unfolding emit_call
any-choice G safe f a s h = rw (T_true (entails? G s.history (triple f a s)) ((entails-decides G safe s.history (triple f a s)).1 h))

-- Where no clause and no choice of triggers entails the call, the state stays.
pub no-choice : (G : Guideline) → Safe G → (f : ℕ) (a : Term) (s : State) → (Entails G s.history (triple f a s) → ⊥) → emit_call G f a s ≡ s
unfolding emit_call
no-choice G safe f a s h = rw (T_false (entails? G s.history (triple f a s)) (λ k. h ((entails-decides G safe s.history (triple f a s)).0 k)))

-- ---- entailment looks at earlier noted calls only

-- A choice of triggers is one from any list that holds the calls of the triggers' functions before t.
triggered-map : {K K' : List Entry} {t : ℕ} {gs : List ℕ} {ys : List Entry} → ((y : Entry) → Memᴰ y K → y.time < t → Memᴰ y.function gs → Memᴰ y K') → Triggered K t gs ys → Triggered K' t gs ys
triggered-map h none = none
triggered-map h (one {y = y} m e l t) = one (h y m l (Memᴰ.head e)) e l (triggered-map (λ z n k i. h z n k (Memᴰ.tail i)) t)

-- The function of a clause's trigger is noted.
trigger-noted : (G : Guideline) (c : Clause) → Memᴰ c G.clauses → (g : ℕ) → Memᴰ g c.triggers → T (noted G g)
unfolding noted triggers
trigger-noted G c m g k = or_right (logged G g) _ (among-into (each-into watched m (Memᴰ.append_left (each taken_back c.conditions) k)))

-- So is that of a kind 9 condition.
since-noted : (G : Guideline) (c : Clause) → Memᴰ c G.clauses → (i h : ℕ) → Memᴰ (none_since i h) c.conditions → T (noted G h)
unfolding noted triggers
since-noted G c m i h k = or_right (logged G h) _ (among-into (each-into watched m (Memᴰ.append_right c.triggers (each-into taken_back k (Memᴰ.head refl)))))

-- With the same calls chosen, only kind 9 looks at the others: it stays true where none comes in.
true-map : (G : Guideline) (K K' : List Entry) (x : Entry) (ys : List Entry) (k : Condition) → ((i h : ℕ) → k ≡ none_since i h → T (noted G h)) → ((y : Entry) → Memᴰ y K' → y.time < x.time → T (noted G y.function) → Memᴰ y K) → True G K x ys k → True G K' x ys k
true-map G K K' x ys (before i j) n h t = t
true-map G K K' x ys (related p i j) n h t = t
true-map G K K' x ys (equal i j) n h t = t
true-map G K K' x ys (differing i j) n h t = t
true-map G K K' x ys (none_since i f) n h t = λ y m e l l'. t y (h y m l' (rw e (n i f refl))) e l l'

-- So a list that holds the earlier noted calls entails as much.
pub entails-map : (G : Guideline) (K K' : List Entry) (x : Entry) → ((y : Entry) → Memᴰ y K → y.time < x.time → T (noted G y.function) → Memᴰ y K') → ((y : Entry) → Memᴰ y K' → y.time < x.time → T (noted G y.function) → Memᴰ y K) → Entails G K x → Entails G K' x
entails-map G K K' x h h' n =
    record {
      clause = n.clause;
      among = n.among;
      logs = n.logs;
      choice = n.choice;
      triggers = triggered-map (λ y m l k. h y m l (trigger-noted G n.clause n.among y.function k)) n.triggers;
      conditions = λ k i. true-map G K K' x n.choice k (λ j f e. since-noted G n.clause n.among j f (rw e at i)) h' (n.conditions k i);
    }

-- Two lists with the same earlier noted calls entail the same.
pub entails-same : (G : Guideline) → Safe G → (K K' : List Entry) (x : Entry) → ((y : Entry) → Memᴰ y K → y.time < x.time → T (noted G y.function) → Memᴰ y K') → ((y : Entry) → Memᴰ y K' → y.time < x.time → T (noted G y.function) → Memᴰ y K) → entails? G K x ≡ entails? G K' x
entails-same G safe K K' x h h' =
    same-T (entails? G K x) (entails? G K' x) (λ p. (entails-decides G safe K' x).1 (entails-map G K K' x h h' ((entails-decides G safe K x).0 p)))
    (λ p. (entails-decides G safe K x).1 (entails-map G K' K x h' h ((entails-decides G safe K' x).0 p)))

-- A call that is entailed is one of a logged function.
pub entails-logged : (G : Guideline) → Safe G → (K : List Entry) (x : Entry) → T (entails? G K x) → T (logged G x.function)
unfolding logged logevents
entails-logged G safe K x h =
    let n = (entails-decides G safe K x).0 h in
    among-into (each-into (λ (d : Clause). d.function ∷ []) n.among (Memᴰ.head (sym n.logs)))
