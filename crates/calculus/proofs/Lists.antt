-- Tests and what they say; laws of `any`, `all`, `keep` and `each`. Assumes nothing.
use mathlib.Core.Bool.{Bool, true, false, cond, ◌&&◌, ◌||◌}
use mathlib.Core.List.Memᴰ
use mathlib.Core.List.{List, [], ◌∷◌, ◌++◌, append_assoc, Memᴰ}
use mathlib.Core.Logic.{◌⊎◌, inl, inr}
use mathlib.Core.Path.{◌≡◌, refl, sym, ap}
use Prim.Native.Nat.{ℕ}
use lib.Dec.{T, eqb, eqb→eq, eqb_refl}
use Rattle.calculus.specs.Lists.{any, all, keep, each, among}
use Rattle.calculus.specs.Term.{View}
use Rattle.calculus.specs.Derive.{same_view}

-- ---- truth values

pub T_true : (b : Bool) → T b → b ≡ true
T_true true p = refl
T_true false p = absurd p

pub true-T : (b : Bool) → b ≡ true → T b
true-T b e = rw e tt

pub T_false : (b : Bool) → (T b → ⊥) → b ≡ false
T_false true p = absurd (p tt)
T_false false p = refl

pub false-T : (b : Bool) → b ≡ false → T b → ⊥
false-T b e p = rw e at p

pub same-T : (a b : Bool) → (T a → T b) → (T b → T a) → a ≡ b
same-T true b p q = sym (T_true b (p tt))
same-T false b p q = sym (T_false b q)

pub and_both : (a b : Bool) → T (a && b) → T a × T b
and_both true b p = (tt, p)
and_both false b p = absurd p

pub both-and : (a b : Bool) → T a → T b → T (a && b)
both-and true b p q = q
both-and false b p q = absurd p

pub or_cases : (a b : Bool) → T (a || b) → T a ⊎ T b
or_cases true b p = inl tt
or_cases false b p = inr p

pub or_left : (a b : Bool) → T a → T (a || b)
or_left true b p = tt
or_left false b p = absurd p

pub or_right : (a b : Bool) → T b → T (a || b)
or_right true b p = tt
or_right false b p = p

-- ---- equal numbers, equal views

pub eqb_same : (m n : ℕ) → m ≡ n → T (eqb m n)
eqb_same m n e = rw e (eqb_refl n)

pub view-same : (a b : View) → T (same_view a b) → a ≡ b
view-same a b p =
    let q = and_both (eqb a.kind b.kind) (eqb a.number b.number) p in
    λ i. record { kind = eqb→eq a.kind b.kind q.0 i; number = eqb→eq a.number b.number q.1 i }

pub same_view_lem : (a b : View) → a ≡ b → T (same_view a b)
same_view_lem a b e =
    both-and (eqb a.kind b.kind) (eqb a.number b.number)
    (eqb_same a.kind b.kind (ap (λ (x : View). x.kind) e))
    (eqb_same a.number b.number (ap (λ (x : View). x.number) e))

-- ---- any, all, keep

module _ {A : Type 0} where
  pub any_some : (p : A → Bool) (xs : List A) → T (any p xs) → (x : A) × Memᴰ x xs × T (p x)
  unfolding any
  any_some p [] h = absurd h
  any_some p (x ∷ xs) h = on (p x) refl (λ k. any_some p xs k) h
    where
      on : (b : Bool) → p x ≡ b → (T (any p xs) → (y : A) × Memᴰ y xs × T (p y)) → T (elim b as (λ _. Bool) [ false ↦ any p xs | true ↦ true ]) → (y : A) × Memᴰ y (x ∷ xs) × T (p y)
      on false e below k = let r = below k in (r.0, Memᴰ.tail r.1, r.2)
      on true e below k = (x, Memᴰ.head refl, true-T (p x) e)

  pub some-any : (p : A → Bool) {x : A} {xs : List A} → Memᴰ x xs → T (p x) → T (any p xs)
  unfolding any
  some-any p {x} (Memᴰ.head {x = y} e) h = rw (T_true (p y) (rw e at h), any) tt
  some-any p {x} (Memᴰ.tail {x = y} {xs = ys} m) h = on (p y) refl (some-any p m h)
    where
      on : (b : Bool) → p y ≡ b → T (any p ys) → T (any p (y ∷ ys))
      on false e k = rw (e, any) k
      on true e k = rw (e, any) tt

  pub all-each : (p : A → Bool) {x : A} {xs : List A} → Memᴰ x xs → T (all p xs) → T (p x)
  unfolding all
  all-each p {x} (Memᴰ.head {x = y} {xs = ys} e) h = rw e (on (p y) refl h)
    where
      on : (b : Bool) → p y ≡ b → T (elim b as (λ _. Bool) [ false ↦ false | true ↦ all p ys ]) → T (p y)
      on false q k = absurd k
      on true q k = true-T (p y) q
  all-each p {x} (Memᴰ.tail {x = y} {xs = ys} m) h = on (p y) refl (λ k. all-each p m k) h
    where
      on : (b : Bool) → p y ≡ b → (T (all p ys) → T (p x)) → T (elim b as (λ _. Bool) [ false ↦ false | true ↦ all p ys ]) → T (p x)
      on false q below k = absurd k
      on true q below k = below k

  pub each_all : (p : A → Bool) (xs : List A) → ((x : A) → Memᴰ x xs → T (p x)) → T (all p xs)
  unfolding all
  each_all p [] h = tt
  each_all p (x ∷ xs) h = rw (T_true (p x) (h x (Memᴰ.head refl)), all) (each_all p xs (λ y m. h y (Memᴰ.tail m)))

  pub keep-yes : (p : A → Bool) (x : A) (xs : List A) → p x ≡ true → keep p (x ∷ xs) ≡ x ∷ keep p xs
  unfolding keep
  keep-yes p x xs e = rw e

  pub keep-no : (p : A → Bool) (x : A) (xs : List A) → p x ≡ false → keep p (x ∷ xs) ≡ keep p xs
  unfolding keep
  keep-no p x xs e = rw e

  pub keep_append : (p : A → Bool) (xs ys : List A) → keep p (xs ++ ys) ≡ keep p xs ++ keep p ys
  unfolding keep
  keep_append p [] ys = refl
  keep_append p (x ∷ xs) ys = on (p x) (keep_append p xs ys)
    where
      on : (b : Bool) → keep p (xs ++ ys) ≡ keep p xs ++ keep p ys → cond b (x ∷ keep p (xs ++ ys)) (keep p (xs ++ ys)) ≡ cond b (x ∷ keep p xs) (keep p xs) ++ keep p ys
      on true h = ap (λ (l : List A). x ∷ l) h
      on false h = h

  pub keep-cong : (p q : A → Bool) (xs : List A) → ((x : A) → Memᴰ x xs → p x ≡ q x) → keep p xs ≡ keep q xs
  unfolding keep
  keep-cong p q [] h = refl
  keep-cong p q (x ∷ xs) h = rw (h x (Memᴰ.head refl), keep-cong p q xs (λ y m. h y (Memᴰ.tail m)))

  -- Where every element passes the test, all are selected.
  pub keep_all : (p : A → Bool) (xs : List A) → ((x : A) → Memᴰ x xs → T (p x)) → keep p xs ≡ xs
  unfolding keep
  keep_all p [] h = refl
  keep_all p (x ∷ xs) h = rw (T_true (p x) (h x (Memᴰ.head refl)), keep_all p xs (λ y m. h y (Memᴰ.tail m)))

  -- A selection of a selection passes both tests.
  pub keep-keep : (p q : A → Bool) (xs : List A) → keep p (keep q xs) ≡ keep (λ x. p x && q x) xs
  unfolding keep
  keep-keep p q [] = refl
  keep-keep p q (x ∷ xs) = on (p x) (q x) refl (keep-keep p q xs)
    where
      on : (a b : Bool) → p x ≡ a → keep p (keep q xs) ≡ keep (λ y. p y && q y) xs → keep p (cond b (x ∷ keep q xs) (keep q xs)) ≡ cond (a && b) (x ∷ keep (λ y. p y && q y) xs) (keep (λ y. p y && q y) xs)
      on true true e h = rw e (ap (λ (l : List A). x ∷ l) h)
      on true false e h = h
      on false true e h = rw e h
      on false false e h = h

  pub keep-from : (p : A → Bool) (xs : List A) {x : A} → Memᴰ x (keep p xs) → Memᴰ x xs × T (p x)
  unfolding keep
  keep-from p [] m = absurd (Memᴰ.not-nil m)
  keep-from p (y ∷ ys) {x} m = on (p y) refl (λ k. keep-from p ys k) m
    where
      hit : p y ≡ true → (Memᴰ x (keep p ys) → Memᴰ x ys × T (p x)) → Memᴰ x (y ∷ keep p ys) → Memᴰ x (y ∷ ys) × T (p x)
      hit q below (Memᴰ.head e) = (Memᴰ.head e, rw e (true-T (p y) q))
      hit q below (Memᴰ.tail k) = let r = below k in (Memᴰ.tail r.0, r.1)

      on : (b : Bool) → p y ≡ b → (Memᴰ x (keep p ys) → Memᴰ x ys × T (p x)) → Memᴰ x (cond b (y ∷ keep p ys) (keep p ys)) → Memᴰ x (y ∷ ys) × T (p x)
      on true q below k = hit q below k
      on false q below k = let r = below k in (Memᴰ.tail r.0, r.1)

  pub keep-into : (p : A → Bool) {x : A} {xs : List A} → Memᴰ x xs → T (p x) → Memᴰ x (keep p xs)
  unfolding keep
  keep-into p {x} (Memᴰ.head {x = y} {xs = ys} e) h = rw (T_true (p y) (rw e at h)) (Memᴰ.head e)
  keep-into p {x} (Memᴰ.tail {x = y} {xs = ys} m) h = on (p y) (keep-into p m h)
    where
      on : (b : Bool) → Memᴰ x (keep p ys) → Memᴰ x (cond b (y ∷ keep p ys) (keep p ys))
      on true k = Memᴰ.tail k
      on false k = k

-- ---- each

module _ {A B : Type 0} where
  pub each_append : (f : A → List B) (xs ys : List A) → each f (xs ++ ys) ≡ each f xs ++ each f ys
  unfolding each
  each_append f [] ys = refl
  each_append f (x ∷ xs) ys = rw (each_append f xs ys) (sym (append_assoc (f x) (each f xs) (each f ys)))

  pub each-into : (f : A → List B) {x : A} {xs : List A} {y : B} → Memᴰ x xs → Memᴰ y (f x) → Memᴰ y (each f xs)
  unfolding each
  each-into f {x} {y = y} (Memᴰ.head {x = z} {xs = zs} e) k = Memᴰ.append_left (each f zs) (rw e at k)
  each-into f (Memᴰ.tail {x = z} m) k = Memᴰ.append_right (f z) (each-into f m k)

  pub each_from : (f : A → List B) (xs : List A) {y : B} → Memᴰ y (each f xs) → (x : A) × Memᴰ x xs × Memᴰ y (f x)
  unfolding each
  each_from f [] m = absurd (Memᴰ.not-nil m)
  each_from f (x ∷ xs) {y} m = on (λ k. each_from f xs k) (Memᴰ.append_cases (f x) m)
    where
      on : (Memᴰ y (each f xs) → (z : A) × Memᴰ z xs × Memᴰ y (f z)) → Memᴰ y (f x) ⊎ Memᴰ y (each f xs) → (z : A) × Memᴰ z (x ∷ xs) × Memᴰ y (f z)
      on below (inl k) = (x, Memᴰ.head refl, k)
      on below (inr k) = let r = below k in (r.0, Memᴰ.tail r.1, r.2)

-- ---- among

pub among-into : {n : ℕ} {ns : List ℕ} → Memᴰ n ns → T (among n ns)
among-into {n} m = some-any (eqb n) m (eqb_refl n)

pub among-from : (n : ℕ) (ns : List ℕ) → T (among n ns) → Memᴰ n ns
among-from n ns h = let r = any_some (eqb n) ns h in Memᴰ.cast (eqb→eq n r.0 r.2) r.1
