-- Whether two lists are the same, as a test. Assumes nothing.
use Rattle.std.specs.Prelude.{◌≡◌, refl, List, [], ◌∷◌, ◌++◌, Bool, true, false, ◌&&◌, ℕ, eqb, length}
use Rattle.std.proofs.Common.{sym, ap, ap₂, ◌∙◌, eqb-true, eq-eqb, ne_eqb, arith}

-- the same elements in the same order
unfoldable pub same_bytes : List ℕ → List ℕ → Bool
same_bytes [] [] = true
same_bytes [] (y ∷ ys) = false
same_bytes (x ∷ xs) [] = false
same_bytes (x ∷ xs) (y ∷ ys) = eqb x y && same_bytes xs ys

-- ---- true exactly where the lists are equal

and_left : (s t : Bool) → s && t ≡ true → s ≡ true
and_left true t e = refl
and_left false t e = e

and_right : (s t : Bool) → s && t ≡ true → t ≡ true
and_right true t e = e
and_right false t e = let z : ◌≡◌ {A = ℕ} 0 1 = cc in absurd (omega arith)

pub same-equal : (xs ys : List ℕ) → same_bytes xs ys ≡ true → xs ≡ ys
unfolding same_bytes
same-equal [] [] e = refl
same-equal [] (y ∷ ys) e = let z : ◌≡◌ {A = ℕ} 0 1 = cc in absurd (omega arith)
same-equal (x ∷ xs) [] e = let z : ◌≡◌ {A = ℕ} 0 1 = cc in absurd (omega arith)
same-equal (x ∷ xs) (y ∷ ys) e = ap₂ (λ (h : ℕ) (t : List ℕ). h ∷ t) (eqb-true x y (and_left (eqb x y) (same_bytes xs ys) e)) (same-equal xs ys (and_right (eqb x y) (same_bytes xs ys) e))

pub same_self : (xs : List ℕ) → same_bytes xs xs ≡ true
unfolding same_bytes
same_self [] = refl
same_self (x ∷ xs) = rw (eq-eqb x x refl) (same_self xs)

pub equal-same : (xs ys : List ℕ) → xs ≡ ys → same_bytes xs ys ≡ true
equal-same xs ys e = ap (λ (t : List ℕ). same_bytes xs t) (sym e) ∙ same_self xs

different-same : (xs ys : List ℕ) → (xs ≡ ys → ⊥) → (t : Bool) → same_bytes xs ys ≡ t → t ≡ false
different-same xs ys h true e = absurd (h (same-equal xs ys e))
different-same xs ys h false e = refl

-- ---- by the first elements

pub same_next : (x y : ℕ) (xs ys : List ℕ) → x ≡ y → same_bytes (x ∷ xs) (y ∷ ys) ≡ same_bytes xs ys
unfolding same_bytes
same_next x y xs ys e = rw (eq-eqb x y e)

pub same_here : (x y : ℕ) (xs ys : List ℕ) → (x ≡ y → ⊥) → same_bytes (x ∷ xs) (y ∷ ys) ≡ false
unfolding same_bytes
same_here x y xs ys h = rw (ne_eqb x y h)

-- ---- by the first parts

and_assoc : (s t u : Bool) → s && (t && u) ≡ (s && t) && u
and_assoc true t u = refl
and_assoc false t u = refl

same-append : (xs ys us vs : List ℕ) → length xs ≡ length ys → same_bytes (xs ++ us) (ys ++ vs) ≡ same_bytes xs ys && same_bytes us vs
unfolding same_bytes
same-append [] [] us vs h = refl
same-append [] (y ∷ ys) us vs h = absurd (omega arith)
same-append (x ∷ xs) [] us vs h = absurd (omega arith)
same-append (x ∷ xs) (y ∷ ys) us vs h =
    ap (λ (t : Bool). eqb x y && t) (same-append xs ys us vs (omega arith)) ∙ and_assoc (eqb x y) (same_bytes xs ys) (same_bytes us vs)

pub same-past : (xs ys us vs : List ℕ) → xs ≡ ys → same_bytes (xs ++ us) (ys ++ vs) ≡ same_bytes us vs
same-past xs ys us vs e = same-append xs ys us vs (ap length e) ∙ ap (λ (t : Bool). t && same_bytes us vs) (equal-same xs ys e)

pub same-within : (xs ys us vs : List ℕ) → length xs ≡ length ys → (xs ≡ ys → ⊥) → same_bytes (xs ++ us) (ys ++ vs) ≡ false
same-within xs ys us vs l h = same-append xs ys us vs l ∙ ap (λ (t : Bool). t && same_bytes us vs) (different-same xs ys h (same_bytes xs ys) refl)
