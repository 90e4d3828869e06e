-- The terms that are still to come, in groups by how many abstractions are open around them. Assumes nothing.
use mathlib.Core.Bool.{Bool, true, false, cond}
use mathlib.Core.List.{List, [], ◌∷◌, ◌++◌}
use mathlib.Core.Path.{◌≡◌, refl, sym, ◌∙◌}
use Prim.Native.Nat.{ℕ, zero, suc, ◌+◌, ◌-◌, ◌*◌, ◌^◌, ◌≤◌, ◌<◌}
use native.Mathlib.Omega.{arith}
use borrow.Author.Tests.{eq-eqb, ne_eqb}
use lib.Dec.{eqb}
use lib.ListN.{length, get_or, length-append}
use Rattle.calculus.specs.Term.{Term, records, Bare}
use Rattle.calculus.specs.Term.Term.{var, fun, con, lam, app, call_event, emit, sum, branch}
use Rattle.terms.specs.Encode.{encode, Fits}
use Rattle.terms.proofs.Encode.{encode-length}
use Rattle.substitution.specs.Copied.{copied}
use Rattle.substitution.specs.Stack.{closed}

-- ---- folds over the groups, the innermost first: the first has the depth `length gs`, the last the depth 0

-- How many terms are to come.
abbrev pub total : List (List Term) → ℕ
total [] = 0
total (g ∷ gs) = length g + total gs

-- Their bytes.
abbrev pub flat_g : List Term → List ℕ
flat_g [] = []
flat_g (t ∷ ts) = encode t ++ flat_g ts

abbrev pub flat : List (List Term) → List ℕ
flat [] = []
flat (g ∷ gs) = flat_g g ++ flat gs

-- Their copies' bytes.
abbrev pub copies_g : ℕ → List ℕ → List Term → List ℕ
copies_g d u [] = []
copies_g d u (t ∷ ts) = copied d u t ++ copies_g d u ts

abbrev pub copies : List ℕ → List (List Term) → List ℕ
copies u [] = []
copies u (g ∷ gs) = copies_g (length gs) u g ++ copies u gs

-- A term without commands, whose variables fit their bytes.
abbrev pub Plain : Term → Type 0
Plain (var n) = n < 2 ^ 32
Plain (fun n) = Unit {0}
Plain (con n) = Unit {0}
Plain (lam n b) = Plain b
Plain (app a b) = Plain a × Plain b
Plain (call_event n a r) = ⊥
Plain (emit n a r) = ⊥
Plain (sum a b) = Plain a × Plain b
Plain (branch c a b) = Plain c × Plain a × Plain b

abbrev pub PlainG : List Term → Type 0
PlainG [] = Unit {0}
PlainG (t ∷ ts) = Plain t × PlainG ts

abbrev pub Plains : List (List Term) → Type 0
Plains [] = Unit {0}
Plains (g ∷ gs) = PlainG g × Plains gs

-- What the stack says: at j, how many terms are to come at depth j and less.
abbrev pub Top : List ℕ → List (List Term) → Type 0
Top st [] = Unit {0}
Top st (g ∷ gs) = get_or st (length gs) 0 ≡ total (g ∷ gs)

abbrev pub Stack : List ℕ → List (List Term) → Type 0
Stack st [] = Unit {0}
Stack st (g ∷ gs) = Top st gs × Stack st gs

-- Groups whose first has a term, or one group that has none.
abbrev pub Open : List (List Term) → Type 0
Open [] = ⊥
Open ([] ∷ []) = Unit {0}
Open ([] ∷ (g ∷ gs)) = ⊥
Open ((t ∷ ts) ∷ gs) = Unit {0}

-- ---- laws

pub plain : (t : Term) → Bare t → Fits t → Plain t
plain (var n) b f = f
plain (fun n) b f = tt
plain (con n) b f = tt
plain (lam n t) b f = plain t b f.1
plain (app a r) b f = (plain a b.0 f.0, plain r b.1 f.1)
plain (call_event n a r) b f = b
plain (emit n a r) b f = b
plain (sum a r) b f = (plain a b.0 f.0, plain r b.1 f.1)
plain (branch c a r) b f = (plain c b.0 f.0, plain a b.1 f.1, plain r b.2 f.2)

-- A stack that is the same below the groups' depth serves as well.
pub stack-kept : (s s' : List ℕ) (gs : List (List Term)) → ((i : ℕ) → suc i < length gs → get_or s' i 0 ≡ get_or s i 0) → Stack s gs → Stack s' gs
stack-kept s s' [] e h = tt
stack-kept s s' (g ∷ []) e h = (tt, tt)
stack-kept s s' (g ∷ (f ∷ gs)) e h = (e (length gs) (omega arith) ∙ h.0, stack-kept s s' (f ∷ gs) (λ i l. e i (omega arith)) h.1)

pub records-some : (t : Term) → 0 < records t
unfolding records
records-some (var n) = omega arith
records-some (fun n) = omega arith
records-some (con n) = omega arith
records-some (lam n t) = omega arith
records-some (app a b) = omega arith
records-some (call_event n a r) = omega arith
records-some (emit n a r) = omega arith
records-some (sum a b) = omega arith
records-some (branch c a b) = omega arith

many-flat_g : (g : List Term) → 8 * length g ≤ length (flat_g g)
many-flat_g [] = omega arith
many-flat_g (t ∷ ts) = omega (arith, length-append (encode t) (flat_g ts), encode-length t, records-some t, many-flat_g ts)

-- Each term to come has a record at least.
pub many-flat : (gs : List (List Term)) → 8 * total gs ≤ length (flat gs)
many-flat [] = omega arith
many-flat (g ∷ gs) = omega (arith, length-append (flat_g g) (flat gs), many-flat_g g, many-flat gs)

pub closed-le : (st : List ℕ) (n d : ℕ) → closed st n d ≤ d
unfolding closed
closed-le st n zero = omega arith
closed-le st n (suc d) = by (eqb (get_or st d 0) n) (closed-le st n d)
  where
    by : (b : Bool) → closed st n d ≤ d → cond b (closed st n d) (suc d) ≤ suc d
    by true h = omega arith
    by false h = omega arith

-- The groups without the first ones that are at their end: all else is the same.
pub record Closed (st u : List ℕ) (gs : List (List Term)) (d : ℕ) : Type 0 where
  pub groups : List (List Term)
  pub depth : suc d ≡ length groups
  pub same_total : total groups ≡ total gs
  pub same-flat : flat groups ≡ flat gs
  pub same-copies : copies u groups ≡ copies u gs
  pub still-plain : Plains gs → Plains groups
  pub stack : Stack st groups
  pub first : Open groups

pub close : (st u : List ℕ) (g : List Term) (gs : List (List Term)) → Stack st (g ∷ gs) → Closed st u (g ∷ gs) (closed st (total (g ∷ gs)) (length gs))
unfolding closed
close st u [] [] h =
    record { groups = [] ∷ []; depth = refl; same_total = refl; same-flat = refl; same-copies = refl; still-plain = λ p. p; stack = h; first = tt }
close st u (t ∷ ts) [] h =
    record { groups = (t ∷ ts) ∷ []; depth = refl; same_total = refl; same-flat = refl; same-copies = refl; still-plain = λ p. p; stack = h; first = tt }
close st u [] (f ∷ gs) h =
    let n : 0 + (length f + total gs) ≡ length f + total gs = omega arith in
    let e : get_or st (length gs) 0 ≡ 0 + (length f + total gs) = h.0 ∙ sym n in
    let c : Closed st u (f ∷ gs) (closed st (0 + total (f ∷ gs)) (length gs)) = rw n (close st u f gs h.1) in
    rw (eq-eqb _ _ e)
    (record {
      groups = c.groups;
      depth = c.depth;
      same_total = c.same_total ∙ sym n;
      same-flat = c.same-flat;
      same-copies = c.same-copies;
      still-plain = λ p. c.still-plain p.1;
      stack = c.stack;
      first = c.first;
    })
close st u (t ∷ ts) (f ∷ gs) h =
    rw (ne_eqb (get_or st (length gs) 0) (total ((t ∷ ts) ∷ (f ∷ gs))) (λ e. omega (arith, h.0)))
    (record { groups = (t ∷ ts) ∷ (f ∷ gs); depth = refl; same_total = refl; same-flat = refl; same-copies = refl; still-plain = λ p. p; stack = h; first = tt })

-- ---- the turns of the loop that closes

pub closed_on : (st : List ℕ) (n d : ℕ) → 0 < d → get_or st (d - 1) 0 ≡ n → closed st n (d - 1) ≡ closed st n d
unfolding closed
closed_on st n zero l e = absurd (omega arith)
closed_on st n (suc d) l e =
    let z : suc d - 1 ≡ d = omega arith in
    let f : get_or st d 0 ≡ n = rw z at e in
    rw (z, eq-eqb (get_or st d 0) n f)

pub closed-stop : (st : List ℕ) (n d : ℕ) → 0 < d → (get_or st (d - 1) 0 ≡ n → ⊥) → d ≡ closed st n d
unfolding closed
closed-stop st n zero l e = absurd (omega arith)
closed-stop st n (suc d) l e =
    let z : suc d - 1 ≡ d = omega arith in
    rw (ne_eqb (get_or st d 0) n (λ f. e (rw z f)))

pub closed_none : (st : List ℕ) (n d : ℕ) → d ≤ 0 → d ≡ closed st n d
unfolding closed
closed_none st n zero l = refl
closed_none st n (suc d) l = absurd (omega arith)
