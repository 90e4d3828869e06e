-- A file's definitions and main term, as they stand in its records: `file_from` finds what is laid so, and what it finds is laid so. Assumes nothing.
use mathlib.Core.Bool.{Bool, true, false, cond, ◌&&◌}
use mathlib.Core.List.Memᴰ
use mathlib.Core.List.{List, [], ◌∷◌, Memᴰ}
use mathlib.Core.Path.{◌≡◌, refl, sym, ap, ap₂, subst, ◌∙◌}
use Prim.Native.Nat.{ℕ, ◌+◌, ◌≤◌}
use native.Mathlib.Omega.{arith}
use lib.Dec.{eqb, ltb}
use borrow.Author.Tests.{lt-ltb, ltb-true, eqb-true, eq-eqb, ne_eqb}
use Rattle.calculus.specs.Lists.{each}
use Rattle.calculus.specs.Term.{Term, records}
use Rattle.calculus.specs.Term.Term.{var, fun, con, lam, app, call_event, emit, sum, branch}
use Rattle.terms.specs.Record.{count, kind_at, record_number}
use Rattle.terms.specs.Read.{Read, read_at}
use Rattle.terms.specs.Read.Read.{got, stuck}
use Rattle.terms.proofs.Stands.{At, Stands, stands_read, read-stands}
use Rattle.script.specs.File.{Definition, File, add_definition, definition_at, main_at, is_definition, file_step, file_from}
use Rattle.script.specs.File.File.{whole, broken}
use Rattle.script.specs.File.Laws.{file-step, file-ind}
use Rattle.script.proofs.Due.{both_true}
use Rattle.script.proofs.Each.{Between, between-one, between_join, Each, each-into, each_from}

-- From record i on the definitions stand, each its record and its body, then the main term at record m, and then the file ends.
abbrev pub Laid : List ℕ → ℕ → List Definition → ℕ → Term → Type 0
Laid s i [] m e = (m ≡ i) × Stands s i e × (i + records e ≡ count s)
Laid s i (d ∷ ds) m e = (d.place ≡ i) × At s i 8 d.number × Stands s (i + 1) d.body × Laid s (i + 1 + records d.body) ds m e

-- The bodies of definitions, in order.
abbrev pub bodies_of : List Definition → List Term
bodies_of ds = each (λ d. d.body ∷ []) ds

-- ---- what is laid is found

-- No term begins with kind 8.
first_kind : (s : List ℕ) (i : ℕ) (t : Term) → Stands s i t → kind_at s i ≡ 8 → ⊥
first_kind s i (var n) h = λ e. omega arith
first_kind s i (fun n) h = λ e. omega arith
first_kind s i (con n) h = λ e. omega arith
first_kind s i (lam n b) h = λ e. omega arith
first_kind s i (app a b) h = λ e. omega arith
first_kind s i (call_event n a r) h = λ e. omega arith
first_kind s i (emit n a r) h = λ e. omega arith
first_kind s i (sum a b) h = λ e. omega arith
first_kind s i (branch c a b) h = λ e. omega arith

-- A record of kind 8 begins a definition.
definition-here : (s : List ℕ) (i n : ℕ) → At s i 8 n → is_definition s i ≡ true
definition-here s i n h = rw (lt-ltb i (count s) h.inside, h.kind)

-- A test that fails, and another.
and_no : (a b : Bool) → b ≡ false → a && b ≡ false
and_no true b e = e
and_no false b e = refl

-- A term's record does not.
term-here : (s : List ℕ) (i : ℕ) (t : Term) → Stands s i t → is_definition s i ≡ false
term-here s i t h = and_no (ltb i (count s)) (eqb (kind_at s i) 8) (ne_eqb (kind_at s i) 8 (first_kind s i t h))

-- What is laid is found.
pub laid-file : (s : List ℕ) (i : ℕ) (ds : List Definition) (m : ℕ) (e : Term) → Laid s i ds m e → file_from s i ≡ whole ds m e
laid-file s i [] m e h =
    rw (file-step s i, term-here s i e h.1, stands_read s i e h.1, eq-eqb (i + records e) (count s) h.2) (ap (λ (x : ℕ). whole [] x e) (sym h.0))
laid-file s i (d ∷ ds) m e h =
    rw (file-step s i, definition-here s i d.number h.1, stands_read s (i + 1) d.body h.2, laid-file s (i + 1 + records d.body) ds m e h.3)
    (ap₂ (λ (x y : ℕ). whole (record { place = x; number = y; body = d.body } ∷ ds) m e) (sym h.0) h.1.number)

-- ---- what is found is laid

-- What the answer says.
abbrev Sound : List ℕ → ℕ → File → Type 0
Sound s i (whole ds m e) = Laid s i ds m e
Sound s i (broken j) = Unit {0}

-- A definition begins with a record of kind 8.
definition-at : (s : List ℕ) (i : ℕ) → is_definition s i ≡ true → At s i 8 (record_number s i)
definition-at s i e =
    let p = both_true (ltb i (count s)) (eqb (kind_at s i) 8) e in
    record { inside = ltb-true i (count s) p.0; kind = eqb-true (kind_at s i) 8 p.1; number = refl }

-- A definition and what is laid after it.
add-sound : (s : List ℕ) (i : ℕ) (b : Term) (f : File) → At s i 8 (record_number s i) → Stands s (i + 1) b → Sound s (i + 1 + records b) f
    → Sound s i (add_definition record { place = i; number = record_number s i; body = b } f)
add-sound s i b (whole ds m e) h g r = (refl, h, g, r)
add-sound s i b (broken j) h g r = tt

-- A definition whose body is read.
definition-sound : (s : List ℕ) (i : ℕ) (r : Read) (go : ℕ → File) → At s i 8 (record_number s i) → read_at s (i + 1) ≡ r → ((j : ℕ) → Sound s j (go j))
    → Sound s i (definition_at s i r go)
definition-sound s i (got b j) go h e g =
    let p = read-stands s (i + 1) b j e in
    add-sound s i b (go j) h p.0 (subst (λ (k : ℕ). Sound s k (go j)) p.1 (g j))
definition-sound s i (stuck j) go h e g = tt

-- A main term, if the file ends after it.
main-by : (s : List ℕ) (i : ℕ) (e : Term) (j : ℕ) (b : Bool) → eqb j (count s) ≡ b → Stands s i e → j ≡ i + records e → Sound s i (cond b (whole [] i e) (broken j))
main-by s i e j true q h p = (refl, h, sym p ∙ eqb-true j (count s) q)
main-by s i e j false q h p = tt

-- A main term that is read.
main-sound : (s : List ℕ) (i : ℕ) (r : Read) → read_at s i ≡ r → Sound s i (main_at s i r)
main-sound s i (got e j) q = let p = read-stands s i e j q in main-by s i e j (eqb j (count s)) refl p.0 p.1
main-sound s i (stuck j) q = tt

-- One definition or the main term.
step-sound : (s : List ℕ) (i : ℕ) (d : Bool) (go : ℕ → File) → is_definition s i ≡ d → ((j : ℕ) → Sound s j (go j)) → Sound s i (file_step d s i go)
step-sound s i true go e g = definition-sound s i (read_at s (i + 1)) go (definition-at s i e) refl g
step-sound s i false go e g = main-sound s i (read_at s i) refl

-- The whole file.
sound : (s : List ℕ) (i : ℕ) → Sound s i (file_from s i)
sound s = file-ind (Sound s) s (λ i. tt) (λ i go g. step-sound s i (is_definition s i) go refl g)

-- What is found is laid.
pub file-laid : (s : List ℕ) (i : ℕ) (ds : List Definition) (m : ℕ) (e : Term) → file_from s i ≡ whole ds m e → Laid s i ds m e
file-laid s i ds m e q = rw q at (sound s i)

-- ---- a claim about every record

-- Every record of the definitions and the main term that begin at record i.
abbrev pub EachIn : (ℕ → Type 0) → ℕ → List Definition → Term → Type 0
EachIn P i [] e = Each P i e
EachIn P i (d ∷ ds) e = P i × Each P (i + 1) d.body × EachIn P (i + 1 + records d.body) ds e

-- Where the file ends after the definitions and the main term.
laid-within : (s : List ℕ) (i : ℕ) (ds : List Definition) (m : ℕ) (e : Term) → Laid s i ds m e → i ≤ count s
laid-within s i [] m e h = omega arith
laid-within s i (d ∷ ds) m e h = omega (arith, laid-within s (i + 1 + records d.body) ds m e h.3)

module _ (s : List ℕ) (P : ℕ → Type 0) (m : ℕ) (e : Term) where
  -- From the range to the definitions and the main term.
  pub in-into : (i : ℕ) (ds : List Definition) → Laid s i ds m e → Between P i (count s) → EachIn P i ds e
  in-into i [] h c = each-into P i e (λ k p q. c k p (omega arith))
  in-into i (d ∷ ds) h c =
      let w = laid-within s (i + 1 + records d.body) ds m e h.3 in (
        c i (omega arith) (omega arith),
        each-into P (i + 1) d.body (λ k p q. c k (omega arith) (omega arith)),
        in-into (i + 1 + records d.body) ds h.3 (λ k p q. c k (omega arith) q),
      )

  -- And back.
  pub in-from : (i : ℕ) (ds : List Definition) → Laid s i ds m e → EachIn P i ds e → Between P i (count s)
  in-from i [] h c = λ k p q. each_from P i e c k p (omega arith)
  in-from i (d ∷ ds) h c =
      between_join P i (i + 1) (count s) (between-one P i c.0)
      (between_join P (i + 1) (i + 1 + records d.body) (count s) (each_from P (i + 1) d.body c.1) (in-from (i + 1 + records d.body) ds h.3 c.2))

-- ---- a claim about every term

-- Of each body and of the main term.
pub record Every (Q : Term → Type 0) (bs : List Term) (e : Term) : Type 0 where
  pub bodies : (b : Term) → Memᴰ b bs → Q b
  pub main : Q e

-- One more body.
every_more : (Q : Term → Type 0) (a : Term) (bs : List Term) (e : Term) → Q a → Every Q bs e → Every Q (a ∷ bs) e
every_more Q a bs e h g = record { bodies = more; main = g.main }
  where
    more : (b : Term) → Memᴰ b (a ∷ bs) → Q b
    more b (Memᴰ.head q) = rw q h
    more b (Memᴰ.tail w) = g.bodies b w

module _ (s : List ℕ) (P : ℕ → Type 0) (Q : Term → Type 0) (m : ℕ) (e : Term) where
  -- A claim about the records of a term says something of the term: it does so of the file's terms.
  pub every-into : ((i : ℕ) (t : Term) → Stands s i t → Each P i t → Q t) → (i : ℕ) (ds : List Definition) → Laid s i ds m e → EachIn P i ds e → Every Q (bodies_of ds) e
  unfolding each
  every-into f i [] h c = record { bodies = λ b w. absurd (Memᴰ.not-nil w); main = f i e h.1 c }
  every-into f i (d ∷ ds) h c =
      every_more Q d.body (bodies_of ds) e (f (i + 1) d.body h.2 c.1) (every-into f (i + 1 + records d.body) ds h.3 c.2)

  -- And back, where it holds of the records of definitions.
  pub every-from : ((i : ℕ) (t : Term) → Stands s i t → Q t → Each P i t) → ((i n : ℕ) → At s i 8 n → P i)
      → (i : ℕ) (ds : List Definition) → Laid s i ds m e → Every Q (bodies_of ds) e → EachIn P i ds e
  unfolding each
  every-from f g i [] h c = f i e h.1 c.main
  every-from f g i (d ∷ ds) h c = (
    g i d.number h.1,
    f (i + 1) d.body h.2 (c.bodies d.body (Memᴰ.head refl)),
    every-from f g (i + 1 + records d.body) ds h.3 record { bodies = λ b w. c.bodies b (Memᴰ.tail w); main = c.main },
  )
