-- A program's bytes are read back as that program, and the bytes of a file without faults 1 to 4 are those of its program. Assumes nothing.
use mathlib.Core.Bool.{Bool, true, false, cond, ◌&&◌}
use mathlib.Core.List.{List, [], ◌∷◌, ◌++◌, append-nil, Memᴰ}
use Rattle.std.specs.Prelude.{None, Some}
use Rattle.std.proofs.lemmas.Option.{none-some}
use mathlib.Core.Path.{◌≡◌, refl, sym, ap, ap₂, ◌∙◌}
use Prim.Native.Nat.{ℕ, suc, ◌+◌, ◌*◌, ◌^◌, ◌<◌, ◌≤◌}
use native.Mathlib.Omega.{arith}
use native.Mathlib.Numerals.{add-one}
use lib.Dec.{eqb, ltb}
use lib.ListN.{length, drop, length-drop, take-append-drop, drop_of_length-le}
use lib.Seq.{drop_at, drop-drop, drop-cons}
use borrow.Author.Tests.{lt-ltb, ltb-true, eqb-true, eq-eqb}
use Rattle.words.specs.Bytes.{bytes, part, AllBytes, bytes-part}
use Rattle.calculus.specs.Lists.{each}
use Rattle.calculus.specs.Term.{Term, Program, records, definition_records}
use Rattle.calculus.specs.Term.Term.{var, fun, con, lam, app, call_event, emit, sum, branch}
use Rattle.terms.specs.Record.{count, spare_at, record8}
use Rattle.terms.specs.Encode.{encode, Fits, Clean, encode_from, encode_program}
use Rattle.terms.proofs.Encode.{encode-length, record-inside, record-kind, record-number, record-rest, encode-stands, stands-part}
use Rattle.terms.proofs.Stands.{At, Stands, stands-within}
use Rattle.script.specs.Check.{misnumbered}
use Rattle.script.specs.File.{Definition, File, file_of, program_of}
use Rattle.script.specs.File.File.{whole, broken}
use Rattle.script.proofs.Each.{Between}
use Rattle.script.proofs.Laid.{Laid, bodies_of, laid-file}

-- Every number of the program's records fits its four bytes, those of its definitions too.
pub record FitsProgram (S : Program) : Type 0 where
  pub bodies : (b : Term) → Memᴰ b S.definitions → Fits b
  pub main : Fits S.main
  pub few : length S.definitions ≤ 2 ^ 32

-- The definitions that lie from record i on, numbered from f on, with these bodies.
unfoldable pub numbered : ℕ → ℕ → List Term → List Definition
numbered i f [] = []
numbered i f (b ∷ bs) = record { place = i; number = f; body = b } ∷ numbered (i + 1 + records b) (suc f) bs

-- Their bodies are those that were given.
pub numbered-bodies : (i f : ℕ) (bs : List Term) → bodies_of (numbered i f bs) ≡ bs
unfolding numbered each
numbered-bodies i f [] = refl
numbered-bodies i f (b ∷ bs) = ap (λ (l : List Term). b ∷ l) (numbered-bodies (i + 1 + records b) (suc f) bs)

-- ---- reading back

-- A term has a record.
pub records-some : (t : Term) → 1 ≤ records t
unfolding records
records-some (var n) = omega arith
records-some (fun n) = omega arith
records-some (con n) = omega arith
records-some (lam n b) = omega arith
records-some (app a b) = omega arith
records-some (call_event n a r) = omega arith
records-some (emit n a r) = omega arith
records-some (sum a b) = omega arith
records-some (branch c a b) = omega arith

-- What lies after a term.
pub after-term : (s : List ℕ) (i : ℕ) (t : Term) (rest : List ℕ) → drop (8 * i) s ≡ encode t ++ rest → drop (8 * (i + records t)) s ≡ rest
after-term s i t rest e =
    let q : 8 * (i + records t) ≡ 8 * i + 8 * records t = omega arith in
    ap (λ (z : ℕ). drop z s) q ∙ sym (drop-drop (8 * records t) (8 * i) s) ∙ ap (drop (8 * records t)) e ∙ drop_at (encode t) rest (8 * records t) (encode-length t)

-- A program's bytes are laid out as its definitions, numbered in order, and its main term.
pub encode-laid : (s : List ℕ) (i f : ℕ) (bs : List Term) (e : Term) (m : ℕ) → ((b : Term) → Memᴰ b bs → Fits b) → Fits e → f + length bs ≤ 2 ^ 32
    → m ≡ i + definition_records bs → drop (8 * i) s ≡ encode_from f bs e → Laid s i (numbered i f bs) m e
unfolding numbered definition_records
encode-laid s i f [] e m hs h l q d =
    (q ∙ omega arith, encode-stands s i e [] h (d ∙ sym (append-nil (encode e))), omega (arith, length-drop (8 * i) s, ap length d, encode-length e, records-some e))
encode-laid s i f (b ∷ bs) e m hs h l q d =
    let rest : List ℕ = encode_from (suc f) bs e in
    let after : drop (8 * (i + 1)) s ≡ encode b ++ rest = record-rest s i 8 f (encode b ++ rest) d in (
      refl,
      record { inside = record-inside s i 8 f (encode b ++ rest) d; kind = record-kind s i 8 f (encode b ++ rest) d; number = record-number s i 8 f (encode b ++ rest) d (omega arith) },
      encode-stands s (i + 1) b rest (hs b (Memᴰ.head refl)) after,
      encode-laid s (i + 1 + records b) (suc f) bs e m (λ c w. hs c (Memᴰ.tail w)) h (omega arith) (omega arith) (after-term s (i + 1) b rest after),
    )

module _ (S : Program) (h : FitsProgram S) where
  -- The file of a program's bytes.
  pub file-encode : file_of (encode_program S) ≡ whole (numbered 0 0 S.definitions) (definition_records S.definitions) S.main
  file-encode =
      laid-file (encode_program S) 0 (numbered 0 0 S.definitions) (definition_records S.definitions) S.main
      (encode-laid (encode_program S) 0 0 S.definitions S.main (definition_records S.definitions) h.bodies h.main (omega (arith, h.few)) (omega arith) refl)

-- The program of a file; nothing is said of a broken one.
abbrev pub ProgramIs : File → Program → Type 0
ProgramIs (whole ds i e) S = program_of ds e ≡ S
ProgramIs (broken j) S = ⊥

-- Reading back a program's bytes gives the program.
pub read-program : (S : Program) → FitsProgram S → ProgramIs (file_of (encode_program S)) S
read-program S h = rw (file-encode S h) (ap (λ (bs : List Term). record { definitions = bs; main = S.main }) (numbered-bodies 0 0 S.definitions))

-- A file has one program.
program-one : (f : File) (S S' : Program) → ProgramIs f S → ProgramIs f S' → S ≡ S'
program-one (whole ds i e) S S' p q = sym p ∙ q
program-one (broken j) S S' p q = absurd p

-- No two programs have the same bytes.
pub encode-program-one : (S S' : Program) → FitsProgram S → FitsProgram S' → encode_program S ≡ encode_program S' → S ≡ S'
encode-program-one S S' h g e = program-one (file_of (encode_program S)) S S' (read-program S h) (rw e (read-program S' g))

-- ---- the bytes of a file

-- The definitions are numbered from f on, and there are at most 128.
abbrev pub Numbered : ℕ → List Definition → Type 0
Numbered f [] = Unit {0}
Numbered f (d ∷ ds) = (d.number ≡ f) × (f < 128) × Numbered (suc f) ds

-- They are where number 4 is not due, …
pub misnumbered-none : (f : ℕ) (ds : List Definition) → misnumbered f ds ≡ None → Numbered f ds
unfolding misnumbered
misnumbered-none f [] e = tt
misnumbered-none f (d ∷ ds) e = on (eqb d.number f) (ltb f 128) refl refl (λ q. misnumbered-none (suc f) ds q) e
  where
    on : (a b : Bool) → eqb d.number f ≡ a → ltb f 128 ≡ b → (misnumbered (suc f) ds ≡ None → Numbered (suc f) ds)
        → cond (a && b) (misnumbered (f + 1) ds) (Some d.place) ≡ None → Numbered f (d ∷ ds)
    on true true p q below r = (eqb-true d.number f p, ltb-true f 128 q, below (rw (add-one f) at r))
    on true false p q below r = absurd (none-some d.place (sym r))
    on false b p q below r = absurd (none-some d.place (sym r))

-- … and there only.
pub none-misnumbered : (f : ℕ) (ds : List Definition) → Numbered f ds → misnumbered f ds ≡ None
unfolding misnumbered
none-misnumbered f [] h = refl
none-misnumbered f (d ∷ ds) h =
    rw (eq-eqb d.number f h.0, lt-ltb f 128 h.1, add-one f) (none-misnumbered (suc f) ds h.2)

-- Definitions that are numbered in order are, where they are few enough.
pub numbered-order : (i f : ℕ) (bs : List Term) → f + length bs ≤ 128 → Numbered f (numbered i f bs)
unfolding numbered
numbered-order i f [] h = tt
numbered-order i f (b ∷ bs) h = (refl, omega arith, numbered-order (i + 1 + records b) (suc f) bs (omega arith))

-- The bytes from a place on, by those of a part.
drop-part : (s : List ℕ) (p p' n r : ℕ) (l : List ℕ) → p ≡ p' → r ≡ p' + n → part s p' n ≡ l → drop p s ≡ l ++ drop r s
unfolding part
drop-part s p p' n r l e q h =
    ap (λ (z : ℕ). drop z s) e ∙ sym (take-append-drop n (drop p' s))
    ∙ ap₂ (λ (x y : List ℕ). x ++ y) h (drop-drop n p' s ∙ ap (λ (z : ℕ). drop z s) (sym q))

module _ (s : List ℕ) (b : AllBytes s) where
  -- The bytes of a clean record and those after it.
  record-bytes : (i k n : ℕ) → At s i k n → spare_at s i ≡ 0 → drop (8 * i) s ≡ record8 k n (drop (8 * (i + 1)) s)
  unfolding bytes
  record-bytes i k n h z =
      let spare : part s (8 * i + 1) 3 ≡ 0 ∷ 0 ∷ 0 ∷ [] = sym (bytes-part s (8 * i + 1) 3 b (omega arith)) ∙ ap (bytes 3) z in
      let last : part s (8 * i + 4) 4 ≡ bytes 4 n = sym (bytes-part s (8 * i + 4) 4 b (omega arith)) ∙ ap (bytes 4) h.number in
      drop-cons s (8 * i) 0 (omega arith)
      ∙ ap₂ (λ (x : ℕ) (l : List ℕ). x ∷ l) h.kind
      (drop-part s (suc (8 * i)) (8 * i + 1) 3 (8 * i + 4) (0 ∷ 0 ∷ 0 ∷ []) (omega arith) (omega arith) spare
      ∙ ap (λ (l : List ℕ). 0 ∷ 0 ∷ 0 ∷ l) (drop-part s (8 * i + 4) (8 * i + 4) 4 (8 * (i + 1)) (bytes 4 n) refl (omega arith) last))

  -- The bytes of a term in clean records and those after it.
  term-bytes : (i : ℕ) (t : Term) → Stands s i t → Between (Clean s) i (i + records t) → drop (8 * i) s ≡ encode t ++ drop (8 * (i + records t)) s
  term-bytes i t h c = drop-part s (8 * i) (8 * i) (8 * records t) (8 * (i + records t)) (encode t) refl (omega arith) (stands-part s b i t h c)

  -- The bytes of a file with clean records and definitions numbered in order are its program's.
  pub laid-bytes : length s ≡ 8 * count s → Between (Clean s) 0 (count s) → (i f : ℕ) (ds : List Definition) (m : ℕ) (e : Term)
      → Laid s i ds m e → Numbered f ds → drop (8 * i) s ≡ encode_from f (bodies_of ds) e
  unfolding each
  laid-bytes l c i f [] m e h n =
      let past : length s ≤ 8 * (i + records e) = omega arith in
      term-bytes i e h.1 (λ k p q. c k (omega arith) (omega arith))
      ∙ ap (λ (x : List ℕ). encode e ++ x) (drop_of_length-le s past)
      ∙ append-nil (encode e)
  laid-bytes l c i f (d ∷ ds) m e h n =
      let w = stands-within s (i + 1) d.body h.2 in
      record-bytes i 8 d.number h.1 (c i (omega arith) (omega arith)).spare
      ∙ ap₂ (record8 8) n.0
      (term-bytes (i + 1) d.body h.2 (λ k p q. c k (omega arith) (omega arith))
      ∙ ap (λ (x : List ℕ). encode d.body ++ x) (laid-bytes l c (i + 1 + records d.body) (suc f) ds m e h.3 n.2))
