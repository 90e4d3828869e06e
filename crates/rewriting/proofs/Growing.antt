-- The bytes that are written are those of the rewritten program. Assumes nothing.
use mathlib.Core.Bool.{Bool, true, false, cond}
use mathlib.Core.List.{List, [], ◌∷◌, ◌++◌, append_assoc, append-nil}
use mathlib.Core.Path.{◌≡◌, refl, sym, ap, ap₂, ◌∙◌}
use Prim.Native.Nat.{ℕ, zero, suc, ◌+◌, ◌-◌, ◌*◌, ◌<◌, ◌≤◌}
use native.Mathlib.Omega.{arith}
use native.Mathlib.Nat.{add-zero, sub-zero}
use native.Mathlib.Numerals.{add-one}
use lib.ListN.{length, get_or, take, drop}
use lib.Seq.{take_at}
use Rattle.words.specs.Bytes.{bytes, part, part_none, part-append}
use Rattle.calculus.specs.Lists.{each}
use Rattle.calculus.specs.Term.{Term, records, definition_records}
use Rattle.calculus.specs.Term.Term.{var, fun, con, lam, app, call_event, emit, sum, branch}
use Rattle.calculus.specs.Guideline.{Guideline}
use Rattle.calculus.specs.Rewriting.{logged, noted, instrument, rewrite_from}
use Rattle.terms.specs.Record.{count, kind_at, record_number, record8}
use Rattle.terms.specs.Encode.{encode, encode_from}
use Rattle.terms.proofs.Encode.{encode-length, record-rest, record-length}
use Rattle.terms.proofs.Stands.{At, Stands, stands-within}
use Rattle.script.specs.File.{Definition}
use Rattle.script.proofs.Each.{Between, Each, each_from}
use Rattle.script.proofs.Laid.{Laid, bodies_of}
use Rattle.script.proofs.Program.{Numbered, after-term}
use Rattle.rewriting.specs.Marks.{gains}
use Rattle.rewriting.specs.Grown.{gain_at, command, commands, grown}
use Rattle.rewriting.proofs.Marking.{gain_of, gain-other, gain-of}
use Rattle.rewriting.proofs.Commands.{record-front, commands-none}

-- ---- a body

-- The commands of a function, then the body that it had.
instrument-bytes : (G : Guideline) (f : ℕ) (b : Term) → encode (instrument G f b) ≡ commands (gain_of G f) f ++ encode b
unfolding instrument gain_of commands command
instrument-bytes G f b = on (logged G f) (noted G f)
  where
    call : (k : ℕ) (l : List ℕ) → record8 k f (record8 1 0 [] ++ l) ≡ record8 k f (record8 1 0 []) ++ l
    call k l = ap (λ (x : List ℕ). k ∷ 0 ∷ 0 ∷ 0 ∷ x) (sym (append_assoc (bytes 4 f) (record8 1 0 []) l))

    on : (x y : Bool)
        → encode (cond x (call_event f (var 0) (emit f (var 0) b)) (cond y (call_event f (var 0) b) b))
        ≡ commands (cond x 4 (cond y 2 0)) f ++ encode b
    on true y =
        call 6 (record8 7 f (record8 1 0 [] ++ encode b))
        ∙ ap (λ (x : List ℕ). record8 6 f (record8 1 0 []) ++ x) (call 7 (encode b))
        ∙ sym (append_assoc (record8 6 f (record8 1 0 [])) (record8 7 f (record8 1 0 [])) (encode b))
    on false true = call 6 (encode b)
    on false false = refl

-- The records that it gains.
instrument-records : (G : Guideline) (f : ℕ) (b : Term) → records (instrument G f b) ≡ gain_of G f + records b
unfolding instrument gain_of records
instrument-records G f b = on (logged G f) (noted G f)
  where
    on : (x y : Bool) → records (cond x (call_event f (var 0) (emit f (var 0) b)) (cond y (call_event f (var 0) b) b)) ≡ cond x 4 (cond y 2 0) + records b
    on true y = omega arith
    on false true = omega arith
    on false false = omega arith

-- ---- records that are no definitions

-- The kinds of a term's records.
stands-low : (s : List ℕ) (i : ℕ) (t : Term) → Stands s i t → Each (λ j. kind_at s j ≡ 8 → ⊥) i t
stands-low s i (var n) h = λ e. omega arith
stands-low s i (fun n) h = λ e. omega arith
stands-low s i (con n) h = λ e. omega arith
stands-low s i (lam n b) h = (λ e. omega arith, stands-low s (i + 1) b h.1)
stands-low s i (app a b) h = (λ e. omega arith, stands-low s (i + 1) a h.1, stands-low s (i + 1 + records a) b h.2)
stands-low s i (call_event n a r) h = (λ e. omega arith, stands-low s (i + 1) a h.1, stands-low s (i + 1 + records a) r h.2)
stands-low s i (emit n a r) h = (λ e. omega arith, stands-low s (i + 1) a h.1, stands-low s (i + 1 + records a) r h.2)
stands-low s i (sum a b) h = (λ e. omega arith, stands-low s (i + 1) a h.1, stands-low s (i + 1 + records a) b h.2)
stands-low s i (branch c a b) h = (λ e. omega arith, stands-low s (i + 1) c h.1, stands-low s (i + 1 + records c) a h.2, stands-low s (i + 1 + records c + records a) b h.3)

module _ (ms s : List ℕ) where
  -- They are copied.
  grown-low : (k i n : ℕ) → k ≤ n → Between (λ j. kind_at s j ≡ 8 → ⊥) i (i + k) → grown ms s i n ≡ part s (8 * i) (8 * k) ++ grown ms s (i + k) (n - k)
  unfolding grown
  grown-low zero i n l h = rw (part_none s (8 * i), add-zero i, sub-zero n)
  grown-low (suc k) i zero l h = absurd (omega arith)
  grown-low (suc k) i (suc n) l h =
      let z : gain_at ms s i ≡ 0 = gain-other ms s i (h i (omega arith) (omega arith)) in
      let q : 8 * suc k ≡ 8 + 8 * k = omega arith in
      let p : 8 * i + 8 ≡ 8 * (i + 1) = omega arith in
      let a : i + suc k ≡ i + 1 + k = omega arith in
      let d : suc n - suc k ≡ n - k = omega arith in
      ap (λ (x : List ℕ). part s (8 * i) 8 ++ (x ++ grown ms s (i + 1) n)) (commands-none (gain_at ms s i) (record_number s i) z)
      ∙ ap (λ (x : List ℕ). part s (8 * i) 8 ++ x) (grown-low k (i + 1) n (omega arith) (λ j u v. h j (omega arith) (omega arith)))
      ∙ rw (q, part-append s (8 * i) 8 (8 * k), p, a, d) (sym (append_assoc (part s (8 * i) 8) (part s (8 * (i + 1)) (8 * k)) (grown ms s (i + 1 + k) (n - k))))

  -- So is a term.
  grown-term : (i n : ℕ) (t : Term) (rest : List ℕ) → Stands s i t → drop (8 * i) s ≡ encode t ++ rest → records t ≤ n
      → grown ms s i n ≡ encode t ++ grown ms s (i + records t) (n - records t)
  unfolding part
  grown-term i n t rest h e l =
      grown-low (records t) i n l (each_from (λ j. kind_at s j ≡ 8 → ⊥) i t (stands-low s i t h))
      ∙ ap (λ (x : List ℕ). x ++ grown ms s (i + records t) (n - records t)) (ap (take (8 * records t)) e ∙ take_at (encode t) rest (8 * records t) (encode-length t))

-- ---- the program

-- The marks are those of the guideline.
abbrev pub Marked : Guideline → List ℕ → Type 0
Marked G ms = (f : ℕ) → f < 128 → get_or ms f 0 ≡ gain_of G f

-- The record of a definition, at the front of what lies there.
front-part : (s : List ℕ) (i k n : ℕ) (rest : List ℕ) → drop (8 * i) s ≡ record8 k n rest → part s (8 * i) 8 ≡ record8 k n []
unfolding part
front-part s i k n rest d = ap (take 8) (d ∙ sym (record-front k n rest)) ∙ take_at (record8 k n []) rest 8 (record-length k n [])

module _ (G : Guideline) (ms s : List ℕ) (marked : Marked G ms) (m : ℕ) (e : Term) where
  -- The mark of a definition's record.
  gain-here : (i f k : ℕ) → At s i 8 k → k ≡ f → f < 128 → gain_at ms s i ≡ gain_of G f
  gain-here i f k a q l = gain-of ms s i a.kind (sym q ∙ sym a.number) l ∙ marked f l

  -- What is written from a definition on.
  pub grown-program : (i f : ℕ) (ds : List Definition) → Laid s i ds m e → Numbered f ds → drop (8 * i) s ≡ encode_from f (bodies_of ds) e
      → grown ms s i (count s - i) ≡ encode_from f (rewrite_from G f (bodies_of ds)) e
  unfolding grown each rewrite_from
  grown-program i f [] h n d =
      let q : count s - i ≡ records e = omega arith in
      let z : records e - records e ≡ 0 = omega arith in
      ap (grown ms s i) q
      ∙ grown-term ms s i (records e) e [] h.1 (d ∙ sym (append-nil (encode e))) (omega arith)
      ∙ ap (λ (x : ℕ). encode e ++ grown ms s (i + records e) x) z
      ∙ append-nil (encode e)
  grown-program i f (b ∷ ds) h n d =
      let t : Term = b.body in
      let rest : List ℕ = encode_from (suc f) (bodies_of ds) e in
      let new : List ℕ = encode_from (suc f) (rewrite_from G (suc f) (bodies_of ds)) e in
      let w = stands-within s (i + 1) t h.2 in
      let q : count s - i ≡ suc (count s - (i + 1)) = omega arith in
      let p : count s - (i + 1) - records t ≡ count s - (i + 1 + records t) = omega arith in
      let after : drop (8 * (i + 1)) s ≡ encode t ++ rest = record-rest s i 8 f (encode t ++ rest) d in
      let below : grown ms s (i + 1) (count s - (i + 1)) ≡ encode t ++ new =
      grown-term ms s (i + 1) (count s - (i + 1)) t rest h.2 after (omega arith)
      ∙ ap (λ (x : ℕ). encode t ++ grown ms s (i + 1 + records t) x) p
      ∙ ap (λ (x : List ℕ). encode t ++ x) (grown-program (i + 1 + records t) (suc f) ds h.3 n.2 (after-term s (i + 1) t rest after)) in
      ap (grown ms s i) q
      ∙ ap₂ (λ (x y : List ℕ). x ++ y) (front-part s i 8 f (encode t ++ rest) d)
      (ap₂ (λ (x y : List ℕ). x ++ y) (ap₂ commands (gain-here i f b.number h.1 n.0 n.1) (h.1.number ∙ n.0)) below)
      ∙ record-front 8 f (commands (gain_of G f) f ++ (encode t ++ new))
      ∙ ap (record8 8 f) (sym (append_assoc (commands (gain_of G f) f) (encode t) new) ∙ ap (λ (x : List ℕ). x ++ new) (sym (instrument-bytes G f t)))

-- ---- how many records it has

module _ (G : Guideline) (ms : List ℕ) (marked : Marked G ms) where
  -- The definitions' records grow by the marks.
  pub definitions-grow : (f : ℕ) (bs : List Term) → f + length bs ≤ 128 → definition_records (rewrite_from G f bs) ≡ gains ms f (length bs) + definition_records bs
  unfolding gains rewrite_from definition_records
  definitions-grow f [] h = refl
  definitions-grow f (b ∷ bs) h = rw (instrument-records G f b, definitions-grow (suc f) bs (omega arith), add-one f, marked f (omega arith)) (omega arith)
