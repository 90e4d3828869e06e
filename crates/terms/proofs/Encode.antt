-- The bytes of a term are read back as that term, and the bytes that are read are those of the term. Assumes nothing.
use mathlib.Core.Bool.{Bool, true}
use mathlib.Core.List.{List, [], ◌∷◌, ◌++◌, append_assoc, append-nil}
use mathlib.Core.Logic.{inl, inr, ⊎_elim}
use mathlib.Core.Path.{◌≡◌, refl, sym, ap, ap₂, ◌∙◌}
use Prim.Native.Nat.{ℕ, suc, ◌+◌, ◌-◌, ◌*◌, ◌^◌, ◌<◌, ◌≤◌}
use native.Mathlib.Omega.{arith}
use lib.ListN.{length, get_or, take, drop, length-append, length-drop}
use lib.Seq.{take_at, drop_at, drop-drop, get_or-drop}
use borrow.Author.Tests.{eqb-true}
use Rattle.words.specs.Bytes.{number, bytes, part, AllBytes, bytes-length, number-bytes, number-below, bytes-part, part-below, part_length, part-cons, part-append}
use Rattle.calculus.specs.Term.{Term, records}
use Rattle.calculus.specs.Term.Term.{var, fun, con, lam, app, call_event, emit, sum, branch}
use Rattle.terms.specs.Record.{count, kind_at, spare_at, record_number, record8, in_range}
use Rattle.terms.specs.Read.{read_at, term_of, term_at}
use Rattle.terms.specs.Read.Read.{got}
use Rattle.terms.specs.Encode.{encode, Fits, Clean}
use Rattle.terms.proofs.Stands.{At, Stands, stands_read, read-stands}

-- ---- lengths

-- A record has eight bytes.
pub record-length : (k n : ℕ) (rest : List ℕ) → length (record8 k n rest) ≡ 8 + length rest
record-length k n rest = omega (arith, length-append (bytes 4 n) rest, bytes-length 4 n)

pair-length : (k n : ℕ) (xs ys : List ℕ) (a b : Term) → length xs ≡ 8 * records a → length ys ≡ 8 * records b
    → length (record8 k n (xs ++ ys)) ≡ 8 * suc (records a + records b)
pair-length k n xs ys a b p q = record-length k n (xs ++ ys) ∙ omega (arith, length-append xs ys)

-- A term has eight bytes for each of its records.
pub encode-length : (t : Term) → length (encode t) ≡ 8 * records t
unfolding records
encode-length (var n) = record-length 1 n []
encode-length (fun n) = record-length 2 n []
encode-length (con n) = record-length 3 n []
encode-length (lam n b) = record-length 4 n (encode b) ∙ omega (arith, encode-length b)
encode-length (app a b) = pair-length 5 0 (encode a) (encode b) a b (encode-length a) (encode-length b)
encode-length (call_event n a r) = pair-length 6 n (encode a) (encode r) a r (encode-length a) (encode-length r)
encode-length (emit n a r) = pair-length 7 n (encode a) (encode r) a r (encode-length a) (encode-length r)
encode-length (sum a b) = pair-length 9 0 (encode a) (encode b) a b (encode-length a) (encode-length b)
encode-length (branch c a b) =
    record-length 10 0 (encode c ++ (encode a ++ encode b))
    ∙ omega (arith, length-append (encode c) (encode a ++ encode b), length-append (encode a) (encode b), encode-length c, encode-length a, encode-length b)

-- ---- a record, from the bytes that lie there

at_drop : (s : List ℕ) (b m : ℕ) (l : List ℕ) → drop b s ≡ l → get_or s (b + m) 0 ≡ get_or l m 0
at_drop s b m l e = sym (get_or-drop b s m 0) ∙ ap (λ (x : List ℕ). get_or x m 0) e

drop_more : (s : List ℕ) (b m c : ℕ) (l : List ℕ) → drop b s ≡ l → c ≡ b + m → drop c s ≡ drop m l
drop_more s b m c l e q = ap (λ (z : ℕ). drop z s) q ∙ sym (drop-drop m b s) ∙ ap (drop m) e

module _ (s : List ℕ) (i k n : ℕ) (rest : List ℕ) (e : drop (8 * i) s ≡ record8 k n rest) where
  -- The record is in the file.
  pub record-inside : i < count s
  record-inside = omega (arith, length-drop (8 * i) s, ap length e, record-length k n rest)

  -- Its kind.
  pub record-kind : kind_at s i ≡ k
  record-kind = let q : 8 * i ≡ 8 * i + 0 = omega arith in ap (λ (z : ℕ). get_or s z 0) q ∙ at_drop s (8 * i) 0 (record8 k n rest) e

  -- Its spare bytes.
  pub record-spare : spare_at s i ≡ 0
  unfolding number part
  record-spare = ap (λ (l : List ℕ). number (take 3 l)) (drop_more s (8 * i) 1 (8 * i + 1) (record8 k n rest) e refl)

  -- Its number.
  pub record-number : n < 2 ^ 32 → record_number s i ≡ n
  unfolding part
  record-number h =
      ap (λ (l : List ℕ). number (take 4 l)) (drop_more s (8 * i) 4 (8 * i + 4) (record8 k n rest) e refl)
      ∙ ap number (take_at (bytes 4 n) rest 4 (bytes-length 4 n))
      ∙ number-bytes 4 n h

  -- What lies after it.
  pub record-rest : drop (8 * (i + 1)) s ≡ rest
  record-rest =
      drop_more s (8 * i) 8 (8 * (i + 1)) (record8 k n rest) e (omega arith) ∙ drop_at (bytes 4 n) rest 4 (bytes-length 4 n)

  record-at : n < 2 ^ 32 → At s i k n
  record-at h = record { inside = record-inside; kind = record-kind; number = record-number h }

-- ---- a term, from the bytes that lie there

module _ (s : List ℕ) (i k n : ℕ) (a b : Term) (rest : List ℕ) (e : drop (8 * i) s ≡ record8 k n (encode a ++ encode b) ++ rest) where
  pair-bytes : drop (8 * i) s ≡ record8 k n (encode a ++ (encode b ++ rest))
  pair-bytes =
      e ∙ ap (λ (l : List ℕ). k ∷ 0 ∷ 0 ∷ 0 ∷ l)
      (append_assoc (bytes 4 n) (encode a ++ encode b) rest ∙ ap (λ (l : List ℕ). bytes 4 n ++ l) (append_assoc (encode a) (encode b) rest))

  pair-first : drop (8 * (i + 1)) s ≡ encode a ++ (encode b ++ rest)
  pair-first = record-rest s i k n (encode a ++ (encode b ++ rest)) pair-bytes

  pair-second : drop (8 * (i + 1 + records a)) s ≡ encode b ++ rest
  pair-second =
      drop_more s (8 * (i + 1)) (8 * records a) (8 * (i + 1 + records a)) (encode a ++ (encode b ++ rest)) pair-first (omega arith)
      ∙ drop_at (encode a) (encode b ++ rest) (8 * records a) (encode-length a)

  pair-at : n < 2 ^ 32 → At s i k n
  pair-at = record-at s i k n (encode a ++ (encode b ++ rest)) pair-bytes

leaf-bytes : (k n : ℕ) (rest : List ℕ) → record8 k n [] ++ rest ≡ record8 k n rest
leaf-bytes k n rest = ap (λ (l : List ℕ). k ∷ 0 ∷ 0 ∷ 0 ∷ l) (append_assoc (bytes 4 n) [] rest)

leaf-at : (s : List ℕ) (i k n : ℕ) (rest : List ℕ) → n < 2 ^ 32 → drop (8 * i) s ≡ record8 k n [] ++ rest → At s i k n
leaf-at s i k n rest h e = record-at s i k n rest (e ∙ leaf-bytes k n rest) h

-- A term whose bytes lie at a record stands there.
pub encode-stands : (s : List ℕ) (i : ℕ) (t : Term) (rest : List ℕ) → Fits t → drop (8 * i) s ≡ encode t ++ rest → Stands s i t
encode-stands s i (var n) rest h e = leaf-at s i 1 n rest h e
encode-stands s i (fun n) rest h e = leaf-at s i 2 n rest h e
encode-stands s i (con n) rest h e = leaf-at s i 3 n rest h e
encode-stands s i (lam n b) rest h e =
    let q : drop (8 * i) s ≡ record8 4 n (encode b ++ rest) = e ∙ ap (λ (l : List ℕ). 4 ∷ 0 ∷ 0 ∷ 0 ∷ l) (append_assoc (bytes 4 n) (encode b) rest) in
    (record-at s i 4 n (encode b ++ rest) q h.0, encode-stands s (i + 1) b rest h.1 (record-rest s i 4 n (encode b ++ rest) q))
encode-stands s i (app a b) rest h e =
    let p = pair-at s i 5 0 a b rest e (omega arith) in (
      record { inside = p.inside; kind = p.kind; number = refl },
      encode-stands s (i + 1) a (encode b ++ rest) h.0 (pair-first s i 5 0 a b rest e),
      encode-stands s (i + 1 + records a) b rest h.1 (pair-second s i 5 0 a b rest e),
    )
encode-stands s i (call_event n a r) rest h e = (
  pair-at s i 6 n a r rest e h.0,
  encode-stands s (i + 1) a (encode r ++ rest) h.1 (pair-first s i 6 n a r rest e),
  encode-stands s (i + 1 + records a) r rest h.2 (pair-second s i 6 n a r rest e),
)
encode-stands s i (emit n a r) rest h e = (
  pair-at s i 7 n a r rest e h.0,
  encode-stands s (i + 1) a (encode r ++ rest) h.1 (pair-first s i 7 n a r rest e),
  encode-stands s (i + 1 + records a) r rest h.2 (pair-second s i 7 n a r rest e),
)
encode-stands s i (sum a b) rest h e =
    let p = pair-at s i 9 0 a b rest e (omega arith) in (
      record { inside = p.inside; kind = p.kind; number = refl },
      encode-stands s (i + 1) a (encode b ++ rest) h.0 (pair-first s i 9 0 a b rest e),
      encode-stands s (i + 1 + records a) b rest h.1 (pair-second s i 9 0 a b rest e),
    )
encode-stands s i (branch c a b) rest h e =
    let q : drop (8 * i) s ≡ record8 10 0 (encode c ++ (encode a ++ (encode b ++ rest))) = e ∙ simp append_assoc in
    let p = record-at s i 10 0 (encode c ++ (encode a ++ (encode b ++ rest))) q (omega arith) in
    let f : drop (8 * (i + 1)) s ≡ encode c ++ (encode a ++ (encode b ++ rest)) = record-rest s i 10 0 (encode c ++ (encode a ++ (encode b ++ rest))) q in
    let g : drop (8 * (i + 1 + records c)) s ≡ encode a ++ (encode b ++ rest) =
    drop_more s (8 * (i + 1)) (8 * records c) (8 * (i + 1 + records c)) (encode c ++ (encode a ++ (encode b ++ rest))) f (omega arith) ∙ drop_at (encode c) (encode a ++ (encode b ++ rest)) (8 * records c) (encode-length c) in
    let k : drop (8 * (i + 1 + records c + records a)) s ≡ encode b ++ rest =
    drop_more s (8 * (i + 1 + records c)) (8 * records a) (8 * (i + 1 + records c + records a)) (encode a ++ (encode b ++ rest)) g (omega arith) ∙ drop_at (encode a) (encode b ++ rest) (8 * records a) (encode-length a) in (
      record { inside = p.inside; kind = p.kind; number = refl },
      encode-stands s (i + 1) c (encode a ++ (encode b ++ rest)) h.0 f,
      encode-stands s (i + 1 + records c) a (encode b ++ rest) h.1 g,
      encode-stands s (i + 1 + records c + records a) b rest h.2 k,
    )

-- A term whose bytes lie at a record is read there.
pub read-encode-at : (s : List ℕ) (i : ℕ) (t : Term) (rest : List ℕ) → Fits t → drop (8 * i) s ≡ encode t ++ rest → read_at s i ≡ got t (i + records t)
read-encode-at s i t rest h e = stands_read s i t (encode-stands s i t rest h e)

-- It is the term at that record.
pub term-at : (s : List ℕ) (i : ℕ) (t : Term) (rest : List ℕ) → Fits t → drop (8 * i) s ≡ encode t ++ rest → term_at s i ≡ t
unfolding term_at
term-at s i t rest h e = ap term_of (read-encode-at s i t rest h e)

-- Reading back what was encoded gives the term.
pub read-encode : (t : Term) (rest : List ℕ) → Fits t → read_at (encode t ++ rest) 0 ≡ got t (records t)
read-encode t rest h = read-encode-at (encode t ++ rest) 0 t rest h refl ∙ ap (got t) (omega arith)

-- No term's bytes are the front of another's.
pub encode-prefix : (t u : Term) (p q : List ℕ) → Fits t → Fits u → encode t ++ p ≡ encode u ++ q → t ≡ u
encode-prefix t u p q h g e =
    let r : read_at (encode t ++ p) 0 ≡ read_at (encode u ++ q) 0 = ap (λ (l : List ℕ). read_at l 0) e in
    cc (read-encode t p h, read-encode u q g)

-- No two terms have the same bytes.
pub encode_one : (t u : Term) → Fits t → Fits u → encode t ≡ encode u → t ≡ u
encode_one t u h g e = encode-prefix t u [] [] h g (ap (λ (l : List ℕ). l ++ []) e)

-- ---- the bytes that are read

module _ (s : List ℕ) (b : AllBytes s) where
  -- A number of four bytes.
  pub number_fits : (i : ℕ) → i < count s → record_number s i < 2 ^ 32
  number_fits i h = rw (part_length s (8 * i + 4) 4 (omega arith)) at (number-below (part s (8 * i + 4) 4) (part-below s (8 * i + 4) 4 b))

  at-fits : (i k n : ℕ) → At s i k n → n < 2 ^ 32
  at-fits i k n h = omega (arith, number_fits i h.inside, h.number)

  -- The numbers of a term that stands in a file fit their bytes.
  pub stands-fits : (i : ℕ) (t : Term) → Stands s i t → Fits t
  stands-fits i (var n) h = at-fits i 1 n h
  stands-fits i (fun n) h = at-fits i 2 n h
  stands-fits i (con n) h = at-fits i 3 n h
  stands-fits i (lam n t) h = (at-fits i 4 n h.0, stands-fits (i + 1) t h.1)
  stands-fits i (app a r) h = (stands-fits (i + 1) a h.1, stands-fits (i + 1 + records a) r h.2)
  stands-fits i (call_event n a r) h = (at-fits i 6 n h.0, stands-fits (i + 1) a h.1, stands-fits (i + 1 + records a) r h.2)
  stands-fits i (emit n a r) h = (at-fits i 7 n h.0, stands-fits (i + 1) a h.1, stands-fits (i + 1 + records a) r h.2)
  stands-fits i (sum a r) h = (stands-fits (i + 1) a h.1, stands-fits (i + 1 + records a) r h.2)
  stands-fits i (branch c a r) h = (stands-fits (i + 1) c h.1, stands-fits (i + 1 + records c) a h.2, stands-fits (i + 1 + records c + records a) r h.3)

  -- The numbers of a term that is read fit their bytes.
  pub read_fits : (i : ℕ) (t : Term) (j : ℕ) → read_at s i ≡ got t j → Fits t
  read_fits i t j e = stands-fits i t (read-stands s i t j e).0

  module _ (i k n : ℕ) (h : At s i k n) (z : spare_at s i ≡ 0) where
    record-part : part s (8 * i) 8 ≡ record8 k n []
    unfolding bytes
    record-part =
        let spare : part s (8 * i + 1) 3 ≡ 0 ∷ 0 ∷ 0 ∷ [] = sym (bytes-part s (8 * i + 1) 3 b (omega arith)) ∙ ap (bytes 3) z in
        let last : part s (8 * i + 4) 4 ≡ bytes 4 n ++ [] =
        sym (bytes-part s (8 * i + 4) 4 b (omega arith)) ∙ ap (bytes 4) h.number ∙ sym (append-nil (bytes 4 n)) in
        let q : 8 * i + 1 + 3 ≡ 8 * i + 4 = omega arith in
        part-cons s (8 * i) 7 (omega arith)
        ∙ ap₂ (λ (x : ℕ) (l : List ℕ). x ∷ l) h.kind
        (part-append s (8 * i + 1) 3 4 ∙ ap₂ (λ (x y : List ℕ). x ++ y) spare (ap (λ (p : ℕ). part s p 4) q ∙ last))

    -- A clean record's bytes, and those after it.
    record-more : (m : ℕ) → part s (8 * i) (8 + m) ≡ record8 k n (part s (8 * (i + 1)) m)
    record-more m =
        let q : 8 * i + 8 ≡ 8 * (i + 1) = omega arith in
        part-append s (8 * i) 8 m
        ∙ ap₂ (λ (x y : List ℕ). x ++ y) record-part (ap (λ (p : ℕ). part s p m) q)
        ∙ leaf-bytes k n (part s (8 * (i + 1)) m)

    leaf-part : part s (8 * i) (8 * 1) ≡ record8 k n []
    leaf-part = record-part

    one-part : (m : ℕ) (l : List ℕ) → part s (8 * (i + 1)) (8 * m) ≡ l → part s (8 * i) (8 * suc m) ≡ record8 k n l
    one-part m l e =
        let q : 8 * suc m ≡ 8 + 8 * m = omega arith in
        ap (part s (8 * i)) q ∙ record-more (8 * m) ∙ ap (record8 k n) e

    pair-part : (m m' : ℕ) (x y : List ℕ) → part s (8 * (i + 1)) (8 * m) ≡ x → part s (8 * (i + 1 + m)) (8 * m') ≡ y
        → part s (8 * i) (8 * suc (m + m')) ≡ record8 k n (x ++ y)
    pair-part m m' x y e f =
        let q : 8 * (m + m') ≡ 8 * m + 8 * m' = omega arith in
        let p : 8 * (i + 1) + 8 * m ≡ 8 * (i + 1 + m) = omega arith in
        one-part (m + m') (x ++ y)
        (ap (part s (8 * (i + 1))) q ∙ part-append s (8 * (i + 1)) (8 * m) (8 * m')
        ∙ ap₂ (λ (x y : List ℕ). x ++ y) e (ap (λ (z : ℕ). part s z (8 * m')) p ∙ f))

  -- A term that stands in clean records lies there as its encoding.
  pub stands-part : (i : ℕ) (t : Term) → Stands s i t → ((k : ℕ) → i ≤ k → k < i + records t → Clean s k) → part s (8 * i) (8 * records t) ≡ encode t
  unfolding records
  stands-part i (var n) h c = leaf-part i 1 n h (c i (omega arith) (omega arith)).spare
  stands-part i (fun n) h c = leaf-part i 2 n h (c i (omega arith) (omega arith)).spare
  stands-part i (con n) h c = leaf-part i 3 n h (c i (omega arith) (omega arith)).spare
  stands-part i (lam n t) h c =
      one-part i 4 n h.0 (c i (omega arith) (omega arith)).spare (records t) (encode t)
      (stands-part (i + 1) t h.1 (λ k p q. c k (omega arith) (omega arith)))
  stands-part i (app a r) h c =
      let w = c i (omega arith) (omega arith) in
      let g : At s i 5 0 = record { inside = h.0.inside; kind = h.0.kind; number = w.idle (inl h.0.kind) } in
      pair-part i 5 0 g w.spare (records a) (records r) (encode a) (encode r)
      (stands-part (i + 1) a h.1 (λ k p q. c k (omega arith) (omega arith)))
      (stands-part (i + 1 + records a) r h.2 (λ k p q. c k (omega arith) (omega arith)))
  stands-part i (call_event n a r) h c =
      pair-part i 6 n h.0 (c i (omega arith) (omega arith)).spare (records a) (records r) (encode a) (encode r)
      (stands-part (i + 1) a h.1 (λ k p q. c k (omega arith) (omega arith)))
      (stands-part (i + 1 + records a) r h.2 (λ k p q. c k (omega arith) (omega arith)))
  stands-part i (emit n a r) h c =
      pair-part i 7 n h.0 (c i (omega arith) (omega arith)).spare (records a) (records r) (encode a) (encode r)
      (stands-part (i + 1) a h.1 (λ k p q. c k (omega arith) (omega arith)))
      (stands-part (i + 1 + records a) r h.2 (λ k p q. c k (omega arith) (omega arith)))
  stands-part i (sum a r) h c =
      let w = c i (omega arith) (omega arith) in
      let g : At s i 9 0 = record { inside = h.0.inside; kind = h.0.kind; number = w.idle (inr (inl h.0.kind)) } in
      pair-part i 9 0 g w.spare (records a) (records r) (encode a) (encode r)
      (stands-part (i + 1) a h.1 (λ k p q. c k (omega arith) (omega arith)))
      (stands-part (i + 1 + records a) r h.2 (λ k p q. c k (omega arith) (omega arith)))
  stands-part i (branch d a r) h c =
      let w = c i (omega arith) (omega arith) in
      let g : At s i 10 0 = record { inside = h.0.inside; kind = h.0.kind; number = w.idle (inr (inr h.0.kind)) } in
      let x = stands-part (i + 1 + records d) a h.2 (λ k p q. c k (omega arith) (omega arith)) in
      let y = stands-part (i + 1 + records d + records a) r h.3 (λ k p q. c k (omega arith) (omega arith)) in
      let q : 8 * (records a + records r) ≡ 8 * records a + 8 * records r = omega arith in
      let p : 8 * (i + 1 + records d) + 8 * records a ≡ 8 * (i + 1 + records d + records a) = omega arith in
      pair-part i 10 0 g w.spare (records d) (records a + records r) (encode d) (encode a ++ encode r)
      (stands-part (i + 1) d h.1 (λ k p q. c k (omega arith) (omega arith)))
      (ap (part s (8 * (i + 1 + records d))) q ∙ part-append s (8 * (i + 1 + records d)) (8 * records a) (8 * records r)
      ∙ ap₂ (λ (x y : List ℕ). x ++ y) x (ap (λ (z : ℕ). part s z (8 * records r)) p ∙ y))

  -- A term that is read from clean records lies there as its encoding.
  pub read-part : (i : ℕ) (t : Term) (j : ℕ) → read_at s i ≡ got t j → ((k : ℕ) → i ≤ k → k < j → Clean s k) → part s (8 * i) (8 * (j - i)) ≡ encode t
  read-part i t j e c =
      let h = read-stands s i t j e in
      let q : 8 * (j - i) ≡ 8 * records t = omega arith in
      ap (part s (8 * i)) q ∙ stands-part i t h.0 (λ k p l. c k p (omega arith))

-- A record with zero spare bytes and a number in its range is clean.
pub range-clean : (s : List ℕ) (i : ℕ) → spare_at s i ≡ 0 → in_range (kind_at s i) (record_number s i) ≡ true → Clean s i
unfolding in_range
range-clean s i z r =
    record {
      spare = z;
      idle = λ k. eqb-true (record_number s i) 0 (sym (⊎_elim (ap within) (⊎_elim (ap within) (ap within)) k) ∙ r);
    }
  where
    within : ℕ → Bool
    within k = in_range k (record_number s i)
