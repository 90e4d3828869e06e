-- A term's numbers are in their ranges exactly where none of its records is malformed. Assumes nothing.
use mathlib.Core.Bool.{true, false}
use mathlib.Core.List.Memᴰ
use mathlib.Core.List.{List, [], ◌∷◌, ◌++◌, append_assoc, append-nil}
use mathlib.Core.Path.{◌≡◌, refl, sym, ap, ◌∙◌}
use Prim.Native.Nat.{ℕ, suc, ◌+◌, ◌*◌, ◌^◌, ◌<◌, ◌≤◌}
use native.Mathlib.Omega.{arith}
use lib.ListN.{length, drop}
use borrow.Author.Tests.{le-leb, leb-true}
use Rattle.words.specs.Bytes.{bytes}
use Rattle.calculus.specs.Term.{Term, records}
use Rattle.calculus.specs.Term.Term.{var, fun, con, lam, app, call_event, emit, sum, branch}
use Rattle.terms.specs.Record.{record8, in_range}
use Rattle.terms.specs.Encode.{encode, Fits, encode_from}
use Rattle.terms.proofs.Encode.{record-kind, record-spare, record-number, record-rest}
use Rattle.terms.proofs.Range.{range-var, range-name, range-lam, range-app, range-function, range-sum}
use Rattle.terms.proofs.Stands.{At, Stands}
use Rattle.script.specs.Check.{malformed}
use Rattle.script.specs.WellFormed.{InRanges}
use Rattle.script.proofs.Due.{malformed-not, not-malformed}
use Rattle.script.proofs.Each.{Each}
use Rattle.script.proofs.Laid.{EachIn, Every}
use Rattle.script.proofs.Program.{numbered, after-term}

-- The record is not malformed.
abbrev pub Formed : List ℕ → ℕ → Type 0
Formed s k = malformed s k ≡ false

-- Numbers in their ranges fit their bytes.
pub ranges-fit : (t : Term) → InRanges t → Fits t
ranges-fit (var n) h = omega arith
ranges-fit (fun n) h = h
ranges-fit (con n) h = h
ranges-fit (lam n b) h = (omega arith, ranges-fit b h.1)
ranges-fit (app a b) h = (ranges-fit a h.0, ranges-fit b h.1)
ranges-fit (call_event n a r) h = (h.0, ranges-fit a h.1, ranges-fit r h.2)
ranges-fit (emit n a r) h = (h.0, ranges-fit a h.1, ranges-fit r h.2)
ranges-fit (sum a b) h = (ranges-fit a h.0, ranges-fit b h.1)
ranges-fit (branch c a b) h = (ranges-fit c h.0, ranges-fit a h.1, ranges-fit b h.2)

module _ (s : List ℕ) where
  -- A record that is not malformed has its number in its range.
  in-range : (i k n : ℕ) → At s i k n → Formed s i → in_range k n ≡ true
  in-range i k n h e = rw (h.kind, h.number) at (malformed-not s i e).1

  -- A variable.
  var-range : (i n : ℕ) → At s i 1 n → Formed s i → n ≤ 1023
  var-range i n h e = leb-true n 1023 (sym (range-var 1 n refl) ∙ in-range i 1 n h e)

  -- An abstraction.
  lam-range : (i n : ℕ) → At s i 4 n → Formed s i → n ≤ 65535
  lam-range i n h e = leb-true n 65535 (sym (range-lam 4 n refl) ∙ in-range i 4 n h e)

  -- From the records.
  pub ranges-from : (i : ℕ) (t : Term) → Fits t → Stands s i t → Each (Formed s) i t → InRanges t
  ranges-from i (var n) f h c = var-range i n h c
  ranges-from i (fun n) f h c = f
  ranges-from i (con n) f h c = f
  ranges-from i (lam n b) f h c = (lam-range i n h.0 c.0, ranges-from (i + 1) b f.1 h.1 c.1)
  ranges-from i (app a b) f h c = (ranges-from (i + 1) a f.0 h.1 c.1, ranges-from (i + 1 + records a) b f.1 h.2 c.2)
  ranges-from i (call_event n a r) f h c = (f.0, ranges-from (i + 1) a f.1 h.1 c.1, ranges-from (i + 1 + records a) r f.2 h.2 c.2)
  ranges-from i (emit n a r) f h c = (f.0, ranges-from (i + 1) a f.1 h.1 c.1, ranges-from (i + 1 + records a) r f.2 h.2 c.2)
  ranges-from i (sum a b) f h c = (ranges-from (i + 1) a f.0 h.1 c.1, ranges-from (i + 1 + records a) b f.1 h.2 c.2)
  ranges-from i (branch d a b) f h c = (
    ranges-from (i + 1) d f.0 h.1 c.1,
    ranges-from (i + 1 + records d) a f.1 h.2 c.2,
    ranges-from (i + 1 + records d + records a) b f.2 h.3 c.3,
  )

  -- A record that was written with a number in its range.
  written : (i k n : ℕ) (rest : List ℕ) → drop (8 * i) s ≡ record8 k n rest → n < 2 ^ 32 → in_range k n ≡ true → Formed s i
  written i k n rest e l r =
      not-malformed s i (record-spare s i k n rest e) (rw (record-kind s i k n rest e, record-number s i k n rest e l) r)

  -- A record and what was written after it.
  more : (k n : ℕ) (l rest : List ℕ) → record8 k n l ++ rest ≡ record8 k n (l ++ rest)
  more k n l rest = ap (λ (x : List ℕ). k ∷ 0 ∷ 0 ∷ 0 ∷ x) (append_assoc (bytes 4 n) l rest)

  module _ (i k n : ℕ) (l rest : List ℕ) (e : drop (8 * i) s ≡ record8 k n l ++ rest) where
    -- The record.
    written-here : n < 2 ^ 32 → in_range k n ≡ true → Formed s i
    written-here = written i k n (l ++ rest) (e ∙ more k n l rest)

    -- The bytes after it.
    written_next : drop (8 * (i + 1)) s ≡ l ++ rest
    written_next = record-rest s i k n (l ++ rest) (e ∙ more k n l rest)

  module _ (i k n : ℕ) (a b : Term) (rest : List ℕ) (e : drop (8 * i) s ≡ record8 k n (encode a ++ encode b) ++ rest) where
    -- The bytes of the first of two terms.
    written-first : drop (8 * (i + 1)) s ≡ encode a ++ (encode b ++ rest)
    written-first = written_next i k n (encode a ++ encode b) rest e ∙ append_assoc (encode a) (encode b) rest

    -- The bytes of the second.
    written-second : drop (8 * (i + 1 + records a)) s ≡ encode b ++ rest
    written-second = after-term s (i + 1) a (encode b ++ rest) written-first

  -- To the records, where the term's bytes lie.
  pub ranges-into : (i : ℕ) (t : Term) (rest : List ℕ) → InRanges t → drop (8 * i) s ≡ encode t ++ rest → Each (Formed s) i t
  ranges-into i (var n) rest r e = written-here i 1 n [] rest e (omega arith) (range-var 1 n refl ∙ le-leb n 1023 r)
  ranges-into i (fun n) rest r e = written-here i 2 n [] rest e r (range-name 2 n (omega arith) (omega arith))
  ranges-into i (con n) rest r e = written-here i 3 n [] rest e r (range-name 3 n (omega arith) (omega arith))
  ranges-into i (lam n b) rest r e =
      (written-here i 4 n (encode b) rest e (omega arith) (range-lam 4 n refl ∙ le-leb n 65535 r.0), ranges-into (i + 1) b rest r.1 (written_next i 4 n (encode b) rest e))
  ranges-into i (app a b) rest r e = (
    written-here i 5 0 (encode a ++ encode b) rest e (omega arith) (range-app 5 0 refl),
    ranges-into (i + 1) a (encode b ++ rest) r.0 (written-first i 5 0 a b rest e),
    ranges-into (i + 1 + records a) b rest r.1 (written-second i 5 0 a b rest e),
  )
  ranges-into i (call_event n a b) rest r e = (
    written-here i 6 n (encode a ++ encode b) rest e r.0 (range-function 6 n (omega arith) (omega arith)),
    ranges-into (i + 1) a (encode b ++ rest) r.1 (written-first i 6 n a b rest e),
    ranges-into (i + 1 + records a) b rest r.2 (written-second i 6 n a b rest e),
  )
  ranges-into i (emit n a b) rest r e = (
    written-here i 7 n (encode a ++ encode b) rest e r.0 (range-function 7 n (omega arith) (omega arith)),
    ranges-into (i + 1) a (encode b ++ rest) r.1 (written-first i 7 n a b rest e),
    ranges-into (i + 1 + records a) b rest r.2 (written-second i 7 n a b rest e),
  )
  ranges-into i (sum a b) rest r e = (
    written-here i 9 0 (encode a ++ encode b) rest e (omega arith) (range-sum 9 0 (omega arith) (omega arith)),
    ranges-into (i + 1) a (encode b ++ rest) r.0 (written-first i 9 0 a b rest e),
    ranges-into (i + 1 + records a) b rest r.1 (written-second i 9 0 a b rest e),
  )
  ranges-into i (branch c a b) rest r e =
      let f : drop (8 * (i + 1)) s ≡ encode c ++ (encode a ++ (encode b ++ rest)) = written_next i 10 0 (encode c ++ (encode a ++ encode b)) rest e ∙ simp append_assoc in
      let g : drop (8 * (i + 1 + records c)) s ≡ encode a ++ (encode b ++ rest) = after-term s (i + 1) c (encode a ++ (encode b ++ rest)) f in
      let k : drop (8 * (i + 1 + records c + records a)) s ≡ encode b ++ rest = after-term s (i + 1 + records c) a (encode b ++ rest) g in (
        written-here i 10 0 (encode c ++ (encode a ++ encode b)) rest e (omega arith) (range-sum 10 0 (omega arith) (omega arith)),
        ranges-into (i + 1) c (encode a ++ (encode b ++ rest)) r.0 f,
        ranges-into (i + 1 + records c) a (encode b ++ rest) r.1 g,
        ranges-into (i + 1 + records c + records a) b rest r.2 k,
      )

  -- The same of a program's bytes: its terms, and the records of its definitions.
  pub ranges-file : (i f : ℕ) (bs : List Term) (e : Term) → Every InRanges bs e → f + length bs ≤ 2 ^ 32 → drop (8 * i) s ≡ encode_from f bs e
      → EachIn (Formed s) i (numbered i f bs) e
  unfolding numbered
  ranges-file i f [] e r l d = ranges-into i e [] r.main (d ∙ sym (append-nil (encode e)))
  ranges-file i f (b ∷ bs) e r l d =
      let rest : List ℕ = encode_from (suc f) bs e in
      let after : drop (8 * (i + 1)) s ≡ encode b ++ rest = record-rest s i 8 f (encode b ++ rest) d in (
        written i 8 f (encode b ++ rest) d (omega arith) (range-function 8 f (omega arith) (omega arith)),
        ranges-into (i + 1) b rest (r.bodies b (Memᴰ.head refl)) after,
        ranges-file (i + 1 + records b) (suc f) bs e record { bodies = λ c w. r.bodies c (Memᴰ.tail w); main = r.main } (omega arith) (after-term s (i + 1) b rest after),
      )
