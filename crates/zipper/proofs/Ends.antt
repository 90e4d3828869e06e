-- Loading and storing: a term at the buffer's end, and the two parts put together. Assumes nothing.
use mathlib.Core.Bool.{false}
use mathlib.Core.List.{List, [], ◌++◌, append_assoc, append-nil}
use mathlib.Core.Path.{◌≡◌, refl, sym, ap, ap₂, ◌∙◌}
use Prim.Native.Nat.{ℕ, ◌+◌, ◌-◌, ◌*◌, ◌/◌, ◌≤◌}
use native.Mathlib.Omega.{arith}
use lib.ListN.{length, take, drop, length-append, length-drop}
use lib.Seq.{take_all, drop-length, length-take-le}
use Rattle.std.proofs.Math.ListN.{replicate}
use Rattle.std.proofs.lemmas.List.{length-replicate}
use Rattle.words.specs.Bytes.{part}
use Rattle.words.specs.Put.{put, put-length, put_rest, put-start}
use Rattle.words.specs.Filled.{zeros, filled, put-zeros}
use Rattle.calculus.specs.Term.{Term, records}
use Rattle.terms.specs.Read.{term_at}
use Rattle.terms.specs.Encode.{encode}
use Rattle.terms.proofs.Encode.{encode-length, term-at}
use Rattle.zipper.specs.declared.Entry.{Entry}
use Rattle.zipper.specs.Layout.{Expression}
use Rattle.zipper.specs.Zipper.{whole_in, ZipOf, Flat, Last, Loaded, Stored}
use Rattle.zipper.proofs.Parts.{records-some, part-there}
use Rattle.zipper.proofs.Whole.{zip-whole}

-- ---- loading

-- A file that ends with an expression, which is the term there.
pub last-there : (s : List ℕ) (i : ℕ) (t : Term) → drop (8 * i) s ≡ encode t → Expression t → Last s i × (term_at s i ≡ t)
last-there s i t e h =
    let w : term_at s i ≡ t = term-at s i t [] h.fits (e ∙ sym (append-nil (encode t))) in
    (record { bytes = rw w e; sound = rw w h }, w)

-- The numbers of such a file.
pub record LastBounds (s : List ℕ) (i : ℕ) : Type 0 where
  pub total : length s ≡ 8 * i + 8 * records (term_at s i)
  pub small : records (term_at s i) ≤ 1024

module _ {s : List ℕ} {i : ℕ} (h : Last s i) where
  pub last-bounds : LastBounds s i
  last-bounds = record {
    total = omega (arith, length-drop (8 * i) s, ap length h.bytes, encode-length (term_at s i), records-some (term_at s i));
    small = h.sound.small;
  }

  -- What the copy leaves.
  pub load_is : (e e' : List ℕ) (n : ℕ) → n ≡ length s - 8 * i → e' ≡ put e (24576 - n) (part s (8 * i) n) → Loaded (term_at s i) (3072 - n / 8) e e'
  load_is e e' n m q =
      let t : Term = term_at s i in
      let b = last-bounds in
      let k : n ≡ 8 * records t = omega arith in
      let j : 24576 - n ≡ 8 * (3072 - n / 8) = omega arith in
      let y : part s (8 * i) n ≡ encode t = part-there s (8 * i) n (encode t) [] (h.bytes ∙ sym (append-nil (encode t))) (encode-length t ∙ sym k) in
      record { start = omega arith; bytes = q ∙ ap₂ (put e) j y }

-- A loaded expression is a focus with no frames.
pub loaded-zip : {T : Term} {r : ℕ} {e e' : List ℕ} → Loaded T r e e' → Expression T → length e ≡ 24576 → (fs : List Entry) → 1024 ≤ length fs
    → ZipOf e' fs 0 r 0 T
loaded-zip {T} {r} {e} {e'} h s w fs g =
    let k = h.start in
    let z = s.small in
    let lt : length (encode T) ≡ 8 * records T = encode-length T in
    let fit : 8 * r + length (encode T) ≤ length e = omega arith in
    let m : 8 * r + length (encode T) ≡ length e = omega arith in
    let d : drop (8 * r + length (encode T)) e ≡ [] = ap (λ (x : ℕ). drop x e) m ∙ drop-length e in
    record {
      frames = [];
      focus = T;
      zip = record {
        left = refl;
        right = rw h.bytes (put_rest e (8 * r) (encode T) fit ∙ ap (λ (x : List ℕ). encode T ++ x) d);
        sized = refl;
        order = omega arith;
        deep = refl;
        stack = tt;
        fine = tt;
        sound = s;
        wide = rw h.bytes (put-length e (8 * r) (encode T) fit ∙ w);
        high = g;
      };
      whole = refl;
    }

-- It is what the buffer's bytes give.
pub loaded-whole : {T : Term} {r : ℕ} {e e' : List ℕ} → Loaded T r e e' → Expression T → length e ≡ 24576 → whole_in e' 0 r ≡ T
loaded-whole h s w =
    let x : Entry = record { place = 0; done = false } in
    zip-whole (loaded-zip h s w (replicate 1024 x) (omega (arith, length-replicate 1024 x)))

-- ---- storing

module _ {e : List ℕ} {l r : ℕ} {T : Term} (h : Flat e l r T) where
  -- The records of the two parts.
  pub flat-records : records T ≡ l + (3072 - r)
  flat-records =
      omega (
        arith,
        ap length h.bytes,
        length-append (take (8 * l) e) (drop (8 * r) e),
        length-take-le (8 * l) e (omega (arith, h.order, h.within, h.wide)),
        length-drop (8 * r) e,
        encode-length T,
        h.within,
        h.wide,
      )

  -- With the gap closed the buffer begins with the expression.
  closed : (e₁ : List ℕ) → e₁ ≡ put e (8 * l) (part e (8 * r) (24576 - 8 * r)) → e₁ ≡ put e 0 (encode T)
  unfolding put part
  closed e₁ q =
      let v : List ℕ = drop (8 * r) e in
      let y : take (24576 - 8 * r) v ≡ v = take_all (24576 - 8 * r) v (omega (arith, length-drop (8 * r) e, h.wide)) in
      let n : 8 * l + length v ≡ length (encode T) =
      omega (arith, flat-records, encode-length T, length-drop (8 * r) e, h.within, h.wide) in
      q
      ∙ ap (λ (x : List ℕ). take (8 * l) e ++ (x ++ drop (8 * l + length x) e)) y
      ∙ sym (append_assoc (take (8 * l) e) v (drop (8 * l + length v) e))
      ∙ ap₂ (λ (x : List ℕ) (k : ℕ). x ++ drop k e) h.bytes n
      ∙ sym (put-start e (encode T))

  -- What the move and the zeros leave.
  pub store_is : (e₁ e₂ : List ℕ) (n : ℕ) → e₁ ≡ put e (8 * l) (part e (8 * r) (24576 - 8 * r)) → n ≡ l + (3072 - r)
      → e₂ ≡ put e₁ (8 * n) (zeros (24576 - 8 * n)) → Stored T n e e₂
  store_is e₁ e₂ n q m p =
      let c = flat-records in
      let z = h.sound.small in
      record {
        count = omega arith;
        bytes =
            p
            ∙ ap (λ (x : List ℕ). put x (8 * n) (zeros (24576 - 8 * n))) (closed e₁ q)
            ∙ put-zeros 24576 (8 * n) (encode T) e (encode-length T ∙ omega arith) (omega arith) (omega (arith, h.wide));
      }

-- All of the buffer after a store.
pub stored_bytes : {T : Term} {n : ℕ} {e e' : List ℕ} → Stored T n e e' → length e ≡ 24576 → e' ≡ encode T ++ zeros (24576 - 8 * n)
unfolding filled
stored_bytes {T} {n} {e} {e'} h w =
    let k : 24576 - length (encode T) ≡ 24576 - 8 * n = omega (arith, encode-length T, h.count) in
    let d : drop 24576 e ≡ [] = ap (λ (x : ℕ). drop x e) (sym w) ∙ drop-length e in
    h.bytes ∙ ap₂ (λ (m : ℕ) (x : List ℕ). encode T ++ (zeros m ++ x)) k d ∙ ap (λ (x : List ℕ). encode T ++ x) (append-nil (zeros (24576 - 8 * n)))

-- What the buffer held before does not count.
pub stored-over : {T : Term} {n : ℕ} {e e' : List ℕ} → Stored T n e e' → length e ≡ 24576 → (old : List ℕ) → length old ≡ 24576 → Stored T n old e'
unfolding filled
stored-over {T} {n} {e} {e'} h w old v =
    let d : drop 24576 e ≡ drop 24576 old =
    ap (λ (x : ℕ). drop x e) (sym w) ∙ drop-length e ∙ sym (drop-length old) ∙ ap (λ (x : ℕ). drop x old) v in
    record { count = h.count; bytes = h.bytes ∙ ap (λ (x : List ℕ). encode T ++ (zeros (24576 - length (encode T)) ++ x)) d }
