-- The bytes and records of frames, and what a laid out zipper has. Assumes nothing.
use mathlib.Core.List.{List, [], ◌∷◌, ◌++◌, append_assoc, append-nil}
use mathlib.Core.Path.{◌≡◌, refl, sym, ap, ap₂, ◌∙◌}
use Prim.Native.Nat.{ℕ, zero, suc, ◌+◌, ◌-◌, ◌*◌, ◌<◌, ◌≤◌}
use native.Mathlib.Omega.{arith}
use lib.ListN.{length, take, drop, set, length-append, length-drop, length-set}
use lib.Seq.{take_at, drop_at, drop-drop, get_or-set_same}
use Rattle.std.specs.Prelude.{Some, slice_get}
use Rattle.std.proofs.lemmas.Option.{slice_get-get_or}
use Rattle.words.specs.Bytes.{part}
use Rattle.calculus.specs.Term.{Term, view, records, Bare}
use Rattle.calculus.specs.Term.Term.{var, fun, con, lam, app, call_event, emit, sum, branch}
use Rattle.terms.specs.Record.{count, kind_at, record8}
use Rattle.terms.specs.Encode.{encode, Fits}
use Rattle.terms.proofs.Stands.{Stands}
use Rattle.terms.proofs.Encode.{record-length, encode-length, record-rest, encode-stands}
use Rattle.zipper.specs.declared.Entry.{Entry}
use Rattle.zipper.specs.Frame.{Pair, join, pair_kind, Frame, kind_of, fill, plug}
use Rattle.zipper.specs.Frame.Pair.{applies, adds}
use Rattle.zipper.specs.Frame.Frame.{to_come, done, choosing}
use Rattle.zipper.specs.Layout.{between, gone, after, lefts, rights, left_size, Stack, Zip}
use Rattle.zipper.proofs.Context.{bare-shared, fits-shared, plug-part}

-- ---- frames

between-length : (f : Frame) → length (between f) ≡ 8 * gone f
between-length (to_come w b) = refl
between-length (done w a) = encode-length a
between-length (choosing a b) = refl

-- Eight bytes for each record before the focus.
pub lefts-length : (K : List Frame) → length (lefts K) ≡ 8 * left_size K
lefts-length [] = refl
lefts-length (f ∷ K) =
    omega (arith, length-append (lefts K) (record8 (kind_of f) 0 (between f)), record-length (kind_of f) 0 (between f), lefts-length K, between-length f)

-- A pair's bytes.
encode-pair : (w : Pair) (a b : Term) → encode (join w a b) ≡ record8 (pair_kind w) 0 (encode a ++ encode b)
encode-pair applies a b = refl
encode-pair adds a b = refl

-- The bytes of a filled frame, and of what follows it.
pub encode-fill : (f : Frame) (t : Term) (rest : List ℕ) → encode (fill f t) ++ rest ≡ record8 (kind_of f) 0 (between f ++ (encode t ++ after f rest))
encode-fill (to_come w b) t rest = rw (encode-pair w t b) (simp append_assoc)
encode-fill (done w a) t rest = rw (encode-pair w a t) (simp append_assoc)
encode-fill (choosing a b) t rest = simp append_assoc

-- The bytes of the whole are those before the focus, the focus's and those after it.
pub encode-plug : (K : List Frame) (t : Term) → encode (plug K t) ≡ lefts K ++ (encode t ++ rights K)
encode-plug [] t = sym (append-nil (encode t))
encode-plug (f ∷ K) t =
    encode-plug K (fill f t) ∙ ap (λ (x : List ℕ). lefts K ++ x) (encode-fill f t (rights K)) ∙ simp append_assoc

-- Each frame has a record before the focus.
pub few : (K : List Frame) → length K ≤ left_size K
few [] = omega arith
few (f ∷ K) = omega (arith, few K)

-- A term has a record.
pub records-some : (t : Term) → 0 < records t
unfolding records
records-some (var n) = omega arith
records-some (fun n) = omega arith
records-some (con n) = omega arith
records-some (lam n b) = omega arith
records-some (app a b) = omega arith
records-some (call_event n a r) = omega arith
records-some (emit n a r) = omega arith
records-some (sum a b) = omega arith
records-some (branch c a b) = omega arith

-- The records of the whole.
pub plug-records : (K : List Frame) (t : Term) → 8 * records (plug K t) ≡ 8 * left_size K + (8 * records t + length (rights K))
plug-records K t =
    omega (
      arith,
      encode-length (plug K t),
      ap length (encode-plug K t),
      length-append (lefts K) (encode t ++ rights K),
      length-append (encode t) (rights K),
      lefts-length K,
      encode-length t,
    )

-- An entry that is written, …
pub entry-set : (fs : List Entry) (n : ℕ) (x : Entry) → n < length fs → slice_get (set fs n x) n ≡ Some x
entry-set fs n x h =
    slice_get-get_or (set fs n x) n x (rw (length-set fs n x) h) ∙ ap Some (get_or-set_same fs n x x h)

-- … and the others.
pub entry-others : (fs : List Entry) (n : ℕ) (x : Entry) (i : ℕ) → (i ≡ n → ⊥) → slice_get (set fs n x) i ≡ slice_get fs i
entry-others [] n x i h = refl
entry-others (y ∷ fs) zero x zero h = absurd (h refl)
entry-others (y ∷ fs) zero x (suc i) h = refl
entry-others (y ∷ fs) (suc n) x zero h = refl
entry-others (y ∷ fs) (suc n) x (suc i) h = entry-others fs n x i (λ e. h (ap suc e))

-- A stack keeps its frames where its entries are kept.
pub stack-kept : (fs fs' : List Entry) (K : List Frame) → ((i : ℕ) → i < length K → slice_get fs' i ≡ slice_get fs i) → Stack fs K → Stack fs' K
stack-kept fs fs' [] e h = tt
stack-kept fs fs' (f ∷ K) e h = (e (length K) (omega arith) ∙ h.0, stack-kept fs fs' K (λ i k. e i (omega arith)) h.1)

-- ---- bytes

-- What lies after a first part.
pub drop_past : (s : List ℕ) (b c : ℕ) (x y : List ℕ) → drop b s ≡ x ++ y → c ≡ b + length x → drop c s ≡ y
drop_past s b c x y e q = ap (λ (z : ℕ). drop z s) q ∙ sym (drop-drop (length x) b s) ∙ ap (drop (length x)) e ∙ drop_at x y (length x) refl

-- The range where a first part lies.
pub part-there : (s : List ℕ) (b n : ℕ) (x y : List ℕ) → drop b s ≡ x ++ y → length x ≡ n → part s b n ≡ x
unfolding part
part-there s b n x y e q = ap (take n) e ∙ take_at x y n q

-- What lies after the record of a filled frame whose focus is its first part.
pub fill-rest : (s : List ℕ) (i : ℕ) (f : Frame) (t : Term) (rest : List ℕ) → between f ≡ [] → drop (8 * i) s ≡ encode (fill f t) ++ rest
    → drop (8 * (i + 1)) s ≡ encode t ++ after f rest
fill-rest s i f t rest n e =
    record-rest s i (kind_of f) 0 (between f ++ (encode t ++ after f rest)) (e ∙ encode-fill f t rest) ∙ ap (λ (x : List ℕ). x ++ (encode t ++ after f rest)) n

-- The first record of a term that stands.
pub first_kind : (s : List ℕ) (i : ℕ) (t : Term) → Stands s i t → kind_at s i ≡ (view t).kind
unfolding view
first_kind s i (var n) h = h.kind
first_kind s i (fun n) h = h.kind
first_kind s i (con n) h = h.kind
first_kind s i (lam n b) h = h.0.kind
first_kind s i (app a b) h = h.0.kind
first_kind s i (call_event n a r) h = h.0.kind
first_kind s i (emit n a r) h = h.0.kind
first_kind s i (sum a b) h = h.0.kind
first_kind s i (branch c a b) h = h.0.kind

pub first-inside : (s : List ℕ) (i : ℕ) (t : Term) → Stands s i t → i < count s
first-inside s i (var n) h = h.inside
first-inside s i (fun n) h = h.inside
first-inside s i (con n) h = h.inside
first-inside s i (lam n b) h = h.0.inside
first-inside s i (app a b) h = h.0.inside
first-inside s i (call_event n a r) h = h.0.inside
first-inside s i (emit n a r) h = h.0.inside
first-inside s i (sum a b) h = h.0.inside
first-inside s i (branch c a b) h = h.0.inside

-- ---- a zipper

-- Numbers that bound it.
pub record Bounds (l r n m : ℕ) : Type 0 where
  pub right-in : r < 3072
  pub left_in : l < 1024
  pub few-frames : n ≤ l
  pub end-in : r + m ≤ 3072

module _ {e : List ℕ} {fs : List Entry} {l r n : ℕ} {K : List Frame} {t : Term} (h : Zip e fs l r n K t) where
  -- The focus is bare.
  pub focus-bare : Bare t
  focus-bare = plug-part bare-shared K t h.sound.bare

  -- The focus's numbers fit.
  pub focus-fits : Fits t
  focus-fits = plug-part fits-shared K t h.sound.fits

  -- The focus stands at record r.
  pub focus-stands : Stands e r t
  focus-stands = encode-stands e r t (rights K) focus-fits h.right

  -- The right part's length.
  pub right-length : 24576 - 8 * r ≡ 8 * records t + length (rights K)
  right-length = omega (arith, length-drop (8 * r) e, ap length h.right, length-append (encode t) (rights K), encode-length t, h.wide)

  pub bounds : Bounds l r n (records t)
  bounds =
      let s = plug-records K t in
      let w = right-length in
      let p = records-some t in
      record {
        right-in = omega arith;
        left_in = omega (arith, h.sound.small, h.sized);
        few-frames = omega (arith, few K, h.deep, h.sized);
        end-in = omega arith;
      }

  -- The two parts are the bytes of the whole.
  pub together : take (8 * l) e ++ drop (8 * r) e ≡ encode (plug K t)
  together = ap₂ (λ (x y : List ℕ). x ++ y) h.left h.right ∙ sym (encode-plug K t)
