-- The whole expression as a function of the bytes, and where terms end. Assumes nothing.
use mathlib.Core.List.{List, [], append-nil}
use mathlib.Core.Path.{◌≡◌, sym, ap, ◌∙◌}
use Prim.Native.Nat.{ℕ, ◌+◌}
use Rattle.std.specs.Prelude.{unwrap_or}
use Rattle.calculus.specs.Term.{Term, records}
use Rattle.terms.specs.Read.{read_at, term_of, term_at}
use Rattle.terms.specs.Encode.{encode}
use Rattle.terms.specs.Walk.{passed_of}
use Rattle.terms.proofs.Stands.{Stands, stands_read}
use Rattle.terms.proofs.Encode.{read-encode}
use Rattle.zipper.specs.declared.Entry.{Entry}
use Rattle.zipper.specs.Frame.{Frame, plug}
use Rattle.zipper.specs.Layout.{Zip}
use Rattle.zipper.specs.Zipper.{whole_in, end_at, Whole, ZipOf, Flat, Poised}
use Rattle.zipper.proofs.Parts.{bounds, together}

-- A term that stands at a record ends after its records.
pub end-there : (s : List ℕ) (i : ℕ) (t : Term) → Stands s i t → end_at s i ≡ i + records t
unfolding end_at
end-there s i t h = ap (λ r. unwrap_or (passed_of r) i) (stands_read s i t h)

-- It is a whole one.
pub whole-there : (s : List ℕ) (i : ℕ) (t : Term) → Stands s i t → Whole s i
unfolding end_at
whole-there s i t h = rw (stands_read s i t h)

-- The two parts of a zipper are the bytes of the whole.
flat-zip : {e : List ℕ} {fs : List Entry} {l r n : ℕ} {K : List Frame} {t T : Term} → Zip e fs l r n K t → plug K t ≡ T → Flat e l r T
flat-zip h w = record {
  bytes = together h ∙ ap encode w;
  order = h.order;
  within = (bounds h).right-in;
  wide = h.wide;
  sound = rw w at h.sound;
}

-- Buffers that hold T have its bytes in the two parts, …
pub zip-flat : {e : List ℕ} {fs : List Entry} {l r n : ℕ} {T : Term} → ZipOf e fs l r n T → Flat e l r T
zip-flat h = flat-zip h.zip h.whole

-- … and so they have at its redex.
pub poised-flat : {e : List ℕ} {fs : List Entry} {p l r n : ℕ} {T : Term} → Poised e fs p l r n T → Flat e l r T
poised-flat h = flat-zip h.zip h.whole

-- The term whose bytes the two parts are is the whole expression.
pub flat-whole : {e : List ℕ} {l r : ℕ} {T : Term} → Flat e l r T → whole_in e l r ≡ T
unfolding whole_in term_at
flat-whole {T = T} h =
    ap (λ (s : List ℕ). term_of (read_at s 0)) (h.bytes ∙ sym (append-nil (encode T))) ∙ ap term_of (read-encode T [] h.sound.fits)

-- The same for buffers that hold T, …
pub zip-whole : {e : List ℕ} {fs : List Entry} {l r n : ℕ} {T : Term} → ZipOf e fs l r n T → whole_in e l r ≡ T
zip-whole h = flat-whole (zip-flat h)

-- … and at its redex.
pub poised-whole : {e : List ℕ} {fs : List Entry} {p l r n : ℕ} {T : Term} → Poised e fs p l r n T → whole_in e l r ≡ T
poised-whole h = flat-whole (poised-flat h)

-- ---- the same with the expression that the bytes give, as the contracts have it

-- Buffers that hold some expression hold the one that their bytes give.
pub zip-own : {e : List ℕ} {fs : List Entry} {l r n : ℕ} {T : Term} → ZipOf e fs l r n T → ZipOf e fs l r n (whole_in e l r)
zip-own h = rw (zip-whole h) h

-- So do the two parts, …
pub flat-own : {e : List ℕ} {l r : ℕ} {T : Term} → Flat e l r T → Flat e l r (whole_in e l r)
flat-own h = rw (flat-whole h) h

-- … and so do buffers at a redex.
pub poised-own : {e : List ℕ} {fs : List Entry} {p l r n : ℕ} {T : Term} → Poised e fs p l r n T → Poised e fs p l r n (whole_in e l r)
poised-own h = rw (poised-whole h) h
