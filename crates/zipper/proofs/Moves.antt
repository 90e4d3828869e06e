-- The moves of the search on the bytes: the expression stays the same. Assumes nothing.
use mathlib.Core.Bool.{true, false}
use mathlib.Core.List.{List, [], ◌∷◌, ◌++◌, append_assoc}
use mathlib.Core.Path.{◌≡◌, refl, sym, ap, ap₂, ◌∙◌}
use Prim.Native.Nat.{ℕ, ◌+◌, ◌-◌, ◌*◌, ◌<◌, ◌≤◌}
use native.Mathlib.Omega.{arith}
use lib.ListN.{length, drop, set, get_or, length-set, take-append-drop}
use lib.Seq.{drop_at}
use Rattle.std.proofs.lemmas.Option.{get_or_from_slice_get}
use Rattle.words.specs.Bytes.{bytes, part}
use Rattle.words.specs.Put.{put, put-length, put-head, put-drop}
use Rattle.calculus.specs.Term.{Term, is_value, records}
use Rattle.terms.specs.Record.{count, kind_at, record8}
use Rattle.terms.specs.Encode.{encode, Fits}
use Rattle.terms.proofs.Stands.{Stands}
use Rattle.terms.proofs.Encode.{record-length, record-inside, record-kind, record-rest, encode-length, encode-stands}
use Rattle.zipper.specs.declared.Entry.{Entry}
use Rattle.zipper.specs.Frame.{Pair, join, pair_kind, Frame, kind_of, fill, Done}
use Rattle.zipper.specs.Frame.Pair.{applies, adds}
use Rattle.zipper.specs.Frame.Frame.{to_come, done, choosing}
use Rattle.zipper.specs.Layout.{between, gone, lefts, rights, left_size, is_half_done, Zip}
use Rattle.zipper.proofs.Context.{fits-shared, plug-part}
use Rattle.zipper.proofs.Parts.{lefts-length, entry-set, entry-others, stack-kept, drop_past, part-there, fill-rest, bounds}

-- A frame's kind in eight bytes is its record.
kind-bytes : (f : Frame) → bytes 8 (kind_of f) ≡ record8 (kind_of f) 0 []
unfolding bytes
kind-bytes (to_come applies b) = refl
kind-bytes (to_come adds b) = refl
kind-bytes (done applies a) = refl
kind-bytes (done adds a) = refl
kind-bytes (choosing a b) = refl

module _ {e : List ℕ} {fs : List Entry} {l r n : ℕ} {K : List Frame} where
  -- At a filled frame: into its first part.
  pub enter : (g : Frame) (t : Term) → Done g → between g ≡ [] → gone g ≡ 0 → is_half_done g ≡ false → Zip e fs l r n K (fill g t) → (k : ℕ) → k ≡ kind_of g
      → (e' : List ℕ) (fs' : List Entry) → e' ≡ put e (8 * l) (bytes 8 k) → fs' ≡ set fs n record { place = l; done = false } → Zip e' fs' (l + 1) (r + 1) (n + 1) (g ∷ K) t
  enter g t d o z k' h k y e' fs' p q =
      let b = bounds h in
      let v : List ℕ = record8 (kind_of g) 0 [] in
      let lv : length v ≡ 8 = record-length (kind_of g) 0 [] in
      let p' : e' ≡ put e (8 * l) v = p ∙ ap (λ (x : ℕ). put e (8 * l) (bytes 8 x)) y ∙ ap (put e (8 * l)) (kind-bytes g) in
      let f : 8 * l + length v ≤ length e = omega (arith, h.wide, h.order) in
      let m : 8 * (l + 1) ≡ 8 * l + length v = omega arith in
      let i : length K ≡ n = sym h.deep in
      let s = h.sized in
      let j : n < length fs = omega (arith, h.high) in
      record {
        left = rw (p', m) (put-head e (8 * l) v f ∙ ap (λ (x : List ℕ). x ++ v) h.left ∙ ap (λ (x : List ℕ). lefts K ++ record8 (kind_of g) 0 x) (sym o));
        right = rw p' (put-drop e (8 * l) v f (8 * (r + 1)) (omega (arith, h.order)) ∙ fill-rest e r g t (rights K) o h.right);
        sized = omega arith;
        order = omega (arith, h.order);
        deep = omega arith;
        stack = (
          rw (q, i, k', ← s) (entry-set fs n record { place = l; done = false } j),
          stack-kept fs fs' K (λ x u. rw q (entry-others fs n record { place = l; done = false } x (λ y. omega arith))) h.stack,
        );
        fine = (d, h.fine);
        sound = h.sound;
        wide = rw p' (put-length e (8 * l) v f ∙ h.wide);
        high = rw q (rw (length-set fs n record { place = l; done = false }) h.high);
      }

  -- At a value whose pair's second part is to come: on to it.
  pub turn : (w : Pair) (b v : Term) → Zip e fs l r n (to_come w b ∷ K) v → is_value v ≡ true → (end : ℕ) → end ≡ r + records v → (top : Entry) → top ≡ get_or fs (n - 1) record { place = 0; done = false }
      → (e' : List ℕ) (fs' : List Entry) → e' ≡ put e (8 * l) (part e (8 * r) (8 * (end - r))) → fs' ≡ set fs (n - 1) record { place = top.place; done = true }
      → Zip e' fs' (l + (end - r)) end n (done w v ∷ K) b
  turn o b v h w end z top t e' fs' p q =
      let k = bounds h in
      let lv : length (encode v) ≡ 8 * records v = encode-length v in
      let d : n ≡ length K + 1 = omega (arith, h.deep) in
      let i : n - 1 ≡ length K = omega arith in
      let t' : top.place ≡ left_size K =
      ap (λ (x : Entry). x.place) (t ∙ ap (λ (x : ℕ). get_or fs x record { place = 0; done = false }) i ∙ get_or_from_slice_get fs (length K) _ _ h.stack.0) in
      let q' : fs' ≡ set fs (length K) record { place = left_size K; done = true } =
      q ∙ ap₂ (λ (x y : ℕ). set fs x record { place = y; done = true }) i t' in
      let g : length K < length fs = omega (arith, h.high) in
      let y : part e (8 * r) (8 * (end - r)) ≡ encode v = part-there e (8 * r) (8 * (end - r)) (encode v) (encode b ++ rights K) h.right (omega arith) in
      let p' : e' ≡ put e (8 * l) (encode v) = p ∙ ap (put e (8 * l)) y in
      let f : 8 * l + length (encode v) ≤ length e = omega (arith, h.order, h.wide) in
      let m : 8 * (l + (end - r)) ≡ 8 * l + length (encode v) = omega arith in
      record {
        left = rw (p', m) (put-head e (8 * l) (encode v) f ∙ ap (λ (x : List ℕ). x ++ encode v) h.left ∙ simp append_assoc);
        right = rw p' (put-drop e (8 * l) (encode v) f (8 * end) (omega (arith, h.order)) ∙ drop_past e (8 * r) (8 * end) (encode v) (encode b ++ rights K) h.right (omega arith));
        sized = omega (arith, h.sized);
        order = omega (arith, h.order);
        deep = h.deep;
        stack = (
          rw q' (entry-set fs (length K) record { place = left_size K; done = true } g),
          stack-kept fs fs' K (λ x c. rw q' (entry-others fs (length K) record { place = left_size K; done = true } x (λ y. omega arith))) h.stack.1,
        );
        fine = (w, h.fine.1);
        sound = h.sound;
        wide = rw p' (put-length e (8 * l) (encode v) f ∙ h.wide);
        high = rw q' (rw (length-set fs (length K) record { place = left_size K; done = true }) h.high);
      }

  -- The innermost frame's record, and what is done after it.
  pub frame-lies : (f : Frame) (t : Term) → Zip e fs l r n (f ∷ K) t → drop (8 * left_size K) e ≡ record8 (kind_of f) 0 (between f ++ drop (8 * l) e)
  frame-lies f t h =
      let s : e ≡ lefts K ++ record8 (kind_of f) 0 (between f ++ drop (8 * l) e) =
      sym (take-append-drop (8 * l) e) ∙ ap (λ (x : List ℕ). x ++ drop (8 * l) e) h.left ∙ simp append_assoc in
      ap (drop (8 * left_size K)) s ∙ drop_at (lefts K) (record8 (kind_of f) 0 (between f ++ drop (8 * l) e)) (8 * left_size K) (lefts-length K)

  -- Its kind is the frame's.
  pub frame-kind : (f : Frame) (t : Term) → Zip e fs l r n (f ∷ K) t → kind_at e (left_size K) ≡ kind_of f
  frame-kind f t h = record-kind e (left_size K) (kind_of f) 0 (between f ++ drop (8 * l) e) (frame-lies f t h)

  pub frame-inside : (f : Frame) (t : Term) → Zip e fs l r n (f ∷ K) t → left_size K < count e
  frame-inside f t h = record-inside e (left_size K) (kind_of f) 0 (between f ++ drop (8 * l) e) (frame-lies f t h)

  module _ (w : Pair) (a v : Term) (h : Zip e fs l r n (done w a ∷ K) v) where
    -- The part that is done lies after its frame's record.
    pub first-lies : drop (8 * (left_size K + 1)) e ≡ encode a ++ drop (8 * l) e
    first-lies = record-rest e (left_size K) (pair_kind w) 0 (encode a ++ drop (8 * l) e) (frame-lies (done w a) v h)

    -- Its numbers fit.
    pub first_fits : Fits a
    first_fits = (fits-shared.two w a v (plug-part fits-shared K (join w a v) h.sound.fits)).0

    -- It stands there.
    pub first-stands : Stands e (left_size K + 1) a
    first-stands = encode-stands e (left_size K + 1) a (drop (8 * l) e) first_fits first-lies
