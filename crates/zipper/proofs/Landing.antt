-- A new term in the place of the innermost frame and its focus. Assumes nothing.
use mathlib.Core.List.{List, ◌∷◌, ◌++◌}
use mathlib.Core.Path.{◌≡◌, refl, sym, ap, ◌∙◌}
use Prim.Native.Nat.{ℕ, ◌+◌, ◌-◌, ◌*◌, ◌≤◌}
use native.Mathlib.Omega.{arith}
use lib.ListN.{length, take, drop, length-append, length-drop}
use lib.Seq.{take_at, take-take}
use Rattle.calculus.specs.Term.{Term, records, Bare}
use Rattle.terms.specs.Encode.{encode, Fits}
use Rattle.terms.proofs.Encode.{encode-length}
use Rattle.zipper.specs.declared.Entry.{Entry}
use Rattle.zipper.specs.Frame.{Frame, fill, plug}
use Rattle.zipper.specs.Layout.{lefts, rights, left_size, Zip}
use Rattle.zipper.specs.Zipper.{ZipOf}
use Rattle.zipper.proofs.Context.{bare-shared, fits-shared, plug-keeps}
use Rattle.zipper.proofs.Parts.{lefts-length, records-some, plug-records}

module _ {e : List ℕ} {fs : List Entry} {p l r n : ℕ} {f : Frame} {K : List Frame} {v : Term} (h : Zip e fs l r n (f ∷ K) v) (at : p ≡ left_size K) where
  -- What lies before the frame.
  front : take (8 * p) e ≡ lefts K
  front =
      sym (take-take (8 * p) (8 * l) e (omega (arith, h.sized)))
      ∙ ap (take (8 * p)) h.left
      ∙ take_at (lefts K) _ (8 * p) (omega (arith, lefts-length K))

  -- A term of no more records keeps the limit.
  pub fewer-small : (t : Term) → records t ≤ records (fill f v) → records (plug K t) ≤ 1024
  fewer-small t c = omega (arith, plug-records K t, plug-records K (fill f v), h.sound.small)

  -- With its bytes before those that follow the frame the term is the new focus; the frame is gone.
  pub landed : (t : Term) → Bare t → Fits t → records (plug K t) ≤ 1024 → (r' : ℕ) (e' : List ℕ) → take (8 * p) e' ≡ take (8 * p) e
      → drop (8 * r') e' ≡ encode t ++ rights K → length e' ≡ length e → ZipOf e' fs p r' (n - 1) (plug K t)
  landed t b g s r' e' x y w =
      let m : 24576 - 8 * r' ≡ 8 * records t + length (rights K) =
      omega (arith, length-drop (8 * r') e', ap length y, length-append (encode t) (rights K), encode-length t, h.wide) in
      let c = plug-records K t in
      let k = records-some t in
      record {
        frames = K;
        focus = t;
        zip = record {
          left = x ∙ front;
          right = y;
          sized = at;
          order = omega arith;
          deep = omega (arith, h.deep);
          stack = h.stack.1;
          fine = h.fine.1;
          sound = record {
            bare = plug-keeps bare-shared K (fill f v) t h.sound.bare b;
            fits = plug-keeps fits-shared K (fill f v) t h.sound.fits g;
            small = s;
          };
          wide = w ∙ h.wide;
          high = h.high;
        };
        whole = refl;
      }
