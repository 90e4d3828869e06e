-- The copy is the calculus's substitution, its numbers fit, and where it may be made. Assumes nothing.
use mathlib.Core.Bool.{Bool, true, false, cond}
use mathlib.Core.List.{List, ◌++◌}
use mathlib.Core.Path.{◌≡◌, refl, sym, ap, ap₂, ◌∙◌}
use Prim.Native.Nat.{ℕ, suc, ◌+◌, ◌*◌, ◌≤◌}
use native.Mathlib.Omega.{arith}
use lib.Dec.{eqb}
use lib.ListN.{drop}
use lib.Seq.{drop_at, drop-drop}
use Rattle.words.specs.Bytes.{AllBytes}
use Rattle.calculus.specs.Term.{Term, records, Bare}
use Rattle.calculus.specs.Term.Term.{var, fun, con, lam, app, call_event, emit, sum, branch}
use Rattle.calculus.specs.Substitution.{put as put_term}
use Rattle.terms.specs.Record.{record8}
use Rattle.terms.specs.Encode.{encode, Fits}
use Rattle.terms.specs.Read.{Read, read_at, term_of, term_at}
use Rattle.terms.specs.Read.Read.{got, stuck}
use Rattle.terms.proofs.Encode.{encode-length, read_fits, term-at}
use Rattle.substitution.specs.Copied.{copied, Lies}

-- ---- the calculus

pick-encode : (b : Bool) (v t : Term) → cond b (encode v) (encode t) ≡ encode (cond b v t)
pick-encode true v t = refl
pick-encode false v t = refl

-- With a value's bytes for the variable, the copy is the bytes of the term with the value for it.
pub copied-encode : (d : ℕ) (v t : Term) → copied d (encode v) t ≡ encode (put_term d v t)
unfolding put_term
copied-encode d v (var n) = pick-encode (eqb n d) v (var n)
copied-encode d v (fun n) = refl
copied-encode d v (con n) = refl
copied-encode d v (lam n t) = ap (record8 4 n) (copied-encode (suc d) v t)
copied-encode d v (app a b) = ap₂ (λ (x y : List ℕ). record8 5 0 (x ++ y)) (copied-encode d v a) (copied-encode d v b)
copied-encode d v (call_event n a r) = ap₂ (λ (x y : List ℕ). record8 6 n (x ++ y)) (copied-encode d v a) (copied-encode d v r)
copied-encode d v (emit n a r) = ap₂ (λ (x y : List ℕ). record8 7 n (x ++ y)) (copied-encode d v a) (copied-encode d v r)
copied-encode d v (sum a b) = ap₂ (λ (x y : List ℕ). record8 9 0 (x ++ y)) (copied-encode d v a) (copied-encode d v b)
copied-encode d v (branch c a b) =
    ap₂ (λ (x y : List ℕ). record8 10 0 (x ++ y)) (copied-encode d v c) (ap₂ (λ (x y : List ℕ). x ++ y) (copied-encode d v a) (copied-encode d v b))

-- The numbers of the copy's records fit.
pub put-fits : (d : ℕ) (v t : Term) → Fits v → Fits t → Fits (put_term d v t)
unfolding put_term
put-fits d v (var n) g f = by (eqb n d)
  where
    by : (b : Bool) → Fits (cond b v (var n))
    by true = g
    by false = f
put-fits d v (fun n) g f = f
put-fits d v (con n) g f = f
put-fits d v (lam n t) g f = (f.0, put-fits (suc d) v t g f.1)
put-fits d v (app a b) g f = (put-fits d v a g f.0, put-fits d v b g f.1)
put-fits d v (call_event n a r) g f = (f.0, put-fits d v a g f.1, put-fits d v r g f.2)
put-fits d v (emit n a r) g f = (f.0, put-fits d v a g f.1, put-fits d v r g f.2)
put-fits d v (sum a b) g f = (put-fits d v a g f.0, put-fits d v b g f.1)
put-fits d v (branch c a b) g f = (put-fits d v c g f.0, put-fits d v a g f.1, put-fits d v b g f.2)

-- ---- the term at a record

-- Its numbers fit.
pub fits-at : (s : List ℕ) → AllBytes s → (at : ℕ) → Fits (term_at s at)
unfolding term_at
fits-at s b at = by (read_at s at) refl
  where
    by : (r : Read) → read_at s at ≡ r → Fits (term_of r)
    by (got t j) e = read_fits s b at t j e
    by (stuck j) e = omega arith

-- Where a term's bytes lie, the copy may be made.
pub lies : (s : List ℕ) (at : ℕ) (t : Term) (rest : List ℕ) → Fits t → Bare t → records t ≤ 1024 → drop (8 * at) s ≡ encode t ++ rest → Lies s at (term_at s at)
lies s at t rest f b n e =
    let q : 8 * at + 8 * records t ≡ 8 * (at + records t) = omega arith in
    let r : drop (8 * (at + records t)) s ≡ rest =
    ap (λ (x : ℕ). drop x s) (sym q) ∙ sym (drop-drop (8 * records t) (8 * at) s) ∙ ap (drop (8 * records t)) e ∙ drop_at (encode t) rest (8 * records t) (encode-length t) in
    let l : Lies s at t = record { bytes = e ∙ ap (λ (x : List ℕ). encode t ++ x) (sym r); bare = b; few = n } in
    rw (term-at s at t rest f e) l
