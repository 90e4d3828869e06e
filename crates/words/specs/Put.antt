-- A list written over another from a place on, and how writes compose. Assumes nothing.
use Rattle.std.specs.Prelude.{◌≡◌, set, get_or}
use Rattle.std.proofs.Math.Path.{sym, ap, ap₂}
use Rattle.std.proofs.Common.{◌∙◌, arith, add-zero, length-drop, take-append-drop, drop-drop, take-take, length-take-le, get_or-drop}
use mathlib.Core.List.{List, [], ◌∷◌, ◌++◌, append_assoc}
use Prim.Native.Nat.{ℕ, ◌+◌, ◌-◌, ◌<◌, ◌≤◌}
use Rattle.std.proofs.Math.ListN.{length, take, drop, length-append, length-take, get_or-append}
use Rattle.std.proofs.Math.Seq.{take_at, drop_at, get_or-take}
use Rattle.std.proofs.lemmas.List.Edits.{sets, sets-eq}
use Rattle.words.specs.Bytes.{part}

-- old with vs over it from p on
unfoldable pub put : List ℕ → ℕ → List ℕ → List ℕ
put old p vs = take p old ++ (vs ++ drop (p + length vs) old)

module _ (old : List ℕ) (p : ℕ) (vs : List ℕ) (fits : p + length vs ≤ length old) where
  head-length : length (take p old ++ vs) ≡ p + length vs
  head-length = simp (length-append, length-take) (omega arith)

  joined : put old p vs ≡ (take p old ++ vs) ++ drop (p + length vs) old
  unfolding put
  joined = sym (append_assoc (take p old) vs (drop (p + length vs) old))

  front_length : length (take p old) ≡ p
  front_length = length-take-le p old (omega arith)

  pub put-length : length (put old p vs) ≡ length old
  unfolding put
  put-length = simp (length-append, length-take, length-drop) (omega arith)

  -- ---- what stands before the place, up to the end of what was written, and after it

  pub put_front : take p (put old p vs) ≡ take p old
  unfolding put
  put_front = take_at (take p old) (vs ++ drop (p + length vs) old) p front_length

  pub put-head : take (p + length vs) (put old p vs) ≡ take p old ++ vs
  put-head = ap (take (p + length vs)) joined ∙ take_at (take p old ++ vs) (drop (p + length vs) old) (p + length vs) head-length

  pub put-tail : drop (p + length vs) (put old p vs) ≡ drop (p + length vs) old
  put-tail = ap (drop (p + length vs)) joined ∙ drop_at (take p old ++ vs) (drop (p + length vs) old) (p + length vs) head-length

  pub put_rest : drop p (put old p vs) ≡ vs ++ drop (p + length vs) old
  unfolding put
  put_rest = drop_at (take p old) (vs ++ drop (p + length vs) old) p front_length

  pub put-take : (k : ℕ) → k ≤ p → take k (put old p vs) ≡ take k old
  put-take k h = sym (take-take k p (put old p vs) h) ∙ ap (take k) put_front ∙ take-take k p old h

  pub put-drop : (k : ℕ) → p + length vs ≤ k → drop k (put old p vs) ≡ drop k old
  put-drop k h =
      let q : ℕ = p + length vs in
      let e : k ≡ q + (k - q) = omega arith in
      rw e (sym (drop-drop (k - q) q (put old p vs)) ∙ ap (drop (k - q)) put-tail ∙ drop-drop (k - q) q old)

  -- ---- an element

  pub put-at-before : (i : ℕ) → i < p → get_or (put old p vs) i 0 ≡ get_or old i 0
  unfolding put
  put-at-before i h = get_or-append (take p old) (vs ++ drop (p + length vs) old) 0 i (omega (arith, front_length)) ∙ get_or-take p old i 0 h

  pub put-at : (i : ℕ) → i < length vs → get_or (put old p vs) (p + i) 0 ≡ get_or vs i 0
  put-at i h = sym (get_or-drop p (put old p vs) i 0) ∙ ap (λ (t : List ℕ). get_or t i 0) put_rest ∙ get_or-append vs (drop (p + length vs) old) 0 i h

  pub put-at-after : (i : ℕ) → p + length vs ≤ i → get_or (put old p vs) i 0 ≡ get_or old i 0
  put-at-after i h =
      let q : ℕ = p + length vs in
      let e : i ≡ q + (i - q) = omega arith in
      rw e (sym (get_or-drop q (put old p vs) (i - q) 0) ∙ ap (λ (t : List ℕ). get_or t (i - q) 0) put-tail ∙ get_or-drop q old (i - q) 0)

  -- ---- a range

  pub part-put : (n : ℕ) → length vs ≡ n → part (put old p vs) p n ≡ vs
  unfolding part
  part-put n e = ap (take n) put_rest ∙ take_at vs (drop (p + length vs) old) n e

  -- ---- two writes

  -- the second where the first ended: one write
  pub put-put : (ws : List ℕ) → put (put old p vs) (p + length vs) ws ≡ put old p (vs ++ ws)
  unfolding put
  put-put ws =
      let q : ℕ = p + length vs in
      let n : q + length ws ≡ p + length (vs ++ ws) = omega (arith, length-append vs ws) in
      ap₂ (λ (x y : List ℕ). x ++ (ws ++ y)) put-head (put-drop (q + length ws) (omega arith) ∙ ap (λ (k : ℕ). drop k old) n)
      ∙ append_assoc (take p old) vs (ws ++ drop (p + length (vs ++ ws)) old)
      ∙ ap (λ (x : List ℕ). take p old ++ x) (sym (append_assoc vs ws (drop (p + length (vs ++ ws)) old)))

  -- the second ends where the first begins: one write
  pub put-put-before : (q : ℕ) (us : List ℕ) → q + length us ≡ p → put (put old p vs) q us ≡ put old q (us ++ vs)
  unfolding put
  put-put-before q us e =
      let n : p + length vs ≡ q + length (us ++ vs) = omega (arith, length-append us vs) in
      ap₂ (λ (x y : List ℕ). x ++ (us ++ y)) (put-take q (omega arith)) (ap (λ (k : ℕ). drop k (put old p vs)) e ∙ put_rest ∙ ap (λ (k : ℕ). vs ++ drop k old) n)
      ∙ ap (λ (x : List ℕ). take q old ++ x) (sym (append_assoc us vs (drop (q + length (us ++ vs)) old)))

-- writing nothing
pub put-none : (old : List ℕ) (p : ℕ) → put old p [] ≡ old
unfolding put
put-none old p = rw (add-zero p) (take-append-drop p old)

-- a write at the start
pub put-start : (old vs : List ℕ) → put old 0 vs ≡ vs ++ drop (length vs) old
unfolding put
put-start old vs = let e : 0 + length vs ≡ length vs = omega arith in rw e

-- ---- stores

-- stores one after another
pub put-sets : (old : List ℕ) (p : ℕ) (vs : List ℕ) → p + length vs ≤ length old → sets old p vs ≡ put old p vs
unfolding put
put-sets old p vs h = sets-eq vs old p h ∙ append_assoc (take p old) vs (drop (p + length vs) old)

pub put-set : (old : List ℕ) (i v : ℕ) → i < length old → set old i v ≡ put old i (v ∷ [])
put-set old i v h = put-sets old i (v ∷ []) (omega arith)

-- a store where the write ended, and one just before it
module _ (old : List ℕ) (p : ℕ) (vs : List ℕ) where
  pub put-more : (j v : ℕ) → length vs ≡ j → p + j < length old → set (put old p vs) (p + j) v ≡ put old p (vs ++ (v ∷ []))
  put-more j v e h =
      rw (sym e) (put-set (put old p vs) (p + length vs) v (omega (arith, put-length old p vs (omega arith))) ∙ put-put old p vs (omega arith) (v ∷ []))

  pub put-less : (q v : ℕ) → q + 1 ≡ p → p + length vs ≤ length old → set (put old p vs) q v ≡ put old q (v ∷ vs)
  put-less q v e h = put-set (put old p vs) q v (omega (arith, put-length old p vs h)) ∙ put-put-before old p vs h q (v ∷ []) e
