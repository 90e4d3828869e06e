-- A lent buffer after its use: some bytes, zeros up to the size, and past the size what stood there before. Assumes nothing.
use Rattle.std.specs.Prelude.{◌≡◌, refl, take, get_or, replicate}
use Rattle.std.proofs.Math.Path.{sym, ap, ap₂}
use Rattle.std.proofs.Common.{◌∙◌, arith, length-take, length-drop, drop_of_length-le, take_at}
use mathlib.Core.List.{List, [], ◌∷◌, ◌++◌, append_assoc}
use Prim.Native.Nat.{ℕ, zero, suc, ◌+◌, ◌-◌, ◌<◌, ◌≤◌}
use Rattle.std.proofs.Math.ListN.{length, drop, length-append, length-replicate}
use Rattle.std.proofs.lemmas.List.{replicate-append-replicate}
use Rattle.std.proofs.Math.Seq.{drop_at, drop-length}
use Rattle.words.specs.Bytes.{bytes}
use Rattle.words.specs.Put.{put, put-start, put-put}

-- so many zeros
abbrev pub zeros : ℕ → List ℕ
zeros n = replicate n 0

-- xs, zeros up to the size n, and past n what stood there
unfoldable pub filled : ℕ → List ℕ → List ℕ → List ℕ
filled n xs old = xs ++ (zeros (n - length xs) ++ drop n old)

-- ---- zeros

pub zeros-length : (n : ℕ) → length (zeros n) ≡ n
zeros-length n = length-replicate n 0

pub zeros-append : (m n : ℕ) → zeros m ++ zeros n ≡ zeros (m + n)
zeros-append m n = replicate-append-replicate m n 0

pub zeros-snoc : (n : ℕ) → zeros n ++ (0 ∷ []) ≡ zeros (n + 1)
zeros-snoc n = zeros-append n 1

zeros-at : (n i : ℕ) (l : List ℕ) → i < n → get_or (zeros n ++ l) i 0 ≡ 0
zeros-at zero i l h = absurd (omega arith)
zeros-at (suc n) zero l h = refl
zeros-at (suc n) (suc i) l h = zeros-at n i l (omega arith)

-- the bytes of 0
pub bytes-zeros : (w : ℕ) → bytes w 0 ≡ zeros w
unfolding bytes
bytes-zeros zero = refl
bytes-zeros (suc w) = ap (λ (t : List ℕ). 0 ∷ t) (bytes-zeros w)

-- ---- a filled buffer

-- a buffer of just that size has nothing past it
pub filled-exact : (n : ℕ) (xs a b : List ℕ) → length a ≡ n → length b ≡ n → filled n xs a ≡ filled n xs b
unfolding filled
filled-exact n xs a b p q =
    let d : drop n a ≡ drop n b = ap (λ (x : ℕ). drop x a) (sym p) ∙ drop-length a ∙ sym (drop-length b) ∙ ap (λ (x : ℕ). drop x b) q in
    ap (λ (l : List ℕ). xs ++ (zeros (n - length xs) ++ l)) d

-- what is past the size comes back behind a filling of the part inside it
pub filled-rest : (n : ℕ) (xs old : List ℕ) → filled n xs (take n old) ++ drop n old ≡ filled n xs old
unfolding filled
filled-rest n xs old =
    let l : length (take n old) ≤ n = simp length-take (omega arith) in
    let d : drop n (take n old) ≡ [] = drop_of_length-le (take n old) l in
    ap (λ (y : List ℕ). (xs ++ (zeros (n - length xs) ++ y)) ++ drop n old) d ∙ simp append_assoc

module _ (n : ℕ) (xs old : List ℕ) (fits : length xs ≤ n) where
  -- the part inside the size
  head-length : length (xs ++ zeros (n - length xs)) ≡ n
  head-length = simp (length-append, length-replicate) (omega arith)

  pub filled-length : n ≤ length old → length (filled n xs old) ≡ length old
  unfolding filled
  filled-length h = simp (length-append, length-replicate, length-drop) (omega arith)

  pub filled-past : drop n (filled n xs old) ≡ drop n old
  unfolding filled
  filled-past = ap (drop n) (sym (append_assoc xs (zeros (n - length xs)) (drop n old))) ∙ drop_at (xs ++ zeros (n - length xs)) (drop n old) n head-length

  -- a later filling hides an earlier one
  pub filled-filled : (ys : List ℕ) → filled n ys (filled n xs old) ≡ filled n ys old
  unfolding filled
  filled-filled ys = ap (λ (l : List ℕ). ys ++ (zeros (n - length ys) ++ l)) filled-past

  zeros-split : (m : ℕ) → m ≤ n - length xs → zeros (n - length xs) ≡ zeros m ++ zeros (n - length xs - m)
  zeros-split m h = let e : n - length xs ≡ m + (n - length xs - m) = omega arith in ap (λ (k : ℕ). zeros k) e ∙ sym (zeros-append m (n - length xs - m))

  -- what is written where the bytes end goes on with them
  pub filled_put : (p : ℕ) (vs : List ℕ) → length xs ≡ p → p + length vs ≤ n → n ≤ length old → put (filled n xs old) p vs ≡ filled n (xs ++ vs) old
  unfolding filled put
  filled_put p vs e h g =
      let m : ℕ = length vs in
      let q : List ℕ = zeros (n - length xs - m) ++ drop n old in
      let s : xs ++ (zeros (n - length xs) ++ drop n old) ≡ (xs ++ zeros m) ++ q =
      ap (λ (l : List ℕ). xs ++ (l ++ drop n old)) (zeros-split m (omega arith)) ∙ simp append_assoc in
      let z : length (xs ++ zeros m) ≡ p + m = simp (length-append, length-replicate) (omega arith) in
      let d : drop (p + m) (xs ++ (zeros (n - length xs) ++ drop n old)) ≡ q = ap (drop (p + m)) s ∙ drop_at (xs ++ zeros m) q (p + m) z in
      let w : n - length xs - m ≡ n - length (xs ++ vs) = omega (arith, length-append xs vs) in
      ap₂ (λ (a b : List ℕ). a ++ (vs ++ b)) (take_at xs (zeros (n - length xs) ++ drop n old) p e) (d ∙ ap (λ (k : ℕ). zeros k ++ drop n old) w)
      ∙ sym (append_assoc xs vs (zeros (n - length (xs ++ vs)) ++ drop n old))

-- zeros from the start
pub filled-zeros : (n : ℕ) (old : List ℕ) → put old 0 (zeros n) ≡ filled n [] old
unfolding filled
filled-zeros n old =
    let z : n - length {A = ℕ} [] ≡ n = omega arith in
    put-start old (zeros n) ∙ rw (zeros-length n, z)

-- bytes, and zeros behind them
pub put-zeros : (n m : ℕ) (xs old : List ℕ) → length xs ≡ m → m ≤ n → n ≤ length old → put (put old 0 xs) m (zeros (n - m)) ≡ filled n xs old
unfolding filled
put-zeros n m xs old e h g =
    let s : 0 + length xs ≡ length xs = omega arith in
    let k : length (xs ++ zeros (n - length xs)) ≡ n = head-length n xs old (omega arith) in
    rw (sym e)
    (ap (λ (p : ℕ). put (put old 0 xs) p (zeros (n - length xs))) (sym s)
    ∙ put-put old 0 xs (omega arith) (zeros (n - length xs))
    ∙ put-start old (xs ++ zeros (n - length xs))
    ∙ rw k (append_assoc xs (zeros (n - length xs)) (drop n old)))

-- inside the size a filled buffer reads as its bytes, with 0 past them
pub filled_at : (n i : ℕ) (xs old : List ℕ) → i < n → get_or (filled n xs old) i 0 ≡ get_or xs i 0
unfolding filled
filled_at n i xs old h = go xs (drop n old) (n - length xs) i (omega arith)
  where
    go : (ys l : List ℕ) (m j : ℕ) → j < length ys + m → get_or (ys ++ (zeros m ++ l)) j 0 ≡ get_or ys j 0
    go [] l m j g = zeros-at m j l (omega arith)
    go (y ∷ ys) l m zero g = refl
    go (y ∷ ys) l m (suc j) g = go ys l m j (omega arith)
