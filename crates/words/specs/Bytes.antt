-- Numbers as bytes, the low byte first, and ranges of a list. Assumes nothing.
use Rattle.std.specs.Prelude.{◌≡◌, refl, List, [], ◌∷◌, ◌++◌, ℕ, zero, suc, ◌+◌, ◌-◌, ◌*◌, ◌/◌, ◌%◌, ◌^◌, ◌<◌, ◌≤◌, length, get_or, take, drop}
use Rattle.std.proofs.Common.{sym, ap, ◌∙◌, arith, add-one, length-take, length-drop, take_all, drop-cons, get_or-drop, take-take, drop-drop, take-add}
use Rattle.std.proofs.Math.Nat.{pow-succ', sub-zero, div-div-eq-div-mul}
use Rattle.std.proofs.Math.Seq.{take-nil, take-append_seam, drop-append-add}

-- the value of a list of bytes
unfoldable pub number : List ℕ → ℕ
number [] = 0
number (b ∷ bs) = b + 256 * number bs

-- the bytes of a number, so many as the width says
unfoldable pub bytes : ℕ → ℕ → List ℕ
bytes zero x = []
bytes (suc w) x = x % 256 ∷ bytes w (x / 256)

-- the n elements from i on
unfoldable pub part : List ℕ → ℕ → ℕ → List ℕ
part xs i n = take n (drop i xs)

-- the number of so many bytes as the width says, from i on
abbrev pub number_at : ℕ → List ℕ → ℕ → ℕ
number_at w xs i = number (part xs i w)

-- each element is a byte (past the end 0 is read)
abbrev pub AllBytes : List ℕ → Type 0
AllBytes xs = (i : ℕ) → get_or xs i 0 < 256

-- ---- numbers and their bytes

pub bytes-length : (w x : ℕ) → length (bytes w x) ≡ w
unfolding bytes
bytes-length zero x = refl
bytes-length (suc w) x = ap suc (bytes-length w (x / 256))

pub number-bytes : (w x : ℕ) → x < 256 ^ w → number (bytes w x) ≡ x
unfolding number bytes
number-bytes zero x h = omega arith
number-bytes (suc w) x h =
    let e : 256 ^ suc w ≡ 256 * 256 ^ w = pow-succ' 256 w in
    let r : number (bytes w (x / 256)) ≡ x / 256 = number-bytes w (x / 256) (omega arith) in
    omega arith

pub number-below : (bs : List ℕ) → AllBytes bs → number bs < 256 ^ length bs
unfolding number
number-below [] h = omega arith
number-below (b ∷ bs) h =
    let e : 256 ^ suc (length bs) ≡ 256 * 256 ^ length bs = pow-succ' 256 (length bs) in
    omega (arith, h 0, number-below bs (λ i. h (suc i)))

pub bytes-number : (bs : List ℕ) → AllBytes bs → bytes (length bs) (number bs) ≡ bs
unfolding number bytes
bytes-number [] h = refl
bytes-number (b ∷ bs) h =
    let l : b < 256 = h 0 in
    let m : (b + 256 * number bs) % 256 ≡ b = omega arith in
    let d : (b + 256 * number bs) / 256 ≡ number bs = omega arith in
    rw (m, d) (ap (λ (t : List ℕ). b ∷ t) (bytes-number bs (λ i. h (suc i))))

-- ---- ranges

take_below : (n : ℕ) (l : List ℕ) → AllBytes l → AllBytes (take n l)
take_below zero l h i = omega arith
take_below (suc n) [] h i = h i
take_below (suc n) (x ∷ l) h zero = h 0
take_below (suc n) (x ∷ l) h (suc i) = take_below n l (λ k. h (suc k)) i

drop-take : (j n : ℕ) (l : List ℕ) → drop j (take n l) ≡ take (n - j) (drop j l)
drop-take zero n l = rw sub-zero
drop-take (suc j) zero l = let e : 0 - suc j ≡ 0 = omega arith in rw e
drop-take (suc j) (suc n) [] = sym (take-nil (suc n - suc j))
drop-take (suc j) (suc n) (x ∷ l) = let e : suc n - suc j ≡ n - j = omega arith in rw e (drop-take j n l)

pub part_none : (xs : List ℕ) (i : ℕ) → part xs i 0 ≡ []
unfolding part
part_none xs i = refl

pub part-all : (xs : List ℕ) (n : ℕ) → length xs ≤ n → part xs 0 n ≡ xs
unfolding part
part-all xs n h = take_all n xs h

pub part-below : (xs : List ℕ) (i n : ℕ) → AllBytes xs → AllBytes (part xs i n)
unfolding part
part-below xs i n h = take_below n (drop i xs) (λ k. rw (get_or-drop i xs k 0) (h (i + k)))

pub part-append : (xs : List ℕ) (i m n : ℕ) → part xs i (m + n) ≡ part xs i m ++ part xs (i + m) n
unfolding part
part-append xs i m n = take-add m n (drop i xs) ∙ ap (λ (t : List ℕ). take m (drop i xs) ++ take n t) (drop-drop m i xs)

-- a range that ends before p is one of the first p elements
pub part-take : (xs : List ℕ) (i n p : ℕ) → i + n ≤ p → part (take p xs) i n ≡ part xs i n
unfolding part
part-take xs i n p h = ap (take n) (drop-take i p xs) ∙ take-take n (p - i) (drop i xs) (omega arith)

pub part_left : (xs ys : List ℕ) (i n : ℕ) → i + n ≤ length xs → part (xs ++ ys) i n ≡ part xs i n
part_left xs ys i n h = sym (part-take (xs ++ ys) i n (length xs) h) ∙ ap (λ (t : List ℕ). part t i n) (take-append_seam xs ys)

pub part_right : (xs ys : List ℕ) (i n : ℕ) → part (xs ++ ys) (length xs + i) n ≡ part ys i n
unfolding part
part_right xs ys i n = ap (take n) (drop-append-add xs ys i)

pub part-cons : (xs : List ℕ) (i n : ℕ) → i < length xs → part xs i (n + 1) ≡ get_or xs i 0 ∷ part xs (i + 1) n
unfolding part
part-cons xs i n h = rw (add-one n, add-one i, drop-cons xs i 0 h)

pub part_length : (xs : List ℕ) (i n : ℕ) → i + n ≤ length xs → length (part xs i n) ≡ n
unfolding part
part_length xs i n h = simp (length-take, length-drop) (omega arith)

pub part-snoc : (xs : List ℕ) (i n : ℕ) → i + n < length xs → part xs i (n + 1) ≡ part xs i n ++ (get_or xs (i + n) 0 ∷ [])
part-snoc xs i n h =
    part-append xs i n 1
    ∙ ap (λ (t : List ℕ). part xs i n ++ t) (part-cons xs (i + n) 0 h ∙ ap (λ (t : List ℕ). get_or xs (i + n) 0 ∷ t) (part_none xs (i + n + 1)))

-- a number that was read is written as it stood
pub bytes-part : (xs : List ℕ) (i w : ℕ) → AllBytes xs → i + w ≤ length xs → bytes w (number_at w xs i) ≡ part xs i w
bytes-part xs i w b h = rw (part_length xs i w h) at (bytes-number (part xs i w) (part-below xs i w b))

-- ranges of bytes that have the same number are the same
pub part-number : (xs : List ℕ) (i : ℕ) (ys : List ℕ) (j w : ℕ) → AllBytes xs → AllBytes ys → i + w ≤ length xs → j + w ≤ length ys
    → number_at w xs i ≡ number_at w ys j → part xs i w ≡ part ys j w
part-number xs i ys j w b c h k e = sym (bytes-part xs i w b h) ∙ ap (bytes w) e ∙ bytes-part ys j w c k

-- ---- a number read byte by byte

pub number-next : (w : ℕ) (xs : List ℕ) (i j : ℕ) → i < length xs → j ≡ i + 1 → number_at (w + 1) xs i ≡ get_or xs i 0 + 256 * number_at w xs j
unfolding number
number-next w xs i j h e = rw (part-cons xs i w h, e)

pub number-none : (xs : List ℕ) (i : ℕ) → number_at 0 xs i ≡ 0
unfolding number
number-none xs i = rw (part_none xs i)

-- the widths that the code reads
module _ (xs : List ℕ) (i : ℕ) where
  pub number-2 : i + 2 ≤ length xs → number_at 2 xs i ≡ get_or xs i 0 + 256 * get_or xs (i + 1) 0
  number-2 h = omega (arith, number-next 1 xs i (i + 1) (omega arith) refl, number-next 0 xs (i + 1) (i + 2) (omega arith) (omega arith), number-none xs (i + 2))

  pub number-4 : i + 4 ≤ length xs → number_at 4 xs i ≡ get_or xs i 0 + 256 * (get_or xs (i + 1) 0 + 256 * (get_or xs (i + 2) 0 + 256 * get_or xs (i + 3) 0))
  number-4 h =
      omega (
        arith,
        number-next 3 xs i (i + 1) (omega arith) refl,
        number-next 2 xs (i + 1) (i + 2) (omega arith) (omega arith),
        number-next 1 xs (i + 2) (i + 3) (omega arith) (omega arith),
        number-next 0 xs (i + 3) (i + 4) (omega arith) (omega arith),
        number-none xs (i + 4),
      )

  pub number-8 : i + 8 ≤ length xs
      → number_at 8 xs i
      ≡ get_or xs i 0 + 256 * (get_or xs (i + 1) 0 + 256 * (get_or xs (i + 2) 0 + 256 * get_or xs (i + 3) 0))
      + 4294967296 * (get_or xs (i + 4) 0 + 256 * (get_or xs (i + 5) 0 + 256 * (get_or xs (i + 6) 0 + 256 * get_or xs (i + 7) 0)))
  number-8 h =
      omega (
        arith,
        number-next 7 xs i (i + 1) (omega arith) refl,
        number-next 6 xs (i + 1) (i + 2) (omega arith) (omega arith),
        number-next 5 xs (i + 2) (i + 3) (omega arith) (omega arith),
        number-next 4 xs (i + 3) (i + 4) (omega arith) (omega arith),
        number-next 3 xs (i + 4) (i + 5) (omega arith) (omega arith),
        number-next 2 xs (i + 5) (i + 6) (omega arith) (omega arith),
        number-next 1 xs (i + 6) (i + 7) (omega arith) (omega arith),
        number-next 0 xs (i + 7) (i + 8) (omega arith) (omega arith),
        number-none xs (i + 8),
      )

-- the widths that the code writes
pub bytes_2 : (x : ℕ) → bytes 2 x ≡ x % 256 ∷ x / 256 % 256 ∷ []
unfolding bytes
bytes_2 x = refl

pub bytes_4 : (x : ℕ) → bytes 4 x ≡ x % 256 ∷ x / 256 % 256 ∷ x / 65536 % 256 ∷ x / 16777216 % 256 ∷ []
unfolding bytes
bytes_4 x = simp div-div-eq-div-mul

pub bytes_8 : (x : ℕ)
    → bytes 8 x
    ≡ x % 256 ∷ x / 256 % 256 ∷ x / 65536 % 256 ∷ x / 16777216 % 256
    ∷ x / 4294967296 % 256 ∷ x / 1099511627776 % 256 ∷ x / 281474976710656 % 256 ∷ x / 72057594037927936 % 256 ∷ []
unfolding bytes
bytes_8 x = simp div-div-eq-div-mul
