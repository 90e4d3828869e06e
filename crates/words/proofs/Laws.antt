-- What the library's methods read and write, in the words of this crate's definitions. Assumes nothing.
use Rattle.std.specs.Prelude.{◌≡◌, refl, List, [], ◌∷◌, ◌++◌, ℕ, zero, suc, ◌+◌, ◌*◌, ◌/◌, ◌%◌, ◌^◌, ◌<◌, ◌≤◌, length, get_or, take}
use Rattle.std.specs.Int.{byte_at, byte_worth, bytes_low_first, sum_through}
use Rattle.std.proofs.Common.{sym, ap, ap₂, ◌∙◌, arith, take_all, length-take}
use Rattle.std.proofs.Math.Nat.{pow-suc, pow-succ', div-div-eq-div-mul}
use Rattle.std.proofs.Math.Seq.{take-suc}
use Rattle.words.specs.Bytes.{number, bytes, part, number_at, part_length}

-- ---- a number of its bytes

number-snoc : (xs : List ℕ) (x : ℕ) → number (xs ++ (x ∷ [])) ≡ number xs + x * 256 ^ length xs
unfolding number
number-snoc [] x = omega arith
number-snoc (y ∷ ys) x =
    let e : x * 256 ^ suc (length ys) ≡ x * (256 * 256 ^ length ys) = ap (λ (p : ℕ). x * p) (pow-succ' 256 (length ys)) in
    omega (arith, number-snoc ys x)

number-more : (k : ℕ) (xs : List ℕ) → suc k < length xs → number (take (suc (suc k)) xs) ≡ number (take (suc k) xs) + byte_worth (suc k) (get_or xs (suc k) 0)
number-more k xs h =
    let l : length (take (suc k) xs) ≡ suc k = simp length-take (omega arith) in
    ap number (take-suc xs (suc k) 0 h) ∙ rw l at (number-snoc (take (suc k) xs) (get_or xs (suc k) 0))

number-first : (k : ℕ) (xs : List ℕ) → k < length xs → sum_through (λ i. byte_worth i (get_or xs i 0)) k ≡ number (take (suc k) xs)
unfolding number
number-first zero [] h = absurd (omega arith)
number-first zero (x ∷ xs) h = omega arith
number-first (suc k) xs h = omega (arith, number-first k xs (omega arith), number-more k xs h)

pub number-read : (k : ℕ) (s : List ℕ) (i : ℕ) {xs : List ℕ} → xs ≡ part s i (suc k) → i + suc k ≤ length s → sum_through (λ i. byte_worth i (get_or xs i 0)) k ≡ number_at (suc k) s i
number-read k s i {xs = xs} e h =
    let l : length xs ≡ suc k = ap length e ∙ part_length s i (suc k) h in
    number-first k xs (omega arith) ∙ ap number (take_all (suc k) xs (omega arith) ∙ e)

-- ---- the bytes of a number

byte-is : (i x : ℕ) → x / 256 ^ i % 256 ≡ byte_at i x
byte-is zero x = omega arith
byte-is (suc i) x = refl

bytes-from : (w i x : ℕ) → bytes w (x / 256 ^ i) ≡ bytes_low_first i w x
unfolding bytes
bytes-from zero i x = refl
bytes-from (suc w) i x =
    let e : x / 256 ^ i / 256 ≡ x / 256 ^ suc i = div-div-eq-div-mul x (256 ^ i) 256 ∙ ap (λ (p : ℕ). x / p) (sym (pow-suc 256 i)) in
    ap₂ (λ (y : ℕ) (ys : List ℕ). y ∷ ys) (byte-is i x) (ap (bytes w) e ∙ bytes-from w (suc i) x)

pub bytes-are : (w x : ℕ) → bytes_low_first 0 w x ≡ bytes w x
bytes-are w x = let e : x / 256 ^ 0 ≡ x = omega arith in sym (rw e at (bytes-from w 0 x))
