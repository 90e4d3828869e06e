-- What adding two constants and choosing a term of a branch do to the bytes. Assumes nothing.
use Rattle.std.specs.Prelude.{List, ◌≡◌, ℕ, ◌+◌, ◌-◌, ◌*◌, ◌^◌, ◌<◌, ◌≤◌}
use Rattle.words.specs.Bytes.{bytes, part}
use Rattle.words.specs.Put.{put}
use Rattle.terms.specs.Record.{count, record_number}
use Rattle.zipper.specs.Zipper.{end_at}

-- Two constants, at records p + 1 and r, whose sum fits.
pub record Addends (e : List ℕ) (p r : ℕ) : Type 0 where
  pub first : p + 1 < count e
  pub second : r < count e
  pub fits : record_number e (p + 1) + record_number e r < 2 ^ 32

-- Their sum as the number of record r.
unfoldable pub summed : List ℕ → ℕ → ℕ → List ℕ
summed e p r = put e (8 * r + 4) (bytes 4 (record_number e (p + 1) + record_number e r))

-- Where the third term of a branch begins, whose first is at record r; and its second, once it ends where the third does.
abbrev pub third_at : List ℕ → ℕ → ℕ
third_at e r = end_at e (r + 1)

abbrev pub second_to : List ℕ → ℕ → ℕ
second_to e r = end_at e (third_at e r) - (third_at e r - (r + 1))

-- Two terms after the one at record r.
pub record Fork (e : List ℕ) (r : ℕ) : Type 0 where
  pub second : r + 1 < third_at e r
  pub third : third_at e r < end_at e (third_at e r)
  pub inside : end_at e (third_at e r) ≤ count e

-- The second moved, on 0.
unfoldable pub moved : List ℕ → ℕ → List ℕ
moved e r = put e (8 * second_to e r) (part e (8 * (r + 1)) (8 * (third_at e r - (r + 1))))

-- The term that is chosen begins at x.
pub record ChoiceIs (e : List ℕ) (r x : ℕ) (e' : List ℕ) : Type 0 where
  pub on_zero : record_number e r ≡ 0 → (x ≡ second_to e r) × (e' ≡ moved e r)
  pub on_other : (record_number e r ≡ 0 → ⊥) → (x ≡ third_at e r) × (e' ≡ e)
