-- Adding two constants and choosing a term of a branch, from what the code reads. Assumes nothing.
use mathlib.Core.List.{List}
use mathlib.Core.Path.{◌≡◌, refl, sym, ◌∙◌}
use Prim.Native.Nat.{ℕ, ◌+◌, ◌-◌, ◌*◌, ◌<◌, ◌≤◌}
use Rattle.words.specs.Bytes.{bytes, part}
use Rattle.words.specs.Put.{put}
use Rattle.terms.specs.Record.{count, record_number}
use Rattle.zipper.specs.Zipper.{end_at}
use Rattle.machine.specs.Choice.{summed, Fork, moved, ChoiceIs}

pub summed-is : (e : List ℕ) (p r a b : ℕ) → a ≡ record_number e (p + 1) → b ≡ record_number e r → (e' : List ℕ) → e' ≡ put e (8 * r + 4) (bytes 4 (a + b))
    → e' ≡ summed e p r
unfolding summed
summed-is e p r a b x y e' m = m ∙ rw (x, y)

-- The numbers that the choice's indices go by.
pub fork-places : {e : List ℕ} {r : ℕ} → Fork e r → (t : ℕ) → t ≡ end_at e (r + 1) → (end : ℕ) → end ≡ end_at e t → (r + 1 < t) × (t < end) × (end ≤ count e)
fork-places f t at end last = rw (last, at) (f.second, f.third, f.inside)

module _ (e : List ℕ) (r t : ℕ) (at : t ≡ end_at e (r + 1)) (m : ℕ) (q : m ≡ record_number e r) where
  -- The third term, as it lies.
  pub third-is : (m ≡ 0 → ⊥) → ChoiceIs e r t e
  third-is n = record { on_zero = λ z. absurd (n (q ∙ z)); on_other = λ z. (at, refl) }

  -- The second, moved.
  pub second_is : m ≡ 0 → (end : ℕ) → end ≡ end_at e t → (e' : List ℕ)
      → e' ≡ put e (8 * (end - (t - (r + 1)))) (part e (8 * (r + 1)) (8 * (t - (r + 1)))) → ChoiceIs e r (end - (t - (r + 1))) e'
  unfolding moved
  second_is z end last e' w = record { on_zero = λ y. (rw (last, at), w ∙ rw (last, at)); on_other = λ y. absurd (y (sym q ∙ z)) }
