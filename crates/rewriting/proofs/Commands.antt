-- The bytes of commands. Assumes nothing.
use mathlib.Core.Bool.{Bool, true, false}
use mathlib.Core.List.{List, [], ◌∷◌, ◌++◌, append_assoc}
use mathlib.Core.Path.{◌≡◌, refl, sym, ap, ◌∙◌}
use Prim.Native.Nat.{ℕ, ◌+◌, ◌/◌, ◌%◌, ◌<◌, ◌≤◌}
use native.Mathlib.Omega.{arith}
use lib.Dec.{eqb}
use lib.ListN.{length, length-append}
use borrow.Author.Tests.{eq-eqb, ne_eqb, eqb-true, eqb-false}
use Rattle.words.specs.Bytes.{bytes, bytes-length}
use Rattle.words.specs.Put.{put, put-put}
use Rattle.terms.specs.Record.{record8}
use Rattle.terms.proofs.Encode.{record-length}
use Rattle.rewriting.specs.Grown.{command, commands}

-- A record and the bytes after it.
pub record-front : (k n : ℕ) (rest : List ℕ) → record8 k n [] ++ rest ≡ record8 k n rest
record-front k n rest = ap (λ (l : List ℕ). k ∷ 0 ∷ 0 ∷ 0 ∷ l) (append_assoc (bytes 4 n) [] rest)

-- A command has two records.
pub command-length : (k f : ℕ) → length (command k f) ≡ 16
unfolding command
command-length k f = omega (arith, record-length k f (record8 1 0 []), record-length 1 0 [])

whole : (k f : ℕ) → k < 256 → (bytes 4 k ++ bytes 4 f) ++ bytes 8 1 ≡ record8 k f (record8 1 0 [])
unfolding bytes
whole k f h = let d : k / 256 ≡ 0 = omega arith in let m : k % 256 ≡ k = omega arith in rw (m, d)

-- Three numbers are a command: the kind, the function, and variable 0 as one number of eight bytes.
pub command-put : (o : List ℕ) {o₁ o₂ o₃ : List ℕ} (at k f : ℕ) {x : ℕ} → k < 256 → at + 16 ≤ length o → x ≡ k
    → o₁ ≡ put o at (bytes 4 x) → o₂ ≡ put o₁ (at + 4) (bytes 4 f) → o₃ ≡ put o₂ (at + 8) (bytes 8 1) → o₃ ≡ put o at (command k f)
unfolding command
command-put o {o₁} {o₂} {o₃} at k f h l x e₁ e₂ e₃ =
    let n₁ : at + 4 ≡ at + length (bytes 4 k) = omega (arith, bytes-length 4 k) in
    let n₂ : at + 8 ≡ at + length (bytes 4 k ++ bytes 4 f) = omega (arith, length-append (bytes 4 k) (bytes 4 f), bytes-length 4 k, bytes-length 4 f) in
    let p₂ : o₂ ≡ put o at (bytes 4 k ++ bytes 4 f) = e₂ ∙ rw (e₁, x, n₁) (put-put o at (bytes 4 k) (omega (arith, bytes-length 4 k)) (bytes 4 f)) in
    e₃ ∙ rw (p₂, n₂) (put-put o at (bytes 4 k ++ bytes 4 f) (omega arith) (bytes 8 1) ∙ ap (put o at) (whole k f h))

-- ---- the commands of a mark

module _ (m f : ℕ) where
  -- None, one or two.
  pub commands-none : m ≡ 0 → commands m f ≡ []
  unfolding commands
  commands-none e = rw (eq-eqb m 0 e)

  pub commands-one : 0 < m → (m ≡ 4 → ⊥) → commands m f ≡ command 6 f
  unfolding commands
  commands-one l n = rw (ne_eqb m 0 (λ e. omega arith), ne_eqb m 4 n)

  pub commands-two : m ≡ 4 → commands m f ≡ command 6 f ++ command 7 f
  unfolding commands
  commands-two e = rw e

  -- How long they are.
  pub one-length : 0 < m → (m ≡ 4 → ⊥) → length (commands m f) ≡ 16
  one-length l n = ap length (commands-one l n) ∙ command-length 6 f

  pub two-length : m ≡ 4 → length (commands m f) ≡ 32
  two-length e = ap length (commands-two e) ∙ length-append (command 6 f) (command 7 f) ∙ omega (arith, command-length 6 f, command-length 7 f)

  -- Where there is a mark there is a command.
  pub commands-least : 0 < m → 16 ≤ length (commands m f)
  commands-least l = on (eqb m 4) refl
    where
      on : (b : Bool) → eqb m 4 ≡ b → 16 ≤ length (commands m f)
      on true e = omega (arith, two-length (eqb-true m 4 e))
      on false e = omega (arith, one-length l (eqb-false m 4 e))

  -- They are written.
  pub one-put : (o : List ℕ) {o' : List ℕ} (at : ℕ) → 0 < m → (m ≡ 4 → ⊥) → o' ≡ put o at (command 6 f) → o' ≡ put o at (commands m f)
  one-put o at l n e = e ∙ ap (put o at) (sym (commands-one l n))

  pub two-put : (o : List ℕ) {o' o'' : List ℕ} (at : ℕ) → m ≡ 4 → at + 16 ≤ length o → o' ≡ put o at (command 6 f) → o'' ≡ put o' (at + 16) (command 7 f)
      → o'' ≡ put o at (commands m f)
  two-put o at q l e e' =
      let n : at + 16 ≡ at + length (command 6 f) = omega (arith, command-length 6 f) in
      e' ∙ rw (e, n, commands-two q) (put-put o at (command 6 f) (omega (arith, command-length 6 f)) (command 7 f))
