-- A claim about every record of a term, by the shape of the term and by the numbers of the records. Assumes nothing.
use mathlib.Core.Path.{◌≡◌}
use Prim.Native.Nat.{ℕ, suc, ◌+◌, ◌<◌, ◌≤◌}
use native.Mathlib.Decide.{dec_lt}
use native.Mathlib.Omega.{arith}
use Rattle.calculus.specs.Term.{Term, records}
use Rattle.calculus.specs.Term.Term.{var, fun, con, lam, app, call_event, emit, sum, branch}

-- Every record from i on and before j.
abbrev pub Between : (ℕ → Type 0) → ℕ → ℕ → Type 0
Between P i j = (k : ℕ) → i ≤ k → k < j → P k

-- Two ranges side by side.
pub between_join : (P : ℕ → Type 0) (i j l : ℕ) → Between P i j → Between P j l → Between P i l
between_join P i j l f g k p q = on (dec_lt k j)
  where
    on : Dec (k < j) → P k
    on (yes h) = f k p h
    on (no h) = g k (omega arith) q

-- One record.
pub between-one : (P : ℕ → Type 0) (i : ℕ) → P i → Between P i (i + 1)
between-one P i h k p q = let e : k ≡ i = omega arith in rw e h

-- Every record of a term that begins at record i.
abbrev pub Each : (ℕ → Type 0) → ℕ → Term → Type 0
Each P i (var n) = P i
Each P i (fun n) = P i
Each P i (con n) = P i
Each P i (lam n b) = P i × Each P (i + 1) b
Each P i (app a b) = P i × Each P (i + 1) a × Each P (i + 1 + records a) b
Each P i (call_event n a r) = P i × Each P (i + 1) a × Each P (i + 1 + records a) r
Each P i (emit n a r) = P i × Each P (i + 1) a × Each P (i + 1 + records a) r
Each P i (sum a b) = P i × Each P (i + 1) a × Each P (i + 1 + records a) b
Each P i (branch c a b) = P i × Each P (i + 1) c × Each P (i + 1 + records c) a × Each P (i + 1 + records c + records a) b

module _ (P : ℕ → Type 0) where
  -- The first record of a range.
  here : (i m : ℕ) → Between P i (i + suc m) → P i
  here i m c = c i (omega arith) (omega arith)

  -- The records of the first of two terms.
  left : (i m n : ℕ) → Between P i (i + suc (m + n)) → Between P (i + 1) (i + 1 + m)
  left i m n c k p q = c k (omega arith) (omega arith)

  -- The records of the second.
  right : (i m n : ℕ) → Between P i (i + suc (m + n)) → Between P (i + 1 + m) (i + 1 + m + n)
  right i m n c k p q = c k (omega arith) (omega arith)

  -- From the range to the term.
  pub each-into : (i : ℕ) (t : Term) → Between P i (i + records t) → Each P i t
  unfolding records
  each-into i (var n) c = here i 0 c
  each-into i (fun n) c = here i 0 c
  each-into i (con n) c = here i 0 c
  each-into i (lam n b) c = (here i (records b) c, each-into (i + 1) b (λ k p q. c k (omega arith) (omega arith)))
  each-into i (app a b) c =
      (here i (records a + records b) c, each-into (i + 1) a (left i (records a) (records b) c), each-into (i + 1 + records a) b (right i (records a) (records b) c))
  each-into i (call_event n a b) c =
      (here i (records a + records b) c, each-into (i + 1) a (left i (records a) (records b) c), each-into (i + 1 + records a) b (right i (records a) (records b) c))
  each-into i (emit n a b) c =
      (here i (records a + records b) c, each-into (i + 1) a (left i (records a) (records b) c), each-into (i + 1 + records a) b (right i (records a) (records b) c))
  each-into i (sum a b) c =
      (here i (records a + records b) c, each-into (i + 1) a (left i (records a) (records b) c), each-into (i + 1 + records a) b (right i (records a) (records b) c))
  each-into i (branch d a b) c = (
    here i (records d + (records a + records b)) c,
    each-into (i + 1) d (left i (records d) (records a + records b) c),
    each-into (i + 1 + records d) a (λ k p q. c k (omega arith) (omega arith)),
    each-into (i + 1 + records d + records a) b (λ k p q. c k (omega arith) (omega arith)),
  )

  -- A record and the two terms after it.
  pair : (i m n : ℕ) → P i → Between P (i + 1) (i + 1 + m) → Between P (i + 1 + m) (i + 1 + m + n) → Between P i (i + suc (m + n))
  pair i m n h f g k p q =
      between_join P i (i + 1) (i + 1 + m + n) (between-one P i h) (between_join P (i + 1) (i + 1 + m) (i + 1 + m + n) f g) k p (omega arith)

  -- From the term to the range.
  pub each_from : (i : ℕ) (t : Term) → Each P i t → Between P i (i + records t)
  unfolding records
  each_from i (var n) h = between-one P i h
  each_from i (fun n) h = between-one P i h
  each_from i (con n) h = between-one P i h
  each_from i (lam n b) h = λ k p q. between_join P i (i + 1) (i + 1 + records b) (between-one P i h.0) (each_from (i + 1) b h.1) k p (omega arith)
  each_from i (app a b) h = pair i (records a) (records b) h.0 (each_from (i + 1) a h.1) (each_from (i + 1 + records a) b h.2)
  each_from i (call_event n a b) h = pair i (records a) (records b) h.0 (each_from (i + 1) a h.1) (each_from (i + 1 + records a) b h.2)
  each_from i (emit n a b) h = pair i (records a) (records b) h.0 (each_from (i + 1) a h.1) (each_from (i + 1 + records a) b h.2)
  each_from i (sum a b) h = pair i (records a) (records b) h.0 (each_from (i + 1) a h.1) (each_from (i + 1 + records a) b h.2)
  each_from i (branch c a b) h =
      pair i (records c) (records a + records b) h.0 (each_from (i + 1) c h.1)
      (λ k p q. between_join P (i + 1 + records c) (i + 1 + records c + records a) (i + 1 + records c + records a + records b) (each_from (i + 1 + records c) a h.2) (each_from (i + 1 + records c + records a) b h.3) k p (omega arith))
