-- The bytes of terms and programs (document 01, "Script records"). Assumes nothing.
use Rattle.std.specs.Prelude.{List, [], ◌∷◌, ◌++◌, ◌⊎◌, ◌≡◌, ℕ, suc, ◌^◌, ◌<◌}
use Rattle.calculus.specs.Term.{Term, Program}
use Rattle.calculus.specs.Term.Term.{var, fun, con, lam, app, call_event, emit, sum, branch}
use Rattle.terms.specs.Record.{kind_at, spare_at, record_number, record8}

-- A term's records: its own, then those of the terms that follow.
abbrev pub encode : Term → List ℕ
encode (var n) = record8 1 n []
encode (fun n) = record8 2 n []
encode (con n) = record8 3 n []
encode (lam n b) = record8 4 n (encode b)
encode (app a b) = record8 5 0 (encode a ++ encode b)
encode (call_event n a r) = record8 6 n (encode a ++ encode r)
encode (emit n a r) = record8 7 n (encode a ++ encode r)
encode (sum a b) = record8 9 0 (encode a ++ encode b)
encode (branch c a b) = record8 10 0 (encode c ++ (encode a ++ encode b))

-- Every number of the term's records fits its four bytes.
abbrev pub Fits : Term → Type 0
Fits (var n) = n < 2 ^ 32
Fits (fun n) = n < 2 ^ 32
Fits (con n) = n < 2 ^ 32
Fits (lam n b) = (n < 2 ^ 32) × Fits b
Fits (app a b) = Fits a × Fits b
Fits (call_event n a r) = (n < 2 ^ 32) × Fits a × Fits r
Fits (emit n a r) = (n < 2 ^ 32) × Fits a × Fits r
Fits (sum a b) = Fits a × Fits b
Fits (branch c a b) = Fits c × Fits a × Fits b

-- A record with nothing in it that the encoding would not write: bytes 1 to 3 are zero, and so is the number of an application, a sum or a
-- branch.
pub record Clean (s : List ℕ) (i : ℕ) : Type 0 where
  pub spare : spare_at s i ≡ 0
  pub idle : (kind_at s i ≡ 5) ⊎ ((kind_at s i ≡ 9) ⊎ (kind_at s i ≡ 10)) → record_number s i ≡ 0

-- The definitions from number f on, each its record and its body, then the main term.
abbrev pub encode_from : ℕ → List Term → Term → List ℕ
encode_from f [] main = encode main
encode_from f (b ∷ bs) main = record8 8 f (encode b ++ encode_from (suc f) bs main)

-- "A file holds 0 to 128 definitions numbered 0, 1, 2 in order, then one main term, then nothing."
abbrev pub encode_program : Program → List ℕ
encode_program S = encode_from 0 S.definitions S.main
