-- The copy of a term with bytes in the place of a variable, and what an answer says of it. Assumes nothing.
use Rattle.std.specs.Prelude.{cond, List, [], ◌++◌, ◌≡◌, ℕ, suc, ◌+◌, ◌*◌, ◌<◌, ◌≤◌, eqb, length, drop, Option, Some, None}
use Rattle.words.specs.Put.{put}
use Rattle.calculus.specs.Term.{Term, records, Bare}
use Rattle.calculus.specs.Term.Term.{var, fun, con, lam, app, call_event, emit, sum, branch}
use Rattle.terms.specs.Record.{record8}
use Rattle.terms.specs.Encode.{encode}

-- A term's bytes with the bytes u for variable d; each abstraction on the way counts one more.
abbrev pub copied : ℕ → List ℕ → Term → List ℕ
copied d u (var n) = cond (eqb n d) u (record8 1 n [])
copied d u (fun n) = record8 2 n []
copied d u (con n) = record8 3 n []
copied d u (lam n b) = record8 4 n (copied (suc d) u b)
copied d u (app a b) = record8 5 0 (copied d u a ++ copied d u b)
copied d u (call_event n a r) = record8 6 n (copied d u a ++ copied d u r)
copied d u (emit n a r) = record8 7 n (copied d u a ++ copied d u r)
copied d u (sum a b) = record8 9 0 (copied d u a ++ copied d u b)
copied d u (branch c a b) = record8 10 0 (copied d u c ++ (copied d u a ++ copied d u b))

-- The bytes of t lie at a record: a term of Λcall, of at most 1,024 records.
pub record Lies (s : List ℕ) (at : ℕ) (t : Term) : Type 0 where
  pub bytes : drop (8 * at) s ≡ encode t ++ drop (8 * (at + records t)) s
  pub bare : Bare t
  pub few : records t ≤ 1024

-- What an answer says of the bytes w, to be written to o from byte p on: the byte after them, or nothing exactly where they go past o's end.
-- Where nothing is answered o' has any bytes.
abbrev pub WrittenIs : List ℕ → List ℕ → ℕ → Option ℕ → List ℕ → Type 0
WrittenIs w o p (Some q) o' = (q ≡ p + length w) × (q ≤ length o) × (o' ≡ put o p w)
WrittenIs w o p None o' = (length o < p + length w) × (length o' ≡ length o)
