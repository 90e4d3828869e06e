-- Demand 3 on trees, in one statement. Assumes nothing.
use Rattle.std.specs.Prelude.{Bool, true, ◌&&◌, ◌↔◌, ◌≢◌, ◌≡◌, ℕ, suc, ◌<◌, ltb, length}
use mathlib.Core.List.{List, [], ◌∷◌, Memᴰ}
use Rattle.calculus.specs.Lists.{keep, each}
use Rattle.calculus.specs.Term.{Program}
use Rattle.calculus.specs.Guideline.{Guideline}
use Rattle.calculus.specs.Entailment.{Call, Entry, entry, Entails}
use Rattle.calculus.specs.Rewriting.{rewrite, noted}
use Rattle.calculus.specs.Run.{Result, plain_run}
use Rattle.calculus.specs.Run.Outcome.{full}
use Rattle.calculus.specs.Log as L

abbrev pub entries : List Call → List Entry
entries cs = each (λ c. entry c ∷ []) cs

-- The entries of the calls of steps 0 to k − 1 of the plain run: "step t of the plain run calls f on an argument with view v".
abbrev pub calls_below : Program → ℕ → List Entry
calls_below S k = entries (plain_run S k).last.made

-- Of a function that gains 6.
abbrev pub is_noted : Guideline → Entry → Bool
is_noted G x = noted G x.function

-- "It holds each of these once, by rising t."
abbrev pub Above : ℕ → List Entry → Type 0
Above t [] = Unit {0}
Above t (x ∷ xs) = t < x.time × Above t xs

abbrev pub Rising : List Entry → Type 0
Rising [] = Unit {0}
Rising (x ∷ xs) = Above x.time xs × Rising xs

-- "A full history, reported at k steps, means that 1,024 of steps 0 to k − 1 of the plain run with budget n are noted calls and step k is
-- one more."
pub record Full (G : Guideline) (S : Program) (n k : ℕ) : Type 0 where
  pub before : length (keep (λ x. is_noted G x && ltb x.time k) (calls_below S n)) ≡ L.history_limit
  pub call : Entry
  pub made : Memᴰ call (calls_below S n)
  pub time : call.time ≡ k
  pub is_note : is_noted G call ≡ true

-- r is the rewritten run of S under G with budget n, k the count of its steps.
pub record Faithful (G : Guideline) (S : Program) (n : ℕ) (r : Result L.Conf) (k : ℕ) : Type 0 where
  -- "the plain run of S with budget k makes exactly k steps and ends on the same expression"
  pub count : (plain_run S k).last.time ≡ k
  pub expression : (plain_run S k).last.expr ≡ r.last.expr
  -- "With budget n the plain run has the same outcome and the same count as the rewritten one, unless the rewritten one reports a full
  -- history"
  pub same_outcome : r.outcome ≢ full → (plain_run S n).outcome ≡ r.outcome
  pub same_count : r.outcome ≢ full → (plain_run S n).last.time ≡ k
  pub full_means : r.outcome ≡ full → Full G S n k
  -- The history is the noted calls.
  pub history : r.last.state.history ≡ keep (is_noted G) (calls_below S k)
  -- "The log holds (t, f, v) exactly when t is below k, step t of the plain run calls f on an argument with view v, and G with that run's
  -- calls of steps 0 to t entails LoggedCall(t, f, v)."
  pub log : (x : Entry) → Memᴰ x r.last.state.log ↔ ((x.time < k) × Memᴰ x (calls_below S (suc x.time)) × Entails G (calls_below S (suc x.time)) x)
  pub rising : Rising r.last.state.log

-- The rewritten run of S under G runs what rewriting S under G gives.
abbrev pub Demand3 : Guideline → Program → ℕ → Type 0
Demand3 G S n =
    let r = L.rewritten_run G (rewrite G S) n in
    Faithful G S n r r.last.state.time
