-- Demand 3 on bytes, over the definitions that the entries' contracts cite. Assumes nothing.
use Rattle.std.specs.Prelude.{false, ◌↔◌, ◌≢◌, ◌≡◌, ℕ, suc, ◌<◌, ◌≤◌, length, take}
use mathlib.Core.List.{List, Memᴰ}
use Rattle.calculus.specs.Entailment.{Entry, Entails}
use Rattle.calculus.specs.Claim.{calls_below, Rising, Full as FullMeans}
use Rattle.guideline.specs.Read.{guideline_of}
use Rattle.script.specs.File.{program_in}
use Rattle.machine.specs.declared.Outcome.{Outcome}
use Rattle.machine.specs.declared.Outcome.TheVariants.{Full}
use Rattle.plain.specs.Answer.{PlainRun, buffer_size, most_budget, plain_of}
use Rattle.history.specs.Entries.{entries_in}
use Rattle.booking.specs.declared.Counts.{Counts}
use Rattle.rewritten.specs.Answer.{too_short, rewritten_of}
use Rattle.rewritten.specs.Answer.RewrittenRun.{Ran}

-- Script s, guideline g, budget n: the rewritten run answered outcome x and counts k, and left its last expression in the buffer b and its
-- log in the buffer l. Plain runs are those of s, in any two buffers e and c that are long enough: a refused call makes no run.
pub record Claim (s g : List ℕ) (n : ℕ) (x : Outcome) (k : Counts) (b l : List ℕ) : Type 0 where
  -- "Then the plain run of S with budget k makes exactly k steps …
  pub steps : (e c : List ℕ) → buffer_size ≤ length e → buffer_size ≤ length c → (o : Outcome) × ((plain_of s k.steps e c).answer ≡ PlainRun.Ran o k.steps)
  -- … and ends on the same expression, record for record."
  pub expression : (e c : List ℕ) → buffer_size ≤ length e → buffer_size ≤ length c → take buffer_size (plain_of s k.steps e c).expression ≡ take buffer_size b
  -- "With budget n the plain run has the same outcome and the same count as the rewritten one, unless the rewritten one reports a full
  -- history"
  pub same : x ≢ Full → (e c : List ℕ) → buffer_size ≤ length e → buffer_size ≤ length c → (plain_of s n e c).answer ≡ PlainRun.Ran x k.steps
  -- "A full history, reported at k steps, means that 1,024 of steps 0 to k − 1 of the plain run with budget n are noted calls and step k is
  -- one more."
  pub full : x ≡ Full → FullMeans (guideline_of g) (program_in s) n k.steps
  -- "The log holds (t, f, v) exactly when t is below k, step t of the plain run calls f on an argument with view v, and G with that run's
  -- calls of steps 0 to t entails LoggedCall(t, f, v)."
  pub log : (y : Entry) → Memᴰ y (entries_in l k.log) ↔ ((y.time < k.steps) × Memᴰ y (calls_below (program_in s) (suc y.time)) × Entails (guideline_of g) (calls_below (program_in s) (suc y.time)) y)
  -- "It holds each of these once, by rising t."
  pub rising : Rising (entries_in l k.log)

-- "The rewritten run of S under G is the one called with G on the file that rewriting S under G wrote", for every budget and all buffers,
-- whatever they held before.
pub record Demand3 (s g file : List ℕ) : Type 0 where
  -- It is refused only for its budget or a buffer that is too short, …
  pub runs : (n : ℕ) → n ≤ most_budget → (e c h l t : List ℕ) → too_short (length e) (length c) (length h) (length l) (length t) ≡ false
      → (x : Outcome) × (k : Counts) × ((rewritten_of file g n e c h l t).answer ≡ Ran x k)
  -- … and where it is not refused, the claim holds of what it returns and leaves.
  pub claims : (n : ℕ) (e c h l t : List ℕ) (x : Outcome) (k : Counts) → (rewritten_of file g n e c h l t).answer ≡ Ran x k
      → Claim s g n x k (rewritten_of file g n e c h l t).expression (rewritten_of file g n e c h l t).log
