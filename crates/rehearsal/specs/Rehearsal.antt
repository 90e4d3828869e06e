-- A rehearsal: rewriting, then the rewritten run of the file that was written, in one call. Assumes nothing.
use Rattle.std.specs.Prelude.{Bool, cond, List, ℕ, eqb, length}
use Rattle.words.specs.Put.{put}
use Rattle.refusal.specs.Refusal.{Verdict}
use Rattle.rewriting.specs.Answer.{written_file, rewriting_verdict}
use Rattle.plain.specs.Answer.{run_due}
use Rattle.rewritten.specs.Answer as runs
use Rattle.rewritten.specs.Answer.{RewrittenRun, too_short, rewritten_of}
use Rattle.rewritten.specs.Answer.RewrittenRun.{Refused, Ran}
use Rattle.rehearsal.specs.Claim.{Claim}

-- "Runs test 22, 23", then rewriting tests script, guideline and 21, for an output of n bytes. Nothing is written before all are tested.
unfoldable pub rehearsal_due : List ℕ → List ℕ → ℕ → Bool → ℕ → Verdict
rehearsal_due s g budget short n = run_due budget short (rewriting_verdict s g n)

-- The contents of the output, and what the run answers and leaves.
pub record After : Type 0 where
  pub out : List ℕ
  pub run : runs.After

abbrev pub after : List ℕ → runs.After → After
after o a = record { out = o; run = a }

-- A refusal leaves every lent byte unchanged. Else the written file is the front of the output, and it is run under the guideline.
unfoldable pub answered : Verdict → List ℕ → List ℕ → ℕ → List ℕ → List ℕ → List ℕ → List ℕ → List ℕ → List ℕ → After
answered v s g budget o e c h l t =
    cond (eqb v.number 0) (after (put o 0 (written_file s g)) (rewritten_of (written_file s g) g budget e c h l t)) (after o (runs.after (Refused v) e c h l t))

abbrev pub rehearsal_of : List ℕ → List ℕ → ℕ → List ℕ → List ℕ → List ℕ → List ℕ → List ℕ → List ℕ → After
rehearsal_of s g budget o e c h l t =
    let short = too_short (length e) (length c) (length h) (length l) (length t) in
    answered (rehearsal_due s g budget short (length o)) s g budget o e c h l t

-- Demand 3 of an answer, and of the buffers of expression and log.
abbrev pub Claimed : List ℕ → List ℕ → ℕ → RewrittenRun → List ℕ → List ℕ → Type 0
Claimed s g n (Refused v) b l = Unit {0}
Claimed s g n (Ran x k) b l = Claim s g n x k b l
