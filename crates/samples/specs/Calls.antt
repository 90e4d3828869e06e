-- The engine's calls on buffers that are full before. Assumes nothing.
use Rattle.std.specs.Prelude.{◌≡◌, List, ◌∷◌, ◌++◌, ℕ, replicate, decimal}
use Rattle.refusal.specs.Refusal.{Verdict}
use Rattle.plain.specs.Answer as plain_run
use Rattle.plain.specs.Answer.{plain_of}
use Rattle.rehearsal.specs.Rehearsal as rehearsals
use Rattle.rehearsal.specs.Rehearsal.{rehearsal_of}
use Rattle.samples.specs.declared.calls.Buffers.{Buffers}

-- Number and place in decimal, a blank between.
abbrev pub verdict_text : Verdict → List ℕ
verdict_text v = decimal v.number ++ (32 ∷ decimal v.place)

-- So many bytes, each full.
abbrev pub full : ℕ → List ℕ
full n = replicate n 255

-- Each byte of the buffers is full.
pub record IsFull (b : Buffers) : Type 0 where
  pub expression : b.expression ≡ full 24576
  pub history : b.history ≡ full 16384
  pub log : b.log ≡ full 16384

-- What the plain run answers and leaves.
abbrev pub plain_after : List ℕ → ℕ → plain_run.After
plain_after script budget = plain_of script budget (full 24576) (full 24576)

-- What a rehearsal answers and leaves.
abbrev pub rehearsed : List ℕ → List ℕ → ℕ → rehearsals.After
rehearsed script guideline budget = rehearsal_of script guideline budget (full 10368) (full 24576) (full 24576) (full 16384) (full 16384) (full 8192)
