-- Demand 3 on bytes. Assumes nothing.
use mathlib.Core.Bool.{false}
use mathlib.Core.List.{List, ◌++◌, append_assoc}
use mathlib.Core.Logic.{◌⊎◌, inl, inr, ◌≢◌}
use mathlib.Core.Path.{◌≡◌, refl, sym, ap, ap₂, ◌∙◌}
use Prim.Native.Nat.{ℕ, suc, ◌-◌, ◌*◌, ◌≤◌}
use native.Mathlib.Decide.{dec_le}
use native.Mathlib.Omega.{arith}
use lib.ListN.{length, take, drop, length-append, length-replicate}
use lib.Seq.{take_at, take-append-le}
use Rattle.words.specs.Bytes.{AllBytes}
use Rattle.words.specs.Filled.{zeros, filled}
use Rattle.calculus.specs.Term.{Term, Program, codebase}
use Rattle.calculus.specs.Guideline.{Guideline}
use Rattle.calculus.specs.Rewriting.{rewrite}
use Rattle.calculus.specs.Run as runs
use Rattle.calculus.specs.Run.{Result, initial, plain_run}
use Rattle.calculus.specs.Run.Outcome.{value, stuck, spent, large, full}
use Rattle.calculus.specs.Log as L
use Rattle.calculus.specs.Claim as trees
use Rattle.calculus.proofs.Run.{time-most}
use Rattle.calculus.proofs.Trace.{calls-time}
use Rattle.calculus.proofs.Demand3 as on_trees
use Rattle.terms.specs.Encode.{encode}
use Rattle.guideline.specs.Read.{guideline_of}
use Rattle.rewriting.specs.Answer.{written_file, rewriting}
use Rattle.rewriting.proofs.Passing.{Passed}
use Rattle.rewriting.proofs.Calling.{call-passed, call-written}
use Rattle.script.specs.File.{program_in}
use Rattle.machine.specs.Outcome.{outcome_of}
use Rattle.machine.specs.declared.Outcome.{Outcome}
use Rattle.machine.specs.declared.Outcome.TheVariants.{Full}
use Rattle.plain.specs.Answer as plain
use Rattle.plain.specs.Answer.{PlainRun, buffer_size, plain_of}
use Rattle.history.specs.Entries.{entries_in, entries_buffer, AllInRange, buffer-read}
use Rattle.booking.specs.declared.Counts.{Counts}
use Rattle.rewritten.specs.Answer.{After, counts_of, too_short, rewritten_of}
use Rattle.rewritten.specs.Answer.RewrittenRun.{Ran}
use Rattle.rehearsal.specs.Claim.{Claim, Demand3}
use Rattle.rehearsal.proofs.Ranges.{calls-ranged}
use Rattle.rehearsal.proofs.Runs.{ran-allowed, program-fits, program-bare, guideline-safe, plain-ran, written-ran}

-- ---- outcomes

-- Full or not.
full-or : (o : runs.Outcome) → (o ≡ full) ⊎ (o ≢ full)
full-or value = inr (λ e. let z : ◌≡◌ {A = ℕ} 0 1 = cc in omega arith)
full-or stuck = inr (λ e. let z : ◌≡◌ {A = ℕ} 0 1 = cc in omega arith)
full-or spent = inr (λ e. let z : ◌≡◌ {A = ℕ} 0 1 = cc in omega arith)
full-or large = inr (λ e. let z : ◌≡◌ {A = ℕ} 0 1 = cc in omega arith)
full-or full = inl refl

-- The program's answer Full is the calculus's full.
full-of : (o : runs.Outcome) → outcome_of o ≡ Full → o ≡ full
full-of value e = absurd (let z : ◌≡◌ {A = ℕ} 0 1 = cc in omega arith)
full-of stuck e = absurd (let z : ◌≡◌ {A = ℕ} 0 1 = cc in omega arith)
full-of spent e = absurd (let z : ◌≡◌ {A = ℕ} 0 1 = cc in omega arith)
full-of large e = absurd (let z : ◌≡◌ {A = ℕ} 0 1 = cc in omega arith)
full-of full e = refl

-- ---- buffers

-- Inside its size, a buffer shows nothing of what stood in it before.
filled-same : (n : ℕ) (xs a b : List ℕ) → take n (filled n xs a) ≡ take n (filled n xs b)
unfolding filled
filled-same n xs a b = on (dec_le (length xs) n)
  where
    short : length xs ≤ n → (old : List ℕ) → take n (xs ++ (zeros (n - length xs) ++ drop n old)) ≡ xs ++ zeros (n - length xs)
    short h old =
        let l : length (xs ++ zeros (n - length xs)) ≡ n = simp (length-append, length-replicate) (omega arith) in
        ap (take n) (sym (append_assoc xs (zeros (n - length xs)) (drop n old))) ∙ take_at (xs ++ zeros (n - length xs)) (drop n old) n l

    long : n ≤ length xs → (old : List ℕ) → take n (xs ++ (zeros (n - length xs) ++ drop n old)) ≡ take n xs
    long h old = take-append-le n xs (zeros (n - length xs) ++ drop n old) h

    on : Dec (length xs ≤ n) → take n (xs ++ (zeros (n - length xs) ++ drop n a)) ≡ take n (xs ++ (zeros (n - length xs) ++ drop n b))
    on (yes h) = short h a ∙ sym (short h b)
    on (no h) = long (omega arith) a ∙ sym (long (omega arith) b)

-- ---- the claim of a run

module _ {s g : List ℕ} (p : Passed s g) (n : ℕ) (most : n ≤ 1000000) where
  abbrev G : Guideline
  G = guideline_of g

  abbrev S : Program
  S = program_in s

  -- The rewritten run, …
  abbrev R : Result L.Conf
  R = L.rewritten_run G (rewrite G S) n

  -- … and the count of its steps.
  abbrev k : ℕ
  k = R.last.state.time

  -- What holds on trees.
  faithful : trees.Faithful G S n R k
  faithful = on_trees.demand-3 G (guideline-safe p) S (program-bare p) n

  -- Its steps are at most the budget.
  steps-most : k ≤ n
  unfolding runs.plain
  steps-most = on (full-or R.outcome)
    where
      on : (R.outcome ≡ full) ⊎ (R.outcome ≢ full) → k ≤ n
      on (inl e) = let f = faithful.full_means e in omega (arith, calls-time S n f.call f.made, f.time)
      on (inr e) = omega (arith, faithful.same_count e, time-most (codebase S) n (initial S.main))

  -- Each entry of its log is that of a call, so its numbers fit.
  log-ranged : AllInRange R.last.state.log
  log-ranged x m =
      let r = (faithful.log x).0 m in
      calls-ranged S (program-fits p) (suc x.time) (omega (arith, steps-most)) x r.1

  -- So the log is read from its buffer.
  log-read : (l : List ℕ) → entries_in (entries_buffer R.last.state.log l) (length R.last.state.log) ≡ R.last.state.log
  log-read l = buffer-read R.last.state.log l log-ranged

  module _ (e c : List ℕ) (i : buffer_size ≤ length e) (j : buffer_size ≤ length c) where
    -- The plain run with budget k is not refused, …
    shorter : plain_of s k e c ≡ plain.ran_after (plain_run S k) e c
    shorter = plain-ran p k e c (omega (arith, steps-most)) i j

    -- … makes k steps …
    shorter-steps : (plain_of s k e c).answer ≡ PlainRun.Ran (outcome_of (plain_run S k).outcome) k
    shorter-steps = ap (λ (a : plain.After). a.answer) shorter ∙ ap (PlainRun.Ran (outcome_of (plain_run S k).outcome)) faithful.count

    -- … and leaves the same expression.
    shorter-expression : (b : List ℕ) → take buffer_size (plain_of s k e c).expression ≡ take buffer_size (filled buffer_size (encode R.last.expr) b)
    shorter-expression b =
        ap (λ (a : plain.After). take buffer_size a.expression) shorter
        ∙ ap (λ (t : Term). take buffer_size (filled buffer_size (encode t) e)) faithful.expression
        ∙ filled-same buffer_size (encode R.last.expr) e b

    -- With budget n it has the same outcome and count, unless the history is full.
    whole_same : R.outcome ≢ full → (plain_of s n e c).answer ≡ PlainRun.Ran (outcome_of R.outcome) k
    whole_same h = ap (λ (a : plain.After). a.answer) (plain-ran p n e c most i j) ∙ ap₂ PlainRun.Ran (ap outcome_of (faithful.same_outcome h)) (faithful.same_count h)

  -- The claim holds, whatever its two buffers held before.
  claim : (b l : List ℕ) → Claim s g n (outcome_of R.outcome) (counts_of R.last.state) (filled buffer_size (encode R.last.expr) b) (entries_buffer R.last.state.log l)
  claim b l =
      record {
        steps = λ e c i j. (outcome_of (plain_run S k).outcome, shorter-steps e c i j);
        expression = λ e c i j. shorter-expression e c i j b;
        same = λ h e c i j. whole_same e c i j (λ z. h (ap outcome_of z));
        full = λ h. faithful.full_means (full-of R.outcome h);
        log = λ y. rw (log-read l) (faithful.log y);
        rising = rw (log-read l) faithful.rising;
      }

-- ---- the theorem

-- For an accepted script and guideline, of the file that rewriting gives: …
module _ {s g : List ℕ} (p : Passed s g) where
  -- … it is run, …
  file-runs : (n : ℕ) → n ≤ 1000000 → (e c h l t : List ℕ) → too_short (length e) (length c) (length h) (length l) (length t) ≡ false
      → (x : Outcome) × (k : Counts) × ((rewritten_of (written_file s g) g n e c h l t).answer ≡ Ran x k)
  file-runs n m e c h l t i =
      (outcome_of (R p n m).outcome, counts_of (R p n m).last.state, ap (λ (a : After). a.answer) (written-ran p n e c h l t m i))

  -- … and the claim holds of its run.
  file-claims : (n : ℕ) (e c h l t : List ℕ) (x : Outcome) (k : Counts) → (rewritten_of (written_file s g) g n e c h l t).answer ≡ Ran x k
      → Claim s g n x k (rewritten_of (written_file s g) g n e c h l t).expression (rewritten_of (written_file s g) g n e c h l t).log
  file-claims n e c h l t x k q =
      let (m, i) = ran-allowed (written_file s g) g n e c h l t x k q in
      let w = written-ran p n e c h l t m i in
      let r : Ran (outcome_of (R p n m).outcome) (counts_of (R p n m).last.state) ≡ Ran x k = sym (ap (λ (a : After). a.answer) w) ∙ q in
      let u : x ≡ outcome_of (R p n m).outcome = cc in
      let v : k ≡ counts_of (R p n m).last.state = cc in
      rw (w, u, v) (claim p n m e l)

  pub demand-3-file : Demand3 s g (written_file s g)
  demand-3-file = record { runs = file-runs; claims = file-claims }

-- Where rewriting refuses nothing, of the bytes that it wrote.
pub demand-3 : (s g o : List ℕ) → AllBytes s → AllBytes g → (rewriting s g o).answer.number ≡ 0 → Demand3 s g (take (8 * (rewriting s g o).answer.records) (rewriting s g o).out)
demand-3 s g o a b z = rw (call-written s g o a b refl z) (demand-3-file (call-passed s g o a b refl z))
