-- The end of a plain run in its buffers, and the whole entry. Assumes nothing.
use mathlib.Core.List.{List, [], ◌++◌}
use mathlib.Core.Path.{◌≡◌, ap, ◌∙◌}
use Prim.Native.Nat.{ℕ}
use lib.ListN.{length, take, drop}
use borrow.Author.Tests.{ne_eqb}
use Rattle.words.specs.Filled.{filled, filled-exact, filled-rest}
use Rattle.calculus.specs.Term.{Term}
use Rattle.calculus.specs.Run.{Result, Conf, plain_run}
use Rattle.terms.specs.Encode.{encode}
use Rattle.refusal.specs.declared.Refusal.{Refusal}
use Rattle.refusal.specs.Refusal.{accepted, refused_as, refused-some}
use Rattle.zipper.specs.Zipper.{whole_in, Stored, Flat}
use Rattle.zipper.proofs.Whole.{flat-whole, flat-own}
use Rattle.script.specs.File.{program_in}
use Rattle.machine.specs.Outcome.{outcome_of}
use Rattle.plain.specs.Answer.{PlainRun, plain_due, After, after, ran_after, plain_of, Rested}
use Rattle.plain.specs.declared.Counts.{Counts}
use Rattle.plain.specs.declared.Rest.{Rest}
use Rattle.plain.specs.Answer.PlainRun.{Refused, Ran}

module _ (R : Result Conf) (x : Rest Counts) (e₁ : List ℕ) (h : Rested R x e₁) where
  -- What the store asks.
  pub rest-flat : Flat e₁ x.gap.l x.gap.r (whole_in e₁ x.gap.l x.gap.r)
  rest-flat = flat-own h.flat

  -- The expression is stored, and scratch is cleared.
  pub finished : (e e₂ c c₁ c₂ : List ℕ) (n : ℕ) → Stored (whole_in e₁ x.gap.l x.gap.r) n e₁ e₂ → c₂ ≡ filled 24576 [] c₁
      → length e ≡ 24576 → length c ≡ 24576 → length e₁ ≡ 24576 → length c₁ ≡ 24576
      → after (Ran x.outcome x.counts.steps) e₂ c₂ ≡ ran_after R e c
  finished e e₂ c c₁ c₂ n s z le lc le₁ lc₁ =
      let T : Term = R.last.expr in
      let a : e₂ ≡ filled 24576 (encode T) e =
      s.bytes ∙ ap (λ (t : Term). filled 24576 (encode t) e₁) (flat-whole h.flat) ∙ filled-exact 24576 (encode T) e₁ e le₁ le in
      let b : c₂ ≡ filled 24576 [] c = z ∙ filled-exact 24576 [] c₁ c lc₁ lc in
      rw (a, b, h.outcome, h.steps)

-- ---- the entry

module _ (s : List ℕ) (budget : ℕ) (e c : List ℕ) where
  -- A refusal.
  pub entry-refused : (r : Refusal) → refused_as r ≡ plain_due s budget (length e) (length c) → after (Refused (refused_as r)) e c ≡ plain_of s budget e c
  unfolding plain_of
  entry-refused r q = rw (← q, ne_eqb (refused_as r).number 0 (refused-some r))

  -- A run in the first bytes of both buffers.
  pub entry-ran : accepted ≡ plain_due s budget (length e) (length c) → {e₀ c₀ : List ℕ} → e₀ ≡ take 24576 e → c₀ ≡ take 24576 c → {x : PlainRun} {e₁ c₁ : List ℕ}
      → after x e₁ c₁ ≡ ran_after (plain_run (program_in s) budget) e₀ c₀
      → after x (e₁ ++ drop 24576 e) (c₁ ++ drop 24576 c) ≡ plain_of s budget e c
  unfolding plain_of
  entry-ran q i j {x} {e₁} {c₁} f₀ =
      let f = rw (i, j) at f₀ in
      let R : Result Conf = plain_run (program_in s) budget in
      let w : x ≡ Ran (outcome_of R.outcome) R.last.time = ap (λ (y : After). y.answer) f in
      let a : e₁ ≡ filled 24576 (encode R.last.expr) (take 24576 e) = ap (λ (y : After). y.expression) f in
      let b : c₁ ≡ filled 24576 [] (take 24576 c) = ap (λ (y : After). y.scratch) f in
      rw (← q, w, a, b, filled-rest 24576 (encode R.last.expr) e, filled-rest 24576 [] c)
