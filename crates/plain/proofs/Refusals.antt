-- Refusals before a plain run: what is due, and what holds where nothing is. Assumes nothing.
use mathlib.Core.Bool.{Bool, true, false, ◌||◌}
use mathlib.Core.List.{List}
use mathlib.Core.Path.{◌≡◌, refl, sym, ap, ◌∙◌}
use Prim.Native.Nat.{ℕ, ◌<◌, ◌≤◌}
use native.Mathlib.Omega.{arith}
use lib.Dec.{ltb}
use borrow.Author.Tests.{lt-ltb, le-ltb, ltb-false}
use Rattle.refusal.specs.declared.Refusal.{Refusal}
use Rattle.refusal.specs.Refusal.{Verdict, verdict, accepted, due_if, refuse_if, refused_as, refused-some, refuse-zero, not-due}
use Rattle.script.specs.Check.{script_verdict}
use Rattle.script.specs.declared.Purpose.TheVariants as purposes
use Rattle.plain.specs.Answer.{buffer_size, most_budget, run_due, plain_due}

-- ---- what is due

-- What every run tests first: its budget, whether a buffer is too short, …
module _ (budget : ℕ) (short : Bool) (rest : Verdict) where
  pub due-budget : 1000000 < budget → verdict 22 0 ≡ run_due budget short rest
  unfolding refuse_if
  due-budget h = rw (lt-ltb 1000000 budget h)

  module _ (h : budget ≤ 1000000) where
    pub due-short : short ≡ true → verdict 23 0 ≡ run_due budget short rest
    unfolding refuse_if
    due-short k = rw (le-ltb 1000000 budget h, k)

    pub due-none : short ≡ false → rest ≡ run_due budget short rest
    unfolding refuse_if
    due-none k = rw (le-ltb 1000000 budget h, k)

-- … and then the rest.
module _ (budget : ℕ) (short : Bool) where
  pub call-refused : (rest : Verdict) (r : Refusal) → refused_as r ≡ run_due budget short accepted → refused_as r ≡ run_due budget short rest
  unfolding refuse_if
  call-refused rest r e = on (ltb most_budget budget) short e
    where
      on : (a b : Bool) → refused_as r ≡ refuse_if 22 (due_if a) (refuse_if 23 (due_if b) accepted) → refused_as r ≡ refuse_if 22 (due_if a) (refuse_if 23 (due_if b) rest)
      on true b q = q
      on false true q = q
      on false false q = absurd (refused-some r (ap (λ (v : Verdict). v.number) q))

  module _ (e : accepted ≡ run_due budget short accepted) where
    -- The budget is at most 1,000,000, and no buffer is too short, …
    pub call-allowed : (budget ≤ 1000000) × (short ≡ false)
    call-allowed =
        let p = refuse-zero 22 (omega arith) (due_if (ltb most_budget budget)) _ (sym (ap (λ (v : Verdict). v.number) e)) in
        let q = refuse-zero 23 (omega arith) (due_if short) _ p.1 in
        (ltb-false most_budget budget (not-due _ p.0), not-due short q.0)

    -- … so the rest decides.
    pub call-rest : (rest : Verdict) → rest ≡ run_due budget short rest
    call-rest rest = due-none budget short rest call-allowed.0 call-allowed.1

module _ (s : List ℕ) (budget e c : ℕ) where
  module _ {short : Bool} (is : short ≡ (ltb e buffer_size || ltb c buffer_size)) where
    pub due-call : (r : Refusal) → refused_as r ≡ run_due budget short accepted → refused_as r ≡ plain_due s budget e c
    unfolding plain_due
    due-call r q = rw (← is) (call-refused budget short _ r q)

    pub due-rest : accepted ≡ run_due budget short accepted → plain_due s budget e c ≡ script_verdict purposes.PlainRun s
    unfolding plain_due
    due-rest q = rw (← is) (sym (call-rest budget short q _))

  pub due-script : budget ≤ 1000000 → buffer_size ≤ e → buffer_size ≤ c → (v : Verdict) → v ≡ script_verdict purposes.PlainRun s → v ≡ plain_due s budget e c
  unfolding plain_due refuse_if
  due-script h k l v q = rw (le-ltb 1000000 budget h, le-ltb e buffer_size k, le-ltb c buffer_size l) q

-- ---- nothing is due

pub neither : (a b : Bool) → a || b ≡ false → (a ≡ false) × (b ≡ false)
neither true b e = absurd (let z : ◌≡◌ {A = ℕ} 0 1 = cc in omega arith)
neither false b e = (refl, e)

-- The buffers are long enough and the script is accepted.
pub record Allowed (s : List ℕ) (e c : ℕ) : Type 0 where
  pub expression : buffer_size ≤ e
  pub scratch : buffer_size ≤ c
  pub script : script_verdict purposes.PlainRun s ≡ accepted

pub allowed : (s : List ℕ) (budget e c : ℕ) {short : Bool} → short ≡ (ltb e buffer_size || ltb c buffer_size) → accepted ≡ run_due budget short accepted → accepted ≡ script_verdict purposes.PlainRun s → Allowed s e c
allowed s budget e c is p q =
    let n = neither (ltb e buffer_size) (ltb c buffer_size) (sym is ∙ (call-allowed budget _ p).1) in
    record { expression = ltb-false e buffer_size n.0; scratch = ltb-false c buffer_size n.1; script = sym q }
