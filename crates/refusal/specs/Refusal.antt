-- Refusals: a number and the first faulty record, tested in order (document 01, "Numbers by who can cause them"). Assumes nothing.
use Rattle.std.specs.Prelude.{Bool, true, false, cond, ◌≡◌, refl, ℕ, ◌<◌, ◌≤◌, eqb, ltb, Option, None, Some, MatchOption, Result, Ok, Err}
use Rattle.std.proofs.Math.Decide.{dec_lt}
use Rattle.std.proofs.Common.{ap, sym, arith, eq-eqb, ne_eqb, eqb-true, lt-ltb, le-ltb}
use Rattle.std.proofs.lemmas.Bool.{eqb-false}
use Rattle.refusal.specs.First.{first_below, first_found, first-before, first-none, first-is}
use Rattle.refusal.specs.declared.Reason.{Reason}
use Rattle.refusal.specs.declared.Reason.TheVariants.{ScriptLength, ScriptRecord, ScriptOrder, ScriptDefinition, ScriptVariable, ScriptFunction, ScriptCommand, GuidelineLength, GuidelineRecord, GuidelineOrder, GuidelineVariable, GuidelineCount, GuidelineIndex, GuidelineFunction, OutputShort, Budget, BufferShort}
use Rattle.refusal.specs.declared.Refusal.{Refusal}

-- What a check answers: "its number and the first faulty record".
pub record Verdict : Type 0 where
  pub number : ℕ
  pub place : ℕ

abbrev pub verdict : ℕ → ℕ → Verdict
verdict n p = record { number = n; place = p }

-- "Where nothing is refused, number and place are 0".
abbrev pub accepted : Verdict
accepted = verdict 0 0

-- A number that is due refuses at its place; else what comes after it in the order of tests decides.
unfoldable pub refuse_if : ℕ → Option ℕ → Verdict → Verdict
refuse_if n None v = v
refuse_if n (Some p) v = verdict n p

-- A refusal at place 0, where a test says so.
abbrev pub due_if : Bool → Option ℕ
due_if b = cond b (Some 0) None

-- The first faulty record m, where it is below the record n at which the search ends.
unfoldable pub due_below : ℕ → ℕ → Option ℕ
due_below m n = cond (ltb m n) (Some m) None

-- The first number below n that passes the test, where there is one.
abbrev pub found_below : (ℕ → Bool) → ℕ → Option ℕ
found_below p n = due_below (first_below p n) n

-- The first verdict where it refuses, else the second.
unfoldable pub and_then : Verdict → Verdict → Verdict
and_then v w = cond (eqb v.number 0) w v

-- ---- what an answer of the program says

-- The numbers, as document 01 lists them: "1 length 0, not a multiple of 8, or too many records", "2 unknown kind, spare byte or range",
-- "3 a record that cannot stand here, or the end too early", "4 definition number not the next, or a 129th", "5 variable too large",
-- "6 function name (kind 2) undefined", "7 kind 6 or 7 misplaced …"; "11 length", "12 kind, spare byte or range", "13 a record that its
-- section or head does not allow …", "14 head variable unbound", "15 a 65th value, fifth atom, fifth trigger or ninth clause", "16 i or j
-- above the trigger count", "17 function not in the script"; "21 rewriting output too short", "22 budget above 1,000,000", "23 a run or table
-- buffer too short".
abbrev pub number_of : Reason → ℕ
number_of ScriptLength = 1
number_of ScriptRecord = 2
number_of ScriptOrder = 3
number_of ScriptDefinition = 4
number_of ScriptVariable = 5
number_of ScriptFunction = 6
number_of ScriptCommand = 7
number_of GuidelineLength = 11
number_of GuidelineRecord = 12
number_of GuidelineOrder = 13
number_of GuidelineVariable = 14
number_of GuidelineCount = 15
number_of GuidelineIndex = 16
number_of GuidelineFunction = 17
number_of OutputShort = 21
number_of Budget = 22
number_of BufferShort = 23

abbrev pub refusal_at : Reason → ℕ → Refusal
refusal_at r p = record { reason = r; place = p }

abbrev pub refused_as : Refusal → Verdict
refused_as r = verdict (number_of r.reason) r.place

-- The verdict that a check's answer says, whatever else it answers of what it accepts.
abbrev pub verdict_of : {T : Type 0} → Result T Refusal → Verdict
verdict_of (Ok u) = accepted
verdict_of (Err r) = refused_as r

-- ---- laws

-- No reason has number 0.
pub number-some : (r : Reason) → 0 < number_of r
number-some ScriptLength = omega arith
number-some ScriptRecord = omega arith
number-some ScriptOrder = omega arith
number-some ScriptDefinition = omega arith
number-some ScriptVariable = omega arith
number-some ScriptFunction = omega arith
number-some ScriptCommand = omega arith
number-some GuidelineLength = omega arith
number-some GuidelineRecord = omega arith
number-some GuidelineOrder = omega arith
number-some GuidelineVariable = omega arith
number-some GuidelineCount = omega arith
number-some GuidelineIndex = omega arith
number-some GuidelineFunction = omega arith
number-some OutputShort = omega arith
number-some Budget = omega arith
number-some BufferShort = omega arith

-- So a refusal's verdict refuses.
pub refused-some : (r : Refusal) → (refused_as r).number ≡ 0 → ⊥
refused-some r z = omega (arith, number-some r.reason)

pub due-at : (m n : ℕ) → m < n → due_below m n ≡ Some m
unfolding due_below
due-at m n h = rw (lt-ltb m n h)

pub due-not : (m n : ℕ) → n ≤ m → due_below m n ≡ None
unfolding due_below
due-not m n h = rw (le-ltb m n h)

-- What a search that tries the numbers in turn answers.
module _ (p : ℕ → Bool) (n : ℕ) where
  pub found-here : {i : ℕ} → i < n → p i ≡ true → ((j : ℕ) → j < i → p j ≡ false) → Some i ≡ found_below p n
  found-here {i} l t before = let e = first-is p n l t before in rw e (sym (due-at i n l))

  pub found_none : ((j : ℕ) → j < n → p j ≡ false) → None ≡ found_below p n
  found_none fails = let e = first-none p n fails in rw e (sym (due-not n n (omega arith)))

  -- What is found lies below n and passes the test, …
  pub found-at : {i : ℕ} → found_below p n ≡ Some i → (i < n) × (p i ≡ true)
  found-at {i} e = on (dec_lt (first_below p n) n)
    where
      on : Dec (first_below p n < n) → (i < n) × (p i ≡ true)
      on (yes l) = let q = due-at (first_below p n) n l in let z : first_below p n ≡ i = cc in (omega arith, rw z at (first_found p n l))
      on (no l) = let q = due-not (first_below p n) n (omega arith) in let z : ◌≡◌ {A = ℕ} 0 1 = cc in absurd (omega arith)

  pub found-within : {i : ℕ} → found_below p n ≡ Some i → i < n
  found-within e = (found-at e).0

  -- … and nothing passes it where nothing is found.
  pub found-fails : found_below p n ≡ None → (j : ℕ) → j < n → p j ≡ false
  found-fails e j h = on (dec_lt (first_below p n) n)
    where
      on : Dec (first_below p n < n) → p j ≡ false
      on (yes l) = let q = due-at (first_below p n) n l in let z : ◌≡◌ {A = ℕ} 0 1 = cc in absurd (omega arith)
      on (no l) = first-before p n j (omega arith)

  pub found_is : (r : Option ℕ) → MatchOption r ((j : ℕ) → 0 ≤ j → j < n → p j ≡ false) (λ i. (0 ≤ i) × (i < n) × (p i ≡ true) × ((j : ℕ) → 0 ≤ j → j < i → p j ≡ false)) → r ≡ found_below p n
  found_is None h = found_none (λ j l. h j (omega arith) l)
  found_is (Some i) h = found-here h.1 h.2 (λ j l. h.3 j (omega arith) l)

-- A number is due: it is the verdict. It is not: the rest is.
pub refuse-due : (k : ℕ) {d : Option ℕ} {p : ℕ} (v : Verdict) → d ≡ Some p → refuse_if k d v ≡ verdict k p
unfolding refuse_if
refuse-due k v e = rw e

pub refuse-not : (k : ℕ) {d : Option ℕ} (v : Verdict) → d ≡ None → refuse_if k d v ≡ v
unfolding refuse_if
refuse-not k v e = rw e

-- Nothing is refused exactly where no number is due.
pub accepted-parts : (k : ℕ) → 0 < k → (d : Option ℕ) (v : Verdict) → refuse_if k d v ≡ accepted → (d ≡ None) × (v ≡ accepted)
unfolding refuse_if
accepted-parts k h None v e = (refl, e)
accepted-parts k h (Some p) v e = absurd (let z : k ≡ 0 = ap (λ (w : Verdict). w.number) e in omega arith)

-- A verdict with number 0 accepts.
abbrev pub Settles : Verdict → Type 0
Settles v = v.number ≡ 0 → v ≡ accepted

-- One number more in the order of tests.
pub refuse-settles : (k : ℕ) → 0 < k → (d : Option ℕ) (v : Verdict) → Settles v → Settles (refuse_if k d v)
unfolding refuse_if
refuse-settles k l None v h = h
refuse-settles k l (Some p) v h = λ z. absurd (omega arith)

-- Where the verdict's number is 0, that number is not due.
pub refuse-zero : (k : ℕ) → 0 < k → (d : Option ℕ) (v : Verdict) → (refuse_if k d v).number ≡ 0 → (d ≡ None) × (v.number ≡ 0)
unfolding refuse_if
refuse-zero k h None v e = (refl, e)
refuse-zero k h (Some p) v e = absurd (omega arith)

pub not-due : (b : Bool) → due_if b ≡ None → b ≡ false
not-due true e = absurd (let z : ◌≡◌ {A = ℕ} 0 1 = cc in omega arith)
not-due false e = refl

-- Two verdicts in order: the first, which is v, refuses, or the second decides.
module _ {v : Verdict} (a w : Verdict) (e : v ≡ a) where
  pub then-refused : (v.number ≡ 0 → ⊥) → v ≡ and_then a w
  unfolding and_then
  then-refused n = rw (← e) (rw (ne_eqb v.number 0 n))

  pub then-passed : v.number ≡ 0 → w ≡ and_then a w
  unfolding and_then
  then-passed z = rw (← e) (rw (eq-eqb v.number 0 z))

-- Neither refuses.
pub then-zero : (v w : Verdict) → (and_then v w).number ≡ 0 → (v.number ≡ 0) × (w.number ≡ 0)
unfolding and_then
then-zero v w e = on (eqb v.number 0) refl e
  where
    on : (b : Bool) → eqb v.number 0 ≡ b → (cond b w v).number ≡ 0 → (v.number ≡ 0) × (w.number ≡ 0)
    on true q z = (eqb-true v.number 0 q, z)
    on false q z = absurd (eqb-false v.number 0 q z)
