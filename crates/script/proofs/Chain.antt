-- The refusals in their order, one law for each way out of the check. Assumes nothing.
use mathlib.Core.Bool.{Bool, true, false, not, ◌||◌}
use mathlib.Core.List.{List}
use Rattle.std.specs.Prelude.{Option, None, Some, Result, Ok, Err, MatchResult}
use Rattle.std.specs.Option.{option_or}
use mathlib.Core.Path.{◌≡◌, refl, sym, ap, ◌∙◌}
use Prim.Native.Nat.{ℕ, ◌+◌, ◌-◌, ◌*◌, ◌%◌, ◌<◌, ◌≤◌}
use native.Mathlib.Decide.{dec_lt}
use native.Mathlib.Omega.{arith}
use lib.Dec.{eqb, ltb}
use lib.ListN.{length}
use borrow.Author.Tests.{ltb-false, lt-ltb, le-ltb}
use Rattle.terms.specs.Record.{count}
use Rattle.refusal.specs.First.{first_below}
use Rattle.refusal.specs.Refusal.{Verdict, verdict, accepted, refused_as, refusal_at, refuse_if, due_if, due-at, due-not, refuse-due, refuse-not}
use Rattle.refusal.specs.declared.Refusal.{Refusal}
use Rattle.refusal.specs.declared.Reason.TheVariants.{ScriptOrder}
use Rattle.script.specs.Check.{most_records, first_in, undefined_name, commands_below, too_many, due1, due2, due3, due5, due6, due7, script_verdict}
use Rattle.script.specs.Layout.{Told, Tells, whole_verdict}
use Rattle.script.specs.declared.Faults.{Faults}
use Rattle.script.specs.declared.Purpose.{Purpose}
use Rattle.script.specs.declared.Purpose.TheVariants.{Checking, Rewriting, PlainRun, RewrittenRun}

-- ---- a search through the file

-- An `if let` passed over.
pub none_from : {o : Option ℕ} → ((m : ℕ) → o ≡ Some m → ⊥) → o ≡ None
none_from {o = Some m} n = absurd (n m refl)
none_from {o = None} n = refl

-- What is found is a record.
pub first-inside : (s : List ℕ) (p : ℕ → Bool) {o : Option ℕ} {m : ℕ} → o ≡ first_in s p → o ≡ Some m → m < count s
first-inside s p {m = m} e h = on (dec_lt (first_below p (count s)) (count s))
  where
    on : Dec (first_below p (count s) < count s) → m < count s
    on (yes l) = let q : Some (first_below p (count s)) ≡ Some m = sym (due-at _ _ l) ∙ sym e ∙ h in let z : first_below p (count s) ≡ m = cc in omega arith
    on (no l) = let q : None ≡ Some m = sym (due-not _ _ (omega arith)) ∙ sym e ∙ h in cc

-- ---- number 7

module _ {o d : Option ℕ} (e : o ≡ d) where
  module _ {v : Verdict} where
    -- A command where none may stand.
    pub bare-found : {m : ℕ} → o ≡ Some m → v ≡ verdict 7 m → v ≡ refuse_if 7 d accepted
    bare-found h r = r ∙ sym (refuse-due 7 accepted (sym e ∙ h))

    -- No command.
    pub bare-none : o ≡ None → v ≡ accepted → v ≡ refuse_if 7 d accepted
    bare-none h r = r ∙ sym (refuse-not 7 accepted (sym e ∙ h))

  module _ (q : Option ℕ) {v : Verdict} where
    -- A misplaced command.
    pub command-found : {m : ℕ} → o ≡ Some m → v ≡ verdict 7 m → v ≡ refuse_if 7 (option_or d q) accepted
    command-found h r = r ∙ sym (refuse-due 7 accepted (ap (λ (o : Option ℕ). option_or o q) (sym e ∙ h)))

    -- No misplaced command.
    pub command-none : o ≡ None → v ≡ refuse_if 7 q accepted → v ≡ refuse_if 7 (option_or d q) accepted
    command-none h r = r ∙ ap (λ (o : Option ℕ). refuse_if 7 (option_or o q) accepted) (sym (sym e ∙ h))

module _ (s : List ℕ) {k : ℕ} (e : k ≡ commands_below s (count s)) {v : Verdict} where
  -- Too many records besides commands and their arguments.
  pub too_many_lem : 1024 + 2 * k < count s → v ≡ verdict 7 (count s) → v ≡ refuse_if 7 (too_many s) accepted
  too_many_lem h r =
      let l : 1024 < count s - 2 * commands_below s (count s) = omega arith in
      r ∙ sym (refuse-due 7 accepted (rw (lt-ltb 1024 (count s - 2 * commands_below s (count s)) l)))

  -- Not too many.
  pub not-many : count s ≤ 1024 + 2 * k → v ≡ accepted → v ≡ refuse_if 7 (too_many s) accepted
  not-many h r =
      let l : count s - 2 * commands_below s (count s) ≤ 1024 = omega arith in
      r ∙ sym (refuse-not 7 accepted (rw (le-ltb 1024 (count s - 2 * commands_below s (count s)) l)))

-- ---- numbers 4 to 7, in a whole file

module _ (u : Purpose) (s : List ℕ) where
  abbrev from7 : Verdict
  from7 = refuse_if 7 (due7 u s) accepted

  abbrev from6 : Verdict
  from6 = refuse_if 6 (due6 s) from7

  abbrev from5 : Verdict
  from5 = refuse_if 5 (due5 s) from6

  module _ {f : Faults} (t : Told s f) where
    -- Number 4 is due.
    pub refused-4 : {v : Verdict} {m : ℕ} → f.misnumbered ≡ Some m → v ≡ verdict 4 m → v ≡ whole_verdict u s
    refused-4 h r = r ∙ sym (refuse-due 4 from5 (t.numbered ∙ h))

    module _ (n4 : f.misnumbered ≡ None) where
      past4 : whole_verdict u s ≡ from5
      past4 = refuse-not 4 from5 (t.numbered ∙ n4)

      -- Number 5 is due.
      pub refused-5 : {v : Verdict} {m : ℕ} → f.loose ≡ Some m → v ≡ verdict 5 m → v ≡ whole_verdict u s
      refused-5 h r = r ∙ sym (past4 ∙ refuse-due 5 from6 (t.scoped ∙ h))

      module _ (n5 : f.loose ≡ None) {o : Option ℕ} (e6 : o ≡ first_in s (undefined_name s f.definitions)) where
        past5 : whole_verdict u s ≡ from6
        past5 = past4 ∙ refuse-not 5 from6 (t.scoped ∙ n5)

        named : o ≡ due6 s
        named = e6 ∙ ap (λ (n : ℕ). first_in s (undefined_name s n)) (sym t.counted)

        -- Number 6 is due.
        pub refused-6 : {v : Verdict} {m : ℕ} → o ≡ Some m → v ≡ verdict 6 m → v ≡ whole_verdict u s
        refused-6 h r = r ∙ sym (past5 ∙ refuse-due 6 from7 (sym named ∙ h))

        -- None of 4 to 6 is due.
        pub refused-7 : {v : Verdict} → o ≡ None → v ≡ from7 → v ≡ whole_verdict u s
        refused-7 h r = r ∙ sym (past5 ∙ refuse-not 6 from7 (sym named ∙ h))

-- ---- numbers 1 to 3

not-due : (b : Bool) → due_if b ≡ None → b ≡ false
not-due true e = let z : ◌≡◌ {A = ℕ} 0 1 = cc in absurd (omega arith)
not-due false e = refl

neither : (a b c : Bool) → a || (b || c) ≡ false → c ≡ false
neither true b c e = let z : ◌≡◌ {A = ℕ} 0 1 = cc in absurd (omega arith)
neither false true c e = let z : ◌≡◌ {A = ℕ} 0 1 = cc in absurd (omega arith)
neither false false c e = e

most : (u : Purpose) → most_records u ≤ 1296
most Checking = omega arith
most Rewriting = omega arith
most PlainRun = omega arith
most RewrittenRun = omega arith

module _ (u : Purpose) (s : List ℕ) where
  abbrev from3 : Verdict
  from3 = refuse_if 3 (due3 s) (whole_verdict u s)

  abbrev from2 : Verdict
  from2 = refuse_if 2 (due2 s) from3

  module _ {b : Bool} (e1 : due_if b ≡ due1 u s) where
    -- Number 1 is due.
    pub refused-1 : {v : Verdict} → b ≡ true → v ≡ verdict 1 0 → v ≡ script_verdict u s
    unfolding script_verdict
    refused-1 o r = r ∙ sym (refuse-due 1 from2 (sym e1 ∙ ap due_if o))

    module _ (o : b ≡ false) where
      past1 : script_verdict u s ≡ from2
      unfolding script_verdict
      past1 = refuse-not 1 from2 (sym e1 ∙ ap due_if o)

      -- It is not: the records are few.
      pub records-few : count s ≤ 1296
      records-few =
          let f = not-due (eqb (length s) 0 || (not (eqb (length s % 8) 0) || ltb (most_records u) (count s))) (sym e1 ∙ ap due_if o) in
          let l : count s ≤ most_records u =
          ltb-false (most_records u) (count s) (neither (eqb (length s) 0) (not (eqb (length s % 8) 0)) (ltb (most_records u) (count s)) f) in
          omega (arith, most u)

      module _ {r : Option ℕ} (e2 : r ≡ due2 s) where
        -- Number 2 is due.
        pub refused-2 : {v : Verdict} {m : ℕ} → r ≡ Some m → v ≡ verdict 2 m → v ≡ script_verdict u s
        refused-2 h q = q ∙ sym (past1 ∙ refuse-due 2 from3 (sym e2 ∙ h))

        module _ (n2 : r ≡ None) where
          past2 : script_verdict u s ≡ from3
          past2 = past1 ∙ refuse-not 2 from3 (sym e2 ∙ n2)

          -- Number 3 is due: the walk's place is the refusal's.
          pub refused-3 : (l : Result Faults ℕ) (r : Refusal) → Tells s l → MatchResult l (λ f. Err r ≡ Ok f) (λ j. r ≡ refusal_at ScriptOrder j) → refused_as r ≡ script_verdict u s
          refused-3 (Ok f) r t q = cc
          refused-3 (Err j) r t q = ap refused_as q ∙ sym (past2 ∙ refuse-due 3 (whole_verdict u s) t)

          -- None of 1 to 3 is due.
          pub refused-later : {v : Verdict} → due3 s ≡ None → v ≡ whole_verdict u s → v ≡ script_verdict u s
          refused-later n z = z ∙ sym (past2 ∙ refuse-not 3 (whole_verdict u s) n)
