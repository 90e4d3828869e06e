-- Commands stand where they may exactly where no record is a misplaced one. Assumes nothing.
use mathlib.Core.Bool.{Bool, true, false, not, ◌&&◌, ◌||◌}
use mathlib.Core.List.{List, [], ◌∷◌}
use mathlib.Core.Option.{some, some-ne-none}
use mathlib.Core.Path.{◌≡◌, refl, sym, ap, ap₂, subst, ◌∙◌}
use Prim.Native.Nat.{ℕ, zero, suc, ◌+◌, ◌-◌, ◌<◌, ◌≤◌}
use native.Mathlib.Decide.{dec_lt}
use native.Mathlib.Nat.{add-zero}
use native.Mathlib.Omega.{arith}
use lib.Dec.{eqb, leb, ltb}
use borrow.Author.Tests.{lt-ltb, le-leb, leb-true, eqb-true, ltb-true, eq-eqb, not-false}
use Rattle.calculus.specs.Lists.{each}
use Rattle.calculus.specs.Term.{Term, records, Bare, Placed, bodies}
use Rattle.calculus.specs.Term.Placed.{plain, noting, logging}
use Rattle.calculus.specs.Term.Term.{var, fun, con, lam, app, call_event, emit, sum, branch}
use Rattle.terms.specs.Record.{count, kind_at, record_number}
use Rattle.terms.proofs.Stands.{At, Stands}
use Rattle.script.specs.Check.{is_command, is_parameter, command_of, placed_call, placed_emit, misplaced}
use Rattle.script.specs.File.{Definition}
use Rattle.script.proofs.Bare.{NoCommand, no-command, low-kind, high-kind, bare-from, bare-into}
use Rattle.script.proofs.Due.{both_true}
use Rattle.script.proofs.Each.{Between, Each, each-into, each_from}
use Rattle.script.proofs.Laid.{Laid, EachIn, bodies_of}
use Rattle.script.proofs.Program.{records-some, Numbered}

-- ---- tests

-- Two tests that pass.
true-both : {a b : Bool} → a ≡ true → b ≡ true → a && b ≡ true
true-both p q = rw (p, q)

-- A command that one of two tests allows.
first-allows : (c p q : Bool) → p ≡ true → c && not (p || q) ≡ false
first-allows true p q e = rw e
first-allows false p q e = refl

-- The other of the two.
second-allows : (c p q : Bool) → q ≡ true → c && not (p || q) ≡ false
second-allows true true q e = refl
second-allows true false q e = rw e
second-allows false p q e = refl

-- Why a command is not misplaced: it is none, or one of two tests allows it.
data Allowed (c p q : Bool) : Type 0 where
  none : c ≡ false → Allowed c p q
  first : p ≡ true → Allowed c p q
  second : q ≡ true → Allowed c p q

-- One of the three is so.
allowed : (c p q : Bool) → c && not (p || q) ≡ false → Allowed c p q
allowed false p q e = none refl
allowed true true q e = first refl
allowed true false q e = second (not-false q e)

-- ---- what the tests say

module _ (s : List ℕ) where
  -- A command of kind k at record i that names function f, and variable 0 after it.
  record Command (k f i : ℕ) : Type 0 where
    pub kind : kind_at s i ≡ k
    pub number : record_number s i ≡ f
    pub inside : i + 1 < count s
    pub argument : kind_at s (i + 1) ≡ 1
    pub parameter : record_number s (i + 1) ≡ 0

  -- What the test for a command says.
  command-parts : (k f i : ℕ) → command_of s k f i ≡ true → Command k f i
  command-parts k f i e =
      let p = both_true (eqb (kind_at s i) k) (eqb (record_number s i) f && is_parameter s (i + 1)) e in
      let q = both_true (eqb (record_number s i) f) (is_parameter s (i + 1)) p.1 in
      let r = both_true (ltb (i + 1) (count s)) (eqb (kind_at s (i + 1)) 1 && eqb (record_number s (i + 1)) 0) q.1 in
      let t = both_true (eqb (kind_at s (i + 1)) 1) (eqb (record_number s (i + 1)) 0) r.1 in
      record {
        kind = eqb-true (kind_at s i) k p.0;
        number = eqb-true (record_number s i) f q.0;
        inside = ltb-true (i + 1) (count s) r.0;
        argument = eqb-true (kind_at s (i + 1)) 1 t.0;
        parameter = eqb-true (record_number s (i + 1)) 0 t.1;
      }

  -- And back.
  parts-command : (k f i : ℕ) → At s i k f → At s (i + 1) 1 0 → command_of s k f i ≡ true
  parts-command k f i h g =
      rw (eq-eqb (kind_at s i) k h.kind, eq-eqb (record_number s i) f h.number, lt-ltb (i + 1) (count s) g.inside, g.kind, g.number)

  -- A call that stands where it may: right after a definition's record, and naming its function.
  record Call (i : ℕ) : Type 0 where
    pub after : 1 ≤ i
    pub definition : kind_at s (i - 1) ≡ 8
    pub command : Command 6 (record_number s (i - 1)) i

  -- What the test for it says.
  call-parts : (i : ℕ) → placed_call s i ≡ true → Call i
  call-parts i e =
      let p = both_true (leb 1 i) (eqb (kind_at s (i - 1)) 8 && command_of s 6 (record_number s (i - 1)) i) e in
      let q = both_true (eqb (kind_at s (i - 1)) 8) (command_of s 6 (record_number s (i - 1)) i) p.1 in
      record {
        after = leb-true 1 i p.0;
        definition = eqb-true (kind_at s (i - 1)) 8 q.0;
        command = command-parts 6 (record_number s (i - 1)) i q.1;
      }

  -- A definition's record, and right after it a call that names its function with variable 0.
  call-placed : (i f : ℕ) → At s i 8 f → At s (i + 1) 6 f → At s (i + 1 + 1) 1 0 → placed_call s (i + 1) ≡ true
  call-placed i f h g a =
      let e : i + 1 - 1 ≡ i = omega arith in
      rw (le-leb 1 (i + 1) (omega arith), e, h.kind, h.number) (parts-command 6 f (i + 1) g a)

  -- An emit that stands where it may: right after such a call and its argument, and naming the same function.
  record Emit (i : ℕ) : Type 0 where
    pub after : 2 ≤ i
    pub call : placed_call s (i - 2) ≡ true
    pub command : Command 7 (record_number s (i - 2)) i

  -- What the test for it says.
  emit-parts : (i : ℕ) → placed_emit s i ≡ true → Emit i
  emit-parts i e =
      let p = both_true (leb 2 i) (placed_call s (i - 2) && command_of s 7 (record_number s (i - 2)) i) e in
      let q = both_true (placed_call s (i - 2)) (command_of s 7 (record_number s (i - 2)) i) p.1 in
      record { after = leb-true 2 i p.0; call = q.0; command = command-parts 7 (record_number s (i - 2)) i q.1 }

  -- Right after such a call and its argument, an emit that names the same function with variable 0.
  emit-placed : (i f : ℕ) → placed_call s i ≡ true → record_number s i ≡ f → At s (i + 1 + 1) 7 f → At s (i + 1 + 1 + 1) 1 0 → placed_emit s (i + 1 + 1) ≡ true
  emit-placed i f c n h a =
      let e : i + 1 + 1 - 2 ≡ i = omega arith in
      true-both (le-leb 2 (i + 1 + 1) (omega arith))
      (true-both (ap (placed_call s) e ∙ c)
      (ap (λ (z : ℕ). command_of s 7 (record_number s z) (i + 1 + 1)) e ∙ ap (λ (z : ℕ). command_of s 7 z (i + 1 + 1)) n ∙ parts-command 7 f (i + 1 + 1) h a))

  -- ---- a record that is no misplaced command

  -- The record is no misplaced command.
  abbrev pub Right : ℕ → Type 0
  Right k = misplaced s k ≡ false

  -- No command is misplaced where none is, …
  plain-right : (k : ℕ) → NoCommand s k → Right k
  plain-right k e = rw e

  -- … nor is one that stands where it may.
  call-right : (k : ℕ) → placed_call s k ≡ true → Right k
  call-right k e = first-allows (is_command s k) (placed_call s k) (placed_emit s k) e

  -- The same of an emit.
  emit-right : (k : ℕ) → placed_emit s k ≡ true → Right k
  emit-right k e = second-allows (is_command s k) (placed_call s k) (placed_emit s k) e

  -- Why it is right.
  right_by : (k : ℕ) → Right k → Allowed (is_command s k) (placed_call s k) (placed_emit s k)
  right_by k e = allowed (is_command s k) (placed_call s k) (placed_emit s k) e

  -- No command may stand there.
  record Shut (k : ℕ) : Type 0 where
    pub call : placed_call s k ≡ true → ⊥
    pub emit : placed_emit s k ≡ true → ⊥

  -- A record that is right there is no command.
  shut-plain : (k : ℕ) → Shut k → Right k → NoCommand s k
  shut-plain k h e = on (right_by k e)
    where
      on : Allowed (is_command s k) (placed_call s k) (placed_emit s k) → NoCommand s k
      on (none c) = c
      on (first c) = absurd (h.call c)
      on (second c) = absurd (h.emit c)

  -- A term where no command may stand is bare.
  shut-bare : (i : ℕ) (t : Term) → Stands s i t → Between Shut i (i + records t) → Between Right i (i + records t) → Bare t
  shut-bare i t h c r = bare-from s i t h (each-into (NoCommand s) i t (λ k p q. shut-plain k (c k p q) (r k p q)))

  -- The records of a bare term are right.
  bare-right : (j : ℕ) (t : Term) → Stands s j t → Bare t → Each Right j t
  bare-right j t h b = each-into Right j t (λ k p q. plain-right k (each_from (NoCommand s) j t (bare-into s j t h b) k p q))

  -- ---- where in a term a command may stand

  -- The kinds of a term's records are not 8.
  term-kinds : (i : ℕ) (t : Term) → Stands s i t → Each (λ k. kind_at s k ≡ 8 → ⊥) i t
  term-kinds i (var n) h = λ e. omega arith
  term-kinds i (fun n) h = λ e. omega arith
  term-kinds i (con n) h = λ e. omega arith
  term-kinds i (lam n b) h = (λ e. omega arith, term-kinds (i + 1) b h.1)
  term-kinds i (app a b) h = (λ e. omega arith, term-kinds (i + 1) a h.1, term-kinds (i + 1 + records a) b h.2)
  term-kinds i (call_event n a b) h = (λ e. omega arith, term-kinds (i + 1) a h.1, term-kinds (i + 1 + records a) b h.2)
  term-kinds i (emit n a b) h = (λ e. omega arith, term-kinds (i + 1) a h.1, term-kinds (i + 1 + records a) b h.2)
  term-kinds i (sum a b) h = (λ e. omega arith, term-kinds (i + 1) a h.1, term-kinds (i + 1 + records a) b h.2)
  term-kinds i (branch c a b) h = (λ e. omega arith, term-kinds (i + 1) c h.1, term-kinds (i + 1 + records c) a h.2, term-kinds (i + 1 + records c + records a) b h.3)

  -- A call has three records or more.
  call_long : (i : ℕ) (t : Term) → Stands s i t → kind_at s i ≡ 6 → 3 ≤ records t
  unfolding records
  call_long i (var n) h e = absurd (omega arith)
  call_long i (fun n) h e = absurd (omega arith)
  call_long i (con n) h e = absurd (omega arith)
  call_long i (lam n b) h e = absurd (omega arith)
  call_long i (app a b) h e = absurd (omega arith)
  call_long i (call_event n a r) h e = omega (arith, records-some a, records-some r)
  call_long i (emit n a r) h e = absurd (omega arith)
  call_long i (sum a r) h e = absurd (omega arith)
  call_long i (branch c a r) h e = absurd (omega arith)

  module _ (j : ℕ) (t : Term) (h : Stands s j t) where
    -- A call may stand at the term's first record only.
    call-first : (k : ℕ) → j ≤ k → k < j + records t → placed_call s k ≡ true → k ≡ j
    call-first k p q e = on (dec_lt j k)
      where
        on : Dec (j < k) → k ≡ j
        on (yes l) =
            let c = call-parts k e in
            let w = each_from (λ k. kind_at s k ≡ 8 → ⊥) j t (term-kinds j t h) (k - 1) (omega arith) (omega arith) in
            absurd (w c.definition)
        on (no l) = omega arith

    -- And then the term is long enough.
    call-there : (k : ℕ) → j ≤ k → k < j + records t → placed_call s k ≡ true → (k ≡ j) × (3 ≤ records t)
    call-there k p q e =
        let z = call-first k p q e in
        (z, call_long j t h (ap (kind_at s) (sym z) ∙ (call-parts k e).command.kind))

  -- ---- the main term

  -- No command may stand at record i, nor an emit at the next.
  record Clear (i : ℕ) : Type 0 where
    pub call : placed_call s i ≡ true → ⊥
    pub emit : placed_emit s i ≡ true → ⊥
    pub next : placed_emit s (i + 1) ≡ true → ⊥

  -- So it is at the start of the file, …
  clear-start : Clear 0
  clear-start =
      record {
        call = λ e. let c = call-parts 0 e in omega (arith, c.after);
        emit = λ e. let c = emit-parts 0 e in omega (arith, c.after);
        next = λ e. let c = emit-parts (0 + 1) e in omega (arith, c.after);
      }

  module _ (i f : ℕ) (b : Term) (d : At s i 8 f) (h : Stands s (i + 1) b) where
    -- No call may stand so near to the end of a definition.
    call-before : (k : ℕ) → i ≤ k → k < i + 1 + records b → i + 1 + records b ≤ k + 2 → placed_call s k ≡ true → ⊥
    call-before k p q r e = on (dec_lt i k)
      where
        on : Dec (i < k) → ⊥
        on (yes l) = let c = call-there (i + 1) b h k (omega arith) q e in omega arith
        on (no l) =
            let z : k ≡ i = omega arith in
            let w : kind_at s i ≡ 6 = ap (kind_at s) (sym z) ∙ (call-parts k e).command.kind in
            omega (arith, d.kind)

    -- … and after a definition.
    clear-after : Clear (i + 1 + records b)
    clear-after =
        let l = records-some b in
        record {
          call =
              λ e.
              let c = (call-parts (i + 1 + records b) e).definition in
              let w = each_from (λ k. kind_at s k ≡ 8 → ⊥) (i + 1) b (term-kinds (i + 1) b h) (i + 1 + records b - 1) (omega arith) (omega arith) in
              w c;
          emit =
              λ e.
              let c = emit-parts (i + 1 + records b) e in
              call-before (i + 1 + records b - 2) (omega arith) (omega arith) (omega arith) c.call;
          next =
              λ e.
              let c = emit-parts (i + 1 + records b + 1) e in
              call-before (i + 1 + records b + 1 - 2) (omega arith) (omega arith) (omega arith) c.call;
        }

  -- No command may stand in a main term.
  main-shut : (j : ℕ) (t : Term) → Clear j → Stands s j t → Between Shut j (j + records t)
  main-shut j t c h k p q = record { call = λ e. no_call k p q e; emit = λ e. no-emit (emit-parts k e) e }
    where
      no_call : (l : ℕ) → j ≤ l → l < j + records t → placed_call s l ≡ true → ⊥
      no_call l p q e = let z = call-first j t h l p q e in c.call (ap (placed_call s) (sym z) ∙ e)

      at_next : Dec (k < j + 1) → placed_emit s k ≡ true → k < j + 2 → ⊥
      at_next (yes l) e u = let z : k ≡ j = omega arith in c.emit (ap (placed_emit s) (sym z) ∙ e)
      at_next (no l) e u = let z : k ≡ j + 1 = omega arith in c.next (ap (placed_emit s) (sym z) ∙ e)

      by : Dec (k < j + 2) → Emit k → placed_emit s k ≡ true → ⊥
      by (yes l) m e = at_next (dec_lt k (j + 1)) e l
      by (no l) m e = no_call (k - 2) (omega arith) (omega arith) m.call

      no-emit : Emit k → placed_emit s k ≡ true → ⊥
      no-emit = by (dec_lt k (j + 2))

  -- ---- a definition's body

  -- Only variable 0 begins with a variable's record of number 0.
  parameter-term : (i : ℕ) (t : Term) → Stands s i t → kind_at s i ≡ 1 → record_number s i ≡ 0 → t ≡ var 0
  parameter-term i (var n) h e z = ap var (sym h.number ∙ z)
  parameter-term i (fun n) h e z = absurd (omega arith)
  parameter-term i (con n) h e z = absurd (omega arith)
  parameter-term i (lam n b) h e z = absurd (omega arith)
  parameter-term i (app a b) h e z = absurd (omega arith)
  parameter-term i (call_event n a r) h e z = absurd (omega arith)
  parameter-term i (emit n a r) h e z = absurd (omega arith)
  parameter-term i (sum a r) h e z = absurd (omega arith)
  parameter-term i (branch c a r) h e z = absurd (omega arith)

  module _ (i f : ℕ) (d : At s i 8 f) where
    module _ (t : Term) (h : Stands s (i + 1) t) where
      -- An emit may stand only behind a call and its argument.
      emit-third : (k : ℕ) → i + 1 ≤ k → k < i + 1 + records t → placed_emit s k ≡ true → k ≡ i + 1 + 1 + 1
      emit-third k p q e = on (dec_lt k (i + 1 + 2)) (emit-parts k e)
        where
          near : Dec (k < i + 1 + 1) → k < i + 1 + 2 → 2 ≤ k → Command 6 (record_number s (k - 2 - 1)) (k - 2) → ⊥
          near (yes l) u v c =
              let z : k - 2 + 1 ≡ i = omega arith in
              let w : kind_at s i ≡ 1 = ap (kind_at s) (sym z) ∙ c.argument in
              omega (arith, d.kind)
          near (no l) u v c =
              let z : k - 2 ≡ i = omega arith in
              let w : kind_at s i ≡ 6 = ap (kind_at s) (sym z) ∙ c.kind in
              omega (arith, d.kind)

          on : Dec (k < i + 1 + 2) → Emit k → k ≡ i + 1 + 1 + 1
          on (yes l) m = absurd (near (dec_lt k (i + 1 + 1)) l m.after (call-parts (k - 2) m.call).command)
          on (no l) m = let z = call-first (i + 1) t h (k - 2) (omega arith) (omega arith) m.call in omega arith

      -- A body that begins with no call is bare.
      body-bare : (kind_at s (i + 1) ≡ 6 → ⊥) → Between Right (i + 1) (i + 1 + records t) → Bare t
      body-bare n r = shut-bare (i + 1) t h (λ k p q. record { call = λ e. no_call k p q e; emit = λ e. no-emit k p q e }) r
        where
          no_call : (k : ℕ) → i + 1 ≤ k → k < i + 1 + records t → placed_call s k ≡ true → ⊥
          no_call k p q e = let z = call-first (i + 1) t h k p q e in n (ap (kind_at s) (sym z) ∙ (call-parts k e).command.kind)

          no-emit : (k : ℕ) → i + 1 ≤ k → k < i + 1 + records t → placed_emit s k ≡ true → ⊥
          no-emit k p q e = let z = emit-third k p q e in no_call (k - 2) (omega arith) (omega arith) (emit-parts k e).call

      -- Past a call and its argument no other call may stand, …
      past-call : (k : ℕ) → i + 1 < k → k < i + 1 + records t → placed_call s k ≡ true → ⊥
      past-call k p q e = let z = call-first (i + 1) t h k (omega arith) q e in omega arith

      -- … and past an emit nothing.
      past-emit : (j : ℕ) (r : Term) → i + 1 + 1 + 1 < j → j + records r ≤ i + 1 + records t → Stands s j r → Between Right (i + 1) (i + 1 + records t) → Bare r
      past-emit j r p q g c =
          shut-bare j r g
          (λ k u v. record { call = λ e. past-call k (omega arith) (omega arith) e; emit = λ e. let z = emit-third k (omega arith) (omega arith) e in omega arith })
          (λ k u v. c k (omega arith) (omega arith))

      -- What follows a call and is no emit.
      past-plain : (r : Term) → i + 1 + 1 + 1 + records r ≤ i + 1 + records t → Stands s (i + 1 + 1 + 1) r → (kind_at s (i + 1 + 1 + 1) ≡ 7 → ⊥) → Between Right (i + 1) (i + 1 + records t) → Bare r
      past-plain r q g n c =
          shut-bare (i + 1 + 1 + 1) r g
          (λ k u v. record { call = λ e. past-call k (omega arith) (omega arith) e; emit = λ e. not_there k (emit-third k (omega arith) (omega arith) e) (emit-parts k e).command.kind })
          (λ k u v. c k (omega arith) (omega arith))
        where
          not_there : (k : ℕ) → k ≡ i + 1 + 1 + 1 → kind_at s k ≡ 7 → ⊥
          not_there k z e = n (ap (kind_at s) (sym z) ∙ e)

    -- A call with variable 0, and no emit after it.
    noted : (r : Term) → Stands s (i + 1) (call_event f (var 0) r) → Between Right (i + 1) (i + 1 + records (call_event f (var 0) r))
        → (kind_at s (i + 1 + 1 + 1) ≡ 7 → ⊥) → Placed f (call_event f (var 0) r)
    unfolding records
    noted r h c n = noting r (past-plain (call_event f (var 0) r) h r (omega arith) h.2 n c) refl

    -- A call and then an emit that stands where it may.
    logged : (m : ℕ) (a b : Term) → Stands s (i + 1) (call_event f (var 0) (emit m a b)) → Between Right (i + 1) (i + 1 + records (call_event f (var 0) (emit m a b)))
        → Emit (i + 1 + 1 + 1) → Placed f (call_event f (var 0) (emit m a b))
    unfolding records
    logged m a b h c g =
        let z : i + 1 + 1 + 1 - 2 ≡ i + 1 = omega arith in
        let p : m ≡ f = sym h.2.0.number ∙ g.command.number ∙ ap (record_number s) z ∙ h.0.number in
        let q = parameter-term (i + 1 + 1 + 1 + 1) a h.2.1 g.command.argument g.command.parameter in
        logging b (past-emit (call_event f (var 0) (emit m a b)) h (i + 1 + 1 + 1 + 1 + records a) b (omega arith) (omega arith) h.2.2 c)
        (ap₂ (λ (x : ℕ) (y : Term). call_event f (var 0) (emit x y b)) p q)

    -- A call and whatever follows it.
    call-body : (r : Term) → Stands s (i + 1) (call_event f (var 0) r) → Between Right (i + 1) (i + 1 + records (call_event f (var 0) r)) → Placed f (call_event f (var 0) r)
    unfolding records
    call-body (var m) h c = noted (var m) h c (λ e. omega arith)
    call-body (fun m) h c = noted (fun m) h c (λ e. omega arith)
    call-body (con m) h c = noted (con m) h c (λ e. omega arith)
    call-body (lam m b) h c = noted (lam m b) h c (λ e. omega arith)
    call-body (app a b) h c = noted (app a b) h c (λ e. omega arith)
    call-body (call_event m a b) h c = noted (call_event m a b) h c (λ e. omega arith)
    call-body (sum a b) h c = noted (sum a b) h c (λ e. omega arith)
    call-body (branch d a b) h c = noted (branch d a b) h c (λ e. omega arith)
    call-body (emit m a b) h c = on (right_by (i + 1 + 1 + 1) (c (i + 1 + 1 + 1) (omega arith) (omega arith)))
      where
        on : Allowed (is_command s (i + 1 + 1 + 1)) (placed_call s (i + 1 + 1 + 1)) (placed_emit s (i + 1 + 1 + 1)) → Placed f (call_event f (var 0) (emit m a b))
        on (none q) = absurd (no-command s (i + 1 + 1 + 1) (omega arith) (omega arith) q)
        on (first q) = absurd (past-call (call_event f (var 0) (emit m a b)) h (i + 1 + 1 + 1) (omega arith) (omega arith) q)
        on (second q) = logged m a b h c (emit-parts (i + 1 + 1 + 1) q)

    -- A call that may stand there names the function, with variable 0.
    call_shape : (m : ℕ) (a r : Term) → Stands s (i + 1) (call_event m a r) → Call (i + 1) → call_event m a r ≡ call_event f (var 0) r
    call_shape m a r h g =
        let z : i + 1 - 1 ≡ i = omega arith in
        let p : m ≡ f = sym h.0.number ∙ g.command.number ∙ ap (record_number s) z ∙ d.number in
        let q = parameter-term (i + 1 + 1) a h.1 g.command.argument g.command.parameter in
        ap₂ (λ (x : ℕ) (y : Term). call_event x y r) p q

    -- A body without misplaced commands.
    body-placed : (t : Term) → Stands s (i + 1) t → Between Right (i + 1) (i + 1 + records t) → Placed f t
    unfolding records
    body-placed (var n) h c = plain (body-bare (var n) h (λ e. omega arith) c)
    body-placed (fun n) h c = plain (body-bare (fun n) h (λ e. omega arith) c)
    body-placed (con n) h c = plain (body-bare (con n) h (λ e. omega arith) c)
    body-placed (lam n b) h c = plain (body-bare (lam n b) h (λ e. omega arith) c)
    body-placed (app a b) h c = plain (body-bare (app a b) h (λ e. omega arith) c)
    body-placed (call_event m a r) h c = on (right_by (i + 1) (c (i + 1) (omega arith) (omega arith)))
      where
        on : Allowed (is_command s (i + 1)) (placed_call s (i + 1)) (placed_emit s (i + 1)) → Placed f (call_event m a r)
        on (none q) = absurd (no-command s (i + 1) (omega arith) (omega arith) q)
        on (first q) =
            subst (λ (t : Term). Stands s (i + 1) t → Between Right (i + 1) (i + 1 + records t) → Placed f t) (sym (call_shape m a r h (call-parts (i + 1) q))) (call-body r) h c
        on (second q) = absurd (let z = emit-third (call_event m a r) h (i + 1) (omega arith) (omega arith) q in omega arith)
    body-placed (sum a b) h c = plain (body-bare (sum a b) h (λ e. omega arith) c)
    body-placed (branch d a b) h c = plain (body-bare (branch d a b) h (λ e. omega arith) c)
    body-placed (emit m a r) h c = plain (body-bare (emit m a r) h (λ e. omega arith) c)

    -- ---- and back

    -- A body whose commands stand where they may.
    placed-body : (t : Term) → Placed f t → Stands s (i + 1) t → Each Right (i + 1) t
    unfolding records
    placed-body t (plain b) = λ h. bare-right (i + 1) t h b
    placed-body t (noting b p e) =
        rw e
        (λ h. (
          call-right (i + 1) (call-placed i f d h.0 h.1),
          plain-right (i + 1 + 1) (low-kind s (i + 1 + 1) (omega arith)),
          bare-right (i + 1 + 1 + 1) b h.2 p,
        ))
    placed-body t (logging b p e) =
        rw e
        (λ h.
        let c = call-placed i f d h.0 h.1 in (
          call-right (i + 1) c,
          plain-right (i + 1 + 1) (low-kind s (i + 1 + 1) (omega arith)),
          (
            emit-right (i + 1 + 1 + 1) (emit-placed (i + 1) f c h.0.number h.2.0 h.2.1),
            plain-right (i + 1 + 1 + 1 + 1) (low-kind s (i + 1 + 1 + 1 + 1) (omega arith)),
            bare-right (i + 1 + 1 + 1 + 1 + 1) b h.2.2 p,
          ),
        ))

-- ---- the file

-- The bodies of the functions from f on.
abbrev pub PlacedFrom : ℕ → List Term → Type 0
PlacedFrom f [] = Unit {0}
PlacedFrom f (b ∷ bs) = Placed f b × PlacedFrom (suc f) bs

-- The same by the codebase.
pub placed-code : (f : ℕ) (bs : List Term) → PlacedFrom f bs → (g : ℕ) (b : Term) → bodies bs g ≡ some b → Placed (f + g) b
unfolding bodies
placed-code f [] h g b e = absurd (some-ne-none b (sym e))
placed-code f (a ∷ bs) h zero b e = let q : a ≡ b = cc in rw (add-zero f, ← q) h.0
placed-code f (a ∷ bs) h (suc g) b e = let z : f + suc g ≡ suc f + g = omega arith in rw z (placed-code (suc f) bs h.1 g b e)

-- And back.
pub code-placed : (f : ℕ) (bs : List Term) → ((g : ℕ) (b : Term) → bodies bs g ≡ some b → Placed (f + g) b) → PlacedFrom f bs
unfolding bodies
code-placed f [] h = tt
code-placed f (a ∷ bs) h =
    (rw (add-zero f) at (h 0 a refl), code-placed (suc f) bs (λ g b e. let z : f + suc g ≡ suc f + g = omega arith in rw z at (h (suc g) b e)))

module _ (s : List ℕ) (m : ℕ) (e : Term) where
  -- The definitions from record i on, and the main term.
  placed_on : (i f : ℕ) (ds : List Definition) → Clear s i → Laid s i ds m e → Numbered f ds → EachIn (Right s) i ds e → PlacedFrom f (bodies_of ds) × Bare e
  unfolding each
  placed_on i f [] w h n c = let r = each_from (Right s) i e c in (tt, shut-bare s i e h.1 (main-shut s i e w h.1) r)
  placed_on i f (d ∷ ds) w h n c =
      let p : Placed f d.body = rw n.0 at (body-placed s i d.number h.1 d.body h.2 (each_from (Right s) (i + 1) d.body c.1)) in
      let r = placed_on (i + 1 + records d.body) (suc f) ds (clear-after s i d.number d.body h.1 h.2) h.3 n.2 c.2 in
      ((p, r.0), r.1)

  -- From the records: the commands of the bodies stand where they may, and the main term has none.
  pub placed-from : (ds : List Definition) → Laid s 0 ds m e → Numbered 0 ds → EachIn (Right s) 0 ds e → PlacedFrom 0 (bodies_of ds) × Bare e
  placed-from ds = placed_on 0 0 ds (clear-start s)

  -- To the records.
  pub placed-into : (i f : ℕ) (ds : List Definition) → Laid s i ds m e → Numbered f ds → PlacedFrom f (bodies_of ds) → Bare e → EachIn (Right s) i ds e
  unfolding each
  placed-into i f [] h n p b = bare-right s i e h.1 b
  placed-into i f (d ∷ ds) h n p b = (
    plain-right s i (high-kind s i (omega (arith, h.1.kind))),
    placed-body s i f (rw n.0 at h.1) d.body p.0 h.2,
    placed-into (i + 1 + records d.body) (suc f) ds h.3 n.2 p.1 b,
  )
