-- One pass over a script's definitions: the body of each, after its commands, and the main term after them. Assumes nothing.
use mathlib.Core.List.{List, [], ◌∷◌, ◌++◌, append_assoc, append-nil}
use mathlib.Core.Option.{some}
use mathlib.Core.Path.{◌≡◌, refl, sym, ap, ◌∙◌}
use native.Mathlib.Decide.{dec_lt}
use native.Mathlib.Numerals.{add-one}
use native.Mathlib.Omega.{arith}
use Prim.Native.Nat.{ℕ, suc, ◌+◌, ◌*◌, ◌<◌, ◌≤◌}
use lib.ListN.{length, drop, set}
use lib.Seq.{get_or-set_same, get_or-set_other}
use borrow.Author.Tests.{ne_eqb}
use Rattle.calculus.specs.Term.{Term, view, records, Bare, Placed, codebase, bodies as functions}
use Rattle.calculus.specs.Term.Term.{var, fun, con, lam, app, call_event, emit, sum, branch}
use Rattle.calculus.specs.Term.Placed.{plain, noting, logging}
use Rattle.calculus.specs.Strip.{strip_emit, strip}
use Rattle.script.specs.declared.Purpose.TheVariants.{RewrittenRun}
use Rattle.script.proofs.Program.{after-term}
use Rattle.script.proofs.Accepted.{program-length}
use Rattle.terms.specs.Record.{count, kind_at, record8}
use Rattle.terms.specs.Encode.{encode, Fits, encode_from}
use Rattle.terms.proofs.Stands.{Stands, stands-within}
use Rattle.terms.proofs.Encode.{record-inside, record-kind, record-rest, encode-stands}
use Rattle.history.specs.Commands.{commands_number}
use Rattle.history.specs.declared.Commands.{Commands}
use Rattle.history.specs.declared.Commands.TheVariants.{None, Note, NoteAndLog}
use Rattle.zipper.specs.Zipper.{end_at}
use Rattle.zipper.proofs.Parts.{first_kind, first-inside, records-some}
use Rattle.zipper.proofs.Whole.{end-there}
use Rattle.zipper.proofs.Ends.{last-there}
use Rattle.script.specs.File.{program_in}
use Rattle.machine.specs.Program.{code_in, Formed}
use Rattle.machine.specs.Bodies.{emit_mark, mark_of, commands_at, body_of, BodyAt, Found}
use Rattle.machine.specs.declared.Body.{Body}
use Rattle.machine.proofs.Strip.{strip-fits, stripped-from}
use Rattle.machine.proofs.Program.{Body as Shaped, body_below, formed-body, formed-main}

-- ---- a body in its bytes

-- No term begins with kind 8.
view-kind : (t : Term) → (view t).kind ≡ 8 → ⊥
unfolding view
view-kind (var i) e = omega arith
view-kind (fun f) e = omega arith
view-kind (con n) e = omega arith
view-kind (lam l b) e = omega arith
view-kind (app a b) e = omega arith
view-kind (call_event f a r) e = omega arith
view-kind (emit f a r) e = omega arith
view-kind (sum a b) e = omega arith
view-kind (branch c a b) e = omega arith

-- Of a term without commands: its kind, no mark, nothing to strip.
pub record Plain (b : Term) : Type 0 where
  pub no_note : (view b).kind ≡ 6 → ⊥
  pub no-log : (view b).kind ≡ 7 → ⊥
  pub mark : mark_of b ≡ None
  pub same : strip b ≡ b
  pub rest-mark : emit_mark b ≡ Note
  pub rest-same : strip_emit b ≡ b

bare-plain : (b : Term) → Bare b → Plain b
unfolding view
bare-plain (var i) p = record { no_note = λ e. omega arith; no-log = λ e. omega arith; mark = refl; same = refl; rest-mark = refl; rest-same = refl }
bare-plain (fun f) p = record { no_note = λ e. omega arith; no-log = λ e. omega arith; mark = refl; same = refl; rest-mark = refl; rest-same = refl }
bare-plain (con n) p = record { no_note = λ e. omega arith; no-log = λ e. omega arith; mark = refl; same = refl; rest-mark = refl; rest-same = refl }
bare-plain (lam l b) p = record { no_note = λ e. omega arith; no-log = λ e. omega arith; mark = refl; same = refl; rest-mark = refl; rest-same = refl }
bare-plain (app a b) p = record { no_note = λ e. omega arith; no-log = λ e. omega arith; mark = refl; same = refl; rest-mark = refl; rest-same = refl }
bare-plain (call_event f a r) p = absurd p
bare-plain (emit f a r) p = absurd p
bare-plain (sum a b) p = record { no_note = λ e. omega arith; no-log = λ e. omega arith; mark = refl; same = refl; rest-mark = refl; rest-same = refl }
bare-plain (branch c a b) p = record { no_note = λ e. omega arith; no-log = λ e. omega arith; mark = refl; same = refl; rest-mark = refl; rest-same = refl }

-- There are at most two commands.
most : (c : Commands) → commands_number c ≤ 2
most None = omega arith
most Note = omega arith
most NoteAndLog = omega arith

-- The commands, by the kinds.
module _ (s : List ℕ) (i : ℕ) where
  pub commands-none : (kind_at s i ≡ 6 → ⊥) → None ≡ commands_at s i
  unfolding commands_at
  commands-none n = rw (ne_eqb (kind_at s i) 6 n)

  pub commands-one : kind_at s i ≡ 6 → (kind_at s (i + 2) ≡ 7 → ⊥) → Note ≡ commands_at s i
  unfolding commands_at
  commands-one k n = rw (k, ne_eqb (kind_at s (i + 2)) 7 n)

  pub commands-two : kind_at s i ≡ 6 → kind_at s (i + 2) ≡ 7 → NoteAndLog ≡ commands_at s i
  unfolding commands_at
  commands-two k m = rw (k, m)

-- Past a command and its argument.
past-command : (s : List ℕ) (i k n : ℕ) (x : List ℕ) → drop (8 * i) s ≡ record8 k n (record8 1 0 [] ++ x) → drop (8 * (i + 2)) s ≡ x
past-command s i k n x e =
    let j : 8 * (i + 2) ≡ 8 * (i + 1 + 1) = omega arith in
    ap (λ (z : ℕ). drop z s) j ∙ record-rest s (i + 1) 1 0 x (record-rest s i k n (record8 1 0 [] ++ x) e ∙ simp append_assoc)

-- A body at record i: its mark by the kinds there, and where it goes on after its commands.
pub record Shown (s : List ℕ) (i : ℕ) (b : Term) : Type 0 where
  pub marked : commands_at s i ≡ mark_of b
  pub later : List ℕ
  pub lies : drop (8 * (i + 2 * commands_number (mark_of b))) s ≡ encode (strip b) ++ later
  pub second : kind_at s i ≡ 6 → 8 * (i + 2) < length s

module _ (s : List ℕ) (i f : ℕ) (rest : List ℕ) where
  plain-shown : (b : Term) → Bare b → Fits b → drop (8 * i) s ≡ encode b ++ rest → Shown s i b
  unfolding commands_at
  plain-shown b p g e =
      let q = bare-plain b p in
      let k : kind_at s i ≡ (view b).kind = first_kind s i b (encode-stands s i b rest g e) in
      let j : i + 2 * commands_number (mark_of b) ≡ i = rw q.mark (omega arith) in
      record {
        marked = rw (ne_eqb (kind_at s i) 6 (λ z. q.no_note (sym k ∙ z)), q.mark);
        later = rest;
        lies = rw (j, q.same) e;
        second = λ z. absurd (q.no_note (sym k ∙ z));
      }

  noting-shown : (b : Term) → Bare b → Fits b → drop (8 * i) s ≡ encode (call_event f (var 0) b) ++ rest → Shown s i (call_event f (var 0) b)
  unfolding commands_at
  noting-shown b p g e =
      let q = bare-plain b p in
      let e₁ : drop (8 * i) s ≡ record8 6 f (record8 1 0 [] ++ (encode b ++ rest)) = e ∙ simp append_assoc in
      let d : drop (8 * (i + 2)) s ≡ encode b ++ rest = past-command s i 6 f (encode b ++ rest) e₁ in
      let w : Stands s (i + 2) b = encode-stands s (i + 2) b rest g d in
      let k : kind_at s (i + 2) ≡ (view b).kind = first_kind s (i + 2) b w in
      let n = first-inside s (i + 2) b w in
      let k₀ : kind_at s i ≡ 6 = record-kind s i 6 f (record8 1 0 [] ++ (encode b ++ rest)) e₁ in
      let j : i + 2 * commands_number (emit_mark b) ≡ i + 2 = rw q.rest-mark in
      record {
        marked = rw (k₀, ne_eqb (kind_at s (i + 2)) 7 (λ z. q.no-log (sym k ∙ z)), q.rest-mark);
        later = rest;
        lies = rw (j, q.rest-same) d;
        second = λ z. omega arith;
      }

  logging-shown : (b : Term) → drop (8 * i) s ≡ encode (call_event f (var 0) (emit f (var 0) b)) ++ rest → Shown s i (call_event f (var 0) (emit f (var 0) b))
  unfolding commands_at
  logging-shown b e =
      let x : List ℕ = record8 7 f (record8 1 0 [] ++ (encode b ++ rest)) in
      let e₁ : drop (8 * i) s ≡ record8 6 f (record8 1 0 [] ++ x) = e ∙ simp append_assoc in
      let d : drop (8 * (i + 2)) s ≡ x = past-command s i 6 f x e₁ in
      let k₀ : kind_at s i ≡ 6 = record-kind s i 6 f (record8 1 0 [] ++ x) e₁ in
      let k : kind_at s (i + 2) ≡ 7 = record-kind s (i + 2) 7 f (record8 1 0 [] ++ (encode b ++ rest)) d in
      let n = record-inside s (i + 2) 7 f (record8 1 0 [] ++ (encode b ++ rest)) d in
      let j : i + 2 * 2 ≡ i + 2 + 2 = omega arith in
      record {
        marked = rw (k₀, k);
        later = rest;
        lies = rw j (past-command s (i + 2) 7 f (encode b ++ rest) d);
        second = λ z. omega arith;
      }

  -- A placed body is shown.
  shown : (b : Term) → Placed f b → Fits b → drop (8 * i) s ≡ encode b ++ rest → Shown s i b
  shown b (plain p) g e = plain-shown b p g e
  shown b (noting r p q) g e = rw q (noting-shown r p (rw q at g).2 (rw q at e))
  shown b (logging r p q) g e = rw q (logging-shown r (rw q at e))

-- ---- the pass

-- What is noted of a body.
pub record Entry (s : List ℕ) (b : Term) (x : Body) : Type 0 where
  pub shape : x.commands ≡ mark_of b
  pub body : BodyAt s x.at (strip b)

-- The pass has come to record at, past f definitions.
pub record Passing (s : List ℕ) (bodies : List Body) (at f : ℕ) : Type 0 where
  pub rest : List Term
  pub bytes : drop (8 * at) s ≡ encode_from f rest (program_in s).main
  pub ahead : (j : ℕ) → codebase (program_in s) (f + j) ≡ functions rest j
  pub total : f + length rest ≡ length (program_in s).definitions
  pub passed : (j : ℕ) (b : Term) → j < f → codebase (program_in s) j ≡ some b → Entry s b (body_of bodies j)

-- The numbers of a turn, at a definition that begins at record at.
pub record Turn (s : List ℕ) (at f n : ℕ) : Type 0 where
  pub two : n ≤ 2
  pub low : f < 128
  pub inside : at + 1 < count s
  pub few : count s ≤ 1296
  pub forward : at + 1 < end_at s (at + 1)
  pub within : end_at s (at + 1) ≤ count s

-- The next definition.
pub record Here (rest : List Term) : Type 0 where
  pub body : Term
  pub later : List Term
  pub is : rest ≡ body ∷ later

module _ {s : List ℕ} (h : Formed RewrittenRun s) where
  -- Before any definition.
  pub passing-none : (bodies : List Body) → Passing s bodies 0 0
  passing-none bodies = record {
    rest = (program_in s).definitions;
    bytes = h.bytes;
    ahead = λ j. let e : 0 + j ≡ j = omega arith in rw e;
    total = omega arith;
    passed = λ j b l e. absurd (omega arith);
  }

  module _ {bodies : List Body} {at f : ℕ} (p : Passing s bodies at f) where
    -- A term begins at the record, or a definition.
    main-kind : drop (8 * at) s ≡ encode (program_in s).main → (kind_at s at ≡ 8 → ⊥) × (at < count s)
    main-kind e =
        let m : Term = (program_in s).main in
        let w : Stands s at m = encode-stands s at m [] (formed-main h).fits (e ∙ sym (append-nil (encode m))) in
        (λ z. view-kind m (sym (first_kind s at m w) ∙ z), first-inside s at m w)

    pub passing-in : 8 * at < length s
    passing-in = on p.rest p.bytes
      where
        on : (rest : List Term) → drop (8 * at) s ≡ encode_from f rest (program_in s).main → 8 * at < length s
        on [] e = let k = main-kind e in omega arith
        on (b ∷ bs) e = let k = record-inside s at 8 f (encode b ++ encode_from (suc f) bs (program_in s).main) e in omega arith

    -- No definition begins there: all are passed.
    pub passing-end : (kind_at s at ≡ 8 → ⊥) → 128 ≤ length bodies → Found s bodies at
    unfolding code_in
    passing-end n w = on p.rest p.bytes p.total
      where
        on : (rest : List Term) → drop (8 * at) s ≡ encode_from f rest (program_in s).main → f + length rest ≡ length (program_in s).definitions → Found s bodies at
        on [] e t =
            let l = last-there s at (program_in s).main e (formed-main h) in
            record {
              positions = record {
                within = λ g b q.
                    let r = stripped-from (codebase (program_in s)) g b q in
                    omega (arith, body_below (program_in s).definitions g r.body r.has, h.formed.few);
                there = λ g b q.
                    let r = stripped-from (codebase (program_in s)) g b q in
                    rw r.is (p.passed g r.body (omega (arith, body_below (program_in s).definitions g r.body r.has)) r.has).body;
              };
              marked = λ g b q. (p.passed g b (omega (arith, body_below (program_in s).definitions g b q)) q).shape;
              last = l.0;
              is-main = l.1;
            }
        on (b ∷ bs) e t = absurd (n (record-kind s at 8 f (encode b ++ encode_from (suc f) bs (program_in s).main) e))

    module _ (k : kind_at s at ≡ 8) where
      -- A definition begins there.
      here : Here p.rest
      here = on p.rest p.bytes
        where
          on : (rest : List Term) → drop (8 * at) s ≡ encode_from f rest (program_in s).main → Here rest
          on [] e = absurd ((main-kind e).0 k)
          on (b ∷ bs) e = record { body = b; later = bs; is = refl }

      after : drop (8 * (at + 1)) s ≡ encode here.body ++ encode_from (suc f) here.later (program_in s).main
      after =
          let m : Term = (program_in s).main in
          record-rest s at 8 f (encode here.body ++ encode_from (suc f) here.later m) (p.bytes ∙ ap (λ (r : List Term). encode_from f r m) here.is)

      has : codebase (program_in s) f ≡ some here.body
      unfolding functions
      has =
          let e : f + 0 ≡ f = omega arith in
          sym (ap (λ (x : ℕ). codebase (program_in s) x) e) ∙ p.ahead 0 ∙ ap (λ (r : List Term). functions r 0) here.is

      body_is : Shaped f here.body
      body_is = formed-body h f here.body has

      stands : Stands s (at + 1) here.body
      stands = encode-stands s (at + 1) here.body (encode_from (suc f) here.later (program_in s).main) body_is.fits after

      body-shown : Shown s (at + 1) here.body
      body-shown = shown s (at + 1) f (encode_from (suc f) here.later (program_in s).main) here.body body_is.placed body_is.fits after

      -- What the commands' count asks.
      pub command-in : 8 * (at + 1) < length s
      command-in = let z = first-inside s (at + 1) here.body stands in omega arith

      pub second-in : kind_at s (at + 1) ≡ 6 → 8 * (at + 1 + 2) < length s
      second-in = body-shown.second

      module _ (m : Commands) (is-m : m ≡ commands_at s (at + 1)) where
        -- The entry that is made.
        made : Entry s here.body (record { at = at + 1 + 2 * commands_number m; commands = m })
        made =
            let b : Term = here.body in
            let z : m ≡ mark_of b = is-m ∙ body-shown.marked in
            let i : ℕ = at + 1 + 2 * commands_number m in
            let lie : drop (8 * i) s ≡ encode (strip b) ++ body-shown.later = rw z body-shown.lies in
            record {
              shape = z;
              body = record {
                lies = record {
                  bytes = lie ∙ ap (λ (x : List ℕ). encode (strip b) ++ x) (sym (after-term s i (strip b) body-shown.later lie));
                  bare = body_is.bare;
                  few = body_is.few;
                };
                fits = strip-fits b body_is.fits;
              };
            }

        pub turn : Turn s at f (commands_number m)
        turn =
            let b : Term = here.body in
            let i = first-inside s (at + 1) b stands in
            let l = ap length h.bytes ∙ program-length 0 (program_in s).definitions (program_in s).main in
            let e = end-there s (at + 1) b stands in
            record {
              two = most m;
              low = omega (arith, body_below (program_in s).definitions f b has, h.formed.few);
              inside = i;
              few = omega (arith, h.formed.short);
              forward = omega (arith, records-some b);
              within = omega (arith, stands-within s (at + 1) b stands);
            }

        -- On to the next definition.
        pub passing-on : (end : ℕ) → end ≡ end_at s (at + 1) → f < length bodies → (bodies' : List Body) (x : Body) → bodies' ≡ set bodies f x
            → x ≡ record { at = at + 1 + 2 * commands_number m; commands = m } → Passing s bodies' end (f + 1)
        unfolding functions
        passing-on end z l bodies' x q v =
            let b : Term = here.body in
            let t = p.total in
            let w : end ≡ at + 1 + records b = z ∙ end-there s (at + 1) b stands in
            record {
              rest = here.later;
              bytes = rw (w, add-one f) (after-term s (at + 1) b (encode_from (suc f) here.later (program_in s).main) after);
              ahead = λ j.
                  let e : f + 1 + j ≡ f + suc j = omega arith in
                  rw e (p.ahead (suc j) ∙ ap (λ (x : List Term). functions x (suc j)) here.is);
              total = omega (arith, ap length here.is);
              passed = λ j y k e. on j y e (dec_lt j f) k;
            }
          where
            none : Body
            none = record { at = 0; commands = None }

            on : (j : ℕ) (y : Term) → codebase (program_in s) j ≡ some y → Dec (j < f) → j < f + 1 → Entry s y (body_of bodies' j)
            on j y e (yes c) k = rw (q, get_or-set_other bodies f j x none (λ z. omega arith)) (p.passed j y c e)
            on j y e (no c) k =
                let z : j ≡ f = omega arith in
                let u : y ≡ here.body = cc (has) in
                rw (z, u, q, get_or-set_same bodies f x none l, v) made
