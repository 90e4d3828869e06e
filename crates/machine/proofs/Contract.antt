-- Firing a redex: the body that an application goes to, and what its result leaves in the buffer; the same of a sum and a branch. Assumes
-- nothing.
use mathlib.Core.Bool.{true, false}
use mathlib.Core.List.{List}
use mathlib.Core.Logic.{◌⊎◌, inl, inr, ⊎_elim}
use mathlib.Core.Option.{Option as Maybe, none, some, IsSome}
use mathlib.Core.Path.{◌≡◌, refl, sym, ap, ap₂, subst, ◌∙◌}
use Prim.Native.Nat.{ℕ, ◌+◌, ◌-◌, ◌*◌, ◌/◌, ◌<◌, ◌≤◌}
use native.Mathlib.Decide.{ℕ_discrete}
use native.Mathlib.Omega.{arith}
use lib.ListN.{length, take, drop}
use borrow.Author.Tests.{eq-eqb, ne_eqb, le-leb, lt-leb}
use Rattle.std.specs.Prelude.{Option, Some, None, is_some}
use Rattle.words.specs.Bytes.{part}
use Rattle.words.specs.Put.{put, part-put}
use Rattle.calculus.specs.Term.{Term, Codebase, view, view_of, records, size, Bare, Defined, codebase}
use Rattle.calculus.specs.Term.Term.{fun, con, lam, app}
use Rattle.calculus.specs.Substitution.{put as put_term}
use Rattle.calculus.specs.Step.{Event, Next, step}
use Rattle.calculus.specs.Step.Event.{quiet, calls}
use Rattle.calculus.specs.Step.Next.{at_value, at_stuck, next}
use Rattle.calculus.specs.Run.{limit}
use Rattle.calculus.proofs.Peel.{put-bare}
use Rattle.terms.specs.Record.{count, kind_at, record_number}
use Rattle.terms.specs.Read.{term_at}
use Rattle.terms.specs.Encode.{encode, Fits}
use Rattle.terms.proofs.Encode.{encode-length, term-at}
use Rattle.substitution.specs.Copied.{copied, Lies, WrittenIs}
use Rattle.substitution.proofs.Laws.{copied-encode, put-fits, lies}
use Rattle.zipper.specs.Frame.{Frame, plug}
use Rattle.zipper.specs.declared.Entry.{Entry}
use Rattle.zipper.specs.Zipper.{whole_in, end_at, ZipOf, Poised}
use Rattle.calculus.proofs.Size.{bare-size}
use Rattle.zipper.proofs.Context.{bare-shared, fits-shared, defined-shared, plug-part, plug-keeps}
use Rattle.zipper.proofs.Parts.{first-inside, bounds, focus-bare, focus-fits}
use Rattle.zipper.proofs.Whole.{zip-flat, poised-whole, poised-own}
use Rattle.zipper.proofs.Redexes.{Applied, applied-at, added-at, chosen_at, abstraction-step, name-step, function-there, head-kind, head-name, head-abstraction, argument-kind, argument-number, redex-inside, three-kinds, facts, argument-part, room_small, room-large, contracted}
use Rattle.zipper.proofs.Sums.{added-step, first_read, second-read, added-inside, added-lands, second-step, third-step, number_read, third-lands, branch-ends, second-lands}
use Rattle.script.specs.File.{program_in}
use Rattle.machine.specs.Program.{code_in}
use Rattle.machine.specs.Bodies.{body_of, BodyAt, Positions}
use Rattle.machine.specs.declared.Body.{Body}
use Rattle.machine.specs.Fire.{body_for, Source, Around, Ready, FiredIs, FitsIs}
use Rattle.machine.specs.Choice.{Addends, summed, third_at, second_to, Fork, moved, ChoiceIs}
use Rattle.machine.proofs.Strip.{stripped-from}

-- ---- bodies

-- The term at a body's record.
body-term : {s : List ℕ} {i : ℕ} {b : Term} → BodyAt s i b → term_at s i ≡ b
body-term {s} {i} {b} h = term-at s i b (drop (8 * (i + records b)) s) h.fits h.lies.bytes

-- It lies there.
body-lies : {s : List ℕ} {i : ℕ} {b : Term} → BodyAt s i b → Lies s i (term_at s i)
body-lies h = rw (body-term h) h.lies

-- A defined function has a body.
pub record HasBody (C : Codebase) (f : ℕ) : Type 0 where
  pub body : Term
  pub is : C f ≡ some body

has_body : (C : Codebase) (f : ℕ) → IsSome (C f) → HasBody C f
has_body C f h = on (C f) refl h
  where
    on : (o : Maybe Term) → C f ≡ o → IsSome o → HasBody C f
    on none e k = absurd k
    on (some b) e k = record { body = b; is = e }

-- ---- the body that a redex goes to

-- What the application at p goes to: a body at its place, and the step of the whole.
pub record Reduct (C : Codebase) (e s : List ℕ) (bodies : List Body) (p : ℕ) (K : List Frame) (v T : Term) : Type 0 where
  pub body : Term
  pub is : body_for e s bodies p ≡ body
  pub bare : Bare body
  pub fits : Fits body
  pub event : Event
  pub goes : step C T ≡ next event (plug K (put_term 0 v body))
  pub called : kind_at e (p + 1) ≡ 2 → event ≡ calls (record_number e (p + 1)) v
  pub silent : (kind_at e (p + 1) ≡ 2 → ⊥) → event ≡ quiet
  pub source : Source e s bodies p

-- A function that is called there has a body, …
module _ (s : List ℕ) {e : List ℕ} {fs : List Entry} {p l r n : ℕ} {T : Term} (h : Applied e fs p l r n T) (d : Defined (code_in s) T) (k : kind_at e (p + 1) ≡ 2) where
  -- … without its commands …
  pub called-code : HasBody (code_in s) (record_number e (p + 1))
  called-code =
      let f : ℕ = record_number e (p + 1) in
      let z : Defined (code_in s) (app h.function h.argument) = plug-part (defined-shared (code_in s)) h.frames (app h.function h.argument) (rw h.whole d) in
      let y : Defined (code_in s) (fun f) = rw (head-name h k) at z.0 in
      has_body (code_in s) f y

  -- … and in the program.
  pub called-body : HasBody (codebase (program_in s)) (record_number e (p + 1))
  unfolding code_in
  called-body =
      let g = called-code in
      let w = stripped-from (codebase (program_in s)) (record_number e (p + 1)) g.body g.is in
      record { body = w.body; is = w.has }

module _ {e : List ℕ} {fs : List Entry} {s : List ℕ} {bodies : List Body} {p l r n : ℕ} {T : Term} (h : Applied e fs p l r n T) (d : Defined (code_in s) T) (b : Positions s bodies) where
  -- A function name's body lies in the script.
  name-reduct : kind_at e (p + 1) ≡ 2 → Reduct (code_in s) e s bodies p h.frames h.argument T
  unfolding body_for
  name-reduct k =
      let f : ℕ = record_number e (p + 1) in
      let q : h.function ≡ fun f = head-name h k in
      let g : HasBody (code_in s) f = called-code s h d k in
      let a : BodyAt s (body_of bodies f).at g.body = b.there f g.body g.is in
      record {
        body = g.body;
        is = rw (eq-eqb (kind_at e (p + 1)) 2 k) (body-term a);
        bare = a.lies.bare;
        fits = a.fits;
        event = calls f h.argument;
        goes = name-step h (code_in s) f g.body q g.is;
        called = λ w. refl;
        silent = λ w. absurd (w k);
        source = record {
          inside = first-inside e (p + 1) h.function (function-there h);
          kinds = inl k;
          named = λ w. b.within f g.body g.is;
          called = λ w. body-lies a;
          applied = λ w. absurd (omega arith);
        };
      }

  -- An abstraction's lies after its record.
  abstraction-reduct : kind_at e (p + 1) ≡ 4 → Reduct (code_in s) e s bodies p h.frames h.argument T
  unfolding body_for records
  abstraction-reduct k =
      let a = head-abstraction h k in
      let z : Bare (app h.function h.argument) = plug-part bare-shared h.frames (app h.function h.argument) h.zip.sound.bare in
      let y : Fits (app h.function h.argument) = plug-part fits-shared h.frames (app h.function h.argument) h.zip.sound.fits in
      let bare : Bare (lam a.label a.body) = rw a.is at z.0 in
      let fits : Fits (lam a.label a.body) = rw a.is at y.0 in
      let c = facts h (end_at e r) refl in
      let small : records a.body ≤ 1024 = omega (arith, a.ends, (bounds h.zip).left_in) in
      record {
        body = a.body;
        is = rw (ne_eqb (kind_at e (p + 1)) 2 (λ w. omega arith)) (term-at e (p + 2) a.body (drop (8 * l) e) fits.1 a.lies);
        bare = bare;
        fits = fits.1;
        event = quiet;
        goes = abstraction-step h (code_in s) a.label a.body a.is;
        called = λ w. absurd (omega arith);
        silent = λ w. refl;
        source = record {
          inside = first-inside e (p + 1) h.function (function-there h);
          kinds = inr k;
          named = λ w. absurd (omega arith);
          called = λ w. absurd (omega arith);
          applied = λ w. lies e (p + 2) a.body (drop (8 * l) e) fits.1 bare small a.lies;
        };
      }

  pub reduct : Reduct (code_in s) e s bodies p h.frames h.argument T
  reduct = on (head-kind h)
    where
      on : (kind_at e (p + 1) ≡ 2) ⊎ (kind_at e (p + 1) ≡ 4) → Reduct (code_in s) e s bodies p h.frames h.argument T
      on (inl k) = name-reduct k
      on (inr k) = abstraction-reduct k

-- ---- where the body is read

module _ (e s : List ℕ) (bodies : List Body) (p : ℕ) where
  -- A called function's body: the number of its name, and its place.
  pub body-called : kind_at e (p + 1) ≡ 2 → (m f at : ℕ) → m ≡ record_number e (p + 1) → f ≡ m → at ≡ (body_of bodies f).at → body_for e s bodies p ≡ term_at s at
  unfolding body_for
  body-called k m f at a b c = rw (eq-eqb (kind_at e (p + 1)) 2 k, c, b, a)

  -- An abstraction's body.
  pub body-applied : kind_at e (p + 1) ≡ 4 → body_for e s bodies p ≡ term_at e (p + 2)
  unfolding body_for
  body-applied k = rw k

-- ---- the answers

-- A step leads to one expression.
next-same : {a c : Event} {t u : Term} → next a t ≡ next c u → t ≡ u
next-same e = cc

module _ (w o : List ℕ) (x : Option ℕ) (o' : List ℕ) (g : WrittenIs w o 0 x o') where
  written-done : (q : ℕ) → x ≡ Some q → (q ≡ 0 + length w) × (q ≤ length o) × (o' ≡ put o 0 w)
  written-done q d = rw d at g

  written-full : x ≡ None → (length o < 0 + length w) × (length o' ≡ length o)
  written-full d = rw d at g

-- A step that was made in the buffer.
pub record Landed (C : Codebase) (T : Term) (event : Event) (e' : List ℕ) (fs : List Entry) (p r' n : ℕ) : Type 0 where
  pub expr : Term
  pub steps : step C T ≡ next event expr
  pub zip : ZipOf e' fs p r' (n - 1) expr

module _ {C : Codebase} {T : Term} {ev : Event} {e' : List ℕ} {fs : List Entry} {p r' n : ℕ} (w : Landed C T ev e' fs p r' n) where
  -- No command is in the whole: all its records count.
  landed-small : size w.expr ≤ limit
  landed-small = let s = (zip-flat w.zip).sound in omega (arith, bare-size w.expr s.bare, s.small)

  -- It leaves at most 1,024 records.
  pub landed-fits : FitsIs (step C T) true
  landed-fits = rw w.steps (sym (le-leb (size w.expr) limit landed-small))

-- Made whatever entries hold T's frames, it is what firing answers.
pub landed-fired : {C : Codebase} {T : Term} {e e' : List ℕ} {p l r r' : ℕ} → Ready C e p l r T
    → ((fs : List Entry) (n : ℕ) → Poised e fs p l r n T → (ev : Event) × Landed C T ev e' fs p r' n) → FiredIs T (step C T) p l r (Some r') e e'
landed-fired {e' = e'} {p = p} {r' = r'} h go =
    let w = (go h.entries h.frames h.poised).1 in
    rw w.steps (
      landed-small w,
      λ fs n k. let v = (go fs n k).1 in subst (λ (t : Term). ZipOf e' fs p r' (n - 1) t) (next-same (sym v.steps ∙ w.steps)) v.zip,
    )

module _ {e s : List ℕ} {bodies : List Body} {p l r : ℕ} {T : Term} (h : Ready (code_in s) e p l r T) (five : kind_at e p ≡ 5) (b : Positions s bodies) where
  -- The application.
  here : Applied e h.entries p l r h.frames T
  here = applied-at h.poised five

  -- What `reduce` asks.
  pub ready-source : Source e s bodies p
  ready-source = (reduct here h.defined b).source

  -- What `room` asks.
  pub ready-around : Around e p r
  ready-around =
      let f = facts here (end_at e r) refl in
      record { wide = f.wide; begins = f.begins; within = f.in_all; small = f.around }

  module _ (end : ℕ) (at : end ≡ end_at e r) where
    -- The records that the limit leaves for the redex's result.
    abbrev room : ℕ
    room = 8 * (1024 - (p + (3072 - end)))

    module _ (o : List ℕ) (x : Option ℕ) (o' : List ℕ) (g : WrittenIs (copied 0 (take (8 * end - 8 * r) (drop (8 * r) e)) (body_for e s bodies p)) o 0 x o') where
      module _ {fs : List Entry} {n : ℕ} (k : Applied e fs p l r n T) where
        red : Reduct (code_in s) e s bodies p k.frames k.argument T
        red = reduct k h.defined b

        -- The body with the argument put into it.
        result : Term
        result = put_term 0 k.argument red.body

        written : WrittenIs (encode result) o 0 x o'
        unfolding result
        written = subst (λ (w : List ℕ). WrittenIs w o 0 x o') (ap₂ (copied 0) (argument-part k end at) red.is ∙ copied-encode 0 k.argument red.body) g

        bare : Bare result
        unfolding result
        bare = put-bare 0 k.argument red.body (focus-bare k.zip) red.bare

        fits : Fits result
        unfolding result
        fits = put-fits 0 k.argument red.body (focus-fits k.zip) red.fits

        -- No command comes into the whole: all its records count.
        whole-size : size (plug k.frames result) ≡ records (plug k.frames result)
        whole-size =
            bare-size (plug k.frames result)
            (plug-keeps bare-shared k.frames (app k.function k.argument) result k.zip.sound.bare bare)

        goes : step (code_in s) T ≡ next red.event (plug k.frames result)
        unfolding result
        goes = red.goes

        module _ (q : ℕ) (d : x ≡ Some q) where
          counted : q ≡ 8 * records result
          counted = omega (arith, (written-done (encode result) o x o' written q d).0, encode-length result)

          small : length o ≤ room → records (plug k.frames result) ≤ 1024
          small l = let a = (written-done (encode result) o x o' written q d).1 in room_small k end at result q counted (omega arith)

          zipped : length o ≤ room → (e' : List ℕ) → e' ≡ put e (8 * end - q) (part o' 0 q) → ZipOf e' fs p (end - q / 8) (n - 1) (plug k.frames result)
          zipped l e' m =
              let w : List ℕ = encode result in
              let a = written-done w o x o' written q d in
              let c : length w ≡ q = omega (arith, a.0) in
              let z : part o' 0 q ≡ w = ap (λ (y : List ℕ). part y 0 q) a.2 ∙ part-put o 0 w (omega (arith, a.1)) q c in
              contracted k end at result bare fits (small l) q counted e' (m ∙ ap (put e (8 * end - q)) z)

      -- The bytes that were written.
      pub fire-room : (q : ℕ) → x ≡ Some q → q ≤ length o
      fire-room q d = (written-done (encode (result here)) o x o' (written here) q d).1

      -- Written and copied into place, from where the same bytes stand.
      pub fire-made : length o ≤ room → (q : ℕ) → x ≡ Some q → (b : List ℕ) (i : ℕ) → part b i q ≡ part o' 0 q → (e' : List ℕ) → e' ≡ put e (8 * end - q) (part b i q)
          → FiredIs T (step (code_in s) T) p l r (Some (end - q / 8)) e e'
      fire-made l q d b i same e' m =
          landed-fired h (λ fs n k.
          let a = applied-at k five in
          ((red a).event, record { expr = plug a.frames (result a); steps = goes a; zip = zipped a q d l e' (m ∙ ap (put e (8 * end - q)) same) }))

      -- No room for it: the next expression is large.
      pub fire-over : room ≤ length o → x ≡ None → FiredIs T (step (code_in s) T) p l r None e e
      fire-over l d =
          let k = here in
          let a = written-full (encode (result k)) o x o' (written k) d in
          let c : room < 8 * records (result k) = omega (arith, a.0, encode-length (result k)) in
          rw (goes k) (omega (arith, whole-size k, room-large k end at (result k) c), refl)

      -- Whether there is room for it.
      fits-room : length o ≤ room → (q : ℕ) → x ≡ Some q → FitsIs (step (code_in s) T) true
      fits-room l q d =
          let k = here in
          rw (goes k) (sym (le-leb (size (plug k.frames (result k))) limit (omega (arith, whole-size k, small k q d l))))

      fits_not : room ≤ length o → x ≡ None → FitsIs (step (code_in s) T) false
      fits_not l d =
          let k = here in
          let a = written-full (encode (result k)) o x o' (written k) d in
          let c : room < 8 * records (result k) = omega (arith, a.0, encode-length (result k)) in
          rw (goes k) (sym (lt-leb (size (plug k.frames (result k))) limit (omega (arith, whole-size k, room-large k end at (result k) c))))

      pub fits-is : length o ≡ room → FitsIs (step (code_in s) T) (is_some x)
      fits-is l = on x refl
        where
          on : (y : Option ℕ) → x ≡ y → FitsIs (step (code_in s) T) (is_some y)
          on (Some q) d = fits-room (omega arith) q d
          on None d = fits_not (omega arith) d

-- ---- a sum and a branch

module _ {e : List ℕ} {fs : List Entry} {p l r n : ℕ} {T : Term} (h : Poised e fs p l r n T) where
  -- What `add` asks, …
  poised-addends : kind_at e p ≡ 9 → Addends e p r
  poised-addends k =
      let a = added-at h k in
      let i = added-inside a in
      record { first = i.0; second = i.1; fits = omega (arith, first_read a, second-read a, a.fits) }

  -- … and what it leaves.
  summed-landed : (C : Codebase) → kind_at e p ≡ 9 → Landed C T quiet (summed e p r) fs p r n
  unfolding summed
  summed-landed C k =
      let a = added-at h k in
      let q : record_number e (p + 1) + record_number e r ≡ a.first + a.second = omega (arith, first_read a, second-read a) in
      record { expr = plug a.frames (con (a.first + a.second)); steps = added-step a C; zip = added-lands a _ (rw q) }

  -- What `choose` asks, …
  poised-fork : kind_at e p ≡ 10 → Fork e r
  poised-fork k =
      let b = branch-ends (chosen_at h k) (third_at e r) refl (end_at e (third_at e r)) refl in
      record { second = b.begins; third = b.goes_on; inside = omega (arith, b.in_all, b.wide) }

  -- … and what it leaves.
  second-landed : (C : Codebase) → kind_at e p ≡ 10 → record_number e r ≡ 0 → Landed C T quiet (moved e r) fs p (second_to e r) n
  unfolding moved
  second-landed C k z =
      let a = chosen_at h k in
      record {
        expr = plug a.frames a.second;
        steps = second-step a C (sym (number_read a) ∙ z);
        zip = second-lands a (third_at e r) refl (end_at e (third_at e r)) refl (moved e r) refl;
      }

  third-landed : (C : Codebase) → kind_at e p ≡ 10 → (record_number e r ≡ 0 → ⊥) → Landed C T quiet e fs p (third_at e r) n
  third-landed C k z =
      let a = chosen_at h k in
      record {
        expr = plug a.frames a.third;
        steps = third-step a C (λ y. z (number_read a ∙ y));
        zip = third-lands a (third_at e r) refl;
      }

module _ {e : List ℕ} {p l r : ℕ} {T : Term} {C : Codebase} (h : Ready C e p l r T) where
  -- The redex's first record is in the buffer.
  pub ready-inside : p < count e
  ready-inside = redex-inside h.poised

  pub ready-addends : kind_at e p ≡ 9 → Addends e p r
  ready-addends = poised-addends h.poised

  pub fire-added : kind_at e p ≡ 9 → (e' : List ℕ) → e' ≡ summed e p r → FiredIs T (step C T) p l r (Some r) e e'
  fire-added k e' m = rw m (landed-fired h (λ fs n q. (quiet, summed-landed q C k)))

  pub ready-fork : kind_at e p ≡ 10 → Fork e r
  ready-fork = poised-fork h.poised

  pub fire-chosen : kind_at e p ≡ 10 → (x : ℕ) (e' : List ℕ) → ChoiceIs e r x e' → FiredIs T (step C T) p l r (Some x) e e'
  fire-chosen k x e' c = on (ℕ_discrete (record_number e r) 0)
    where
      on : Dec (record_number e r ≡ 0) → FiredIs T (step C T) p l r (Some x) e e'
      on (yes z) = let w = c.on_zero z in rw (w.0, w.1) (landed-fired h (λ fs n q. (quiet, second-landed q C k z)))
      on (no z) = let w = c.on_other z in rw (w.0, w.1) (landed-fired h (λ fs n q. (quiet, third-landed q C k z)))

  -- No redex has another kind.
  pub fire-none : (kind_at e p ≡ 5 → ⊥) → (kind_at e p ≡ 9 → ⊥) → (kind_at e p ≡ 10 → ⊥) → ⊥
  fire-none a b c = ⊎_elim a (⊎_elim b c) (three-kinds h.poised)

  -- Where no application is, there is room.
  pub fits-other : (kind_at e p ≡ 5 → ⊥) → FitsIs (step C T) true
  fits-other a = on (three-kinds h.poised) (ℕ_discrete (record_number e r) 0)
    where
      on : (kind_at e p ≡ 5) ⊎ ((kind_at e p ≡ 9) ⊎ (kind_at e p ≡ 10)) → Dec (record_number e r ≡ 0) → FitsIs (step C T) true
      on (inl k) z = absurd (a k)
      on (inr (inl k)) z = landed-fits (summed-landed h.poised C k)
      on (inr (inr k)) (yes z) = landed-fits (second-landed h.poised C k z)
      on (inr (inr k)) (no z) = landed-fits (third-landed h.poised C k z)

-- ---- what a run makes of an answer

module _ {e : List ℕ} {fs : List Entry} {p l r n : ℕ} {T : Term} (C : Codebase) (h : Poised e fs p l r n T) where
  -- At a redex whose names are defined the step can be asked for.
  pub poised-ready : Defined C T → Ready C e p l r (whole_in e l r)
  poised-ready d = let w : whole_in e l r ≡ T = poised-whole h in record { entries = fs; frames = n; poised = poised-own h; defined = rw w d }

-- The step that T makes, …
pub record Moves (C : Codebase) (T : Term) : Type 0 where
  pub event : Event
  pub expr : Term
  pub steps : step C T ≡ next event expr

-- … which was made in the buffer, …
pub record Moved (C : Codebase) (T : Term) (p l r r' : ℕ) (e e' : List ℕ) : Type 0 where
  pub move : Moves C T
  pub small : size move.expr ≤ limit
  pub zip : (fs : List Entry) (n : ℕ) → Poised e fs p l r n T → ZipOf e' fs p r' (n - 1) move.expr

-- … or was too large to be made.
pub record Large (C : Codebase) (T : Term) (e e' : List ℕ) : Type 0 where
  pub move : Moves C T
  pub large : limit < size move.expr
  pub same : e' ≡ e

-- ---- the step at a redex, and its call

-- The function at record p + 1 is called.
abbrev pub Calls : List ℕ → ℕ → Type 0
Calls e p = (kind_at e p ≡ 5) × (kind_at e (p + 1) ≡ 2)

-- A call of that function, its argument at record r.
pub record Called (e : List ℕ) (p r : ℕ) (event : Event) : Type 0 where
  pub argument : Term
  pub is : event ≡ calls (record_number e (p + 1)) argument
  pub seen : view argument ≡ view_of (kind_at e r) (record_number e r)

pub record Stepped (C : Codebase) (e : List ℕ) (p r : ℕ) (T : Term) : Type 0 where
  pub move : Moves C T
  pub called : Calls e p → Called e p r move.event
  pub silent : (Calls e p → ⊥) → move.event ≡ quiet

module _ {e : List ℕ} {fs : List Entry} {s : List ℕ} {bodies : List Body} {p l r n : ℕ} {T : Term} (h : Poised e fs p l r n T) (d : Defined (code_in s) T) (b : Positions s bodies) where
  -- A sum or a branch calls nothing.
  quietly : {e' : List ℕ} {r' : ℕ} → Landed (code_in s) T quiet e' fs p r' n → (kind_at e p ≡ 5 → ⊥) → Stepped (code_in s) e p r T
  quietly w k = record {
    move = record { event = quiet; expr = w.expr; steps = w.steps };
    called = λ c. absurd (k c.0);
    silent = λ c. refl;
  }

  of-application : kind_at e p ≡ 5 → Stepped (code_in s) e p r T
  of-application k =
      let a = applied-at h k in
      let g = reduct a d b in
      let x = argument-kind a in
      let y = argument-number a in
      record {
        move = record { event = g.event; expr = _; steps = g.goes };
        called = λ c. record { argument = a.argument; is = g.called c.1; seen = λ i. view_of (sym x i) (sym y i) };
        silent = λ c. g.silent (λ z. c (k, z));
      }

  of-branch : kind_at e p ≡ 10 → Stepped (code_in s) e p r T
  of-branch k = on (ℕ_discrete (record_number e r) 0)
    where
      on : Dec (record_number e r ≡ 0) → Stepped (code_in s) e p r T
      on (yes z) = quietly (second-landed h (code_in s) k z) (λ y. omega arith)
      on (no z) = quietly (third-landed h (code_in s) k z) (λ y. omega arith)

  -- At a redex there is a step.
  pub poised-stepped : Stepped (code_in s) e p r T
  poised-stepped = on (three-kinds h)
    where
      on : (kind_at e p ≡ 5) ⊎ ((kind_at e p ≡ 9) ⊎ (kind_at e p ≡ 10)) → Stepped (code_in s) e p r T
      on (inl k) = of-application k
      on (inr (inl k)) = quietly (summed-landed h (code_in s) k) (λ y. omega arith)
      on (inr (inr k)) = of-branch k

  pub poised-moves : Moves (code_in s) T
  poised-moves = poised-stepped.move

module _ (C : Codebase) (T : Term) (p l r : ℕ) (x : Option ℕ) (e e' : List ℕ) (h : FiredIs T (step C T) p l r x e e') where
  pub fired-moved : (r' : ℕ) → x ≡ Some r' → Moved C T p l r r' e e'
  fired-moved r' q = on (step C T) refl (rw q at h)
    where
      on : (y : Next) → step C T ≡ y → FiredIs T y p l r (Some r') e e' → Moved C T p l r r' e e'
      on at_value k a = absurd a
      on at_stuck k a = absurd a
      on (next ev t) k a = record { move = record { event = ev; expr = t; steps = k }; small = a.0; zip = a.1 }

  pub fired-large : x ≡ None → Large C T e e'
  fired-large q = on (step C T) refl (rw q at h)
    where
      on : (y : Next) → step C T ≡ y → FiredIs T y p l r None e e' → Large C T e e'
      on at_value k a = absurd a
      on at_stuck k a = absurd a
      on (next ev t) k a = record { move = record { event = ev; expr = t; steps = k }; large = a.0; same = a.1 }
