-- At a redex: which of the three it is; and at an application, where its function and its argument lie, what its step is, and a new term in
-- its place. Assumes nothing.
use mathlib.Core.Bool.{true}
use mathlib.Core.List.{List, ◌∷◌, ◌++◌, append_assoc}
use mathlib.Core.Logic.{◌⊎◌, inl, inr}
use mathlib.Core.Option.{Option, some}
use mathlib.Core.Path.{◌≡◌, refl, sym, ap, ◌∙◌}
use Prim.Native.Nat.{ℕ, ◌+◌, ◌-◌, ◌*◌, ◌/◌, ◌<◌, ◌≤◌}
use native.Mathlib.Omega.{arith}
use lib.ListN.{length, take, drop}
use Rattle.words.specs.Bytes.{part}
use Rattle.words.specs.Put.{put, put-length, put-take, put_rest}
use Rattle.calculus.specs.Term.{Term, Codebase, view, is_value, records, Bare}
use Rattle.calculus.specs.Term.Term.{var, fun, con, lam, app, call_event, emit, sum, branch}
use Rattle.calculus.specs.Substitution.{put as substituted}
use Rattle.calculus.specs.Step.{call_of, redex, greatest, inside, step}
use Rattle.calculus.specs.Step.Event.{quiet, calls}
use Rattle.calculus.specs.Step.Next.{next}
use Rattle.terms.specs.Record.{count, kind_at, record_number}
use Rattle.terms.specs.Encode.{encode, Fits}
use Rattle.terms.proofs.Stands.{Stands}
use Rattle.terms.proofs.Encode.{encode-length, record-rest}
use Rattle.zipper.specs.declared.Entry.{Entry}
use Rattle.zipper.specs.Frame.{Frame, kind_of, fill, plug, Callable, Fires}
use Rattle.zipper.specs.Frame.Pair.{applies, adds}
use Rattle.zipper.specs.Frame.Frame.{done, choosing}
use Rattle.zipper.specs.Frame.Fires.{applied, added, chosen}
use Rattle.zipper.specs.Layout.{rights, left_size, Zip}
use Rattle.zipper.specs.Zipper.{end_at, ZipOf, Poised}
use Rattle.zipper.proofs.Context.{step-two}
use Rattle.zipper.proofs.Parts.{records-some, plug-records, drop_past, part-there, first_kind, bounds, focus-stands, right-length}
use Rattle.zipper.proofs.Moves.{frame-kind, frame-inside, first-lies, first-stands}
use Rattle.zipper.proofs.Whole.{end-there}
use Rattle.zipper.proofs.Landing.{landed}

-- A value's number is that of its first record.
first-number : (s : List ℕ) (i : ℕ) (t : Term) → Stands s i t → is_value t ≡ true → record_number s i ≡ (view t).number
unfolding view is_value
first-number s i (var n) h v = h.number
first-number s i (fun n) h v = h.number
first-number s i (con n) h v = h.number
first-number s i (lam n b) h v = h.0.number
first-number s i (app a b) h v = absurd (let z : ◌≡◌ {A = ℕ} 0 1 = cc in omega arith)
first-number s i (call_event n a b) h v = absurd (let z : ◌≡◌ {A = ℕ} 0 1 = cc in omega arith)
first-number s i (emit n a b) h v = absurd (let z : ◌≡◌ {A = ℕ} 0 1 = cc in omega arith)
first-number s i (sum a b) h v = absurd (let z : ◌≡◌ {A = ℕ} 0 1 = cc in omega arith)
first-number s i (branch c a b) h v = absurd (let z : ◌≡◌ {A = ℕ} 0 1 = cc in omega arith)

-- ---- the three redexes

-- An application of a function name or an abstraction to a value, …
pub record Applied (e : List ℕ) (fs : List Entry) (p l r n : ℕ) (T : Term) : Type 0 where
  pub frames : List Frame
  pub function : Term
  pub argument : Term
  pub zip : Zip e fs l r n (done applies function ∷ frames) argument
  pub whole : plug frames (app function argument) ≡ T
  pub place : p ≡ left_size frames
  pub callable : Callable function
  pub value : is_value argument ≡ true

-- … a sum of two constants that fits, …
pub record Added (e : List ℕ) (fs : List Entry) (p l r n : ℕ) (T : Term) : Type 0 where
  pub frames : List Frame
  pub first : ℕ
  pub second : ℕ
  pub zip : Zip e fs l r n (done adds (con first) ∷ frames) (con second)
  pub whole : plug frames (sum (con first) (con second)) ≡ T
  pub place : p ≡ left_size frames
  pub fits : first + second ≤ greatest

-- … and a branch on a constant.
pub record Chosen (e : List ℕ) (fs : List Entry) (p l r n : ℕ) (T : Term) : Type 0 where
  pub frames : List Frame
  pub number : ℕ
  pub second : Term
  pub third : Term
  pub zip : Zip e fs l r n (choosing second third ∷ frames) (con number)
  pub whole : plug frames (branch (con number) second third) ≡ T
  pub place : p ≡ left_size frames

module _ {e : List ℕ} {fs : List Entry} {p l r n : ℕ} {T : Term} (h : Poised e fs p l r n T) where
  -- The record where it begins has its kind.
  redex-kind : kind_at e p ≡ kind_of h.frame
  redex-kind = ap (kind_at e) h.place ∙ frame-kind h.frame h.focus h.zip

  pub redex-inside : p < count e
  redex-inside = rw h.place (frame-inside h.frame h.focus h.zip)

  pub three-kinds : (kind_at e p ≡ 5) ⊎ ((kind_at e p ≡ 9) ⊎ (kind_at e p ≡ 10))
  three-kinds = on h.fires redex-kind
    where
      on : {f : Frame} {t : Term} → Fires f t → kind_at e p ≡ kind_of f → (kind_at e p ≡ 5) ⊎ ((kind_at e p ≡ 9) ⊎ (kind_at e p ≡ 10))
      on (applied c v) k = inl k
      on (added i) k = inr (inl k)
      on chosen k = inr (inr k)

  -- The kind says which it is.
  pub applied-at : kind_at e p ≡ 5 → Applied e fs p l r n T
  applied-at q = on h.fires h.zip h.whole redex-kind
    where
      on : {f : Frame} {t : Term} → Fires f t → Zip e fs l r n (f ∷ h.frames) t → plug h.frames (fill f t) ≡ T → kind_at e p ≡ kind_of f → Applied e fs p l r n T
      on (applied {a} {v} c w) z y k =
          record { frames = h.frames; function = a; argument = v; zip = z; whole = y; place = h.place; callable = c; value = w }
      on (added i) z y k = absurd (omega arith)
      on chosen z y k = absurd (omega arith)

  pub added-at : kind_at e p ≡ 9 → Added e fs p l r n T
  added-at q = on h.fires h.zip h.whole redex-kind
    where
      on : {f : Frame} {t : Term} → Fires f t → Zip e fs l r n (f ∷ h.frames) t → plug h.frames (fill f t) ≡ T → kind_at e p ≡ kind_of f → Added e fs p l r n T
      on (applied c w) z y k = absurd (omega arith)
      on (added {i} {j} s) z y k = record { frames = h.frames; first = i; second = j; zip = z; whole = y; place = h.place; fits = s }
      on chosen z y k = absurd (omega arith)

  pub chosen_at : kind_at e p ≡ 10 → Chosen e fs p l r n T
  chosen_at q = on h.fires h.zip h.whole redex-kind
    where
      on : {f : Frame} {t : Term} → Fires f t → Zip e fs l r n (f ∷ h.frames) t → plug h.frames (fill f t) ≡ T → kind_at e p ≡ kind_of f → Chosen e fs p l r n T
      on (applied c w) z y k = absurd (omega arith)
      on (added s) z y k = absurd (omega arith)
      on (chosen {a} {b} {n = m}) z y k = record { frames = h.frames; number = m; second = a; third = b; zip = z; whole = y; place = h.place }

-- ---- an application

-- An abstraction whose body lies from record p + 2 to below l.
pub record Abstraction (e : List ℕ) (p l : ℕ) (t : Term) : Type 0 where
  pub label : ℕ
  pub body : Term
  pub is : t ≡ lam label body
  pub lies : drop (8 * (p + 2)) e ≡ encode body ++ drop (8 * l) e
  pub ends : l ≡ p + 2 + records body

module _ {e : List ℕ} {fs : List Entry} {p l r n : ℕ} {T : Term} (h : Applied e fs p l r n T) where
  -- The step of the whole is the redex's.
  applied-step : (C : Codebase) → step C T ≡ inside (plug h.frames) (redex C h.function h.argument)
  applied-step C = rw (← h.whole) (step-two C h.frames h.function h.argument h.zip.fine.1 h.zip.fine.0 h.value)

  -- An abstraction's step puts the argument into its body.
  pub abstraction-step : (C : Codebase) (i : ℕ) (b : Term) → h.function ≡ lam i b → step C T ≡ next quiet (plug h.frames (substituted 0 h.argument b))
  abstraction-step C i b q = applied-step C ∙ ap (λ (t : Term). inside (plug h.frames) (redex C t h.argument)) q

  -- A function name's step puts it into the function's body, and calls the function.
  pub name-step : (C : Codebase) (f : ℕ) (b : Term) → h.function ≡ fun f → C f ≡ some b
      → step C T ≡ next (calls f h.argument) (plug h.frames (substituted 0 h.argument b))
  name-step C f b q c =
      applied-step C
      ∙ ap (λ (t : Term). inside (plug h.frames) (redex C t h.argument)) q
      ∙ ap (λ (o : Option Term). inside (plug h.frames) (call_of f h.argument o)) c

  -- ---- the function

  -- Its bytes.
  pub function-bytes : drop (8 * (p + 1)) e ≡ encode h.function ++ drop (8 * l) e
  function-bytes = rw h.place (first-lies applies h.function h.argument h.zip)

  -- Its end.
  pub function-ends : l ≡ p + 1 + records h.function
  function-ends = omega (arith, h.place, h.zip.sized)

  -- It stands there.
  pub function-there : Stands e (p + 1) h.function
  function-there = rw h.place (first-stands applies h.function h.argument h.zip)

  -- Its kind is 2 or 4.
  pub head-kind : (kind_at e (p + 1) ≡ 2) ⊎ (kind_at e (p + 1) ≡ 4)
  head-kind = on h.function h.callable function-there
    where
      on : (t : Term) → Callable t → Stands e (p + 1) t → (kind_at e (p + 1) ≡ 2) ⊎ (kind_at e (p + 1) ≡ 4)
      on (var i) c s = absurd c
      on (fun i) c s = inl s.kind
      on (con i) c s = absurd c
      on (lam i b) c s = inr s.0.kind
      on (app a b) c s = absurd c
      on (call_event i a b) c s = absurd c
      on (emit i a b) c s = absurd c
      on (sum a b) c s = absurd c
      on (branch d a b) c s = absurd c

  -- Of kind 2 it is a function name.
  pub head-name : kind_at e (p + 1) ≡ 2 → h.function ≡ fun (record_number e (p + 1))
  head-name k = on h.function h.callable function-there
    where
      on : (t : Term) → Callable t → Stands e (p + 1) t → t ≡ fun (record_number e (p + 1))
      on (var i) c s = absurd c
      on (fun i) c s = ap fun (sym s.number)
      on (con i) c s = absurd c
      on (lam i b) c s = let x = s.0.kind in absurd (omega arith)
      on (app a b) c s = absurd c
      on (call_event i a b) c s = absurd c
      on (emit i a b) c s = absurd c
      on (sum a b) c s = absurd c
      on (branch d a b) c s = absurd c

  -- Of kind 4 it is an abstraction.
  pub head-abstraction : kind_at e (p + 1) ≡ 4 → Abstraction e p l h.function
  unfolding records
  head-abstraction k = on h.function h.callable function-there function-bytes function-ends
    where
      on : (t : Term) → Callable t → Stands e (p + 1) t → drop (8 * (p + 1)) e ≡ encode t ++ drop (8 * l) e → l ≡ p + 1 + records t → Abstraction e p l t
      on (var i) c s d q = absurd c
      on (fun i) c s d q = let x = s.kind in absurd (omega arith)
      on (con i) c s d q = absurd c
      on (lam i b) c s d q =
          let j : 8 * (p + 2) ≡ 8 * (p + 1 + 1) = omega arith in
          record {
            label = i;
            body = b;
            is = refl;
            lies = ap (λ (x : ℕ). drop x e) j ∙ record-rest e (p + 1) 4 i (encode b ++ drop (8 * l) e) (d ∙ simp append_assoc);
            ends = omega arith;
          }
      on (app a b) c s d q = absurd c
      on (call_event i a b) c s d q = absurd c
      on (emit i a b) c s d q = absurd c
      on (sum a b) c s d q = absurd c
      on (branch o a b) c s d q = absurd c

  -- ---- the argument

  -- Its view is the kind and the number of the focus's first record.
  pub argument-kind : kind_at e r ≡ (view h.argument).kind
  argument-kind = first_kind e r h.argument (focus-stands h.zip)

  pub argument-number : record_number e r ≡ (view h.argument).number
  argument-number = first-number e r h.argument (focus-stands h.zip) h.value

  module _ (end : ℕ) (at : end ≡ end_at e r) where
    -- The numbers that a contraction goes by.
    pub record Facts : Type 0 where
      pub is-end : end ≡ r + records h.argument
      pub rest : 24576 - 8 * end ≡ length (rights h.frames)
      pub in_all : end ≤ 3072
      pub begins : r < end
      pub past : p + 2 ≤ l
      pub order : l ≤ r
      pub wide : length e ≡ 24576
      pub high : 1024 ≤ length fs
      pub some-frame : 0 < n
      pub few-frames : n ≤ l
      pub around : p + (3072 - end) < 1024

    pub facts : Facts
    facts =
        let b = bounds h.zip in
        let z : end ≡ r + records h.argument = at ∙ end-there e r h.argument (focus-stands h.zip) in
        let y = right-length h.zip in
        let s = plug-records h.frames (app h.function h.argument) in
        let s' = plug-records (done applies h.function ∷ h.frames) h.argument in
        let x = records-some h.argument in
        let f = records-some h.function in
        let k = function-ends in
        record {
          is-end = z;
          rest = omega arith;
          in_all = omega arith;
          begins = omega arith;
          past = omega arith;
          order = h.zip.order;
          wide = h.zip.wide;
          high = h.zip.high;
          some-frame = omega (arith, h.zip.deep);
          few-frames = b.few-frames;
          around = omega (arith, h.zip.sound.small, h.place);
        }

    -- Its bytes, as a range and as a lent part.
    pub argument-bytes : part e (8 * r) (8 * end - 8 * r) ≡ encode h.argument
    argument-bytes =
        let f = facts in
        part-there e (8 * r) (8 * end - 8 * r) (encode h.argument) (rights h.frames) h.zip.right (encode-length h.argument ∙ omega arith)

    pub argument-part : take (8 * end - 8 * r) (drop (8 * r) e) ≡ encode h.argument
    unfolding part
    argument-part = argument-bytes

    -- ---- a new term in the redex's place

    -- The records of the whole with it.
    pub new-records : (t : Term) → records (plug h.frames t) ≡ p + (3072 - end) + records t
    new-records t = let f = facts in let s = plug-records h.frames t in omega (arith, h.place)

    -- A term in the room that the limit leaves keeps it, …
    pub room_small : (t : Term) (q : ℕ) → q ≡ 8 * records t → q ≤ 8 * (1024 - (p + (3072 - end))) → records (plug h.frames t) ≤ 1024
    room_small t q c g = let f = facts in let k = new-records t in omega arith

    -- … and a larger one does not.
    pub room-large : (t : Term) → 8 * (1024 - (p + (3072 - end))) < 8 * records t → 1024 < records (plug h.frames t)
    room-large t g = let f = facts in let k = new-records t in omega arith

    -- The term's bytes, so that they end where the argument did, are the new focus; the frame is gone.
    pub contracted : (t : Term) → Bare t → Fits t → records (plug h.frames t) ≤ 1024 → (q : ℕ) → q ≡ 8 * records t
        → (e' : List ℕ) → e' ≡ put e (8 * end - q) (encode t) → ZipOf e' fs p (end - q / 8) (n - 1) (plug h.frames t)
    contracted t b g s q c e' m =
        let w : List ℕ = encode t in
        let f = facts in
        let lw : length w ≡ 8 * records t = encode-length t in
        let nr = new-records t in
        let fit : 8 * end - q + length w ≤ length e = omega arith in
        let i : 8 * (end - q / 8) ≡ 8 * end - q = omega arith in
        let j : 8 * end - q + length w ≡ 8 * end = omega arith in
        let z : drop (8 * end) e ≡ rights h.frames =
        drop_past e (8 * r) (8 * end) (encode h.argument) (rights h.frames) h.zip.right (omega (arith, encode-length h.argument)) in
        landed h.zip h.place t b g s (end - q / 8) e'
        (rw m (put-take e (8 * end - q) w fit (8 * p) (omega arith)))
        (rw (m, i) (put_rest e (8 * end - q) w fit ∙ ap (λ (x : List ℕ). w ++ x) (ap (λ (x : ℕ). drop x e) j ∙ z)))
        (rw m (put-length e (8 * end - q) w fit))
