-- Demand 3 on trees. Assumes nothing.
use mathlib.Core.Bool.{Bool, true, false, ◌&&◌}
use mathlib.Core.List.Memᴰ
use mathlib.Core.List.{List, [], ◌∷◌, ◌++◌, append-nil, Memᴰ}
use mathlib.Core.Logic.{◌↔◌, ◌⊎◌, inl, inr, ◌≢◌}
use mathlib.Core.Option.{some}
use mathlib.Core.Path.{◌≡◌, refl, sym, ap, ◌∙◌, fun_ext}
use native.Mathlib.Omega.{arith}
use Prim.Native.Nat.{ℕ, zero, suc, ◌+◌, ◌≤◌, ◌<◌}
use lib.Dec.{leb, ltb, leb→le, nleb→lt}
use lib.ListN.{length, length-append}
use Rattle.calculus.specs.Lists.{keep, each}
use Rattle.calculus.specs.Term.{Term, Codebase, Program, records, size, bodies, codebase, Bare, BareCode, BareProgram}
use Rattle.calculus.specs.Term.Term.{var, fun, con, lam, app, call_event, emit, sum, branch}
use Rattle.calculus.specs.Step.{Event, Next, step}
use Rattle.calculus.specs.Step.Event.{quiet, calls}
use Rattle.calculus.specs.Step.Next.{at_value, at_stuck, next}
use Rattle.calculus.specs.Guideline.{Guideline, Safe}
use Rattle.calculus.specs.Entailment.{Call, Entry, entry, Entails, entails?}
use Rattle.calculus.specs.Rewriting.{logged, noted, instrument, instrumented, rewritten_code, rewrite_from, rewrite}
use Rattle.calculus.specs.Run.{Outcome, Tick, Result, result, run, Conf, calls_of, limit, plain_tick, plain_next, plain_move, initial, plain, plain_run}
use Rattle.calculus.specs.Run.Outcome.{value, stuck, spent, large, full}
use Rattle.calculus.specs.Run.Tick.{halt, stop, go}
use Rattle.calculus.specs.Log as L
use Rattle.calculus.specs.Claim.{entries, calls_below, is_noted, Rising, Full, Faithful, Demand3}
use Rattle.calculus.proofs.Lists.{T_true, true-T, and_both, keep-keep, keep-into, keep-from, each_append}
use Rattle.calculus.proofs.Entailment.{entails-decides, entails-map}
use Rattle.calculus.proofs.Size.{bare-size}
use Rattle.calculus.proofs.Run.{run-halt, run-stop, run_out, run-spent, run-go, run-zero}
use Rattle.calculus.proofs.Trace.{calls-time, calls-cut, calls-first}
use Rattle.calculus.proofs.Peel.{step-bare, step-known, settle-bare, book, Similar, rewritten-peel}
use Rattle.calculus.proofs.Image.{image, Below, below_more, rising-more, rising-keep, keep-with, keep-without, logged-noted, book-event}

-- ---- full

-- A body without commands does not begin with 6.
begins-bare : (b : Term) → Bare b → L.begins_with_call_event (some b) ≡ false
begins-bare (var i) p = refl
begins-bare (fun f) p = refl
begins-bare (con n) p = refl
begins-bare (lam l b) p = refl
begins-bare (app a b) p = refl
begins-bare (call_event f a r) p = absurd p
begins-bare (emit f a r) p = absurd p
begins-bare (sum a b) p = refl
begins-bare (branch c a b) p = refl

-- The rewritten body of a function begins with 6 where its calls are noted.
begins-noted : (G : Guideline) (f : ℕ) (b : Term) → Bare b → L.begins_with_call_event (some (instrument G f b)) ≡ noted G f
unfolding instrument
begins-noted G f b p = on (logged G f) (noted G f) refl refl
  where
    on : (x y : Bool) → logged G f ≡ x → noted G f ≡ y → L.begins_with_call_event (some (instrument G f b)) ≡ noted G f
    on true y k k' = rw (k, logged-noted G f k)
    on false true k k' = rw (k, k')
    on false false k k' = rw (k, k') (begins-bare b p)

-- ---- one step of both runs

-- The plain run's next configuration.
abbrev pub after : Conf → Event → Term → Conf
after κ ev e = record { expr = e; time = suc κ.time; made = κ.made ++ calls_of κ.time ev }

-- The count of noted calls so far.
abbrev pub notes : Guideline → Conf → ℕ
notes G κ = length (keep (is_noted G) (entries κ.made))

-- What holds of the plain run's configurations while the rewritten run goes along.
pub record Ok (G : Guideline) (κ : Conf) : Type 0 where
  pub bare : Bare κ.expr
  pub below : Below κ.time (entries κ.made)
  pub rising : Rising (entries κ.made)
  pub room : notes G κ ≤ L.history_limit

-- The step from κ to κ' makes a noted call, and there are as many already as the history has room for.
pub record Filled (G : Guideline) (κ κ' : Conf) : Type 0 where
  pub before : notes G κ ≡ L.history_limit
  pub call : Entry
  pub time : call.time ≡ κ.time
  pub is_note : is_noted G call ≡ true
  pub onward : entries κ'.made ≡ entries κ.made ++ (call ∷ [])

-- What the rewritten run does beside the plain one: the same, or it reports a full history.
abbrev pub Sync : Guideline → Conf → Tick Conf → Tick L.Conf → Type 0
Sync G κ (halt o) t = (t ≡ halt o) × (o ≢ full)
Sync G κ (stop o) t = (t ≡ stop o) × (o ≢ full)
Sync G κ (go κ') t = ((t ≡ go (image G κ')) × Ok G κ' × (κ'.time ≡ suc κ.time)) ⊎ ((t ≡ stop full) × Filled G κ κ')

-- These outcomes are not full.
value-not-full : value ≢ full
value-not-full e = let z : ◌≡◌ {A = ℕ} 0 1 = cc in omega arith

stuck-not-full : stuck ≢ full
stuck-not-full e = let z : ◌≡◌ {A = ℕ} 0 1 = cc in omega arith

spent-not-full : spent ≢ full
spent-not-full e = let z : ◌≡◌ {A = ℕ} 0 1 = cc in omega arith

large-not-full : large ≢ full
large-not-full e = let z : ◌≡◌ {A = ℕ} 0 1 = cc in omega arith

-- A step adds the entry of its call.
pub entries-after : (κ : Conf) (ev : Event) (e : Term) → entries (after κ ev e).made ≡ entries κ.made ++ entries (calls_of κ.time ev)
entries-after κ ev e = each_append (λ (c : Call). entry c ∷ []) κ.made (calls_of κ.time ev)

-- Its call is at the time before.
pub below-after : (κ : Conf) (ev : Event) (e : Term) → Below κ.time (entries κ.made) → Below (suc κ.time) (entries (after κ ev e).made)
unfolding each
below-after κ quiet e b = rw (append-nil κ.made) (λ x m. let l = b x m in omega arith)
below-after κ (calls f v) e b =
    rw (entries-after κ (calls f v) e) (below_more κ.time (entries κ.made) (entry (record { time = κ.time; function = f; argument = v })) b refl)

-- A step keeps what holds, where the history has room for its call …
ok-quiet : (G : Guideline) (κ : Conf) (e : Term) → Ok G κ → Bare e → Ok G (after κ quiet e)
ok-quiet G κ e ok p =
    record {
      bare = p;
      below = below-after κ quiet e ok.below;
      rising = rw (append-nil κ.made) ok.rising;
      room = rw (append-nil κ.made) ok.room;
    }

ok-call : (G : Guideline) (κ : Conf) (f : ℕ) (v e : Term) → Ok G κ → Bare e → (noted G f && leb L.history_limit (notes G κ)) ≡ false → Ok G (after κ (calls f v) e)
unfolding each
ok-call G κ f v e ok p h =
    record {
      bare = p;
      below = below-after κ (calls f v) e ok.below;
      rising = rw (entries-after κ (calls f v) e) (rising-more K x ok.rising ok.below);
      room = rw (entries-after κ (calls f v) e) (on (noted G f) (leb L.history_limit (notes G κ)) refl refl h);
    }
  where
    K : List Entry
    K = entries κ.made

    x : Entry
    x = entry (record { time = κ.time; function = f; argument = v })

    on : (y z : Bool) → noted G f ≡ y → leb L.history_limit (notes G κ) ≡ z → (y && z) ≡ false → length (keep (is_noted G) (K ++ (x ∷ []))) ≤ L.history_limit
    on true true k k' q = let z : ◌≡◌ {A = ℕ} 0 1 = cc in absurd (omega arith)
    on true false k k' q =
        let l = nleb→lt L.history_limit (notes G κ) (rw k' tt) in
        rw (keep-with (is_noted G) K x k, length-append (keep (is_noted G) K) (x ∷ [])) (omega arith)
    on false z k k' q = rw (keep-without (is_noted G) K x k) ok.room

-- … and where it has none, the step's call is the one too many.
filled : (G : Guideline) (κ : Conf) (f : ℕ) (v e : Term) → Ok G κ → (noted G f && leb L.history_limit (notes G κ)) ≡ true → Filled G κ (after κ (calls f v) e)
unfolding each
filled G κ f v e ok h =
    let r = and_both (noted G f) (leb L.history_limit (notes G κ)) (true-T (noted G f && leb L.history_limit (notes G κ)) h) in
    let l = leb→le L.history_limit (notes G κ) r.1 in
    let room = ok.room in
    record {
      before = omega arith;
      call = entry (record { time = κ.time; function = f; argument = v });
      time = refl;
      is_note = T_true (noted G f) r.0;
      onward = entries-after κ (calls f v) e;
    }

module _ (G : Guideline) (safe : Safe G) (C : Codebase) (code : BareCode C) where
  abbrev C' : Codebase
  C' = rewritten_code G C

  -- A call of a defined function is told full where it is noted and the history has 1,024 entries.
  full-call : (s : L.State) (f : ℕ) (v b : Term) → C f ≡ some b → L.is_full C' s (calls f v) ≡ (noted G f && leb L.history_limit (length s.history))
  full-call s f v b e = rw (e, begins-noted G f b (code f b e))

  -- So a step told full is the one too many, and any other keeps what holds.
  full-means : (κ : Conf) (ev : Event) (e : Term) → Ok G κ → step C κ.expr ≡ next ev e → L.is_full C' (image G κ).state ev ≡ true → Filled G κ (after κ ev e)
  full-means κ quiet e ok q h = let z : ◌≡◌ {A = ℕ} 0 1 = cc in absurd (omega arith)
  full-means κ (calls f v) e ok q h =
      let (b, p) = step-known C code κ.expr e f v ok.bare q in
      filled G κ f v e ok (sym (full-call (image G κ).state f v b p) ∙ h)

  ok-after : (κ : Conf) (ev : Event) (e : Term) → Ok G κ → step C κ.expr ≡ next ev e → L.is_full C' (image G κ).state ev ≡ false → Ok G (after κ ev e)
  ok-after κ quiet e ok q h = ok-quiet G κ e ok (step-bare C code κ.expr e quiet ok.bare q)
  ok-after κ (calls f v) e ok q h =
      let (b, p) = step-known C code κ.expr e f v ok.bare q in
      ok-call G κ f v e ok (step-bare C code κ.expr e (calls f v) ok.bare q) (sym (full-call (image G κ).state f v b p) ∙ h)

  -- The commands due after a step lead to the image of the plain run's next configuration.
  image-after : (κ : Conf) (ev : Event) (e : Term) → Ok G κ → L.at e (book G ev (L.tick (image G κ).state)) ≡ image G (after κ ev e)
  image-after κ ev e ok = rw (entries-after κ ev e) (ap (λ (s : L.State). L.at e s) (book-event G safe (entries κ.made) κ.time ev ok.below))

  -- A step of the rewritten run from an image is the plain run's step, or full.
  pub sync : (κ : Conf) → Ok G κ → Sync G κ (plain_tick C κ) (L.log_tick G C' (image G κ))
  unfolding plain_tick L.log_tick
  sync κ ok = on (step C κ.expr) (step C' κ.expr) refl (rewritten-peel G C code κ.expr ok.bare)
    where
      move : (ev : Event) (e e' : Term) → step C κ.expr ≡ next ev e → size e' ≡ records e → ((s : L.State) → L.settle G e' s ≡ L.at e (book G ev s)) → (x y : Bool) → leb (records e) limit ≡ x → L.is_full C' (image G κ).state ev ≡ y → Sync G κ (plain_move κ ev e) (L.log_move G C' (image G κ) ev e')
      move ev e e' q l s false y k k' = rw (l, k) (refl, large-not-full)
      move ev e e' q l s true true k k' = rw (l, k, k') (inr (refl, full-means κ ev e ok q k'))
      move ev e e' q l s true false k k' = rw (l, k, k') (inl (ap {B = Tick L.Conf} go (s (L.tick (image G κ).state) ∙ image-after κ ev e ok), ok-after κ ev e ok q k', refl))

      on : (x x' : Next) → step C κ.expr ≡ x → Similar G (book G) x x' → Sync G κ (plain_next κ x) (L.log_next G C' (image G κ) x')
      on at_value x' q h = rw h (refl, value-not-full)
      on at_stuck x' q h = rw h (refl, stuck-not-full)
      on (next ev e) x' q (e', h, l, s) = rw h (move ev e e' q (l ∙ bare-size e (step-bare C code κ.expr e ev ok.bare q)) s (leb (records e) limit) (L.is_full C' (image G κ).state ev) refl refl)

-- ---- the whole run

-- The rewritten run r from the image of κ with budget n ends on the image of where the plain run is after as many steps.
pub record Track (G : Guideline) (C : Codebase) (n : ℕ) (κ : Conf) (r : Result L.Conf) : Type 0 where
  pub steps : ℕ
  pub end : Conf
  pub reached : (run (plain_tick C) steps κ).last ≡ end
  pub counted : end.time ≡ κ.time + steps
  pub ok : Ok G end
  pub last : r.last ≡ image G end
  pub same : r.outcome ≢ full → run (plain_tick C) n κ ≡ result r.outcome end
  pub full_means : r.outcome ≡ full → (steps < n) × Filled G end (run (plain_tick C) (suc steps) κ).last

module _ (G : Guideline) (safe : Safe G) (C : Codebase) (code : BareCode C) where
  abbrev look_p : Conf → Tick Conf
  look_p = plain_tick C

  abbrev look_l : L.Conf → Tick L.Conf
  look_l = L.log_tick G (rewritten_code G C)

  -- Both runs end at once, with one outcome.
  ends : (n : ℕ) (κ : Conf) (o : Outcome) → Ok G κ → o ≢ full → run look_p n κ ≡ result o κ → Track G C n κ (result o (image G κ))
  ends n κ o ok h e =
      record {
        steps = 0;
        end = κ;
        reached = run-zero look_p κ;
        counted = omega arith;
        ok = ok;
        last = refl;
        same = λ _. e;
        full_means = λ k. absurd (h k);
      }

  -- The rewritten run reports a full history at once.
  fills : (n : ℕ) (κ κ' : Conf) → Ok G κ → look_p κ ≡ go κ' → Filled G κ κ' → Track G C (suc n) κ (result full (image G κ))
  fills n κ κ' ok e h =
      record {
        steps = 0;
        end = κ;
        reached = run-zero look_p κ;
        counted = omega arith;
        ok = ok;
        last = refl;
        same = λ k. absurd (k refl);
        full_means = λ _. (omega arith, rw (run-go look_p 0 κ κ' e, run-zero look_p κ') h);
      }

  -- Both go on.
  follows : (n : ℕ) (κ κ' : Conf) (r : Result L.Conf) → look_p κ ≡ go κ' → κ'.time ≡ suc κ.time → Track G C n κ' r → Track G C (suc n) κ r
  follows n κ κ' r e t h =
      let c = h.counted in
      record {
        steps = suc h.steps;
        end = h.end;
        reached = rw (run-go look_p h.steps κ κ' e) h.reached;
        counted = omega arith;
        ok = h.ok;
        last = h.last;
        same = λ k. run-go look_p n κ κ' e ∙ h.same k;
        full_means = λ k. let (l, f) = h.full_means k in (omega arith, rw (run-go look_p (suc h.steps) κ κ' e) f);
      }

  -- The rewritten run from an image goes along with the plain run.
  pub track : (n : ℕ) (κ : Conf) → Ok G κ → Track G C n κ (run look_l n (image G κ))
  track zero κ ok = on (look_p κ) refl (sync G safe C code κ ok)
    where
      on : (t : Tick Conf) → look_p κ ≡ t → Sync G κ t (look_l (image G κ)) → Track G C zero κ (run look_l zero (image G κ))
      on (halt o) e (h, nf) = rw (run-halt look_l zero (image G κ) o h) (ends zero κ o ok nf (run-halt look_p zero κ o e))
      on (stop o) e (h, nf) = rw (run_out look_l (image G κ) o h) (ends zero κ spent ok spent-not-full (run_out look_p κ o e))
      on (go κ') e (inl (h, ok', t)) = rw (run-spent look_l (image G κ) (image G κ') h) (ends zero κ spent ok spent-not-full (run-spent look_p κ κ' e))
      on (go κ') e (inr (h, f)) = rw (run_out look_l (image G κ) full h) (ends zero κ spent ok spent-not-full (run-spent look_p κ κ' e))
  track (suc n) κ ok = on (look_p κ) refl (sync G safe C code κ ok) (λ κ' ok'. track n κ' ok')
    where
      on : (t : Tick Conf) → look_p κ ≡ t → Sync G κ t (look_l (image G κ)) → ((κ' : Conf) → Ok G κ' → Track G C n κ' (run look_l n (image G κ'))) → Track G C (suc n) κ (run look_l (suc n) (image G κ))
      on (halt o) e (h, nf) below = rw (run-halt look_l (suc n) (image G κ) o h) (ends (suc n) κ o ok nf (run-halt look_p (suc n) κ o e))
      on (stop o) e (h, nf) below = rw (run-stop look_l n (image G κ) o h) (ends (suc n) κ o ok nf (run-stop look_p n κ o e))
      on (go κ') e (inl (h, ok', t)) below = rw (run-go look_l n (image G κ) (image G κ') h) (follows n κ κ' (run look_l n (image G κ')) e t (below κ' ok'))
      on (go κ') e (inr (h, f)) below = rw (run-stop look_l n (image G κ) full h) (fills n κ κ' ok e f)

-- ---- scripts

-- The codebase of a rewritten script is the rewritten codebase.
rewritten-bodies : (G : Guideline) (k : ℕ) (es : List Term) (f : ℕ) → bodies (rewrite_from G k es) f ≡ instrumented G (k + f) (bodies es f)
unfolding bodies rewrite_from
rewritten-bodies G k [] f = refl
rewritten-bodies G k (e ∷ es) zero = let q : k + 0 ≡ k = omega arith in rw q
rewritten-bodies G k (e ∷ es) (suc f) = let q : k + suc f ≡ suc k + f = omega arith in rw q (rewritten-bodies G (suc k) es f)

pub rewritten-codebase : (G : Guideline) (S : Program) → codebase (rewrite G S) ≡ rewritten_code G (codebase S)
rewritten-codebase G S = fun_ext (λ f. let q : 0 + f ≡ f = omega arith in rewritten-bodies G 0 S.definitions f ∙ ap (λ (g : ℕ). instrumented G g (codebase S f)) q)

-- The body of a function is one of the definitions.
bodies-bare : (es : List Term) → ((b : Term) → Memᴰ b es → Bare b) → BareCode (bodies es)
unfolding bodies
bodies-bare [] h f b e = let z : ◌≡◌ {A = ℕ} 0 1 = cc in absurd (omega arith)
bodies-bare (a ∷ es) h zero b e = let q : b ≡ a = cc in h b (Memᴰ.head q)
bodies-bare (a ∷ es) h (suc f) b e = bodies-bare es (λ c m. h c (Memᴰ.tail m)) f b e

-- No command stands in the codebase of a program without commands.
pub codebase-bare : (S : Program) → BareProgram S → BareCode (codebase S)
codebase-bare S bare = bodies-bare S.definitions bare.definitions

-- What holds of the plain run's configurations holds of the first.
pub ok-initial : (G : Guideline) (e : Term) → Bare e → Ok G (initial e)
unfolding keep each
ok-initial G e p = record { bare = p; below = λ x m. absurd (Memᴰ.not-nil m); rising = tt; room = omega arith }

-- The rewritten run of a script begins on the image of the plain run's first configuration.
pub rewritten-start : (G : Guideline) (S : Program) → BareProgram S → (n : ℕ) → L.rewritten_run G (rewrite G S) n ≡ run (L.log_tick G (rewritten_code G (codebase S))) n (image G (initial S.main))
unfolding L.logged keep each
rewritten-start G S bare n = rw (rewritten-codebase G S, settle-bare G S.main L.fresh bare.main)

-- So it goes along with the plain run.
pub tracked : (G : Guideline) → Safe G → (S : Program) → BareProgram S → (n : ℕ) → Track G (codebase S) n (initial S.main) (L.rewritten_run G (rewrite G S) n)
tracked G safe S bare n = rw (rewritten-start G S bare n) (track G safe (codebase S) (codebase-bare S bare) n (initial S.main) (ok-initial G S.main bare.main))

-- ---- what the track says of the log

module _ (G : Guideline) (safe : Safe G) (S : Program) (n : ℕ) (r : Result L.Conf) (t : Track G (codebase S) n (initial S.main) r) where
  -- Both runs show the same time.
  clock : r.last.state.time ≡ t.end.time
  clock = ap (λ (κ : L.Conf). κ.state.time) t.last

  -- The rewritten run's count is the plain run's.
  steps-are : r.last.state.time ≡ t.steps
  steps-are = let c = t.counted in let q = clock in omega arith

  -- With that budget the plain run ends where the track says.
  end_is : (plain_run S r.last.state.time).last ≡ t.end
  unfolding plain
  end_is = rw steps-are t.reached

  -- So its calls are those of the track.
  calls_are : calls_below S r.last.state.time ≡ entries t.end.made
  calls_are = ap (λ (κ : Conf). entries κ.made) end_is

  -- The log, as a list.
  log-are : r.last.state.log ≡ keep (entails? G (calls_below S r.last.state.time)) (calls_below S r.last.state.time)
  log-are = ap (λ (κ : L.Conf). κ.state.log) t.last ∙ sym (ap (λ (K : List Entry). keep (entails? G K) K) calls_are)

  -- The calls of all steps entail what those of the steps up to the call do.
  log-means : (x : Entry) → Memᴰ x r.last.state.log ↔ ((x.time < r.last.state.time) × Memᴰ x (calls_below S (suc x.time)) × Entails G (calls_below S (suc x.time)) x)
  log-means x = (there, back)
    where
      k : ℕ
      k = r.last.state.time

      there : Memᴰ x r.last.state.log → (x.time < k) × Memᴰ x (calls_below S (suc x.time)) × Entails G (calls_below S (suc x.time)) x
      there m =
          let (i, h) = keep-from (entails? G (calls_below S k)) (calls_below S k) (rw log-are at m) in (
            calls-time S k x i,
            calls-cut S k (suc x.time) x (omega arith) i,
            entails-map G (calls_below S k) (calls_below S (suc x.time)) x (λ y j l _. calls-cut S k (suc x.time) y (omega arith) j) (λ y j l _. calls-cut S (suc x.time) k y (let q = calls-time S k x i in omega arith) j) ((entails-decides G safe (calls_below S k) x).0 h),
          )

      back : (x.time < k) × Memᴰ x (calls_below S (suc x.time)) × Entails G (calls_below S (suc x.time)) x → Memᴰ x r.last.state.log
      back (l, i, h) =
          let wider = entails-map G (calls_below S (suc x.time)) (calls_below S k) x (λ y j l' _. calls-cut S (suc x.time) k y (omega arith) j) (λ y j l' _. calls-cut S k (suc x.time) y (omega arith) j) h in
          rw log-are (keep-into (entails? G (calls_below S k)) (calls-cut S (suc x.time) k x l i) ((entails-decides G safe (calls_below S k) x).1 wider))

  -- A full history means what the claim says.
  full_is : r.outcome ≡ full → Full G S n r.last.state.time
  unfolding plain
  full_is e =
      let (l, f) = t.full_means e in
      let k : ℕ = r.last.state.time in
      let c : f.call.time ≡ k = f.time ∙ sym clock in
      let s : k < n = rw steps-are l in
      let onward : calls_below S (suc t.steps) ≡ entries t.end.made ++ (f.call ∷ []) = f.onward in
      record {
        before =
            ap length (sym (keep-keep (is_noted G) (λ (x : Entry). ltb x.time k) (calls_below S n)))
            ∙ ap (λ (K : List Entry). length (keep (is_noted G) K)) (calls-first S k n (omega arith) ∙ calls_are)
            ∙ f.before;
        call = f.call;
        made = calls-cut S (suc t.steps) n f.call (omega arith) (rw onward (Memᴰ.append_right (entries t.end.made) (Memᴰ.head refl)));
        time = c;
        is_note = f.is_note;
      }

  -- All parts of the claim.
  faithful : Faithful G S n r r.last.state.time
  unfolding plain
  faithful =
      record {
        count = ap (λ (κ : Conf). κ.time) end_is ∙ sym clock;
        expression = ap (λ (κ : Conf). κ.expr) end_is ∙ sym (ap (λ (κ : L.Conf). κ.expr) t.last);
        same_outcome = λ h. ap (λ (q : Result Conf). q.outcome) (t.same h);
        same_count = λ h. ap (λ (q : Result Conf). q.last.time) (t.same h) ∙ sym clock;
        full_means = full_is;
        history = ap (λ (κ : L.Conf). κ.state.history) t.last ∙ sym (ap (λ (K : List Entry). keep (is_noted G) K) calls_are);
        log = log-means;
        rising = rw log-are (rw calls_are (rising-keep (entails? G (entries t.end.made)) (entries t.end.made) t.ok.rising));
      }

-- For every script without commands, every guideline and every budget.
pub demand-3 : (G : Guideline) → Safe G → (S : Program) → BareProgram S → (n : ℕ) → Demand3 G S n
demand-3 G safe S bare n = faithful G safe S n (L.rewritten_run G (rewrite G S) n) (tracked G safe S bare n)

-- The log as a list: of the plain run's calls, in order, those that the test finds entailed.
pub log_is : (G : Guideline) → Safe G → (S : Program) → BareProgram S → (n : ℕ) → (L.rewritten_run G (rewrite G S) n).last.state.log ≡ keep (entails? G (calls_below S (L.rewritten_run G (rewrite G S) n).last.state.time)) (calls_below S (L.rewritten_run G (rewrite G S) n).last.state.time)
log_is G safe S bare n = log-are G safe S n (L.rewritten_run G (rewrite G S) n) (tracked G safe S bare n)
