-- Theorem 5 of source document 000 does not hold as printed: two small programs. Assumes nothing.
use mathlib.Core.List.Memᴰ
use mathlib.Core.List.{List, [], ◌∷◌, Memᴰ}
use mathlib.Core.Path.{◌≡◌, refl, sym, ap, ◌∙◌, subst}
use native.Mathlib.Omega.{arith}
use Rattle.calculus.specs.Lists.{each, any}
use Rattle.calculus.specs.Term.{Term, Codebase, Program, BareProgram, codebase, view, view_of, is_value, bodies, Bare}
use Rattle.calculus.specs.Term.Term.{var, fun, con, app, call_event, emit}
use Rattle.calculus.specs.Substitution.{substitute}
use Rattle.calculus.specs.Rules.{plug}
use Rattle.calculus.specs.Rules.Context.{[] as hole}
use Rattle.calculus.specs.Rules.Reduces.{βCall}
use Rattle.calculus.specs.Guideline.{Guideline, Safe}
use Rattle.calculus.specs.Entailment.{Entry, Triggered, Entails}
use Rattle.calculus.specs.Rewriting.{rewrite, rewrite_from, instrument, logged, logevents}
use Rattle.calculus.specs.Trace.{Sequence, Configuration, Traces, Says, last}
use Rattle.calculus.specs.Trace.Sequence.{alone, then}
use Rattle.calculus.specs.Log.{Conf, State, at, fresh, tick, triple, note_call, add_entry}
use Rattle.calculus.specs.LogRules.{Runs, LogTraces}
use Rattle.calculus.specs.LogRules.Runs.{Λcall, Precondition, Log}
use Rattle.calculus.specs.Correspondence.{Ends, Corresponds}
use Rattle.calculus.specs.Soundness.{Derives, Said, Lists, Sound, Complete}
use Rattle.calculus.proofs.Rules.{redex-unique}
use Rattle.calculus.proofs.Trace.{says-means}
use Rattle.calculus.proofs.Correspondence.{log-begins}

-- Every call of function 0 is logged.
abbrev each-call : Guideline
each-call = record { facts = []; rules = []; clauses = record { function = 0; triggers = []; conditions = [] } ∷ [] }

each-safe : Safe each-call
each-safe r m = absurd (Memᴰ.not-nil m)

-- It entails each of them, …
entails : (K : List Entry) (x : Entry) → x.function ≡ 0 → Entails each-call K x
entails K x q =
    record {
      clause = record { function = 0; triggers = []; conditions = [] };
      among = Memᴰ.head refl;
      logs = sym q;
      choice = [];
      triggers = Triggered.none;
      conditions = λ c k. absurd (Memᴰ.not-nil k);
    }

-- … and derives each that was made.
derives : (K : List Entry) (x : Entry) → x.function ≡ 0 → Memᴰ x K → Derives each-call K x
derives K x q m = (m, entails K x q)

abbrev call : Term
call = app (fun 0) (con 5)

-- Function 0 has this body, and main calls it on 5.
abbrev calling : Term → Program
calling b = record { definitions = b ∷ []; main = call }

calling-bare : (b : Term) → Bare b → BareProgram (calling b)
calling-bare b p = record { definitions = λ c m. rw (Memᴰ.eq_of_singleton m) p; main = (tt, tt) }

-- ---- the source before its first step

abbrev κ₀ : Configuration
κ₀ = record { expr = call; time = 0 }

abbrev due : Entry
due = record { time = 0; function = 0; seen = view_of 3 5 }

-- toFOL says one call, the one that is about to be made.
due-listed : (C : Codebase) → Lists (Said C (alone κ₀)) (due ∷ [])
unfolding plug is_value view
due-listed C x = (into, from)
  where
    into : Memᴰ x (due ∷ []) → Said C (alone κ₀) x
    into m = subst (Said C (alone κ₀)) (sym (Memᴰ.eq_of_singleton m)) record { argument = con 5; says = Says.call hole tt refl; seen = refl }

    from : Said C (alone κ₀) x → Memᴰ x (due ∷ [])
    from s =
        let (E, q, p, h) = says-means s.says in
        let (_, a, v) = redex-unique hole E (fun 0) (con 5) (fun x.function) s.argument tt tt tt p h in
        let f : x.function ≡ 0 = cc in
        Memᴰ.head (λ i. record { time = q i; function = f i; seen = (s.seen ∙ ap view (sym v)) i })

-- The log lags the call: before the first step nothing is logged, and toFOL says the call already.
pub not-complete : ((G : Guideline) (S : Program) → Safe G → BareProgram S → Complete G S) → ⊥
not-complete h =
    Memᴰ.not-nil
    (h each-call (calling (var 0)) each-safe (calling-bare (var 0) tt) (alone κ₀) (alone (at call fresh)) (Traces.start refl refl) (LogTraces.start refl)
    record { begins = refl; ends = Ends.same refl } (due ∷ []) (due-listed _) due (derives (due ∷ []) due refl (Memᴰ.head refl)))

-- ---- a program that comes back to its first expression

-- Λx. f x, called for ever.
abbrev loop : Program
loop = calling (app (fun 0) (var 0))

abbrev body : Term
body = call_event 0 (con 5) (emit 0 (con 5) call)

-- A turn of the loop from a state.
abbrev after : State → State
after s = add_entry (triple 0 (con 5) (note_call 0 (con 5) (tick s))) (note_call 0 (con 5) (tick s))

turn : (τ : Sequence Conf) (s : State) → last τ ≡ at call s → LogTraces each-call (codebase (rewrite each-call loop)) call τ → (τ' : Sequence Conf) × LogTraces each-call (codebase (rewrite each-call loop)) call τ' × (last τ' ≡ at call (after s))
unfolding rewrite_from instrument logged logevents each any substitute bodies is_value
turn τ s q t =
    let one : Runs each-call (codebase (rewrite each-call loop)) (last τ) (at body (tick s)) = rw q (Λcall {s = s} {s' = tick s} (βCall tt refl refl) refl refl) in (
      then (then (then τ (at body (tick s))) (at (emit 0 (con 5) call) (note_call 0 (con 5) (tick s)))) (at call (after s)),
      LogTraces.onward (LogTraces.onward (LogTraces.onward {κ = at body (tick s)} t one) Precondition) (Log (entails _ _ refl)),
      refl,
    )

-- Definition 10 compares expressions alone: after two turns the target's trace corresponds to the source's of no step, and has logged two calls.
pub not-sound : ((G : Guideline) (S : Program) → Safe G → BareProgram S → Sound G S) → ⊥
unfolding view
not-sound h =
    let (τ₁, t₁, q₁) = turn (alone (at call fresh)) fresh refl (LogTraces.start refl) in
    let (τ₂, t₂, q₂) = turn τ₁ (after fresh) q₁ t₁ in
    let x : Entry = record { time = 1; function = 0; seen = view_of 3 5 } in
    let m : Memᴰ x (last τ₂).state.log = rw q₂ (Memᴰ.tail (Memᴰ.head refl)) in
    let c : Corresponds (alone κ₀) τ₂ = record { begins = sym (log-begins t₂); ends = Ends.same (sym (ap (λ (κ : Conf). κ.expr) q₂)) } in
    let d = h each-call loop each-safe (calling-bare (app (fun 0) (var 0)) (tt, tt)) (alone κ₀) τ₂ (Traces.start refl refl) t₂ c (due ∷ []) (due-listed _) x m in
    let z = ap (λ (y : Entry). y.time) (Memᴰ.eq_of_singleton d.0) in
    omega (arith, z)
