-- Rewriting (Definition 11 of source document 000, 13 of 002), for any number of logged clauses. Assumes nothing.
use Rattle.std.specs.Prelude.{Bool, cond, ◌||◌, List, [], ◌∷◌, ◌++◌, ℕ, suc}
use Rattle.std.proofs.Math.Option.{Option, none, some}
use Rattle.calculus.specs.Lists.{each, among}
use Rattle.calculus.specs.Term.{Term, Codebase, Program}
use Rattle.calculus.specs.Term.Term.{var, call_event, emit}
use Rattle.calculus.specs.Guideline.{Guideline, Clause, Condition}
use Rattle.calculus.specs.Guideline.Condition.{before, related, equal, differing, none_since}

-- Logevent(LS), over all clauses.
unfoldable pub logevents : Guideline → List ℕ
logevents G = each (λ c. c.function ∷ []) G.clauses

-- The function whose calls take a trigger's call back.
abbrev pub taken_back : Condition → List ℕ
taken_back (before i j) = []
taken_back (related p i j) = []
taken_back (equal i j) = []
taken_back (differing i j) = []
taken_back (none_since i h) = h ∷ []

-- A clause's triggers, and each h of kind 9: "Rewriting treats h as a trigger for callEvent" (document 02, Item 2).
abbrev pub watched : Clause → List ℕ
watched c = c.triggers ++ each taken_back c.conditions

-- Triggers(LS), over all clauses.
unfoldable pub triggers : Guideline → List ℕ
triggers G = each watched G.clauses

unfoldable pub logged : Guideline → ℕ → Bool
logged G f = among f (logevents G)

-- "A noted call is one of a function that gains 6": of a logged function, of a trigger or of the h of kind 9.
unfoldable pub noted : Guideline → ℕ → Bool
noted G f = logged G f || among f (triggers G)

-- "a logged function's body gains 6 then 7, a trigger's body gains 6 only, a function that is both gains 6 and 7 once"
unfoldable pub instrument : Guideline → ℕ → Term → Term
instrument G f e =
    cond (logged G f) (call_event f (var 0) (emit f (var 0) e))
    (cond (noted G f) (call_event f (var 0) e) e)

-- C'(f), "All else is copied".
abbrev pub instrumented : Guideline → ℕ → Option Term → Option Term
instrumented G f none = none
instrumented G f (some e) = some (instrument G f e)

abbrev pub rewritten_code : Guideline → Codebase → Codebase
rewritten_code G C f = instrumented G f (C f)

-- The definitions from number f on.
unfoldable pub rewrite_from : Guideline → ℕ → List Term → List Term
rewrite_from G f [] = []
rewrite_from G f (e ∷ es) = instrument G f e ∷ rewrite_from G (suc f) es

-- R((e, C), LS) = (e, C')
abbrev pub rewrite : Guideline → Program → Program
rewrite G S = record { definitions = rewrite_from G 0 S.definitions; main = S.main }
