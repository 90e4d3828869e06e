-- Terms of Λcall and Λlog (source document 000, 4.1 and 4.3), with the house's constants, labels, sums and branches. Assumes nothing.
use Rattle.std.specs.Prelude.{Bool, true, false, ◌≡◌, ℕ, zero, suc, ◌+◌, ◌<◌}
use mathlib.Core.List.{List, [], ◌∷◌, Memᴰ}
use Rattle.std.proofs.Math.Option.{Option, none, some, IsSome}

-- A constructor for each kind of record that begins a term, 1 to 7, 9 and 10. A variable counts the abstractions outward from the nearest, 0.
-- Constants, labels, sums and branches are the house's: Λcall has none.
pub data Term : Type 0 where
  var : ℕ → Term
  fun : ℕ → Term
  con : ℕ → Term
  lam : ℕ → Term → Term
  app : Term → Term → Term
  call_event : ℕ → Term → Term → Term
  emit : ℕ → Term → Term → Term
  sum : Term → Term → Term
  branch : Term → Term → Term → Term

-- v ::= x | f | λx. e (4.1), and constants: "A term is an application or a value".
unfoldable pub is_value : Term → Bool
is_value (var i) = true
is_value (fun f) = true
is_value (con n) = true
is_value (lam l b) = true
is_value (app a b) = false
is_value (call_event f a r) = false
is_value (emit f a r) = false
is_value (sum a b) = false
is_value (branch c a b) = false

-- A kind and a number.
pub record View : Type 0 where
  pub kind : ℕ
  pub number : ℕ

abbrev pub view_of : ℕ → ℕ → View
view_of k n = record { kind = k; number = n }

-- "The view of a closed value is the kind and number of its first record": those of a term's first record.
unfoldable pub view : Term → View
view (var i) = view_of 1 i
view (fun f) = view_of 2 f
view (con n) = view_of 3 n
view (lam l b) = view_of 4 l
view (app a b) = view_of 5 0
view (call_event f a r) = view_of 6 f
view (emit f a r) = view_of 7 f
view (sum a b) = view_of 9 0
view (branch c a b) = view_of 10 0

-- The count of a term's records.
unfoldable pub records : Term → ℕ
records (var i) = 1
records (fun f) = 1
records (con n) = 1
records (lam l b) = suc (records b)
records (app a b) = suc (records a + records b)
records (call_event f a r) = suc (records a + records r)
records (emit f a r) = suc (records a + records r)
records (sum a b) = suc (records a + records b)
records (branch c a b) = suc (records c + (records a + records b))

-- "large counts no records of kind 6 or 7 and none of their arguments": the count of a term's other records.
unfoldable pub size : Term → ℕ
size (var i) = 1
size (fun f) = 1
size (con n) = 1
size (lam l b) = suc (size b)
size (app a b) = suc (size a + size b)
size (call_event f a r) = size r
size (emit f a r) = size r
size (sum a b) = suc (size a + size b)
size (branch c a b) = suc (size c + (size a + size b))

-- "A variable must be below the count of abstractions around it": d abstractions stand around the term.
abbrev pub Scoped : ℕ → Term → Type 0
Scoped d (var i) = i < d
Scoped d (fun f) = Unit {0}
Scoped d (con n) = Unit {0}
Scoped d (lam l b) = Scoped (suc d) b
Scoped d (app a b) = Scoped d a × Scoped d b
Scoped d (call_event f a r) = Scoped d a × Scoped d r
Scoped d (emit f a r) = Scoped d a × Scoped d r
Scoped d (sum a b) = Scoped d a × Scoped d b
Scoped d (branch c a b) = Scoped d c × Scoped d a × Scoped d b

-- A term of Λcall: no command stands in it.
abbrev pub Bare : Term → Type 0
Bare (var i) = Unit {0}
Bare (fun f) = Unit {0}
Bare (con n) = Unit {0}
Bare (lam l b) = Bare b
Bare (app a b) = Bare a × Bare b
Bare (call_event f a r) = ⊥
Bare (emit f a r) = ⊥
Bare (sum a b) = Bare a × Bare b
Bare (branch c a b) = Bare c × Bare a × Bare b

-- The codebase maps function names to function definitions (4.1): to the bodies, whose parameter is variable 0.
abbrev pub Codebase : Type 0
Codebase = ℕ → Option Term

-- Every function name in the term is defined.
abbrev pub Defined : Codebase → Term → Type 0
Defined C (var i) = Unit {0}
Defined C (fun f) = IsSome (C f)
Defined C (con n) = Unit {0}
Defined C (lam l b) = Defined C b
Defined C (app a b) = Defined C a × Defined C b
Defined C (call_event f a r) = Defined C a × Defined C r
Defined C (emit f a r) = Defined C a × Defined C r
Defined C (sum a b) = Defined C a × Defined C b
Defined C (branch c a b) = Defined C c × Defined C a × Defined C b

-- A program (e, C) of a script: the bodies of the definitions, numbered 0, 1, 2 in order, and the main term.
pub record Program : Type 0 where
  pub definitions : List Term
  pub main : Term

-- The body of a function's definition.
unfoldable pub bodies : List Term → Codebase
bodies [] f = none
bodies (b ∷ bs) zero = some b
bodies (b ∷ bs) (suc f) = bodies bs f

abbrev pub codebase : Program → Codebase
codebase S = bodies S.definitions

-- The count of a script's records: each definition has one of its own before its body.
unfoldable pub definition_records : List Term → ℕ
definition_records [] = 0
definition_records (b ∷ bs) = suc (records b) + definition_records bs

abbrev pub program_records : Program → ℕ
program_records S = definition_records S.definitions + records S.main

-- A codebase and an expression that are closed, with all names defined; "a definition counting as one" abstraction.
pub record ClosedCode (C : Codebase) : Type 0 where
  pub body_scoped : (f : ℕ) (b : Term) → C f ≡ some b → Scoped 1 b
  pub body_defined : (f : ℕ) (b : Term) → C f ≡ some b → Defined C b

pub record ClosedTerm (C : Codebase) (e : Term) : Type 0 where
  pub scoped : Scoped 0 e
  pub defined : Defined C e

-- A program of Λcall: no command stands in it.
abbrev pub BareCode : Codebase → Type 0
BareCode C = (f : ℕ) (b : Term) → C f ≡ some b → Bare b

pub record BareProgram (S : Program) : Type 0 where
  pub definitions : (b : Term) → Memᴰ b S.definitions → Bare b
  pub main : Bare S.main

-- "In a rewritten script a definition's body may begin with 6, or with 6 and then 7 as its rest, each naming its own definition with
-- variable 0 as argument; 6 and 7 stand nowhere else." The body e of function f.
pub data Placed (f : ℕ) (e : Term) : Type 0 where
  plain : Bare e → Placed f e
  noting : (b : Term) → Bare b → e ≡ call_event f (var 0) b → Placed f e
  logging : (b : Term) → Bare b → e ≡ call_event f (var 0) (emit f (var 0) b) → Placed f e

abbrev pub PlacedCode : Codebase → Type 0
PlacedCode C = (f : ℕ) (b : Term) → C f ≡ some b → Placed f b
