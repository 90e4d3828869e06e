-- Bodies without the commands before them: what they keep of the bodies. Assumes nothing.
use mathlib.Core.Option.{Option, none, some, IsSome}
use mathlib.Core.Path.{◌≡◌, refl, sym, ap, fun_ext}
use Prim.Native.Nat.{ℕ}
use native.Mathlib.Omega.{arith}
use Rattle.calculus.specs.Term.{Term, Codebase, size, Scoped, Defined, Bare, BareCode, ClosedCode}
use Rattle.calculus.specs.Term.Term.{var, fun, con, lam, app, call_event, emit, sum, branch}
use Rattle.calculus.specs.Strip.{strip_emit, strip, strip_body, strip_code}
use Rattle.terms.specs.Encode.{Fits}

-- ---- without commands there is nothing to strip

strip-bare : (b : Term) → Bare b → strip b ≡ b
strip-bare (var i) p = refl
strip-bare (fun f) p = refl
strip-bare (con n) p = refl
strip-bare (lam l b) p = refl
strip-bare (app a b) p = refl
strip-bare (call_event f a r) p = absurd p
strip-bare (emit f a r) p = absurd p
strip-bare (sum a b) p = refl
strip-bare (branch c a b) p = refl

-- Code without commands is its own stripped code.
pub strip-same : (C : Codebase) → BareCode C → strip_code C ≡ C
strip-same C bare = fun_ext (λ f. on f (C f) refl)
  where
    on : (f : ℕ) (o : Option Term) → C f ≡ o → strip_body o ≡ o
    on f none e = refl
    on f (some b) e = ap some (strip-bare b (bare f b e))

-- ---- what a body's properties say of the stripped body

-- A property of a command is one of its rest.
module _ (P : Term → Type 0) (call : (f : ℕ) (a r : Term) → P (call_event f a r) → P r) (log : (f : ℕ) (a r : Term) → P (emit f a r) → P r) where
  emit-keeps : (b : Term) → P b → P (strip_emit b)
  emit-keeps (var i) h = h
  emit-keeps (fun f) h = h
  emit-keeps (con n) h = h
  emit-keeps (lam l b) h = h
  emit-keeps (app a b) h = h
  emit-keeps (call_event f a r) h = h
  emit-keeps (emit f a r) h = log f a r h
  emit-keeps (sum a b) h = h
  emit-keeps (branch c a b) h = h

  strip-keeps : (b : Term) → P b → P (strip b)
  strip-keeps (var i) h = h
  strip-keeps (fun f) h = h
  strip-keeps (con n) h = h
  strip-keeps (lam l b) h = h
  strip-keeps (app a b) h = h
  strip-keeps (call_event f a r) h = emit-keeps r (call f a r h)
  strip-keeps (emit f a r) h = h
  strip-keeps (sum a b) h = h
  strip-keeps (branch c a b) h = h

pub strip-scoped : (d : ℕ) (b : Term) → Scoped d b → Scoped d (strip b)
strip-scoped d = strip-keeps (Scoped d) (λ f a r h. h.1) (λ f a r h. h.1)

pub strip-defined : (C : Codebase) (b : Term) → Defined C b → Defined C (strip b)
strip-defined C = strip-keeps (Defined C) (λ f a r h. h.1) (λ f a r h. h.1)

pub strip-fits : (b : Term) → Fits b → Fits (strip b)
strip-fits = strip-keeps Fits (λ f a r h. h.2) (λ f a r h. h.2)

-- Commands and their arguments are not counted.
pub strip-size : (b : Term) → size (strip b) ≡ size b
unfolding size
strip-size (var i) = refl
strip-size (fun f) = refl
strip-size (con n) = refl
strip-size (lam l b) = refl
strip-size (app a b) = refl
strip-size (call_event f a r) = on r
  where
    on : (r : Term) → size (strip_emit r) ≡ size r
    on (var i) = refl
    on (fun f) = refl
    on (con n) = refl
    on (lam l b) = refl
    on (app a b) = refl
    on (call_event f a r) = refl
    on (emit f a r) = refl
    on (sum a b) = refl
    on (branch c a b) = refl
strip-size (emit f a r) = refl
strip-size (sum a b) = refl
strip-size (branch c a b) = refl

-- ---- names

some-strip : (o : Option Term) → IsSome o → IsSome (strip_body o)
some-strip none h = h
some-strip (some b) h = tt

-- A name that the code defines is defined by the stripped code.
pub defined-strip : (C : Codebase) (t : Term) → Defined C t → Defined (strip_code C) t
defined-strip C (var i) h = tt
defined-strip C (fun f) h = some-strip (C f) h
defined-strip C (con n) h = tt
defined-strip C (lam l b) h = defined-strip C b h
defined-strip C (app a b) h = (defined-strip C a h.0, defined-strip C b h.1)
defined-strip C (call_event f a r) h = (defined-strip C a h.0, defined-strip C r h.1)
defined-strip C (emit f a r) h = (defined-strip C a h.0, defined-strip C r h.1)
defined-strip C (sum a b) h = (defined-strip C a h.0, defined-strip C b h.1)
defined-strip C (branch c a b) h = (defined-strip C c h.0, defined-strip C a h.1, defined-strip C b h.2)

-- The stripped body of a function is that of its body.
pub record Stripped (C : Codebase) (f : ℕ) (b : Term) : Type 0 where
  pub body : Term
  pub has : C f ≡ some body
  pub is : b ≡ strip body

pub stripped-from : (C : Codebase) (f : ℕ) (b : Term) → strip_code C f ≡ some b → Stripped C f b
stripped-from C f b e = on (C f) refl e
  where
    on : (o : Option Term) → C f ≡ o → strip_body o ≡ some b → Stripped C f b
    on none q h = absurd (let z : ◌≡◌ {A = ℕ} 0 1 = cc in omega arith)
    on (some r) q h = let k : strip r ≡ b = cc in record { body = r; has = q; is = sym k }

-- Closed code stays closed.
pub strip-closed : (C : Codebase) → ClosedCode C → ClosedCode (strip_code C)
strip-closed C h = record {
  body_scoped = λ f b e. let g = stripped-from C f b e in rw g.is (strip-scoped 1 g.body (h.body_scoped f g.body g.has));
  body_defined = λ f b e. let g = stripped-from C f b e in rw g.is (defined-strip C (strip g.body) (strip-defined C g.body (h.body_defined f g.body g.has)));
}
