-- Frames on terms: they are a context of the calculus, a step at the focus is a step of the whole, and a property of the whole is one of its
-- parts. Assumes nothing.
use mathlib.Core.Bool.{true, false, false≢true}
use mathlib.Core.List.{List, [], ◌∷◌}
use mathlib.Core.Path.{◌≡◌, refl, ap, ◌∙◌}
use Rattle.calculus.specs.Term.{Term, Codebase, is_value, Bare, Defined}
use Rattle.calculus.specs.Term.Term.{var, fun, con, lam, app, call_event, emit, sum, branch}
use Rattle.calculus.specs.Step.{Next, redex, constant, addition, choice, inside, step}
use Rattle.calculus.specs.Step.Next.{at_value, at_stuck, next}
use Rattle.calculus.specs.Rules as rules
use Rattle.calculus.specs.Rules.Context.{applied, argument, augend, addend, condition}
use Rattle.calculus.proofs.Lists.{true-T}
use Rattle.calculus.proofs.Steps.{step_left, step_right, step-redex, step-augend, step-addend, step-addition, step-condition, step-choice}
use Rattle.terms.specs.Encode.{Fits}
use Rattle.zipper.specs.Frame.{Pair, join, Frame, fill, plug, Done, Fine}
use Rattle.zipper.specs.Frame.Pair.{applies, adds}
use Rattle.zipper.specs.Frame.Frame.{to_come, done, choosing}

-- ---- contexts

-- A frame as a context of the calculus, with the context E in its hole.
abbrev frame_of : (f : Frame) → Done f → rules.Context → rules.Context
frame_of (to_come applies b) d E = applied E b
frame_of (to_come adds b) d E = augend E b
frame_of (done applies a) d E = argument a (true-T (is_value a) d) E
frame_of (done adds a) d E = addend a (true-T (is_value a) d) E
frame_of (choosing a b) d E = condition E a b

-- All frames as one.
abbrev pub context_of : (K : List Frame) → Fine K → rules.Context → rules.Context
context_of [] f E = E
context_of (g ∷ K) f E = context_of K f.1 (frame_of g f.0 E)

frame-plug : (f : Frame) (d : Done f) (E : rules.Context) (t : Term) → rules.plug (frame_of f d E) t ≡ fill f (rules.plug E t)
unfolding rules.plug
frame-plug (to_come applies b) d E t = refl
frame-plug (to_come adds b) d E t = refl
frame-plug (done applies a) d E t = refl
frame-plug (done adds a) d E t = refl
frame-plug (choosing a b) d E t = refl

-- Both make the same expression.
pub plug-context : (K : List Frame) (f : Fine K) (E : rules.Context) (t : Term) → rules.plug (context_of K f E) t ≡ plug K (rules.plug E t)
plug-context [] f E t = refl
plug-context (g ∷ K) f E t = plug-context K f.1 (frame_of g f.0 E) t ∙ ap (plug K) (frame-plug g f.0 E t)

-- ---- steps

-- A value makes no step.
pub step_value : (C : Codebase) (t : Term) → is_value t ≡ true → step C t ≡ at_value
unfolding is_value step
step_value C (var i) v = refl
step_value C (fun i) v = refl
step_value C (con i) v = refl
step_value C (lam i b) v = refl
step_value C (app a b) v = absurd (false≢true v)
step_value C (call_event i a b) v = absurd (false≢true v)
step_value C (emit i a b) v = absurd (false≢true v)
step_value C (sum a b) v = absurd (false≢true v)
step_value C (branch c a b) v = absurd (false≢true v)

-- A filled frame is no value.
fill-moves : (f : Frame) (t : Term) → is_value (fill f t) ≡ false
unfolding is_value
fill-moves (to_come applies b) t = refl
fill-moves (to_come adds b) t = refl
fill-moves (done applies a) t = refl
fill-moves (done adds a) t = refl
fill-moves (choosing a b) t = refl

inside-inside : (f g : Term → Term) (x : Next) → inside f (inside g x) ≡ inside (λ t. f (g t)) x
inside-inside f g at_value = refl
inside-inside f g at_stuck = refl
inside-inside f g (next ev t) = refl

inside-none : (x : Next) → x ≡ inside (λ t. t) x
inside-none at_value = refl
inside-none at_stuck = refl
inside-none (next ev t) = refl

-- A step of what is no value, in one frame …
step-fill : (C : Codebase) (f : Frame) (t : Term) → Done f → is_value t ≡ false → step C (fill f t) ≡ inside (fill f) (step C t)
step-fill C (to_come applies b) t d v = step_left C t b v
step-fill C (to_come adds b) t d v = step-augend C t b v
step-fill C (done applies a) t d v = step_right C a t d v
step-fill C (done adds a) t d v = step-addend C a t d v
step-fill C (choosing a b) t d v = step-condition C t a b v

-- … and in all: a step of a focus that is no value is a step of the whole.
pub step-plug : (C : Codebase) (K : List Frame) (t : Term) → Fine K → is_value t ≡ false → step C (plug K t) ≡ inside (plug K) (step C t)
step-plug C [] t f v = inside-none (step C t)
step-plug C (g ∷ K) t f v =
    step-plug C K (fill g t) f.1 (fill-moves g t) ∙ ap (inside (plug K)) (step-fill C g t f.0 v) ∙ inside-inside (plug K) (fill g) (step C t)

-- Two values at the focus are the redex of the whole, …
pub step-two : (C : Codebase) (K : List Frame) (a v : Term) → Fine K → is_value a ≡ true → is_value v ≡ true
    → step C (plug K (app a v)) ≡ inside (plug K) (redex C a v)
unfolding is_value
step-two C K a v f p q = step-plug C K (app a v) f refl ∙ ap (inside (plug K)) (step-redex C a v p q)

-- … so are two values in a sum, …
pub step_sum : (C : Codebase) (K : List Frame) (a b : Term) → Fine K → is_value a ≡ true → is_value b ≡ true
    → step C (plug K (sum a b)) ≡ inside (plug K) (addition (constant a) (constant b))
unfolding is_value
step_sum C K a b f p q = step-plug C K (sum a b) f refl ∙ ap (inside (plug K)) (step-addition C a b p q)

-- … and a branch on a value.
pub step-branch : (C : Codebase) (K : List Frame) (c a b : Term) → Fine K → is_value c ≡ true
    → step C (plug K (branch c a b)) ≡ inside (plug K) (choice (constant c) a b)
unfolding is_value
step-branch C K c a b f p = step-plug C K (branch c a b) f refl ∙ ap (inside (plug K)) (step-choice C c a b p)

-- ---- properties that a term has exactly with its parts

-- Such a property, at what frames are made of.
pub record Shared (P : Term → Type 0) : Type 0 where
  pub two : (w : Pair) (a b : Term) → P (join w a b) → P a × P b
  pub both : (w : Pair) (a b : Term) → P a → P b → P (join w a b)
  pub three : (c a b : Term) → P (branch c a b) → P c × P a × P b
  pub all : (c a b : Term) → P c → P a → P b → P (branch c a b)

-- No commands, …
pub bare-shared : Shared Bare
bare-shared = record {
  two = λ w. elim w as (λ k. (a b : Term) → Bare (join k a b) → Bare a × Bare b) [ applies ↦ λ a b h. h | adds ↦ λ a b h. h ];
  both = λ w. elim w as (λ k. (a b : Term) → Bare a → Bare b → Bare (join k a b)) [ applies ↦ λ a b x y. (x, y) | adds ↦ λ a b x y. (x, y) ];
  three = λ c a b h. h;
  all = λ c a b x y z. (x, y, z);
}

-- … numbers of four bytes, …
pub fits-shared : Shared Fits
fits-shared = record {
  two = λ w. elim w as (λ k. (a b : Term) → Fits (join k a b) → Fits a × Fits b) [ applies ↦ λ a b h. h | adds ↦ λ a b h. h ];
  both = λ w. elim w as (λ k. (a b : Term) → Fits a → Fits b → Fits (join k a b)) [ applies ↦ λ a b x y. (x, y) | adds ↦ λ a b x y. (x, y) ];
  three = λ c a b h. h;
  all = λ c a b x y z. (x, y, z);
}

-- … defined names.
pub defined-shared : (C : Codebase) → Shared (Defined C)
defined-shared C = record {
  two = λ w. elim w as (λ k. (a b : Term) → Defined C (join k a b) → Defined C a × Defined C b) [ applies ↦ λ a b h. h | adds ↦ λ a b h. h ];
  both = λ w. elim w as (λ k. (a b : Term) → Defined C a → Defined C b → Defined C (join k a b)) [ applies ↦ λ a b x y. (x, y) | adds ↦ λ a b x y. (x, y) ];
  three = λ c a b h. h;
  all = λ c a b x y z. (x, y, z);
}

module _ {P : Term → Type 0} (s : Shared P) where
  part : (f : Frame) (t : Term) → P (fill f t) → P t
  part (to_come w b) t h = (s.two w t b h).0
  part (done w a) t h = (s.two w a t h).1
  part (choosing a b) t h = (s.three t a b h).0

  -- The focus has what the whole has.
  pub plug-part : (K : List Frame) (t : Term) → P (plug K t) → P t
  plug-part [] t h = h
  plug-part (f ∷ K) t h = part f t (plug-part K (fill f t) h)

  keeps : (f : Frame) (t n : Term) → P (fill f t) → P n → P (fill f n)
  keeps (to_come w b) t n h g = s.both w n b g (s.two w t b h).1
  keeps (done w a) t n h g = s.both w a n (s.two w a t h).0 g
  keeps (choosing a b) t n h g = let (x, y, z) = s.three t a b h in s.all n a b g y z

  -- The whole keeps it with a new focus that has it.
  pub plug-keeps : (K : List Frame) (t n : Term) → P (plug K t) → P n → P (plug K n)
  plug-keeps [] t n h g = g
  plug-keeps (f ∷ K) t n h g = plug-keeps K (fill f t) (fill f n) h (keeps f t n (plug-part K (fill f t) h) g)
