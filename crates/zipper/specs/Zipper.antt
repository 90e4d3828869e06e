-- What the functions promise: the expression is a function of the bytes of the two parts. Assumes nothing.
use Rattle.std.specs.Prelude.{true, cond, ◌||◌, ◌&&◌, List, ◌∷◌, ◌++◌, ◌≡◌, ℕ, ◌+◌, ◌-◌, ◌*◌, ◌<◌, ◌≤◌, eqb, leb, length, take, drop, Some, unwrap_or}
use Rattle.words.specs.Bytes.{part}
use Rattle.words.specs.Put.{put}
use Rattle.words.specs.Filled.{filled}
use Rattle.calculus.specs.Term.{Term, Codebase, is_value, records}
use Rattle.calculus.specs.Step.{greatest, step}
use Rattle.calculus.specs.Step.Next.{at_stuck}
use Rattle.terms.specs.Record.{kind_at, record_number}
use Rattle.terms.specs.Read.{term_at}
use Rattle.terms.specs.Encode.{encode}
use Rattle.terms.specs.Walk.{pass_term}
use Rattle.zipper.specs.Frame.{Frame, fill, plug, Fires}
use Rattle.zipper.specs.Layout.{left_size, Expression, Zip}
use Rattle.zipper.specs.declared.Entry.{Entry}
use Rattle.zipper.specs.declared.Redex.{Redex}
use Rattle.zipper.specs.declared.Sought.{Sought}
use Rattle.zipper.specs.declared.Sought.TheVariants as sought

-- The whole expression: the term that the two parts are together.
unfoldable pub whole_in : List ℕ → ℕ → ℕ → Term
whole_in e l r = term_at (take (8 * l) e ++ drop (8 * r) e) 0

-- The record after the term at record i of a file; that record, if no term begins there.
unfoldable pub end_at : List ℕ → ℕ → ℕ
end_at s i = unwrap_or (pass_term s i) i

-- A whole term begins at record i.
abbrev pub Whole : List ℕ → ℕ → Type 0
Whole s i = pass_term s i ≡ Some (end_at s i)

-- The term at record r copied to record l.
unfoldable pub copied_to : List ℕ → ℕ → ℕ → List ℕ
copied_to e l r = put e (8 * l) (part e (8 * r) (8 * (end_at e r - r)))

-- The buffers hold T as a focus in frames.
pub record ZipOf (e : List ℕ) (fs : List Entry) (l r n : ℕ) (T : Term) : Type 0 where
  pub frames : List Frame
  pub focus : Term
  pub zip : Zip e fs l r n frames focus
  pub whole : plug frames focus ≡ T

-- The two parts are T's bytes: T can be stored.
pub record Flat (e : List ℕ) (l r : ℕ) (T : Term) : Type 0 where
  pub bytes : take (8 * l) e ++ drop (8 * r) e ≡ encode T
  pub order : l ≤ r
  pub within : r < 3072
  pub wide : length e ≡ 24576
  pub sound : Expression T

-- The buffers hold T at its next redex: the innermost frame's record at p, what is done from p + 1 to below l, the focus, a value, at r.
pub record Poised (e : List ℕ) (fs : List Entry) (p l r n : ℕ) (T : Term) : Type 0 where
  pub frames : List Frame
  pub frame : Frame
  pub focus : Term
  pub zip : Zip e fs l r n (frame ∷ frames) focus
  pub whole : plug frames (fill frame focus) ≡ T
  pub place : p ≡ left_size frames
  pub fires : Fires frame focus

-- What a search for T's next redex answers, and leaves in the buffers. The outcomes *value* and *stuck* hold for every codebase.
abbrev pub SoughtIs : Term → Sought → List ℕ → List Entry → Type 0
SoughtIs T (sought.Value g) e fs = (is_value T ≡ true) × Flat e g.l g.r T
SoughtIs T (sought.Stuck g) e fs = ((C : Codebase) → step C T ≡ at_stuck) × Flat e g.l g.r T
SoughtIs T (sought.Redex x) e fs = Poised e fs x.p x.gap.l x.gap.r x.depth T

-- The answer at a function and an argument, by the function's kind: a function name, 2, and an abstraction, 4, are applied; all else is stuck.
abbrev pub head_case : ℕ → Redex → Sought
head_case k x = cond (eqb k 2 || eqb k 4) (sought.Redex x) (sought.Stuck x.gap)

-- The answer at two values in a sum: two constants, 3, whose sum fits are added.
unfoldable pub sum_case : ℕ → ℕ → ℕ → ℕ → Redex → Sought
sum_case k k' i j x = cond (eqb k 3 && (eqb k' 3 && leb (i + j) greatest)) (sought.Redex x) (sought.Stuck x.gap)

-- The answer at two values, the first at record p + 1, the second at r, by the kind of the record at p.
unfoldable pub pair_case : List ℕ → Redex → Sought
pair_case e x =
    cond (eqb (kind_at e x.p) 5) (head_case (kind_at e (x.p + 1)) x)
    (cond (eqb (kind_at e x.p) 9) (sum_case (kind_at e (x.p + 1)) (kind_at e x.gap.r) (record_number e (x.p + 1)) (record_number e x.gap.r) x) (sought.Stuck x.gap))

-- The answer at a branch on a value of kind k: a constant decides.
abbrev pub branch_case : ℕ → Redex → Sought
branch_case k x = cond (eqb k 3) (sought.Redex x) (sought.Stuck x.gap)

-- The file ends with the term at record i, an expression.
pub record Last (s : List ℕ) (i : ℕ) : Type 0 where
  pub bytes : drop (8 * i) s ≡ encode (term_at s i)
  pub sound : Expression (term_at s i)

-- T lies at the end of the buffer, from record r on; the bytes before it are as they were.
pub record Loaded (T : Term) (r : ℕ) (e e' : List ℕ) : Type 0 where
  pub start : r ≡ 3072 - records T
  pub bytes : e' ≡ put e (8 * r) (encode T)

-- T lies at the front of the buffer, n records, and zeros follow.
pub record Stored (T : Term) (n : ℕ) (e e' : List ℕ) : Type 0 where
  pub count : n ≡ records T
  pub bytes : e' ≡ filled 24576 (encode T) e
