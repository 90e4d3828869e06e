-- What firing a redex does, by the calculus's step. Assumes nothing.
use Rattle.std.specs.Prelude.{Bool, cond, List, ◌⊎◌, ◌≡◌, ℕ, ◌+◌, ◌-◌, ◌*◌, ◌<◌, ◌≤◌, eqb, leb, length, Option, Some, None}
use Rattle.calculus.specs.Term.{Term, Codebase, Defined, size}
use Rattle.calculus.specs.Step.{Next}
use Rattle.calculus.specs.Step.Next.{at_value, at_stuck, next}
use Rattle.calculus.specs.Run.{limit}
use Rattle.terms.specs.Record.{count, kind_at, record_number}
use Rattle.terms.specs.Read.{term_at}
use Rattle.substitution.specs.Copied.{Lies}
use Rattle.zipper.specs.declared.Entry.{Entry}
use Rattle.zipper.specs.Zipper.{end_at, ZipOf, Poised}
use Rattle.machine.specs.Bodies.{body_of}
use Rattle.machine.specs.declared.Body.{Body}

-- The record of a called function's body.
abbrev pub called_at : List ℕ → List Body → ℕ → ℕ
called_at e bodies p = (body_of bodies (record_number e (p + 1))).at

-- The body that the redex at record p goes to: the called function's in the script, or the abstraction's in the expression.
unfoldable pub body_for : List ℕ → List ℕ → List Body → ℕ → Term
body_for e s bodies p = cond (eqb (kind_at e (p + 1)) 2) (term_at s (called_at e bodies p)) (term_at e (p + 2))

-- That body lies there.
pub record Source (e s : List ℕ) (bodies : List Body) (p : ℕ) : Type 0 where
  pub inside : p + 1 < count e
  pub kinds : (kind_at e (p + 1) ≡ 2) ⊎ (kind_at e (p + 1) ≡ 4)
  pub named : kind_at e (p + 1) ≡ 2 → record_number e (p + 1) < length bodies
  pub called : kind_at e (p + 1) ≡ 2 → Lies s (called_at e bodies p) (term_at s (called_at e bodies p))
  pub applied : kind_at e (p + 1) ≡ 4 → Lies e (p + 2) (term_at e (p + 2))

-- An application at record p with its argument at r, in an expression of at most 1,024 records that ends where the buffer does.
pub record Around (e : List ℕ) (p r : ℕ) : Type 0 where
  pub wide : length e ≡ 24576
  pub begins : r < end_at e r
  pub within : end_at e r ≤ 3072
  pub small : p + (3072 - end_at e r) < 1024

-- Where the argument ends, and the bytes that the other records leave for the application's result.
pub record RoomIs (e : List ℕ) (p r end room : ℕ) : Type 0 where
  pub end-is : end ≡ end_at e r
  pub room-is : room ≡ 8 * (1024 - (p + (3072 - end)))
  pub begins : r < end
  pub within : end ≤ 3072
  pub small : p + (3072 - end) < 1024

-- The buffers hold T at its next redex, and all its function names are defined.
pub record Ready (C : Codebase) (e : List ℕ) (p l r : ℕ) (T : Term) : Type 0 where
  pub entries : List Entry
  pub frames : ℕ
  pub poised : Poised e entries p l r frames T
  pub defined : Defined C T

-- What is answered, by T's step: where the next focus begins, and the buffers hold the next expression at the redex's place, one frame less,
-- whatever entries held T's; or none, it is large, and nothing has changed.
abbrev pub FiredIs : Term → Next → ℕ → ℕ → ℕ → Option ℕ → List ℕ → List ℕ → Type 0
FiredIs T at_value p l r x e e' = ⊥
FiredIs T at_stuck p l r x e e' = ⊥
FiredIs T (next ev T') p l r (Some r') e e' = (size T' ≤ limit) × ((fs : List Entry) (n : ℕ) → Poised e fs p l r n T → ZipOf e' fs p r' (n - 1) T')
FiredIs T (next ev T') p l r None e e' = (limit < size T') × (e' ≡ e)

-- Whether T's step leaves at most 1,024 records.
abbrev pub FitsIs : Next → Bool → Type 0
FitsIs at_value x = ⊥
FitsIs at_stuck x = ⊥
FitsIs (next ev T') x = x ≡ leb (size T') limit
