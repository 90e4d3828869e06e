-- The marks of functions: the count of records that each one's body gains, 0, 2 or 4, read from a guideline's records. (In `machine` and above it
-- a mark counts the commands before a body: 0, 1 or 2.) Assumes nothing.
use Rattle.std.specs.Prelude.{cond, ◌||◌, List, ◌≡◌, ℕ, zero, suc, ◌+◌, ◌<◌, eqb, length, get_or}
use Rattle.guideline.specs.Record.{kind_at, first_number}

-- "4 records more for each distinct logged function and 2 for each other trigger": a mark after a record of kind k that names the function.
-- Kind 9 names one like a trigger.
unfoldable pub later : ℕ → ℕ → ℕ
later m k = cond (eqb k 4) 4 (cond (eqb k 5 || eqb k 9) (cond (eqb m 4) 4 2) m)

-- The mark of function f after the first n records.
unfoldable pub mark_below : List ℕ → ℕ → ℕ → ℕ
mark_below g f zero = 0
mark_below g f (suc n) = cond (eqb (first_number g n) f) (later (mark_below g f n) (kind_at g n)) (mark_below g f n)

-- The marks of the functions below 128 after the first n records.
pub record Marks (g : List ℕ) (n : ℕ) (ms : List ℕ) : Type 0 where
  pub size : length ms ≡ 128
  pub mark : (f : ℕ) → f < 128 → get_or ms f 0 ≡ mark_below g f n

-- The sum of n marks from function f on.
unfoldable pub gains : List ℕ → ℕ → ℕ → ℕ
gains ms f zero = 0
gains ms f (suc n) = get_or ms f 0 + gains ms (f + 1) n
