-- What the parts of the check say of a file: one walk for numbers 3 to 6, and how it goes on from one definition to the next. Only contracts
-- of private functions cite this. Assumes nothing.
use Rattle.std.specs.Prelude.{cond, ◌&&◌, List, ◌≡◌, ℕ, ◌+◌, ◌≤◌, eqb, ltb, length, Option, None, Some, Result, Ok, Err}
use Rattle.std.specs.Option.{option_or}
use Rattle.terms.specs.Record.{count}
use Rattle.terms.specs.Walk.{loose}
use Rattle.refusal.specs.Refusal.{Verdict, accepted, refuse_if}
use Rattle.script.specs.File.{File, file_of, file_from}
use Rattle.script.specs.File.File.{whole, broken}
use Rattle.script.specs.Check.{broken_at, misnumbered, loose_body, definition_count, due3, due4, due5, due6, due7}
use Rattle.script.specs.declared.Purpose.{Purpose}
use Rattle.script.specs.declared.Faults.{Faults}

-- ---- what is found

abbrev pub no_faults : Faults
no_faults = record { definitions = 0; misnumbered = None; loose = None }

-- A definition at record i of that number, with so many before it, where it is not the next or is a 129th.
abbrev pub misnumbered_at : ℕ → ℕ → ℕ → Option ℕ
misnumbered_at before i number = cond (eqb number before && ltb before 128) None (Some i)

-- After a definition at record i: its number, and the body's first loose variable.
abbrev pub after_definition : Faults → ℕ → ℕ → Option ℕ → Faults
after_definition f i number l =
    record {
      definitions = f.definitions + 1;
      misnumbered = option_or f.misnumbered (misnumbered_at f.definitions i number);
      loose = option_or f.loose l;
    }

-- After the main term.
abbrev pub after_main : Faults → Option ℕ → Faults
after_main f l = record { definitions = f.definitions; misnumbered = f.misnumbered; loose = option_or f.loose l }

-- ---- what it says of the file

-- A whole file with these faults.
pub record Told (s : List ℕ) (f : Faults) : Type 0 where
  pub unbroken : due3 s ≡ None
  pub counted : definition_count (file_of s) ≡ f.definitions
  pub numbered : due4 s ≡ f.misnumbered
  pub scoped : due5 s ≡ f.loose

abbrev pub Tells : List ℕ → Result Faults ℕ → Type 0
Tells s (Err j) = due3 s ≡ Some j
Tells s (Ok f) = Told s f

-- What is left to test in a whole file.
abbrev pub whole_verdict : Purpose → List ℕ → Verdict
whole_verdict u s = refuse_if 4 (due4 s) (refuse_if 5 (due5 s) (refuse_if 6 (due6 s) (refuse_if 7 (due7 u s) accepted)))

-- ---- on the way: what the definitions that were passed add to the rest of the file

abbrev pub count_after : ℕ → File → ℕ
count_after k (whole ds i e) = k + length ds
count_after k (broken j) = 0

abbrev pub misnumbered_after : Option ℕ → ℕ → File → Option ℕ
misnumbered_after o k (whole ds i e) = option_or o (misnumbered k ds)
misnumbered_after o k (broken j) = None

abbrev pub loose_after : Option ℕ → File → Option ℕ
loose_after o (whole ds i e) = option_or o (option_or (loose_body ds) (loose 0 i e))
loose_after o (broken j) = None

-- The walk has come to record i and found f.
pub record Reached (s : List ℕ) (i : ℕ) (f : Faults) : Type 0 where
  pub within : i ≤ count s
  pub few : f.definitions ≤ i
  pub unbroken : due3 s ≡ broken_at (file_from s i)
  pub counted : definition_count (file_of s) ≡ count_after f.definitions (file_from s i)
  pub numbered : due4 s ≡ misnumbered_after f.misnumbered f.definitions (file_from s i)
  pub scoped : due5 s ≡ loose_after f.loose (file_from s i)
