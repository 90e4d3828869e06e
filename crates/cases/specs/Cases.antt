-- The ten rehearsed cases of document 01 on bytes, gathered in one conjunction. Assumes nothing.
use Rattle.std.specs.Prelude.{false, List, [], ◌∷◌, ◌++◌, ◌≡◌, ℕ, ◌≤◌, length}
use Rattle.words.specs.Bytes.{bytes}
use Rattle.words.specs.Filled.{zeros}
use Rattle.calculus.specs.Term.{view_of}
use Rattle.calculus.specs.Entailment.{Entry}
use Rattle.terms.specs.Record.{record8}
use Rattle.guideline.specs.Encode.{record16}
use Rattle.machine.specs.declared.Outcome.{Outcome}
use Rattle.machine.specs.declared.Outcome.TheVariants.{Value, Stuck, Spent}
use Rattle.history.specs.Entries.{entries_buffer}
use Rattle.rewriting.specs.Answer.{written_file}
use Rattle.rewritten.specs.Answer.{too_short}
use Rattle.rewritten.specs.Answer.RewrittenRun.{Ran}
use Rattle.rehearsal.specs.Rehearsal.{rehearsal_of}
use Rattle.records.specs.Cases.{CaseH, CaseI, case_i}

-- ---- scripts, as kind:number

-- "Functions 0 (override) and 1 (fire) have variable 0 as body": `8:0 1:0 8:1 1:0` and then main.
abbrev pub show : List ℕ → List ℕ
show main = record8 8 0 (record8 1 0 (record8 8 1 (record8 1 0 main)))

-- Function f on constant a, and then g on constant b: `5:0 4:0 5:0 2:g 3:b 5:0 2:f 3:a`.
abbrev pub in_turn : ℕ → ℕ → ℕ → ℕ → List ℕ
in_turn f a g b = record8 5 0 (record8 4 0 (record8 5 0 (record8 2 g (record8 3 b (record8 5 0 (record8 2 f (record8 3 a [])))))))

-- ---- guidelines

-- Function 1 is logged; the triggers and conditions follow.
abbrev pub logs : List ℕ → List ℕ
logs rest = record16 4 0 0 0 (bytes 4 1 ++ (zeros 8 ++ rest))

abbrev pub trigger : ℕ → List ℕ → List ℕ
trigger f rest = record16 5 0 0 0 (bytes 4 f ++ (zeros 8 ++ rest))

-- "G logs 1 with trigger 0."
abbrev pub after_override : List ℕ
after_override = logs (trigger 0 [])

-- "two triggers 0 with t_1 < t_2"
abbrev pub two_in_order : List ℕ
two_in_order = logs (trigger 0 (trigger 0 (record16 6 0 1 2 (zeros 12))))

-- ---- the cases

-- A line of the listing: time, function, view kind, view number.
abbrev pub line : ℕ → ℕ → ℕ → ℕ → Entry
line t f k n = record { time = t; function = f; seen = view_of k n }

-- Script s rehearsed under guideline g with budget n shows outcome x after k steps with m noted calls, and leaves just these log entries,
-- in all buffers that are long enough.
pub record Shows (s g : List ℕ) (n : ℕ) (x : Outcome) (k m : ℕ) (es : List Entry) : Type 0 where
  pub answer : (o e c h l t : List ℕ) → length (written_file s g) ≤ length o → too_short (length e) (length c) (length h) (length l) (length t) ≡ false
      → (rehearsal_of s g n o e c h l t).run.answer ≡ Ran x record { steps = k; history = m; log = length es }
  pub log : (o e c h l t : List ℕ) → length (written_file s g) ≤ length o → too_short (length e) (length c) (length h) (length l) (length t) ≡ false
      → (rehearsal_of s g n o e c h l t).run.log ≡ entries_buffer es l

pub record TenCases : Type 0 where
  -- "(a) that run"
  pub a : Shows (show (in_turn 0 3 1 7)) after_override 1000 Value 3 2 (line 2 1 3 7 ∷ [])
  -- "(b) budget 2: spent 2, log empty"
  pub b : Shows (show (in_turn 0 3 1 7)) after_override 2 Spent 2 1 []
  -- "(c) override and fire exchanged in main: log empty"
  pub c : Shows (show (in_turn 1 3 0 7)) after_override 1000 Value 3 2 []
  -- "(d) main 3:1, budget 0: value 0"
  pub d : Shows (show (record8 3 1 [])) after_override 0 Value 0 0 []
  -- "(e) main `5:0 3:7 3:7`: stuck 0"
  pub e : Shows (show (record8 5 0 (record8 3 7 (record8 3 7 [])))) after_override 1000 Stuck 0 0 []
  -- "(f) fire its own trigger, called on 5 then 7 as in (a): only the second logged"
  pub f : Shows (show (in_turn 1 5 1 7)) (logs (trigger 1 [])) 1000 Value 3 2 (line 2 1 3 7 ∷ [])
  -- "(g) no trigger, fire on abstraction 9: entry 0 1 4 9"
  pub g : Shows (show (record8 5 0 (record8 2 1 (record8 4 9 (record8 1 0 []))))) (logs []) 1000 Value 1 1 (line 0 1 4 9 ∷ [])
  -- "(h) p0(1,2), p0(2,3), p1 the closure of p0: p1(1,3) holds, p1(3,1) not"
  pub h : (table : List ℕ) → 8192 ≤ length table → CaseH table
  -- "(i) an argument outside the facts satisfies no p0": called on 7, which is outside, and on 1.
  pub i : Shows (show (in_turn 1 7 1 1)) case_i 1000 Value 3 2 (line 2 1 3 1 ∷ [])
  pub i-outside : (table : List ℕ) → 8192 ≤ length table → CaseI table
  -- "(j) two triggers 0 with t_1 < t_2 and one override: nothing logged"
  pub j : Shows (show (in_turn 0 3 1 7)) two_in_order 1000 Value 3 2 []
