-- What rewriting answers and writes (document 01, "Rewriting" and "Numbers by who can cause them"). Assumes nothing.
use Rattle.std.specs.Prelude.{cond, List, ℕ, eqb, ltb, length, Result, Ok, Err}
use Rattle.words.specs.Put.{put}
use Rattle.calculus.specs.Rewriting.{rewrite}
use Rattle.terms.specs.Record.{count}
use Rattle.terms.specs.Encode.{encode_program}
use Rattle.refusal.specs.declared.Refusal.{Refusal}
use Rattle.refusal.specs.Refusal.{Verdict, accepted, refuse_if, due_if, and_then, refused_as}
use Rattle.script.specs.File.{file_of, program_in}
use Rattle.script.specs.Check.{definition_count, script_verdict}
use Rattle.script.specs.declared.Purpose.TheVariants.{Rewriting}
use Rattle.guideline.specs.Read.{guideline_of}
use Rattle.guideline.specs.Check.{guideline_verdict}

-- "a logged function's body gains 6 then 7, a trigger's body gains 6 only, a function that is both gains 6 and 7 once. All else is copied.", and
-- "Rewriting treats h as a trigger for callEvent", the h of kind 9 (document 02, Item 2):
-- the file that rewriting a script under a guideline gives has the bytes of the rewritten program.
-- "The output has 4 records more for each distinct logged function and 2 for each other trigger": proofs/Calling.output-grows.
unfoldable pub written_file : List ℕ → List ℕ → List ℕ
written_file s g = encode_program (rewrite (guideline_of g) (program_in s))

-- "Rewriting and checking test the script, then the guideline"; "21 rewriting output too short (after 17 …)", for an output of n bytes.
unfoldable pub rewriting_verdict : List ℕ → List ℕ → ℕ → Verdict
rewriting_verdict s g n =
    and_then (script_verdict Rewriting s)
    (and_then (guideline_verdict (definition_count (file_of s)) g)
    (refuse_if 21 (due_if (ltb n (length (written_file s g)))) accepted))

-- What a call answers: a refusal's number and place, or 0, 0 and the count of the records that were written.
pub record Rewritten : Type 0 where
  pub number : ℕ
  pub place : ℕ
  pub records : ℕ

-- What a call leaves: the lent output and the answer.
pub record After : Type 0 where
  pub out : List ℕ
  pub answer : Rewritten

abbrev pub after : List ℕ → Rewritten → After
after o r = record { out = o; answer = r }

-- "Each returns its number and the first faulty record … and leaves every lent byte unchanged"; the record count is then 0.
abbrev pub refused_by : Verdict → Rewritten
refused_by v = record { number = v.number; place = v.place; records = 0 }

-- "Where nothing is refused, number and place are 0, and rewriting also returns its record count"; "only the needed bytes are written".
abbrev pub done_with : List ℕ → Rewritten
done_with file = record { number = 0; place = 0; records = count file }

-- What the program's answer says: the count of records, or a refusal.
abbrev pub answer_of : Result ℕ Refusal → Rewritten
answer_of (Ok n) = record { number = 0; place = 0; records = n }
answer_of (Err r) = refused_by (refused_as r)

unfoldable pub answered : Verdict → List ℕ → List ℕ → After
answered v file o = cond (eqb v.number 0) (after (put o 0 file) (done_with file)) (after o (refused_by v))

-- Rewriting the script s under the guideline g into the output o.
abbrev pub rewriting : List ℕ → List ℕ → List ℕ → After
rewriting s g o = answered (rewriting_verdict s g (length o)) (written_file s g) o
