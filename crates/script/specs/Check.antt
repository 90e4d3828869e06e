-- The script author's refusals, 1 to 7 (document 01, "Numbers by who can cause them"): each number is the first faulty record of the whole
-- file, or not due. Assumes nothing.
use Rattle.std.specs.Prelude.{Bool, cond, not, ◌&&◌, ◌||◌, List, [], ◌∷◌, ℕ, zero, suc, ◌+◌, ◌-◌, ◌*◌, ◌%◌, eqb, leb, ltb, length, Option, None, Some}
use Rattle.std.specs.Option.{option_or}
use Rattle.terms.specs.Record.{count, kind_at, spare_at, record_number, in_range}
use Rattle.terms.specs.Walk.{loose}
use Rattle.refusal.specs.Refusal.{Verdict, accepted, refuse_if, due_if, found_below}
use Rattle.script.specs.File.{Definition, File, file_of}
use Rattle.script.specs.File.File.{whole, broken}
use Rattle.script.specs.declared.Purpose.{Purpose}
use Rattle.script.specs.declared.Purpose.TheVariants.{Checking, Rewriting, PlainRun, RewrittenRun}

-- "It has 1 to 1,024 records"; "a rewritten script has up to 1,296 records" (document 02, Item 2): four more for each of 8 logged functions and two
-- for each of the 120 others that 128 definitions leave.
abbrev pub most_records : Purpose → ℕ
most_records Checking = 1024
most_records Rewriting = 1024
most_records PlainRun = 1024
most_records RewrittenRun = 1296

-- "1 length 0, not a multiple of 8, or too many records" (place 0)
abbrev pub due1 : Purpose → List ℕ → Option ℕ
due1 u s = due_if (eqb (length s) 0 || (not (eqb (length s % 8) 0) || ltb (most_records u) (count s)))

-- The first record of the file that fails a test.
abbrev pub first_in : List ℕ → (ℕ → Bool) → Option ℕ
first_in s p = found_below p (count s)

-- "2 unknown kind, spare byte or range"
abbrev pub malformed : List ℕ → ℕ → Bool
malformed s i = not (eqb (spare_at s i) 0 && in_range (kind_at s i) (record_number s i))

abbrev pub due2 : List ℕ → Option ℕ
due2 s = first_in s (malformed s)

-- "3 a record that cannot stand here, or the end too early (place: record count)"
abbrev pub broken_at : File → Option ℕ
broken_at (whole ds i e) = None
broken_at (broken j) = Some j

abbrev pub due3 : List ℕ → Option ℕ
due3 s = broken_at (file_of s)

-- "4 definition number not the next, or a 129th": the first such definition's record, k definitions standing before these.
unfoldable pub misnumbered : ℕ → List Definition → Option ℕ
misnumbered k [] = None
misnumbered k (d ∷ ds) = cond (eqb d.number k && ltb k 128) (misnumbered (k + 1) ds) (Some d.place)

abbrev pub misnumbered_in : File → Option ℕ
misnumbered_in (whole ds i e) = misnumbered 0 ds
misnumbered_in (broken j) = None

abbrev pub due4 : List ℕ → Option ℕ
due4 s = misnumbered_in (file_of s)

-- "5 variable too large"; "a definition counting as one" abstraction.
unfoldable pub loose_body : List Definition → Option ℕ
loose_body [] = None
loose_body (d ∷ ds) = option_or (loose 1 (d.place + 1) d.body) (loose_body ds)

abbrev pub loose_in : File → Option ℕ
loose_in (whole ds i e) = option_or (loose_body ds) (loose 0 i e)
loose_in (broken j) = None

abbrev pub due5 : List ℕ → Option ℕ
due5 s = loose_in (file_of s)

-- "6 function name (kind 2) undefined"
abbrev pub definition_count : File → ℕ
definition_count (whole ds i e) = length ds
definition_count (broken j) = 0

-- The same of a whole file alone: a broken one has no definitions to count.
abbrev pub definitions_in : File → Option ℕ
definitions_in (whole ds i e) = Some (length ds)
definitions_in (broken j) = None

abbrev pub undefined_name : List ℕ → ℕ → ℕ → Bool
undefined_name s n i = eqb (kind_at s i) 2 && not (ltb (record_number s i) n)

abbrev pub due6 : List ℕ → Option ℕ
due6 s = first_in s (undefined_name s (definition_count (file_of s)))

-- "7 kind 6 or 7 misplaced (place: that record, also for a wrong function or argument), or present for checking, rewriting or a plain run;
-- if neither, over 1,024 records besides commands and their arguments (place: record count)"
abbrev pub is_command : List ℕ → ℕ → Bool
is_command s i = leb 6 (kind_at s i) && leb (kind_at s i) 7

-- Variable 0 stands at record i.
abbrev pub is_parameter : List ℕ → ℕ → Bool
is_parameter s i = ltb i (count s) && (eqb (kind_at s i) 1 && eqb (record_number s i) 0)

-- A command of the given kind at record i that names function f, with variable 0 as argument.
abbrev pub command_of : List ℕ → ℕ → ℕ → ℕ → Bool
command_of s k f i = eqb (kind_at s i) k && (eqb (record_number s i) f && is_parameter s (i + 1))

-- "a definition's body may begin with 6 …, naming its own definition": record i is right after a definition's record.
abbrev pub placed_call : List ℕ → ℕ → Bool
placed_call s i = leb 1 i && (eqb (kind_at s (i - 1)) 8 && command_of s 6 (record_number s (i - 1)) i)

-- "… and then 7 as its rest": record i is right after such a 6 and its argument.
abbrev pub placed_emit : List ℕ → ℕ → Bool
placed_emit s i = leb 2 i && (placed_call s (i - 2) && command_of s 7 (record_number s (i - 2)) i)

abbrev pub misplaced : List ℕ → ℕ → Bool
misplaced s i = is_command s i && not (placed_call s i || placed_emit s i)

-- The records below n that are commands.
unfoldable pub commands_below : List ℕ → ℕ → ℕ
commands_below s zero = 0
commands_below s (suc n) = cond (is_command s n) 1 0 + commands_below s n

-- Where every command is placed, each has an argument of one record.
abbrev pub too_many : List ℕ → Option ℕ
too_many s = cond (ltb 1024 (count s - 2 * commands_below s (count s))) (Some (count s)) None

abbrev pub due7 : Purpose → List ℕ → Option ℕ
due7 Checking s = first_in s (is_command s)
due7 Rewriting s = first_in s (is_command s)
due7 PlainRun s = first_in s (is_command s)
due7 RewrittenRun s = option_or (first_in s (misplaced s)) (too_many s)

-- ---- "Each is tested over the whole file before the next number."

unfoldable pub script_verdict : Purpose → List ℕ → Verdict
script_verdict u s =
    refuse_if 1 (due1 u s)
    (refuse_if 2 (due2 s)
    (refuse_if 3 (due3 s)
    (refuse_if 4 (due4 s)
    (refuse_if 5 (due5 s)
    (refuse_if 6 (due6 s)
    (refuse_if 7 (due7 u s) accepted))))))
