-- Worked readings, walks, ranges and encodings, by computing. Below `Read`, so that they may unfold what is shut there. Assumes nothing.
use Rattle.std.specs.Prelude.{true, false, [], ◌∷◌, ◌≡◌, refl, Some, None, Ok}
use Rattle.calculus.specs.Term.{Program, records}
use Rattle.calculus.specs.Term.Term.{var, fun, con, lam, app, call_event, emit, sum, branch}
use Rattle.words.specs.Bytes.{number, bytes, part}
use Rattle.terms.specs.Record.{record8, arity_of, arity_at, in_range}
use Rattle.terms.specs.Read.{read_f, read_at}
use Rattle.terms.specs.Read.Read.{got, stuck}
use Rattle.terms.specs.Encode.{encode_program}
use Rattle.terms.specs.Walk.{walked, loose}

-- The main term of the rehearsed show, `5:0 4:0 5:0 2:1 3:7 5:0 2:0 3:3`, and a record after it.
show : read_at (record8 5 0 (record8 4 0 (record8 5 0 (record8 2 1 (record8 3 7 (record8 5 0 (record8 2 0 (record8 3 3 (record8 8 9 []))))))))) 0
    ≡ got (app (lam 0 (app (fun 1) (con 7))) (app (fun 0) (con 3))) 8
unfolding number bytes part arity_of arity_at read_f read_at
show = refl

-- A body that rewriting gave commands, read from its second record, and a number of four bytes.
commands : read_at (record8 8 1 (record8 6 1 (record8 1 0 (record8 7 1 (record8 1 0 (record8 2 305419896 [])))))) 1
    ≡ got (call_event 1 (var 0) (emit 1 (var 0) (fun 305419896))) 6
unfolding number bytes part arity_of arity_at read_f read_at
commands = refl

-- A branch on a sum, `10:0 9:0 3:1 3:2 3:3 3:4`, and the same with its third term missing.
three : read_at (record8 10 0 (record8 9 0 (record8 3 1 (record8 3 2 (record8 3 3 (record8 3 4 [])))))) 0 ≡ got (branch (sum (con 1) (con 2)) (con 3) (con 4)) 6
unfolding number bytes part arity_of arity_at read_f read_at
three = refl

two-of-three : read_at (record8 10 0 (record8 9 0 (record8 3 1 (record8 3 2 (record8 3 3 []))))) 0 ≡ stuck 5
unfolding number bytes part arity_of arity_at read_f read_at
two-of-three = refl

-- An application with no argument is stuck at the end, and a definition inside a term is stuck there.
short : read_at (record8 5 0 (record8 1 0 [])) 0 ≡ stuck 2
unfolding number bytes part arity_of arity_at read_f read_at
short = refl

inner : read_at (record8 5 0 (record8 8 0 (record8 1 0 []))) 0 ≡ stuck 1
unfolding number bytes part arity_of arity_at read_f read_at
inner = refl

-- A part of a record at the end is no record.
cut : read_at (record8 4 3 (1 ∷ 0 ∷ 0 ∷ 0 ∷ 0 ∷ [])) 0 ≡ stuck 1
unfolding number bytes part arity_of arity_at read_f read_at
cut = refl

-- The body of a definition, `4:7 5:0 1:1 1:2`: with one abstraction around it variable 2 is loose, at record 3; with two none is.
walk-one : walked (record8 4 7 (record8 5 0 (record8 1 1 (record8 1 2 [])))) 1 0 ≡ Ok record { end = 4; loose = Some 3 }
unfolding number bytes part arity_of arity_at read_f read_at loose records
walk-one = refl

walk-two : walked (record8 4 7 (record8 5 0 (record8 1 1 (record8 1 2 [])))) 2 0 ≡ Ok record { end = 4; loose = None }
unfolding number bytes part arity_of arity_at read_f read_at loose records
walk-two = refl

-- The first of two loose variables is told.
walk_first : walked (record8 5 0 (record8 1 0 (record8 1 0 []))) 0 0 ≡ Ok record { end = 3; loose = Some 1 }
unfolding number bytes part arity_of arity_at read_f read_at loose records
walk_first = refl

-- One that is loose in the third term of a branch, `10:0 1:0 1:0 1:1`, with one abstraction around it.
walk-third : walked (record8 10 0 (record8 1 0 (record8 1 0 (record8 1 1 [])))) 1 0 ≡ Ok record { end = 4; loose = Some 3 }
unfolding number bytes part arity_of arity_at read_f read_at loose records
walk-third = refl

-- The ends of the ranges.
ranges : (in_range 0 0 ≡ false) × (in_range 1 1023 ≡ true) × (in_range 1 1024 ≡ false) × (in_range 2 4294967295 ≡ true) × (in_range 3 4294967295 ≡ true)
    × (in_range 4 65535 ≡ true) × (in_range 4 65536 ≡ false) × (in_range 5 0 ≡ true) × (in_range 5 1 ≡ false) × (in_range 6 4294967295 ≡ true)
    × (in_range 7 4294967295 ≡ true) × (in_range 8 4294967295 ≡ true) × (in_range 9 0 ≡ true) × (in_range 9 1 ≡ false)
    × (in_range 10 0 ≡ true) × (in_range 10 1 ≡ false) × (in_range 11 0 ≡ false)
unfolding in_range
ranges = (refl, refl, refl, refl, refl, refl, refl, refl, refl, refl, refl, refl, refl, refl, refl, refl, refl)

-- The script of the rehearsed show, `8:0 1:0 8:1 1:0 5:0 4:0 5:0 2:1 3:7 5:0 2:0 3:3`.
script : Program
script = record { definitions = var 0 ∷ var 0 ∷ []; main = app (lam 0 (app (fun 1) (con 7))) (app (fun 0) (con 3)) }

script-bytes : encode_program script
    ≡ record8 8 0 (record8 1 0 (record8 8 1 (record8 1 0 (record8 5 0 (record8 4 0 (record8 5 0 (record8 2 1 (record8 3 7 (record8 5 0 (record8 2 0 (record8 3 3 [])))))))))))
unfolding bytes script
script-bytes = refl
