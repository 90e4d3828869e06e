-- The bytes that the writer writes, record by record. Assumes nothing.
use Rattle.std.specs.Prelude.{cond, List, [], ◌++◌, ℕ, zero, suc, ◌+◌, ◌*◌, eqb, ltb, get_or}
use Rattle.words.specs.Bytes.{part}
use Rattle.terms.specs.Record.{kind_at, record_number, record8}

-- The mark of the function that is defined at record i; 0 at any other record, and where there is no mark.
unfoldable pub gain_at : List ℕ → List ℕ → ℕ → ℕ
gain_at ms s i = cond (eqb (kind_at s i) 8) (cond (ltb (record_number s i) 128) (get_or ms (record_number s i) 0) 0) 0

-- A command of kind k for function f, "with variable 0 as argument".
unfoldable pub command : ℕ → ℕ → List ℕ
command k f = record8 k f (record8 1 0 [])

-- "a logged function's body gains 6 then 7, a trigger's body gains 6 only"
unfoldable pub commands : ℕ → ℕ → List ℕ
commands m f = cond (eqb m 0) [] (cond (eqb m 4) (command 6 f ++ command 7 f) (command 6 f))

-- The k records from record i on, each followed by its commands.
unfoldable pub grown : List ℕ → List ℕ → ℕ → ℕ → List ℕ
grown ms s i zero = []
grown ms s i (suc k) = part s (8 * i) 8 ++ (commands (gain_at ms s i) (record_number s i) ++ grown ms s (i + 1) k)
