-- The sample of document 01: its listing is the two lines there, byte for byte. Assumes nothing.
use mathlib.Core.List.Memᴰ
use mathlib.Core.List.{List, [], ◌∷◌, Memᴰ}
use mathlib.Core.Path.{◌≡◌, refl}
use Prim.Native.Nat.{ℕ, ◌≤◌}
use native.Mathlib.Omega.{arith}
use lib.ListN.{length}
use Rattle.words.specs.Bytes.{bytes, number, part}
use Rattle.words.specs.Filled.{zeros, zeros-length}
use Rattle.calculus.specs.Lists.{any, all, keep, each, distinct}
use Rattle.calculus.specs.Term.{Term, Program, bodies}
use Rattle.calculus.specs.Term.Term.{var}
use Rattle.calculus.specs.Rewriting.{logevents, triggers, logged, noted, instrument, rewrite_from, rewrite}
use Rattle.calculus.specs.Cases as trees
use Rattle.terms.specs.Encode.{Fits, encode_program}
use Rattle.refusal.specs.First.{first_from}
use Rattle.script.proofs.Program.{FitsProgram}
use Rattle.guideline.specs.Record.{kind_at, predicate_at, first_at, second_at}
use Rattle.guideline.specs.Read.{numbers_from, end_of, row_from, of_kind, guideline_of}
use Rattle.rewriting.specs.Answer.{written_file}
use Rattle.machine.proofs.Program.{program-there}
use Rattle.history.specs.Entries.{AllInRange, buffer-read}
use Rattle.cases.specs.Cases.{show, in_turn, after_override, line}
use Rattle.cases.proofs.Cases.{ten}
use Rattle.listing.specs.Text.{digits_of, entry_line, entry_lines}
use Rattle.listing.specs.Text as text
use Rattle.listing.specs.Listing.{rehearsed, listing}
use Rattle.listing.proofs.Printed.{buffers-fit}

abbrev script : List ℕ
script = show (in_turn 0 3 1 7)

abbrev program : Program
program = trees.show (trees.in_turn 0 3 1 7)

-- Both bodies are variable 0, and all numbers are small.
program-fits : FitsProgram program
program-fits = record { bodies = body; main = omega arith; few = omega arith }
  where
    body : (b : Term) → Memᴰ b (var 0 ∷ var 0 ∷ []) → Fits b
    body b (Memᴰ.head q) = rw q (omega arith)
    body b (Memᴰ.tail (Memᴰ.head q)) = rw q (omega arith)
    body b (Memᴰ.tail (Memᴰ.tail w)) = absurd (Memᴰ.not-nil w)

guideline-is : guideline_of after_override ≡ trees.after_override
unfolding bytes number part each kind_at predicate_at first_at second_at numbers_from end_of row_from of_kind guideline_of first_from
guideline-is = refl

-- The rewritten program has 18 records.
rewritten-length : length (encode_program (rewrite trees.after_override program)) ≡ 144
unfolding bytes any all keep each distinct bodies logevents triggers logged noted instrument rewrite_from
rewritten-length = refl

written-length : length (written_file script after_override) ≡ 144
unfolding bytes written_file
written-length = rw (program-there script program refl program-fits, guideline-is) rewritten-length

-- So the output is long enough for it.
written-fits : length (written_file script after_override) ≤ length (zeros 10368)
written-fits = rw (zeros-length 10368) (omega (arith, written-length))

-- The numbers of its one entry are small.
entry-ranged : AllInRange (line 2 1 3 7 ∷ [])
entry-ranged x m = rw (Memᴰ.eq_of_singleton m) record { time = omega arith; function = omega arith; kind = omega arith; number = omega arith }

-- "prints all of: 2 1 3 7, value 3".
pub sample : listing script after_override ≡ 50 ∷ 32 ∷ 49 ∷ 32 ∷ 51 ∷ 32 ∷ 55 ∷ 10 ∷ 118 ∷ 97 ∷ 108 ∷ 117 ∷ 101 ∷ 32 ∷ 51 ∷ 10 ∷ []
unfolding listing rehearsed each digits_of text.numeral entry_line entry_lines
sample =
    rw (
      ten.a.answer (zeros 10368) (zeros 24576) (zeros 24576) (zeros 16384) (zeros 16384) (zeros 8192) written-fits buffers-fit,
      ten.a.log (zeros 10368) (zeros 24576) (zeros 24576) (zeros 16384) (zeros 16384) (zeros 8192) written-fits buffers-fit,
      buffer-read (line 2 1 3 7 ∷ []) (zeros 16384) entry-ranged,
    )
    refl
