-- The program of a script that is accepted, and what its bodies are. Assumes nothing.
use mathlib.Core.List.{List, [], ◌∷◌, Memᴰ}
use mathlib.Core.Option.{some}
use mathlib.Core.Path.{◌≡◌, ap}
use Prim.Native.Nat.{ℕ, zero, suc, ◌<◌, ◌≤◌}
use native.Mathlib.Omega.{arith}
use lib.ListN.{length}
use Rattle.words.specs.Bytes.{AllBytes}
use Rattle.calculus.specs.Term.{Term, Program, records, size, Bare, BareCode, BareProgram, Placed, ClosedCode, ClosedTerm, bodies, codebase, definition_records}
use Rattle.calculus.specs.Term.Placed.{plain}
use Rattle.calculus.specs.Strip.{strip, strip_body}
use Rattle.calculus.proofs.Strip.{stripped-bare}
use Rattle.terms.specs.Encode.{encode_program, Fits}
use Rattle.refusal.specs.Refusal.{accepted}
use Rattle.script.specs.Check.{script_verdict, most_records}
use Rattle.script.specs.WellFormed.{WellFormed, definition_sizes}
use Rattle.script.specs.declared.Purpose.{Purpose}
use Rattle.script.specs.declared.Purpose.TheVariants.{Checking, Rewriting, PlainRun, RewrittenRun}
use Rattle.script.proofs.Program.{FitsProgram, file-encode, numbered-bodies}
use Rattle.script.proofs.Accepted.{accepted-program, formed-fits}
use Rattle.zipper.specs.Layout.{Expression}
use Rattle.calculus.proofs.Size.{size-most, bare-size}
use Rattle.script.specs.File.{program_in}
use Rattle.machine.specs.Program.{code_in, Formed}
use Rattle.machine.proofs.Strip.{strip-same, strip-size, defined-strip, strip-closed}

-- ---- the program of the bytes

-- The program whose bytes they are.
pub program-there : (s : List ℕ) (S : Program) → s ≡ encode_program S → FitsProgram S → program_in s ≡ S
unfolding program_in
program-there s S q f =
    rw (q, file-encode S f) (ap (λ (bs : List Term). record { definitions = bs; main = S.main }) (numbered-bodies 0 0 S.definitions))

module _ (u : Purpose) (s : List ℕ) where
  -- The bytes of a well-formed program.
  pub encoded-formed : (S : Program) → s ≡ encode_program S → WellFormed u S → Formed u s
  encoded-formed S q f =
      let w : program_in s ≡ S = program-there s S q (formed-fits u S f) in record { bytes = rw w q; formed = rw w f }

  -- An accepted script.
  pub accepted-formed : AllBytes s → script_verdict u s ≡ accepted → Formed u s
  accepted-formed b v = let r = accepted-program u s b v in encoded-formed r.0 r.1 r.2

-- ---- what is accepted for any purpose is accepted for the rewritten run

-- A function's body is among the bodies.
pub body-among : (bs : List Term) (f : ℕ) (b : Term) → bodies bs f ≡ some b → Memᴰ b bs
unfolding bodies
body-among [] f b e = absurd (let z : ◌≡◌ {A = ℕ} 0 1 = cc in omega arith)
body-among (x ∷ bs) zero b e = let q : b ≡ x = cc in Memᴰ.head q
body-among (x ∷ bs) (suc f) b e = Memᴰ.tail (body-among bs f b e)

-- It is below their count.
pub body_below : (bs : List Term) (f : ℕ) (b : Term) → bodies bs f ≡ some b → f < length bs
unfolding bodies
body_below [] f b e = absurd (let z : ◌≡◌ {A = ℕ} 0 1 = cc in omega arith)
body_below (x ∷ bs) zero b e = omega arith
body_below (x ∷ bs) (suc f) b e = omega (arith, body_below bs f b e)

-- Its records besides commands are among all such.
body-size : (bs : List Term) (f : ℕ) (b : Term) → bodies bs f ≡ some b → size b ≤ definition_sizes bs
unfolding bodies definition_sizes
body-size [] f b e = absurd (let z : ◌≡◌ {A = ℕ} 0 1 = cc in omega arith)
body-size (x ∷ bs) zero b e = let q : x ≡ b = cc in rw q (omega arith)
body-size (x ∷ bs) (suc f) b e = omega (arith, body-size bs f b e)

-- Not every record counts.
sizes-most : (bs : List Term) → definition_sizes bs ≤ definition_records bs
unfolding definition_sizes definition_records
sizes-most [] = omega arith
sizes-most (b ∷ bs) = omega (arith, size-most b, sizes-most bs)

-- Code without commands has none in its bodies.
pub bare-code : (S : Program) → BareProgram S → BareCode (codebase S)
bare-code S h f b e = h.definitions b (body-among S.definitions f b e)

wider : (u : Purpose) (S : Program) → most_records u ≤ 1024 → BareProgram S → WellFormed u S → WellFormed RewrittenRun S
wider u S m b h = record {
  few = h.few;
  short = omega (arith, h.short);
  body_ranges = h.body_ranges;
  main_ranges = h.main_ranges;
  body_scoped = h.body_scoped;
  main_scoped = h.main_scoped;
  body_defined = h.body_defined;
  main_defined = h.main_defined;
  commands = (
    λ f x e. plain (bare-code S b f x e),
    b.main,
    omega (arith, h.short, sizes-most S.definitions, size-most S.main),
  );
}

-- For any purpose.
any-formed : (u : Purpose) (S : Program) → WellFormed u S → WellFormed RewrittenRun S
any-formed Checking S h = wider Checking S (omega arith) h.commands h
any-formed Rewriting S h = wider Rewriting S (omega arith) h.commands h
any-formed PlainRun S h = wider PlainRun S (omega arith) h.commands h
any-formed RewrittenRun S h = h

pub formed-any : {u : Purpose} {s : List ℕ} → Formed u s → Formed RewrittenRun s
formed-any {u} {s} h = record { bytes = h.bytes; formed = any-formed u (program_in s) h.formed }

-- ---- its bodies and its main term

-- A body: placed as its function's, its numbers of four bytes, without its commands small.
pub record Body (f : ℕ) (b : Term) : Type 0 where
  pub placed : Placed f b
  pub fits : Fits b
  pub bare : Bare (strip b)
  pub few : records (strip b) ≤ 1024

module _ {u : Purpose} {s : List ℕ} (h : Formed u s) where
  -- Its code is closed, …
  pub program-code : ClosedCode (codebase (program_in s))
  program-code =
      let S : Program = program_in s in
      let w = h.formed in
      record {
        body_scoped = λ f b e. w.body_scoped b (body-among S.definitions f b e);
        body_defined = λ f b e. w.body_defined b (body-among S.definitions f b e);
      }

  -- … and so is its main term.
  pub program-main : ClosedTerm (codebase (program_in s)) (program_in s).main
  program-main = record { scoped = h.formed.main_scoped; defined = h.formed.main_defined }

module _ {s : List ℕ} (h : Formed RewrittenRun s) where
  -- Each of its functions has such a body.
  pub formed-body : (f : ℕ) (b : Term) → codebase (program_in s) f ≡ some b → Body f b
  formed-body f b e =
      let S : Program = program_in s in
      let w = h.formed in
      let p : Placed f b = w.commands.0 f b e in
      let r : Bare (strip b) = stripped-bare (codebase S) w.commands.0 f (strip b) (ap strip_body e) in
      record {
        placed = p;
        fits = (formed-fits RewrittenRun S w).bodies b (body-among S.definitions f b e);
        bare = r;
        few = omega (arith, bare-size (strip b) r, strip-size b, body-size S.definitions f b e, w.commands.2);
      }

  -- Its main term is an expression.
  pub formed-main : Expression (program_in s).main
  formed-main =
      let S : Program = program_in s in
      let w = h.formed in
      record {
        bare = w.commands.1;
        fits = (formed-fits RewrittenRun S w).main;
        small = omega (arith, bare-size S.main w.commands.1, w.commands.2);
      }

  -- Its code is closed without commands, …
  pub formed-code : ClosedCode (code_in s)
  unfolding code_in
  formed-code = strip-closed (codebase (program_in s)) (program-code h)

  -- … and so is its main term.
  pub formed-closed : ClosedTerm (code_in s) (program_in s).main
  unfolding code_in
  formed-closed = record {
    scoped = h.formed.main_scoped;
    defined = defined-strip (codebase (program_in s)) (program_in s).main h.formed.main_defined;
  }

-- Without commands the code is the program's own.
pub plain_code : {s : List ℕ} → Formed PlainRun s → code_in s ≡ codebase (program_in s)
unfolding code_in
plain_code {s} h = strip-same (codebase (program_in s)) (bare-code (program_in s) h.formed.commands)
