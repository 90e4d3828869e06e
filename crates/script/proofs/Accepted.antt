-- A file is accepted exactly where it is the bytes of a well-formed program. Assumes nothing.
use mathlib.Core.List.Memᴰ
use mathlib.Core.List.{List, [], ◌∷◌, ◌++◌, Memᴰ}
use mathlib.Core.Logic.{◌↔◌}
use Rattle.std.specs.Prelude.{None}
use Rattle.std.proofs.lemmas.Option.{none-some}
use mathlib.Core.Path.{◌≡◌, refl, sym, ap, subst, ◌∙◌}
use Prim.Native.Nat.{ℕ, suc, ◌+◌, ◌*◌, ◌≤◌}
use native.Mathlib.Nat.{zero-add}
use native.Mathlib.Omega.{arith}
use lib.ListN.{length, length-append}
use Rattle.words.specs.Bytes.{AllBytes}
use Rattle.calculus.specs.Lists.{each}
use Rattle.calculus.specs.Term.{Term, Program, records, Scoped, Defined, Bare, BareProgram, bodies, definition_records}
use Rattle.terms.specs.Encode.{encode, encode_from, encode_program}
use Rattle.terms.proofs.Encode.{record-length, encode-length, stands-fits}
use Rattle.refusal.specs.Refusal.{Verdict, accepted, refuse-not, accepted-parts, Settles, refuse-settles}
use Rattle.script.specs.Check.{due1, due2, due3, due4, due5, due6, due7, broken_at, loose_body, undefined_name, first_in, malformed, is_command, misplaced, too_many, definition_count, script_verdict}
use Rattle.script.specs.File.{Definition, File, file_of, program_of}
use Rattle.script.specs.File.File.{whole, broken}
use Rattle.script.specs.WellFormed.{InRanges, Commands, WellFormed}
use Rattle.script.specs.declared.Purpose.{Purpose}
use Rattle.script.specs.declared.Purpose.TheVariants.{Checking, Rewriting, PlainRun, RewrittenRun}
use Rattle.script.proofs.Bare.{NoCommand, high-kind, bare-from, bare-into}
use Rattle.terms.proofs.Loose.{scoped-loose, loose-scoped}
use Rattle.terms.specs.Walk.{loose}
use Rattle.script.proofs.Due.{due1-none, none-due1, first-clear, clear_first, else-none, malformed-clean}
use Rattle.script.proofs.Laid.{Laid, bodies_of, laid-file, file-laid, in-into, in-from, Every, every-into, every-from}
use Rattle.script.proofs.Names.{Known, other-known, bodies-below, below-bodies, defined-from, defined-into}
use Rattle.script.proofs.Placed.{Right, placed-code, code-placed, placed-from, placed-into}
use Rattle.script.proofs.Program.{FitsProgram, encode-program-one, numbered, numbered-bodies, encode-laid, records-some, Numbered, misnumbered-none, none-misnumbered, numbered-order, laid-bytes}
use Rattle.script.proofs.Ranges.{Formed, ranges-fit, ranges-from, ranges-file}
use Rattle.script.proofs.Sizes.{laid-count, many-none, none-many}

-- ---- no number is due

-- No number is due.
pub record NoneDue (u : Purpose) (s : List ℕ) : Type 0 where
  pub one : due1 u s ≡ None
  pub two : due2 s ≡ None
  pub three : due3 s ≡ None
  pub four : due4 s ≡ None
  pub five : due5 s ≡ None
  pub six : due6 s ≡ None
  pub seven : due7 u s ≡ None

-- A file is accepted exactly where no number is due.
pub accepted-none : (u : Purpose) (s : List ℕ) → script_verdict u s ≡ accepted → NoneDue u s
unfolding script_verdict
accepted-none u s e =
    let p1 = accepted-parts 1 (omega arith) (due1 u s) _ e in
    let p2 = accepted-parts 2 (omega arith) (due2 s) _ p1.1 in
    let p3 = accepted-parts 3 (omega arith) (due3 s) _ p2.1 in
    let p4 = accepted-parts 4 (omega arith) (due4 s) _ p3.1 in
    let p5 = accepted-parts 5 (omega arith) (due5 s) _ p4.1 in
    let p6 = accepted-parts 6 (omega arith) (due6 s) _ p5.1 in
    let p7 = accepted-parts 7 (omega arith) (due7 u s) _ p6.1 in
    record { one = p1.0; two = p2.0; three = p3.0; four = p4.0; five = p5.0; six = p6.0; seven = p7.0 }

-- And back.
pub none-accepted : (u : Purpose) (s : List ℕ) → NoneDue u s → script_verdict u s ≡ accepted
unfolding script_verdict
none-accepted u s n =
    refuse-not 1 _ n.one ∙ refuse-not 2 _ n.two ∙ refuse-not 3 _ n.three ∙ refuse-not 4 _ n.four ∙ refuse-not 5 _ n.five
    ∙ refuse-not 6 _ n.six ∙ refuse-not 7 _ n.seven

-- A verdict with number 0 accepts.
pub script-zero : (u : Purpose) (s : List ℕ) → Settles (script_verdict u s)
unfolding script_verdict
script-zero u s =
    refuse-settles 1 (omega arith) (due1 u s) _
    (refuse-settles 2 (omega arith) (due2 s) _
    (refuse-settles 3 (omega arith) (due3 s) _
    (refuse-settles 4 (omega arith) (due4 s) _
    (refuse-settles 5 (omega arith) (due5 s) _
    (refuse-settles 6 (omega arith) (due6 s) _ (refuse-settles 7 (omega arith) (due7 u s) accepted (λ _. refl)))))))

-- ---- number 3

-- A file that is not broken.
pub record Whole (f : File) : Type 0 where
  pub definitions : List Definition
  pub place : ℕ
  pub main : Term
  pub is : f ≡ whole definitions place main

-- A file is whole where no record is out of place.
whole_by : (f : File) → broken_at f ≡ None → Whole f
whole_by (whole ds m e) q = record { definitions = ds; place = m; main = e; is = refl }
whole_by (broken j) q = absurd (none-some j (sym q))

-- The file that is read is whole where number 3 is not due.
pub whole-file : (s : List ℕ) → due3 s ≡ None → Whole (file_of s)
whole-file s q = whole_by (file_of s) q

-- An accepted script has at most 128 definitions.
numbered-few : (f : ℕ) (ds : List Definition) → f ≤ 128 → Numbered f ds → f + length ds ≤ 128
numbered-few f [] l h = omega arith
numbered-few f (d ∷ ds) l h = omega (arith, numbered-few (suc f) ds (omega arith) h.2)

pub few-definitions : (u : Purpose) (s : List ℕ) {v : Verdict} → v ≡ script_verdict u s → v.number ≡ 0 → definition_count (file_of s) ≤ 128
few-definitions u s {v} e z = on (whole-file s n.three)
  where
    n : NoneDue u s
    n = accepted-none u s (script-zero u s (rw e at z))

    on : Whole (file_of s) → definition_count (file_of s) ≤ 128
    on w = rw w.is (let l = numbered-few 0 w.definitions (omega arith) (misnumbered-none 0 w.definitions (rw w.is at n.four)) in omega arith)

-- ---- number 5

-- The bodies' variables.
loose-bodies : (ds : List Definition) → loose_body ds ≡ None → (b : Term) → Memᴰ b (bodies_of ds) → Scoped 1 b
unfolding loose_body each
loose-bodies [] q b w = absurd (Memᴰ.not-nil w)
loose-bodies (d ∷ ds) q b (Memᴰ.head e) =
    let p = else-none (loose 1 (d.place + 1) d.body) (loose_body ds) q in rw e (loose-scoped 1 (d.place + 1) d.body p.0)
loose-bodies (d ∷ ds) q b (Memᴰ.tail w) =
    let p = else-none (loose 1 (d.place + 1) d.body) (loose_body ds) q in loose-bodies ds p.1 b w

-- And back.
bodies-loose : (ds : List Definition) → ((b : Term) → Memᴰ b (bodies_of ds) → Scoped 1 b) → loose_body ds ≡ None
unfolding loose_body each
bodies-loose [] h = refl
bodies-loose (d ∷ ds) h =
    rw (scoped-loose 1 (d.place + 1) d.body (h d.body (Memᴰ.head refl))) (bodies-loose ds (λ b w. h b (Memᴰ.tail w)))

-- ---- a file that is laid out so

-- There are as many bodies as definitions.
pub bodies-length : (ds : List Definition) → length (bodies_of ds) ≡ length ds
unfolding each
bodies-length [] = refl
bodies-length (d ∷ ds) = ap suc (bodies-length ds)

module _ (s : List ℕ) (ds : List Definition) (m : ℕ) (e : Term) (h : Laid s 0 ds m e) where
  -- Commands, for checking, rewriting and the plain run.
  bare-program : first_in s (is_command s) ≡ None → BareProgram (program_of ds e)
  bare-program q =
      let r = every-into s (NoCommand s) Bare m e (bare-from s) 0 ds h (in-into s (NoCommand s) m e 0 ds h (first-clear s (is_command s) q)) in
      record { definitions = r.bodies; main = r.main }

  -- And back.
  program-bare : BareProgram (program_of ds e) → first_in s (is_command s) ≡ None
  program-bare b =
      clear_first s (is_command s)
      (in-from s (NoCommand s) m e 0 ds h
      (every-from s (NoCommand s) Bare m e (bare-into s) (λ i n a. high-kind s i (omega (arith, a.kind))) 0 ds h record { bodies = b.definitions; main = b.main }))

  -- Function names.
  defined-program : first_in s (undefined_name s (length ds)) ≡ None → Every (Defined (bodies (bodies_of ds))) (bodies_of ds) e
  defined-program q =
      every-into s (Known s (length ds)) (Defined (bodies (bodies_of ds))) m e
      (defined-from s (length ds) (bodies (bodies_of ds)) (λ f l. below-bodies (bodies_of ds) f (omega (arith, bodies-length ds)))) 0 ds h
      (in-into s (Known s (length ds)) m e 0 ds h (first-clear s (undefined_name s (length ds)) q))

  -- And back.
  program-defined : Every (Defined (bodies (bodies_of ds))) (bodies_of ds) e → first_in s (undefined_name s (length ds)) ≡ None
  program-defined d =
      clear_first s (undefined_name s (length ds))
      (in-from s (Known s (length ds)) m e 0 ds h
      (every-from s (Known s (length ds)) (Defined (bodies (bodies_of ds))) m e
      (defined-into s (length ds) (bodies (bodies_of ds)) (λ f l. omega (arith, bodies-below (bodies_of ds) f l, bodies-length ds)))
      (λ i n a. other-known s (length ds) i (λ z. omega (arith, a.kind))) 0 ds h d))

  -- Ranges.
  ranges-program : AllBytes s → due2 s ≡ None → Every InRanges (bodies_of ds) e
  ranges-program b q =
      every-into s (Formed s) InRanges m e (λ i t w c. ranges-from s i t (stands-fits s b i t w) w c) 0 ds h
      (in-into s (Formed s) m e 0 ds h (first-clear s (malformed s) q))

  module _ (n : Numbered 0 ds) where
    -- Commands, for the rewritten run.
    placed-program : due7 RewrittenRun s ≡ None → Commands RewrittenRun (program_of ds e)
    placed-program q =
        let p = else-none (first_in s (misplaced s)) (too_many s) q in
        let r = placed-from s m e ds h n (in-into s (Right s) m e 0 ds h (first-clear s (misplaced s) p.0)) in
        (λ f b w. rw (zero-add f) at (placed-code 0 (bodies_of ds) r.0 f b w), r.1, many-none s ds m e h r.0 r.1 p.1)

    -- And back.
    program-placed : Commands RewrittenRun (program_of ds e) → due7 RewrittenRun s ≡ None
    program-placed c =
        let p = code-placed 0 (bodies_of ds) (λ f b w. rw (zero-add f) (c.0 f b w)) in
        let q : first_in s (misplaced s) ≡ None =
        clear_first s (misplaced s) (in-from s (Right s) m e 0 ds h (placed-into s m e 0 0 ds h n p c.1)) in
        rw q (none-many s ds m e h p c.1 c.2)

    -- Commands, for each purpose.
    commands-program : (u : Purpose) → due7 u s ≡ None → Commands u (program_of ds e)
    commands-program Checking q = bare-program q
    commands-program Rewriting q = bare-program q
    commands-program PlainRun q = bare-program q
    commands-program RewrittenRun q = placed-program q

    -- And back.
    program-commands : (u : Purpose) → Commands u (program_of ds e) → due7 u s ≡ None
    program-commands Checking c = program-bare c
    program-commands Rewriting c = program-bare c
    program-commands PlainRun c = program-bare c
    program-commands RewrittenRun c = program-placed c

-- ---- the file that was read

module _ (u : Purpose) (s : List ℕ) (b : AllBytes s) (ds : List Definition) (m : ℕ) (e : Term) (w : file_of s ≡ whole ds m e) where
  -- Its definitions are numbered in order.
  numbered-file : due4 s ≡ None → Numbered 0 ds
  numbered-file q = misnumbered-none 0 ds (rw w at q)

  -- Without faults 1 to 4 the file is the bytes of its program.
  pub file-bytes : due1 u s ≡ None → due2 s ≡ None → due4 s ≡ None → s ≡ encode_program (program_of ds e)
  file-bytes p q r =
      laid-bytes s b (due1-none u s p).eights (λ k l t. malformed-clean s k (first-clear s (malformed s) q k l t)) 0 0 ds m e (file-laid s 0 ds m e w) (numbered-file r)

  -- Without any fault its program is well-formed.
  pub none-formed : NoneDue u s → WellFormed u (program_of ds e)
  none-formed n =
      let h = file-laid s 0 ds m e w in
      let o = numbered-file n.four in
      let v = else-none (loose_body ds) (loose 0 m e) (rw w at n.five) in
      let r = ranges-program s ds m e h b n.two in
      let d = defined-program s ds m e h (rw w at n.six) in
      record {
        few = omega (arith, numbered-few 0 ds (omega arith) o, bodies-length ds);
        short = omega (arith, laid-count s 0 ds m e h, (due1-none u s n.one).most);
        body_ranges = r.bodies;
        main_ranges = r.main;
        body_scoped = loose-bodies ds v.0;
        main_scoped = loose-scoped 0 m e v.1;
        body_defined = d.bodies;
        main_defined = d.main;
        commands = commands-program s ds m e h o u n.seven;
      }

-- ---- the bytes of a program

-- A program has eight bytes for each of its records.
pub program-length : (f : ℕ) (bs : List Term) (e : Term) → length (encode_from f bs e) ≡ 8 * (definition_records bs + records e)
unfolding definition_records
program-length f [] e = omega (arith, encode-length e)
program-length f (b ∷ bs) e =
    omega (
      arith,
      record-length 8 f (encode b ++ encode_from (suc f) bs e),
      length-append (encode b) (encode_from (suc f) bs e),
      encode-length b,
      program-length (suc f) bs e,
    )

-- The numbers of a well-formed program fit their bytes.
pub formed-fits : (u : Purpose) (S : Program) → WellFormed u S → FitsProgram S
formed-fits u S f =
    record { bodies = λ b w. ranges-fit b (f.body_ranges b w); main = ranges-fit S.main f.main_ranges; few = omega (arith, f.few) }

-- No two well-formed programs have the same bytes.
pub formed-one : (u u' : Purpose) (S S' : Program) → WellFormed u S → WellFormed u' S' → encode_program S ≡ encode_program S' → S ≡ S'
formed-one u u' S S' f g = encode-program-one S S' (formed-fits u S f) (formed-fits u' S' g)

module _ (u : Purpose) (S : Program) (f : WellFormed u S) where
  -- Its definitions, as they lie in its bytes.
  definitions_of : List Definition
  definitions_of = numbered 0 0 S.definitions

  -- They lie there, and the main term after them.
  program-laid : (s : List ℕ) → s ≡ encode_program S → Laid s 0 definitions_of (definition_records S.definitions) S.main
  unfolding definitions_of
  program-laid s q =
      let g = formed-fits u S f in
      encode-laid s 0 0 S.definitions S.main (definition_records S.definitions) g.bodies g.main (omega (arith, g.few)) (omega arith) q

  -- Its program is the one that was given.
  program-same : program_of definitions_of S.main ≡ S
  unfolding definitions_of
  program-same = ap (λ (bs : List Term). record { definitions = bs; main = S.main }) (numbered-bodies 0 0 S.definitions)

  -- No number is due for the bytes of a well-formed program.
  formed-none : (s : List ℕ) → s ≡ encode_program S → NoneDue u s
  unfolding definitions_of
  formed-none s q =
      let ds : List Definition = definitions_of in
      let m : ℕ = definition_records S.definitions in
      let e : Term = S.main in
      let h : Laid s 0 ds m e = program-laid s q in
      let w : file_of s ≡ whole ds m e = laid-file s 0 ds m e h in
      let o : Numbered 0 ds = numbered-order 0 0 S.definitions (omega (arith, f.few)) in
      let g : WellFormed u (program_of ds e) = subst (WellFormed u) (sym program-same) f in
      let l : length s ≡ 8 * (definition_records S.definitions + records S.main) = ap length q ∙ program-length 0 S.definitions S.main in
      record {
        one = none-due1 u s record { filled = omega (arith, records-some e); eights = omega arith; most = omega (arith, f.short) };
        two = clear_first s (malformed s) (in-from s (Formed s) m e 0 ds h (ranges-file s 0 0 S.definitions e record { bodies = f.body_ranges; main = f.main_ranges } (omega (arith, f.few)) q));
        three = rw w;
        four = rw w (none-misnumbered 0 ds o);
        five = rw (w, bodies-loose ds g.body_scoped) (scoped-loose 0 m e g.main_scoped);
        six = rw w (program-defined s ds m e h record { bodies = g.body_defined; main = g.main_defined });
        seven = program-commands s ds m e h o u g.commands;
      }

-- ---- the theorem

-- An accepted file is the bytes of a well-formed program.
pub accepted-program : (u : Purpose) (s : List ℕ) → AllBytes s → script_verdict u s ≡ accepted → (S : Program) × (s ≡ encode_program S) × WellFormed u S
accepted-program u s b v =
    let n = accepted-none u s v in
    let w = whole-file s n.three in (
      program_of w.definitions w.main,
      file-bytes u s b w.definitions w.place w.main w.is n.one n.two n.four,
      none-formed u s b w.definitions w.place w.main w.is n,
    )

-- The bytes of a well-formed program are accepted.
pub program-accepted : (u : Purpose) (s : List ℕ) (S : Program) → s ≡ encode_program S → WellFormed u S → script_verdict u s ≡ accepted
program-accepted u s S q f = none-accepted u s (formed-none u S f s q)

-- A file is accepted exactly where it is the bytes of a well-formed program.
pub accepted-exactly : (u : Purpose) (s : List ℕ) → AllBytes s → (script_verdict u s ≡ accepted) ↔ ((S : Program) × (s ≡ encode_program S) × WellFormed u S)
accepted-exactly u s b = (accepted-program u s b, λ r. program-accepted u s r.0 r.1 r.2)
