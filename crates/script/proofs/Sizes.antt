-- The records besides commands and their arguments: all the records less two for each command. Assumes nothing.
use mathlib.Core.Bool.{true}
use mathlib.Core.List.{List, [], ◌∷◌}
use Rattle.std.specs.Prelude.{None}
use mathlib.Core.Path.{◌≡◌, ap, ◌∙◌}
use Prim.Native.Nat.{ℕ, zero, suc, ◌+◌, ◌-◌, ◌*◌, ◌≤◌}
use native.Mathlib.Nat.{add-zero}
use native.Mathlib.Numerals.{add-one}
use native.Mathlib.Omega.{arith}
use borrow.Author.Tests.{le-ltb, ltb-false}
use Rattle.calculus.specs.Lists.{each}
use Rattle.calculus.specs.Term.{Term, records, size, Bare, Placed, definition_records}
use Rattle.calculus.specs.Term.Placed.{plain, noting, logging}
use Rattle.calculus.proofs.Size.{bare-size}
use Rattle.terms.specs.Record.{count}
use Rattle.terms.proofs.Stands.{At, Stands}
use Rattle.script.specs.Check.{is_command, commands_below, too_many}
use Rattle.script.specs.File.{Definition}
use Rattle.script.specs.WellFormed.{definition_sizes}
use Rattle.script.proofs.Bare.{NoCommand, low-kind, high-kind, command-kind, bare-into}
use Rattle.script.proofs.Due.{cond-none}
use Rattle.script.proofs.Each.{Between, each_from}
use Rattle.script.proofs.Laid.{Laid, bodies_of}
use Rattle.script.proofs.Placed.{PlacedFrom}

-- ---- the commands below a record

module _ (s : List ℕ) where
  -- A command is one more.
  one-command : (i : ℕ) → is_command s i ≡ true → commands_below s (i + 1) ≡ 1 + commands_below s i
  unfolding commands_below
  one-command i e = rw (add-one i, e)

  -- Another record is none.
  no_more : (i : ℕ) → NoCommand s i → commands_below s (i + 1) ≡ commands_below s i
  unfolding commands_below
  no_more i e = rw (add-one i, e) (omega arith)

  -- Nor are records among which there is none.
  none_between : (i n : ℕ) → Between (NoCommand s) i (i + n) → commands_below s (i + n) ≡ commands_below s i
  none_between i zero c = rw (add-zero i)
  none_between i (suc n) c =
      let z : i + suc n ≡ i + n + 1 = omega arith in
      ap (commands_below s) z ∙ no_more (i + n) (c (i + n) (omega arith) (omega arith)) ∙ none_between i n (λ k p q. c k p (omega arith))

  -- A bare term has none.
  bare-commands : (i : ℕ) (t : Term) → Stands s i t → Bare t → commands_below s (i + records t) ≡ commands_below s i
  bare-commands i t h b = none_between i (records t) (each_from (NoCommand s) i t (bare-into s i t h b))

  -- A command and variable 0.
  command-commands : (i k n : ℕ) → 6 ≤ k → k ≤ 7 → At s i k n → At s (i + 1) 1 0 → commands_below s (i + 1 + 1) ≡ 1 + commands_below s i
  command-commands i k n p q h g =
      no_more (i + 1) (low-kind s (i + 1) (omega arith)) ∙ one-command i (command-kind s i (omega (arith, h.kind)) (omega (arith, h.kind)))

  -- Each command of a body and its argument are two records that do not count.
  body-size : (i f : ℕ) (t : Term) → Placed f t → Stands s i t → records t + 2 * commands_below s i ≡ size t + 2 * commands_below s (i + records t)
  unfolding records size
  body-size i f t (plain b) = λ h. omega (arith, bare-size t b, bare-commands i t h b)
  body-size i f t (noting b p e) =
      rw e
      (λ h.
      let z : i + suc (1 + records b) ≡ i + 1 + 1 + records b = omega arith in
      let w = ap (commands_below s) z in
      omega (arith, bare-size b p, bare-commands (i + 1 + 1) b h.2 p, command-commands i 6 f (omega arith) (omega arith) h.0 h.1))
  body-size i f t (logging b p e) =
      rw e
      (λ h.
      let z : i + suc (1 + suc (1 + records b)) ≡ i + 1 + 1 + 1 + 1 + records b = omega arith in
      let w = ap (commands_below s) z in
      omega (
        arith,
        bare-size b p,
        bare-commands (i + 1 + 1 + 1 + 1) b h.2.2 p,
        command-commands i 6 f (omega arith) (omega arith) h.0 h.1,
        command-commands (i + 1 + 1) 7 f (omega arith) (omega arith) h.2.0 h.2.1,
      ))

  -- The same of the file from record i on.
  file-size : (i f : ℕ) (ds : List Definition) (m : ℕ) (e : Term) → Laid s i ds m e → PlacedFrom f (bodies_of ds) → Bare e
      → definition_records (bodies_of ds) + records e + 2 * commands_below s i ≡ definition_sizes (bodies_of ds) + size e + 2 * commands_below s (count s)
  unfolding each definition_records definition_sizes
  file-size i f [] m e h p b = let w = ap (commands_below s) h.2 in omega (arith, bare-size e b, bare-commands i e h.1 b)
  file-size i f (d ∷ ds) m e h p b =
      omega (
        arith,
        no_more i (high-kind s i (omega (arith, h.1.kind))),
        body-size (i + 1) f d.body p.0 h.2,
        file-size (i + 1 + records d.body) (suc f) ds m e h.3 p.1 b,
      )

-- The records of the file are those of its program.
pub laid-count : (s : List ℕ) (i : ℕ) (ds : List Definition) (m : ℕ) (e : Term) → Laid s i ds m e → i + definition_records (bodies_of ds) + records e ≡ count s
unfolding each definition_records
laid-count s i [] m e h = omega arith
laid-count s i (d ∷ ds) m e h = omega (arith, laid-count s (i + 1 + records d.body) ds m e h.3)

module _ (s : List ℕ) (ds : List Definition) (m : ℕ) (e : Term) (h : Laid s 0 ds m e) (p : PlacedFrom 0 (bodies_of ds)) (b : Bare e) where
  -- Where every command stands where it may, the records besides commands and their arguments are the program's size.
  pub count-size : count s - 2 * commands_below s (count s) ≡ definition_sizes (bodies_of ds) + size e
  unfolding commands_below
  count-size = omega (arith, file-size s 0 0 ds m e h p b, laid-count s 0 ds m e h)

  -- So that "over 1,024 records besides commands and their arguments" is about that size.
  pub many-none : too_many s ≡ None → definition_sizes (bodies_of ds) + size e ≤ 1024
  many-none q = omega (arith, count-size, ltb-false 1024 (count s - 2 * commands_below s (count s)) (cond-none _ (count s) q))

  -- And back.
  pub none-many : definition_sizes (bodies_of ds) + size e ≤ 1024 → too_many s ≡ None
  none-many l = rw (le-ltb 1024 (count s - 2 * commands_below s (count s)) (omega (arith, count-size)))
