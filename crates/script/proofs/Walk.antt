-- The walk over the file: how what it has found goes on from one definition to the next, and what it comes to. Assumes nothing.
use mathlib.Core.Bool.{Bool, true, false, cond, ◌&&◌}
use mathlib.Core.List.{List, []}
use Rattle.std.specs.Prelude.{Option, None, Some, Ok, Err}
use mathlib.Core.Path.{◌≡◌, refl, sym, ap, ◌∙◌}
use Prim.Native.Nat.{ℕ, ◌+◌, ◌<◌, ◌≤◌}
use native.Mathlib.Omega.{arith}
use lib.Dec.{eqb, ltb}
use lib.ListN.{length}
use Rattle.calculus.specs.Term.{Term}
use Rattle.terms.specs.Record.{count, record_number}
use Rattle.terms.specs.Read.{Read, read_at}
use Rattle.terms.specs.Read.Read.{got, stuck}
use Rattle.terms.specs.Walk.{loose, walked, passed_of, pass_term}
use Rattle.terms.proofs.Loose.{or_assoc}
use Rattle.terms.proofs.Walk.{walked-read, walked-stuck, walked-within}
use Rattle.terms.specs.declared.Extent.{Extent}
use Rattle.terms.proofs.Pass.{pass-read, pass-within}
use Rattle.std.specs.Bool.{then_some}
use Rattle.std.specs.Option.{option_or}
use Rattle.script.specs.File.{Definition, File, add_definition, is_definition, file_of, file_from}
use Rattle.script.specs.File.File.{whole, broken}
use Rattle.script.specs.Check.{broken_at, misnumbered, loose_body, definition_count, definitions_in, misnumbered_in, loose_in, due3}
use Rattle.script.specs.Layout.{no_faults, after_definition, after_main, Told, count_after, misnumbered_after, loose_after, Reached}
use Rattle.script.specs.declared.Faults.{Faults}
use Rattle.script.proofs.Parts.{file-definition, file-no-body, file-end, file-main, file-more, file-no-main}

-- ---- one definition more

count-more : (k : ℕ) (d : Definition) (F : File) → count_after k (add_definition d F) ≡ count_after (k + 1) F
count-more k d (whole ds i e) = omega arith
count-more k d (broken j) = refl

broken-more : (d : Definition) (F : File) → broken_at (add_definition d F) ≡ broken_at F
broken-more d (whole ds i e) = refl
broken-more d (broken j) = refl

number-or : (b : Bool) (place : ℕ) (q : Option ℕ) → cond b q (Some place) ≡ option_or (cond b None (Some place)) q
number-or true place q = refl
number-or false place q = refl

number_more : (o : Option ℕ) (k : ℕ) (d : Definition) (F : File)
    → misnumbered_after o k (add_definition d F) ≡ misnumbered_after (option_or o (cond (eqb d.number k && ltb k 128) None (Some d.place))) (k + 1) F
unfolding misnumbered
number_more o k d (whole ds i e) =
    ap (option_or o) (number-or (eqb d.number k && ltb k 128) d.place (misnumbered (k + 1) ds))
    ∙ sym (or_assoc o (cond (eqb d.number k && ltb k 128) None (Some d.place)) (misnumbered (k + 1) ds))
number_more o k d (broken j) = refl

loose-more : (o : Option ℕ) (d : Definition) (F : File) → loose_after o (add_definition d F) ≡ loose_after (option_or o (loose 1 (d.place + 1) d.body)) F
unfolding loose_body
loose-more o d (whole ds i e) =
    let a : Option ℕ = loose 1 (d.place + 1) d.body in
    let m : Option ℕ = loose 0 i e in
    ap (option_or o) (or_assoc a (loose_body ds) m) ∙ sym (or_assoc o a (option_or (loose_body ds) m))
loose-more o d (broken j) = refl

-- ---- the start

start-count : (F : File) → definition_count F ≡ count_after 0 F
start-count (whole ds i e) = omega arith
start-count (broken j) = refl

start-number : (F : File) → misnumbered_in F ≡ misnumbered_after None 0 F
start-number (whole ds i e) = refl
start-number (broken j) = refl

start-loose : (F : File) → loose_in F ≡ loose_after None F
start-loose (whole ds i e) = refl
start-loose (broken j) = refl

-- Before the first record nothing is found.
pub reached-start : (s : List ℕ) → Reached s 0 no_faults
reached-start s = record {
  within = omega arith;
  few = omega arith;
  unbroken = refl;
  counted = start-count (file_from s 0);
  numbered = start-number (file_from s 0);
  scoped = start-loose (file_from s 0);
}

-- ---- a turn

module _ {s : List ℕ} {i : ℕ} {f : Faults} (h : Reached s i f) where
  module _ (d : is_definition s i ≡ true) where
    -- A whole definition.
    pub reached-more : (x : Extent) → walked s 1 (i + 1) ≡ Ok x → Reached s x.end (after_definition f i (record_number s i) x.loose)
    reached-more x w =
        let r = walked-read s 1 (i + 1) x w in
        let l = walked-within s 1 (i + 1) x w in
        let y : Definition = record { place = i; number = record_number s i; body = r.0 } in
        let e : file_from s i ≡ add_definition y (file_from s x.end) = file-definition s i d r.0 x.end r.1 in
        record {
          within = l.1;
          few = omega (arith, h.few, l.0);
          unbroken = h.unbroken ∙ ap broken_at e ∙ broken-more y (file_from s x.end);
          counted = h.counted ∙ ap (count_after f.definitions) e ∙ count-more f.definitions y (file_from s x.end);
          numbered = h.numbered ∙ ap (misnumbered_after f.misnumbered f.definitions) e ∙ number_more f.misnumbered f.definitions y (file_from s x.end);
          scoped =
              h.scoped
              ∙ ap (loose_after f.loose) e
              ∙ loose-more f.loose y (file_from s x.end)
              ∙ ap (λ (o : Option ℕ). loose_after (option_or f.loose o) (file_from s x.end)) r.2;
        }

    -- A definition whose body stops.
    pub body-stopped : (j : ℕ) → walked s 1 (i + 1) ≡ Err j → due3 s ≡ Some j
    body-stopped j w = h.unbroken ∙ ap broken_at (file-no-body s i d j (walked-stuck s 1 (i + 1) j w))

  module _ (d : is_definition s i ≡ false) where
    -- The main term stops.
    pub main-stopped : (j : ℕ) → walked s 0 i ≡ Err j → due3 s ≡ Some j
    main-stopped j w = h.unbroken ∙ ap broken_at (file-no-main s i d j (walked-stuck s 0 i j w))

    -- A record stands after the main term.
    pub main-early : (x : Extent) → walked s 0 i ≡ Ok x → x.end < count s → due3 s ≡ Some x.end
    main-early x w l =
        let r = walked-read s 0 i x w in
        h.unbroken ∙ ap broken_at (file-more s i d r.0 x.end r.1 (λ e. omega arith))

    -- The main term ends the file.
    pub main-whole : (x : Extent) → walked s 0 i ≡ Ok x → count s ≤ x.end → Told s (after_main f x.loose)
    unfolding misnumbered loose_body
    main-whole x w g =
        let r = walked-read s 0 i x w in
        let l = walked-within s 0 i x w in
        let e : file_from s i ≡ whole [] i r.0 = file-main s i d r.0 x.end r.1 (omega arith) in
        record {
          unbroken = h.unbroken ∙ ap broken_at e;
          counted = h.counted ∙ ap (count_after f.definitions) e ∙ omega arith;
          numbered = h.numbered ∙ ap (misnumbered_after f.misnumbered f.definitions) e ∙ or-none f.misnumbered;
          scoped = h.scoped ∙ ap (loose_after f.loose) e ∙ ap (option_or f.loose) r.2;
        }
      where
        or-none : (o : Option ℕ) → option_or o None ≡ o
        or-none None = refl
        or-none (Some x) = refl

-- ---- the definitions alone

-- The definitions of a file whose first k were passed over.
abbrev definitions_after : ℕ → File → Option ℕ
definitions_after k (whole ds i e) = Some (k + length ds)
definitions_after k (broken j) = None

start-definitions : (F : File) → definitions_in F ≡ definitions_after 0 F
start-definitions (whole ds i e) = ap Some (omega arith)
start-definitions (broken j) = refl

definitions-more : (k : ℕ) (d : Definition) (F : File) → definitions_after k (add_definition d F) ≡ definitions_after (k + 1) F
definitions-more k d (whole ds i e) = ap Some (omega arith)
definitions-more k d (broken j) = refl

-- Up to record i, k definitions were passed over.
pub record Passing (s : List ℕ) (i k : ℕ) : Type 0 where
  pub within : i ≤ count s
  pub few : k ≤ i
  pub counted : definitions_in (file_of s) ≡ definitions_after k (file_from s i)

pub passing-start : (s : List ℕ) → Passing s 0 0
passing-start s = record { within = omega arith; few = omega arith; counted = start-definitions (file_from s 0) }

passed_none : (r : Read) → passed_of r ≡ None → (j : ℕ) × (r ≡ stuck j)
passed_none (got t j) e = cc
passed_none (stuck j) e = (j, refl)

module _ {s : List ℕ} {i k : ℕ} (h : Passing s i k) where
  module _ (d : is_definition s i ≡ true) where
    -- A definition is passed over.
    pub passing-more : (j : ℕ) → pass_term s (i + 1) ≡ Some j → Passing s j (k + 1)
    passing-more j w =
        let r = pass-read s (i + 1) j w in
        let l = pass-within s (i + 1) j w in
        let x : Definition = record { place = i; number = record_number s i; body = r.0 } in
        record {
          within = l.1;
          few = omega (arith, h.few, l.0);
          counted = h.counted ∙ ap (definitions_after k) (file-definition s i d r.0 j r.1) ∙ definitions-more k x (file_from s j);
        }

    -- A definition without a body: the file is not whole.
    pub passing-stopped : pass_term s (i + 1) ≡ None → None ≡ definitions_in (file_of s)
    passing-stopped w = let r = passed_none (read_at s (i + 1)) w in sym (h.counted ∙ ap (definitions_after k) (file-no-body s i d r.0 r.1))

  module _ (d : is_definition s i ≡ false) where
    -- No main term: it is not whole.
    pub passed-stopped : pass_term s i ≡ None → None ≡ definitions_in (file_of s)
    passed-stopped w = let r = passed_none (read_at s i) w in sym (h.counted ∙ ap (definitions_after k) (file-no-main s i d r.0 r.1))

    -- The main term ends the file, or a record stands after it: then the file is not whole.
    pub passed-end : (j : ℕ) → pass_term s i ≡ Some j → {o : Option ℕ} → o ≡ then_some (eqb j (count s)) k → o ≡ definitions_in (file_of s)
    passed-end j w e = let r = pass-read s i j w in e ∙ on (eqb j (count s)) r.0 ∙ sym (h.counted ∙ ap (definitions_after k) (file-end s i d r.0 j r.1))
      where
        on : (b : Bool) (t : Term) → then_some b k ≡ definitions_after k (cond b (whole [] i t) (broken j))
        on true t = ap Some (omega arith)
        on false t = refl
