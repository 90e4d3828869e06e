-- At a sum of two constants and at a branch on a constant: what the step is, and what its bytes make of the buffer. Assumes nothing.
use mathlib.Core.List.{List, [], ◌∷◌, ◌++◌, append_assoc}
use mathlib.Core.Option.{some}
use mathlib.Core.Path.{◌≡◌, refl, sym, ap, ap₂, ◌∙◌}
use Prim.Native.Nat.{ℕ, zero, suc, ◌+◌, ◌-◌, ◌*◌, ◌<◌, ◌≤◌}
use native.Mathlib.Omega.{arith}
use borrow.Author.Tests.{le-leb}
use lib.ListN.{length, take, drop, length-append, length-drop, take-append-drop}
use lib.Seq.{drop-drop}
use Rattle.words.specs.Bytes.{bytes, part, bytes-length, part-take}
use Rattle.words.specs.Put.{put, put-length, put_front, put-take, put_rest}
use Rattle.calculus.specs.Term.{Term, Codebase, records, is_value, Bare}
use Rattle.calculus.specs.Term.Term.{con, branch}
use Rattle.calculus.specs.Step.{constant, greatest, choice, inside, step}
use Rattle.calculus.specs.Step.Event.{quiet}
use Rattle.calculus.specs.Step.Next.{next}
use Rattle.terms.specs.Record.{count, record_number, record8}
use Rattle.terms.specs.Encode.{encode, Fits}
use Rattle.terms.proofs.Encode.{record-rest, encode-length, encode-stands}
use Rattle.zipper.specs.declared.Entry.{Entry}
use Rattle.zipper.specs.Frame.{plug}
use Rattle.zipper.specs.Frame.Pair.{adds}
use Rattle.zipper.specs.Layout.{rights}
use Rattle.zipper.specs.Zipper.{end_at, ZipOf}
use Rattle.zipper.proofs.Context.{bare-shared, fits-shared, plug-part, step_sum, step-branch}
use Rattle.zipper.proofs.Parts.{records-some, drop_past, part-there, bounds, focus-stands}
use Rattle.zipper.proofs.Moves.{first-stands}
use Rattle.zipper.proofs.Whole.{end-there}
use Rattle.zipper.proofs.Landing.{fewer-small, landed}
use Rattle.zipper.proofs.Redexes.{Added, Chosen}

-- ---- a sum

-- A number written into a record: what it changes, …
numbered : (e : List ℕ) (r k i j : ℕ) (rest : List ℕ) → drop (8 * r) e ≡ record8 k i rest → (e' : List ℕ) → e' ≡ put e (8 * r + 4) (bytes 4 j)
    → 8 * r + 8 ≤ length e → drop (8 * r) e' ≡ record8 k j rest
unfolding part
numbered e r k i j rest d e' m c =
    let v : List ℕ = bytes 4 j in
    let lv : length v ≡ 4 = bytes-length 4 j in
    let fit : 8 * r + 4 + length v ≤ length e = omega arith in
    let q : 8 * r + 4 + length v ≡ 8 * (r + 1) = omega arith in
    let old : part e' (8 * r) 4 ≡ k ∷ 0 ∷ 0 ∷ 0 ∷ [] =
    sym (part-take e' (8 * r) 4 (8 * r + 4) (omega arith))
    ∙ ap (λ (x : List ℕ). part x (8 * r) 4) (rw m (put_front e (8 * r + 4) v fit))
    ∙ part-take e (8 * r) 4 (8 * r + 4) (omega arith)
    ∙ ap (take 4) d in
    let new : drop (8 * r + 4) e' ≡ v ++ rest =
    rw m (put_rest e (8 * r + 4) v fit) ∙ ap (λ (x : List ℕ). v ++ x) (ap (λ (x : ℕ). drop x e) q ∙ record-rest e r k i rest d) in
    sym (take-append-drop 4 (drop (8 * r) e')) ∙ ap₂ (λ (x y : List ℕ). x ++ y) old (drop-drop 4 (8 * r) e' ∙ new)

module _ {e : List ℕ} {fs : List Entry} {p l r n : ℕ} {T : Term} (h : Added e fs p l r n T) where
  -- The sum.
  abbrev total : ℕ
  total = h.first + h.second

  -- The step makes it a constant.
  pub added-step : (C : Codebase) → step C T ≡ next quiet (plug h.frames (con total))
  unfolding is_value constant
  added-step C =
      rw (← h.whole) (step_sum C h.frames (con h.first) (con h.second) h.zip.fine.1 refl refl ∙ rw (le-leb total greatest h.fits))

  -- Its two numbers, as they are read.
  pub first_read : record_number e (p + 1) ≡ h.first
  first_read = rw h.place (first-stands adds (con h.first) (con h.second) h.zip).number

  pub second-read : record_number e r ≡ h.second
  second-read = (focus-stands h.zip).number

  -- Their records are in the buffer.
  pub added-inside : (p + 1 < count e) × (r < count e)
  added-inside = (rw h.place (first-stands adds (con h.first) (con h.second) h.zip).inside, (focus-stands h.zip).inside)

  -- The sum in the place of the second constant is the new focus.
  pub added-lands : (e' : List ℕ) → e' ≡ put e (8 * r + 4) (bytes 4 total) → ZipOf e' fs p r (n - 1) (plug h.frames (con total))
  unfolding records
  added-lands e' m =
      let b = bounds h.zip in
      let w = h.zip.wide in
      let f = h.fits in
      let fit : 8 * r + 4 + length (bytes 4 total) ≤ length e = omega (arith, bytes-length 4 total) in
      let d : drop (8 * r) e ≡ record8 3 h.second (rights h.frames) = h.zip.right ∙ simp append_assoc in
      let z : drop (8 * r) e' ≡ record8 3 total (rights h.frames) = numbered e r 3 h.second total (rights h.frames) d e' m (omega arith) in
      landed h.zip h.place (con total) tt (omega arith) (fewer-small h.zip h.place (con total) (omega arith)) r e'
      (rw m (put-take e (8 * r + 4) (bytes 4 total) fit (8 * p) (omega (arith, h.place, h.zip.sized, h.zip.order))))
      (z ∙ simp append_assoc)
      (rw m (put-length e (8 * r + 4) (bytes 4 total) fit))

-- ---- a branch

module _ {e : List ℕ} {fs : List Entry} {p l r n : ℕ} {T : Term} (h : Chosen e fs p l r n T) where
  -- On 0 the step leads to the second term, …
  pub second-step : (C : Codebase) → h.number ≡ 0 → step C T ≡ next quiet (plug h.frames h.second)
  unfolding is_value constant
  second-step C z =
      rw (← h.whole) (step-branch C h.frames (con h.number) h.second h.third h.zip.fine.1 refl ∙ rw z)

  -- … on another number to the third.
  pub third-step : (C : Codebase) → (h.number ≡ 0 → ⊥) → step C T ≡ next quiet (plug h.frames h.third)
  unfolding is_value constant
  third-step C z =
      rw (← h.whole) (step-branch C h.frames (con h.number) h.second h.third h.zip.fine.1 refl ∙ on h.number z)
    where
      on : (m : ℕ) → (m ≡ 0 → ⊥) → inside (plug h.frames) (choice (some m) h.second h.third) ≡ next quiet (plug h.frames h.third)
      on zero y = absurd (y refl)
      on (suc m) y = refl

  -- The number, as it is read.
  pub number_read : record_number e r ≡ h.number
  number_read = (focus-stands h.zip).number

  parts-bare : Bare (branch (con h.number) h.second h.third)
  parts-bare = plug-part bare-shared h.frames (branch (con h.number) h.second h.third) h.zip.sound.bare

  parts-fit : Fits (branch (con h.number) h.second h.third)
  parts-fit = plug-part fits-shared h.frames (branch (con h.number) h.second h.third) h.zip.sound.fits

  -- Where the two terms lie.
  second-lies : drop (8 * (r + 1)) e ≡ encode h.second ++ (encode h.third ++ rights h.frames)
  second-lies = record-rest e r 3 h.number (encode h.second ++ (encode h.third ++ rights h.frames)) (h.zip.right ∙ simp append_assoc)

  module _ (mid : ℕ) (at : mid ≡ end_at e (r + 1)) where
    second-ends : mid ≡ r + 1 + records h.second
    second-ends =
        at ∙ end-there e (r + 1) h.second (encode-stands e (r + 1) h.second (encode h.third ++ rights h.frames) parts-fit.1 second-lies)

    third-lies : drop (8 * mid) e ≡ encode h.third ++ rights h.frames
    third-lies =
        drop_past e (8 * (r + 1)) (8 * mid) (encode h.second) (encode h.third ++ rights h.frames) second-lies
        (omega (arith, second-ends, encode-length h.second))

    -- The third term is the new focus as it lies.
    pub third-lands : ZipOf e fs p mid (n - 1) (plug h.frames h.third)
    unfolding records
    third-lands =
        landed h.zip h.place h.third parts-bare.2 parts-fit.2
        (fewer-small h.zip h.place h.third (omega arith)) mid e refl third-lies refl

    module _ (end : ℕ) (last : end ≡ end_at e mid) where
      third-ends : end ≡ mid + records h.third
      third-ends =
          last ∙ end-there e mid h.third (encode-stands e mid h.third (rights h.frames) parts-fit.2 third-lies)

      -- The numbers that the code's indices go by.
      pub record Ends : Type 0 where
        pub begins : r + 1 < mid
        pub goes_on : mid < end
        pub in_all : end ≤ 3072
        pub wide : length e ≡ 24576

      pub branch-ends : Ends
      branch-ends = record {
        begins = omega (arith, second-ends, records-some h.second);
        goes_on = omega (arith, third-ends, records-some h.third);
        in_all =
            omega (
              arith,
              third-ends,
              length-drop (8 * mid) e,
              ap length third-lies,
              length-append (encode h.third) (rights h.frames),
              encode-length h.third,
              records-some h.third,
              h.zip.wide,
            );
        wide = h.zip.wide;
      }

      -- The second is so once its bytes end where the third's did.
      pub second-lands : (e' : List ℕ) → e' ≡ put e (8 * (end - (mid - (r + 1)))) (part e (8 * (r + 1)) (8 * (mid - (r + 1))))
          → ZipOf e' fs p (end - (mid - (r + 1))) (n - 1) (plug h.frames h.second)
      unfolding records
      second-lands e' m =
          let b = branch-ends in
          let from : ℕ = end - (mid - (r + 1)) in
          let w : List ℕ = encode h.second in
          let lw : length w ≡ 8 * records h.second = encode-length h.second in
          let s = second-ends in
          let y : part e (8 * (r + 1)) (8 * (mid - (r + 1))) ≡ w =
          part-there e (8 * (r + 1)) (8 * (mid - (r + 1))) w (encode h.third ++ rights h.frames) second-lies (omega arith) in
          let m' : e' ≡ put e (8 * from) w = m ∙ ap (put e (8 * from)) y in
          let fit : 8 * from + length w ≤ length e = omega arith in
          let j : 8 * from + length w ≡ 8 * end = omega arith in
          let z : drop (8 * end) e ≡ rights h.frames =
          drop_past e (8 * mid) (8 * end) (encode h.third) (rights h.frames) third-lies (omega (arith, third-ends, encode-length h.third)) in
          landed h.zip h.place h.second parts-bare.1 parts-fit.1
          (fewer-small h.zip h.place h.second (omega arith)) from e'
          (rw m' (put-take e (8 * from) w fit (8 * p) (omega (arith, h.place, h.zip.sized, h.zip.order))))
          (rw m' (put_rest e (8 * from) w fit ∙ ap (λ (x : List ℕ). w ++ x) (ap (λ (x : ℕ). drop x e) j ∙ z)))
          (rw m' (put-length e (8 * from) w fit))
