-- A term copied down while it is passed over: what stands in the buffer after each record, and what is still to come. Assumes nothing.
use mathlib.Core.List.{List, ◌++◌}
use mathlib.Core.Path.{◌≡◌, refl, sym, ap, ◌∙◌}
use Prim.Native.Nat.{ℕ, ◌+◌, ◌-◌, ◌*◌, ◌%◌, ◌<◌, ◌≤◌}
use native.Mathlib.Omega.{arith}
use lib.ListN.{length, take, drop}
use Rattle.words.specs.Bytes.{bytes, number, number_at, part, AllBytes, part_none, part-append, part_length, bytes-part, number-next}
use Rattle.words.specs.Put.{put, put-drop, put-put, put-none}
use Rattle.terms.specs.Record.{count, kind_at, arity_of}
use Rattle.terms.specs.Walk.{many}
use Rattle.terms.specs.declared.Arity.TheVariants.{NoTerm}
use Rattle.std.specs.Prelude.{Some, None}
use Rattle.terms.proofs.Pass.{many-one, many-none, many-inside, many_stuck}
use Rattle.zipper.specs.Zipper.{end_at, Whole, copied_to}

module _ (e : List ℕ) (l r : ℕ) where
  -- The records from r to below i are copied.
  abbrev pub copied_up_to : ℕ → List ℕ
  copied_up_to i = put e (8 * l) (part e (8 * r) (8 * (i - r)))

  pub record Copying (e' : List ℕ) (i wanted : ℕ) : Type 0 where
    pub copied : e' ≡ copied_up_to i
    pub still : many wanted e i ≡ Some (end_at e r)
    pub begun : r ≤ i
    pub few : wanted ≤ 2 * (i - r) + 1
    pub some : 0 < wanted

  pub started : Whole e r → Copying e r 1
  started w =
      let z : 8 * (r - r) ≡ 0 = omega arith in
      record {
        copied = sym (ap (λ (n : ℕ). put e (8 * l) (part e (8 * r) n)) z ∙ ap (put e (8 * l)) (part_none e (8 * r)) ∙ put-none e (8 * l));
        still = many-one e r ∙ w;
        begun = omega arith;
        few = omega arith;
        some = omega arith;
      }

  module _ (order : l ≤ r) {e' : List ℕ} {i wanted : ℕ} (h : Copying e' i wanted) where
    -- The term that is wanted begins in the file, …
    pub within : i < count e
    within = many-inside e i wanted h.some (end_at e r) h.still

    -- … at a record that begins one.
    pub never : arity_of (kind_at e i) ≡ NoTerm → ⊥
    never k =
        let q : None ≡ Some (end_at e r) = sym (many_stuck e i within wanted h.some k) ∙ h.still in
        let z : ◌≡◌ {A = ℕ} 0 1 = cc in omega arith

    b : 8 * r + 8 * (i - r) ≤ length e
    b = omega (arith, h.begun, within)

    long : length (part e (8 * r) (8 * (i - r))) ≡ 8 * (i - r)
    long = part_length e (8 * r) (8 * (i - r)) b

    fit : 8 * l + length (part e (8 * r) (8 * (i - r))) ≤ length e
    fit = omega (arith, long, b)

    -- What is read next was not written.
    next-part : part e' (8 * i) 8 ≡ part e (8 * i) 8
    unfolding part
    next-part = ap (take 8) (ap (drop (8 * i)) h.copied ∙ put-drop e (8 * l) (part e (8 * r) (8 * (i - r))) fit (8 * i) (omega (arith, long, h.begun)))

    module _ (bytes-all : AllBytes e) (x : ℕ) (read : x ≡ number_at 8 e' (8 * i)) where
      is-record : bytes 8 x ≡ part e (8 * i) 8
      is-record = ap (bytes 8) (read ∙ ap (λ (v : List ℕ). number v) next-part) ∙ bytes-part e (8 * i) 8 bytes-all (omega (arith, within))

      -- Its first byte is the kind.
      pub kind-read : x % 256 ≡ kind_at e i
      kind-read =
          let q : x ≡ number_at 8 e (8 * i) = read ∙ ap (λ (v : List ℕ). number v) next-part in
          let n = number-next 7 e (8 * i) (8 * i + 1) (omega (arith, within)) refl in
          let k = bytes-all (8 * i) in
          omega (arith, q, n, k)

      -- One record more.
      pub copied_on : (e'' : List ℕ) → e'' ≡ put e' (8 * (l + (i - r))) (bytes 8 x) → e'' ≡ copied_up_to (i + 1)
      copied_on e'' p =
          let v : List ℕ = part e (8 * r) (8 * (i - r)) in
          let a : 8 * (l + (i - r)) ≡ 8 * l + length v = omega (arith, long) in
          let s : 8 * r + 8 * (i - r) ≡ 8 * i = omega (arith, h.begun) in
          let m : 8 * (i - r) + 8 ≡ 8 * (i + 1 - r) = omega (arith, h.begun) in
          p
          ∙ ap (λ (y : List ℕ). put y (8 * (l + (i - r))) (bytes 8 x)) h.copied
          ∙ ap (λ (n : ℕ). put (put e (8 * l) v) n (bytes 8 x)) a
          ∙ ap (put (put e (8 * l) v) (8 * l + length v)) is-record
          ∙ put-put e (8 * l) v fit (part e (8 * i) 8)
          ∙ ap (put e (8 * l)) (ap (λ (n : ℕ). v ++ part e n 8) (sym s) ∙ sym (part-append e (8 * r) (8 * (i - r)) 8) ∙ ap (part e (8 * r)) m)

      module _ (e'' : List ℕ) (write : e'' ≡ put e' (8 * (l + (i - r))) (bytes 8 x)) (wanted' : ℕ) (pass : many wanted e i ≡ many wanted' e (i + 1)) where
        -- With none wanted all is copied.
        pub ended : wanted' ≡ 0 → (i + 1 ≡ end_at e r) × (e'' ≡ copied_to e l r)
        unfolding copied_to
        ended w =
            let q : Some (i + 1) ≡ Some (end_at e r) = sym (many-none e (i + 1) wanted' w) ∙ sym pass ∙ h.still in
            let j : i + 1 ≡ end_at e r = cc in
            (j, copied_on e'' write ∙ ap copied_up_to j)

        -- Else the loop goes on.
        pub onward : 0 < wanted' → wanted' ≤ wanted + 2 → Copying e'' (i + 1) wanted'
        onward w f = record {
          copied = copied_on e'' write;
          still = sym pass ∙ h.still;
          begun = omega (arith, h.begun);
          few = omega (arith, h.begun, h.few);
          some = w;
        }
