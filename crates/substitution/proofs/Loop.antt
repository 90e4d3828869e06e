-- The loop of the copy: what is written, what is passed and not yet written, and what is to come make up the whole copy. Assumes nothing.
use mathlib.Core.Bool.{Bool, true, false, cond, ◌&&◌, true≢false}
use mathlib.Core.List.{List, [], ◌∷◌, ◌++◌, append_assoc, append-nil}
use mathlib.Core.Path.{◌≡◌, refl, sym, ap, ap₂, ◌∙◌}
use Prim.Native.Nat.{ℕ, suc, ◌+◌, ◌-◌, ◌*◌, ◌/◌, ◌≤◌, ◌<◌, min}
use native.Mathlib.Decide.{ℕ_discrete}
use native.Mathlib.Omega.{arith}
use borrow.Author.Tests.{eqb-true, eq-eqb, ne_eqb}
use lib.Dec.{eqb}
use lib.ListN.{length, take, drop, set, get_or, length-append, length-drop, length-set}
use lib.Seq.{take_at, get_or-drop, get_or-set_same, get_or-set_other}
use Rattle.std.specs.Prelude.{Option, Some, None}
use Rattle.words.specs.Bytes.{bytes, part, bytes-length, part_none, part-append}
use Rattle.words.specs.Put.{put, put-length, put-put, put-none}
use Rattle.calculus.specs.Term.{Term, records}
use Rattle.calculus.specs.Term.Term.{var, fun, con, lam, app, call_event, emit, sum, branch}
use Rattle.terms.specs.Record.{kind_at, record_number, record8}
use Rattle.terms.specs.Encode.{encode, Fits}
use Rattle.terms.proofs.Encode.{encode-length, record-inside, record-number, record-rest}
use Rattle.substitution.specs.Copied.{copied, Lies, WrittenIs}
use Rattle.substitution.specs.Stack.{closed}
use Rattle.substitution.proofs.Levels.{total, flat_g, flat, copies_g, copies, Plains, Stack, Open, plain, stack-kept, records-some, many-flat, closed-le, close}

-- ---- a record

record-append : (k n : ℕ) (xs ys : List ℕ) → record8 k n xs ++ ys ≡ record8 k n (xs ++ ys)
record-append k n xs ys = ap (λ (l : List ℕ). k ∷ 0 ∷ 0 ∷ 0 ∷ l) (append_assoc (bytes 4 n) xs ys)

module _ (s : List ℕ) (p k n : ℕ) (rest : List ℕ) (e : drop p s ≡ record8 k n rest) where
  record-part : part s p 8 ≡ record8 k n []
  unfolding part
  record-part =
      ap (take 8) e
      ∙ ap (λ (l : List ℕ). k ∷ 0 ∷ 0 ∷ 0 ∷ l) (take_at (bytes 4 n) rest 4 (bytes-length 4 n) ∙ sym (append-nil (bytes 4 n)))

-- ---- the test for a use

and_both : (a b : Bool) → (a && b) ≡ true → (a ≡ true) × (b ≡ true)
and_both true b e = (refl, e)
and_both false b e = absurd (true≢false (sym e))

pub use-yes : (n d k : ℕ) (b : Bool) → b ≡ (eqb n d && eqb k 1) → b ≡ true → (n ≡ d) × (k ≡ 1)
use-yes n d k b e t = let h = and_both (eqb n d) (eqb k 1) (sym e ∙ t) in (eqb-true n d h.0, eqb-true k 1 h.1)

pub use-no : (n d k : ℕ) (b : Bool) → b ≡ (eqb n d && eqb k 1) → b ≡ false → n ≡ d → k ≡ 1 → ⊥
use-no n d k b e f p q = true≢false (sym (ap₂ ◌&&◌ (eq-eqb n d p) (eq-eqb k 1 q)) ∙ sym e ∙ f)

-- ---- lists

last-group : (x y z : List ℕ) → (x ++ y) ++ z ≡ (x ++ []) ++ (y ++ z)
last-group x y z = append_assoc x y z ∙ ap (λ (w : List ℕ). w ++ (y ++ z)) (sym (append-nil x))

-- The records that are passed and not yet written.
abbrev pub passed : List ℕ → ℕ → ℕ → List ℕ
passed s from i = part s (8 * from) (8 * i - 8 * from)

-- What is written at a use: these, and the value.
abbrev pub piece : List ℕ → List ℕ → ℕ → ℕ → List ℕ
piece s u from i = passed s from i ++ u

-- The bytes after a term.
abbrev pub behind : List ℕ → ℕ → Term → List ℕ
behind s at t = drop (8 * (at + records t)) s

-- How many terms more are to come after the record of an application, a sum or a branch.
abbrev pub more : ℕ → ℕ
more k = cond (eqb k 10) 2 1

pub more-further : (k : ℕ) → 9 ≤ k → k ≤ 10 → k - 8 ≡ more k
more-further k a b = by (ℕ_discrete k 10)
  where
    by : Dec (k ≡ 10) → k - 8 ≡ more k
    by (yes e) = rw e
    by (no n) = rw (ne_eqb k 10 n) (omega arith)

-- ---- the loop

module _ (s u o : List ℕ) (at : ℕ) (t : Term) where
  -- The terms of gs are to come, and the bytes `done` are written.
  pub record Stage (out st : List ℕ) (i from need depth pos : ℕ) (gs : List (List Term)) (done : List ℕ) : Type 0 where
    pub depth_is : suc depth ≡ length gs
    pub need-is : need ≡ total gs
    pub bytes-are : drop (8 * i) s ≡ flat gs ++ behind s at t
    pub plains : Plains gs
    pub out-is : out ≡ put o 0 done
    pub pos-is : pos ≡ length done
    pub all : done ++ (passed s from i ++ copies u gs) ≡ copied 0 u t
    pub stack : Stack st gs
    pub room : pos ≤ length o
    pub order : from ≤ i
    pub begins : at ≤ from
    pub within : 8 * i ≤ length s
    pub deep : depth + at ≤ i
    pub few : records t ≤ 1024
    pub enough : 8 * (at + records t) ≤ length s
    pub high : 1024 ≤ length st

  pub record Going (out st : List ℕ) (i from need depth pos : ℕ) : Type 0 where
    pub groups : List (List Term)
    pub done : List ℕ
    pub here : Stage out st i from need depth pos groups done
    pub first : Open groups

  -- What the code's arithmetic needs.
  pub record Numbers (out st : List ℕ) (i from need depth pos : ℕ) : Type 0 where
    pub ends : i + need ≤ at + records t
    pub order : from ≤ i
    pub begins : at ≤ from
    pub deep : depth + at ≤ i
    pub few : records t ≤ 1024
    pub enough : 8 * (at + records t) ≤ length s
    pub room : pos ≤ length o
    pub same : length out ≡ length o
    pub high : 1024 ≤ length st

  -- What the loops keep.
  pub record Held (out st : List ℕ) (i from need depth pos : ℕ) : Type 0 where
    pub going : Going out st i from need depth pos
    pub numbers : Numbers out st i from need depth pos

module _ {s u o : List ℕ} {at : ℕ} {t : Term} where
  module _ {out st : List ℕ} {i from need depth pos : ℕ} where
    ends_at : (gs : List (List Term)) (done : List ℕ) → Stage s u o at t out st i from need depth pos gs done → 8 * i + length (flat gs) ≡ 8 * (at + records t)
    ends_at gs done h =
        omega (arith, ap length h.bytes-are, length-drop (8 * i) s, length-drop (8 * (at + records t)) s, length-append (flat gs) (behind s at t), h.enough, h.within)

    pub numbers : Going s u o at t out st i from need depth pos → Numbers s u o at t out st i from need depth pos
    numbers h =
        let a = h.here in
        let l = many-flat h.groups in
        let e = ends_at h.groups h.done a in
        record {
          ends = omega (arith, a.need-is);
          order = a.order;
          begins = a.begins;
          deep = a.deep;
          few = a.few;
          enough = a.enough;
          room = a.room;
          same = ap length a.out-is ∙ put-length o 0 h.done (omega (arith, a.pos-is, a.room));
          high = a.high;
        }

    pub held : Going s u o at t out st i from need depth pos → Held s u o at t out st i from need depth pos
    held g = record { going = g; numbers = numbers g }

    -- The loops come to an end.
    pub round-less : Going s u o at t out st i from need depth pos → 0 < need → length s / 8 - (i + 1) < length s / 8 - i
    round-less g h = let n = numbers g in omega arith

    pub use-less : (j a b : ℕ) → Going s u o at t out st i from need depth pos → 0 < need → j ≤ i → 2 * (length s / 8 - (i + 1)) + min a 1 < 2 * (length s / 8 - j) + min b 1
    use-less j a b g h l = let n = numbers g in omega arith

    module _ {done : List ℕ} where
      -- One record more that is passed and not yet written: what it leaves to come is gs'.
      module _ (k n : ℕ) (gs gs' : List (List Term)) (h : Stage s u o at t out st i from need depth pos gs done) (f : flat gs ≡ record8 k n (flat gs')) (e : copies u gs ≡ record8 k n (copies u gs')) where
        head : drop (8 * i) s ≡ record8 k n (flat gs' ++ behind s at t)
        head = h.bytes-are ∙ ap (λ (x : List ℕ). x ++ behind s at t) f ∙ record-append k n (flat gs') (behind s at t)

        on-run : passed s from (i + 1) ≡ passed s from i ++ record8 k n []
        on-run =
            let o = h.order in
            let m : 8 * (i + 1) - 8 * from ≡ 8 * i - 8 * from + 8 = omega arith in
            let b : 8 * from + (8 * i - 8 * from) ≡ 8 * i = omega arith in
            ap (part s (8 * from)) m
            ∙ part-append s (8 * from) (8 * i - 8 * from) 8
            ∙ ap (λ (x : List ℕ). passed s from i ++ x) (ap (λ (p : ℕ). part s p 8) b ∙ record-part s (8 * i) k n (flat gs' ++ behind s at t) head)

        on-all : done ++ (passed s from (i + 1) ++ copies u gs') ≡ copied 0 u t
        on-all =
            ap (λ (x : List ℕ). done ++ x)
            (ap (λ (x : List ℕ). x ++ copies u gs') on-run
            ∙ append_assoc (passed s from i) (record8 k n []) (copies u gs')
            ∙ ap (λ (x : List ℕ). passed s from i ++ x) (record-append k n [] (copies u gs') ∙ sym e))
            ∙ h.all

        go_on : (st' : List ℕ) (need' depth' : ℕ) → suc depth' ≡ length gs' → need' ≡ total gs' → depth' ≤ depth + 1 → Plains gs' → Stack st' gs' → length st' ≡ length st
            → Stage s u o at t out st' (i + 1) from need' depth' pos gs' done
        go_on st' need' depth' d m p w q l = record {
          depth_is = d;
          need-is = m;
          bytes-are = record-rest s i k n (flat gs' ++ behind s at t) head;
          plains = w;
          out-is = h.out-is;
          pos-is = h.pos-is;
          all = on-all;
          stack = q;
          room = h.room;
          order = omega (arith, h.order);
          begins = h.begins;
          within = omega (arith, record-inside s i k n (flat gs' ++ behind s at t) head);
          deep = omega (arith, h.deep);
          few = h.few;
          enough = h.enough;
          high = omega (arith, h.high);
        }

      -- ---- by the head of the first group

      at-lam : (n : ℕ) (b : Term) (ts : List Term) (gs : List (List Term)) → Stage s u o at t out st i from need depth pos ((lam n b ∷ ts) ∷ gs) done → (st' : List ℕ) → st' ≡ set st depth (need - 1)
          → Stage s u o at t out st' (i + 1) from need (depth + 1) pos ((b ∷ []) ∷ (ts ∷ gs)) done
      at-lam n b ts gs h st' q =
          let d : length gs ≡ depth = omega (arith, h.depth_is) in
          let v : total (ts ∷ gs) ≡ need - 1 = omega (arith, h.need-is) in
          let e = ends_at ((lam n b ∷ ts) ∷ gs) done h in
          let p = h.plains in
          go_on 4 n ((lam n b ∷ ts) ∷ gs) ((b ∷ []) ∷ (ts ∷ gs)) h
          (ap (λ (x : List ℕ). x ++ flat gs) (record-append 4 n (encode b) (flat_g ts)) ∙ record-append 4 n (encode b ++ flat_g ts) (flat gs) ∙ ap (record8 4 n) (last-group (encode b) (flat_g ts) (flat gs)))
          (ap (λ (x : List ℕ). x ++ copies u gs) (record-append 4 n (copied (suc (length gs)) u b) (copies_g (length gs) u ts))
          ∙ record-append 4 n (copied (suc (length gs)) u b ++ copies_g (length gs) u ts) (copies u gs)
          ∙ ap (record8 4 n) (last-group (copied (suc (length gs)) u b) (copies_g (length gs) u ts) (copies u gs)))
          st' need (depth + 1) (omega (arith, h.depth_is)) (omega (arith, h.need-is)) (omega arith)
          ((p.0.0, tt), (p.0.1, p.1))
          (rw (q, d) (get_or-set_same st depth (need - 1) 0 (omega (arith, h.deep, h.high, h.few)) ∙ sym v), stack-kept st st' (ts ∷ gs) (λ x l. rw q (get_or-set_other st depth x (need - 1) 0 (λ e. omega (arith, h.depth_is)))) h.stack)
          (ap length q ∙ length-set st depth (need - 1))

      -- An application, 5, or a sum, 9.
      at_pair : (k : ℕ) (w : Term → Term → Term) (a b : Term) (ts : List Term) (gs : List (List Term))
          → encode (w a b) ≡ record8 k 0 (encode a ++ encode b) → copied (length gs) u (w a b) ≡ record8 k 0 (copied (length gs) u a ++ copied (length gs) u b)
          → Plains ((a ∷ (b ∷ ts)) ∷ gs) → Stage s u o at t out st i from need depth pos ((w a b ∷ ts) ∷ gs) done
          → Stage s u o at t out st (i + 1) from (need + 1) depth pos ((a ∷ (b ∷ ts)) ∷ gs) done
      at_pair k w a b ts gs f e p h =
          go_on k 0 ((w a b ∷ ts) ∷ gs) ((a ∷ (b ∷ ts)) ∷ gs) h
          (ap (λ (l : List ℕ). (l ++ flat_g ts) ++ flat gs) f ∙ ap (λ (l : List ℕ). k ∷ 0 ∷ 0 ∷ 0 ∷ l) (simp append_assoc))
          (ap (λ (l : List ℕ). (l ++ copies_g (length gs) u ts) ++ copies u gs) e ∙ ap (λ (l : List ℕ). k ∷ 0 ∷ 0 ∷ 0 ∷ l) (simp append_assoc))
          st (need + 1) depth h.depth_is (omega (arith, h.need-is)) (omega arith) p h.stack refl

      at-branch : (c a b : Term) (ts : List Term) (gs : List (List Term)) → Stage s u o at t out st i from need depth pos ((branch c a b ∷ ts) ∷ gs) done → Stage s u o at t out st (i + 1) from (need + 2) depth pos ((c ∷ (a ∷ (b ∷ ts))) ∷ gs) done
      at-branch c a b ts gs h =
          let p = h.plains in
          go_on 10 0 ((branch c a b ∷ ts) ∷ gs) ((c ∷ (a ∷ (b ∷ ts))) ∷ gs) h
          (ap (λ (l : List ℕ). 10 ∷ 0 ∷ 0 ∷ 0 ∷ l) (simp append_assoc))
          (ap (λ (l : List ℕ). 10 ∷ 0 ∷ 0 ∷ 0 ∷ l) (simp append_assoc))
          st (need + 2) depth h.depth_is (omega (arith, h.need-is)) (omega arith)
          ((p.0.0.0, (p.0.0.1, (p.0.0.2, p.0.1))), p.1) h.stack refl

      -- A leaf that is copied as it is.
      at_leaf : (k n : ℕ) (x : Term) (ts : List Term) (gs : List (List Term)) → encode x ≡ record8 k n [] → copied (length gs) u x ≡ record8 k n [] → Stage s u o at t out st i from need depth pos ((x ∷ ts) ∷ gs) done
          → Stage s u o at t out st (i + 1) from (need - 1) depth pos (ts ∷ gs) done
      at_leaf k n x ts gs f e h =
          go_on k n ((x ∷ ts) ∷ gs) (ts ∷ gs) h
          (ap (λ (l : List ℕ). (l ++ flat_g ts) ++ flat gs) f ∙ ap (λ (l : List ℕ). k ∷ 0 ∷ 0 ∷ 0 ∷ l) (simp append_assoc))
          (ap (λ (l : List ℕ). (l ++ copies_g (length gs) u ts) ++ copies u gs) e ∙ ap (λ (l : List ℕ). k ∷ 0 ∷ 0 ∷ 0 ∷ l) (simp append_assoc))
          st (need - 1) depth h.depth_is (omega (arith, h.need-is)) (omega arith) (h.plains.0.1, h.plains.1) h.stack refl

      var-copies : (n : ℕ) (ts : List Term) (gs : List (List Term)) → Stage s u o at t out st i from need depth pos ((var n ∷ ts) ∷ gs) done → n ≡ depth → copies u ((var n ∷ ts) ∷ gs) ≡ u ++ copies u (ts ∷ gs)
      var-copies n ts gs h e =
          let d : n ≡ length gs = omega (arith, h.depth_is) in
          rw (eq-eqb n (length gs) d) (append_assoc u (copies_g (length gs) u ts) (copies u gs))

      -- A use of the variable: what was passed and u are written.
      module _ (n : ℕ) (ts : List Term) (gs : List (List Term)) (h : Stage s u o at t out st i from need depth pos ((var n ∷ ts) ∷ gs) done) (e : n ≡ depth) where
        use-head : drop (8 * i) s ≡ record8 1 n (flat (ts ∷ gs) ++ behind s at t)
        use-head = h.bytes-are ∙ ap (λ (l : List ℕ). 1 ∷ 0 ∷ 0 ∷ 0 ∷ l) (simp append_assoc)

        use-all : (done ++ piece s u from i) ++ copies u (ts ∷ gs) ≡ copied 0 u t
        use-all =
            append_assoc done (piece s u from i) (copies u (ts ∷ gs))
            ∙ ap (λ (x : List ℕ). done ++ x) (append_assoc (passed s from i) u (copies u (ts ∷ gs)) ∙ ap (λ (x : List ℕ). passed s from i ++ x) (sym (var-copies n ts gs h e)))
            ∙ h.all

        at-use : (out' : List ℕ) (q : ℕ) → out' ≡ put out pos (piece s u from i) → q ≡ pos + length (piece s u from i) → q ≤ length o → Stage s u o at t out' st (i + 1) (i + 1) (need - 1) depth q (ts ∷ gs) (done ++ piece s u from i)
        at-use out' q p l r =
            let fits : 0 + length done ≤ length o = omega (arith, h.pos-is, h.room) in
            let z : pos ≡ 0 + length done = omega (arith, h.pos-is) in
            let none : 8 * (i + 1) - 8 * (i + 1) ≡ 0 = omega arith in
            record {
              depth_is = h.depth_is;
              need-is = omega (arith, h.need-is);
              bytes-are = record-rest s i 1 n (flat (ts ∷ gs) ++ behind s at t) use-head;
              plains = (h.plains.0.1, h.plains.1);
              out-is = p ∙ ap₂ (λ (x : List ℕ) (y : ℕ). put x y (piece s u from i)) h.out-is z ∙ put-put o 0 done fits (piece s u from i);
              pos-is = omega (arith, length-append done (piece s u from i), h.pos-is);
              all = ap (λ (x : ℕ). (done ++ piece s u from i) ++ (part s (8 * (i + 1)) x ++ copies u (ts ∷ gs))) none ∙ ap (λ (x : List ℕ). (done ++ piece s u from i) ++ (x ++ copies u (ts ∷ gs))) (part_none s (8 * (i + 1))) ∙ use-all;
              stack = h.stack;
              room = r;
              order = omega arith;
              begins = omega (arith, h.begins, h.order);
              within = omega (arith, record-inside s i 1 n (flat (ts ∷ gs) ++ behind s at t) use-head);
              deep = omega (arith, h.deep);
              few = h.few;
              enough = h.enough;
              high = h.high;
            }

        -- No room for it: none for the whole.
        use-full : length o < pos + length (piece s u from i) → length o < 0 + length (copied 0 u t)
        use-full m =
            omega (arith, ap length use-all, length-append (done ++ piece s u from i) (copies u (ts ∷ gs)), length-append done (piece s u from i), h.pos-is)

  -- A leaf is left behind: abstractions that end there are closed.
  shut : (out st : List ℕ) (i from need depth pos : ℕ) (ts : List Term) (gs : List (List Term)) (done : List ℕ) (d : ℕ) → Stage s u o at t out st i from need depth pos (ts ∷ gs) done → d ≡ closed st need depth
      → Going s u o at t out st i from need d pos
  shut out st i from need depth pos ts gs done d h q =
      let c = close st u ts gs h.stack in
      let a : depth ≡ length gs = omega (arith, h.depth_is) in
      let z : d ≡ closed st (total (ts ∷ gs)) (length gs) = q ∙ ap₂ (closed st) h.need-is a in
      let y = closed-le st (total (ts ∷ gs)) (length gs) in
      record {
        groups = c.groups;
        done = done;
        here = record {
          depth_is = ap suc z ∙ c.depth;
          need-is = h.need-is ∙ sym c.same_total;
          bytes-are = h.bytes-are ∙ ap (λ (x : List ℕ). x ++ behind s at t) (sym c.same-flat);
          plains = c.still-plain h.plains;
          out-is = h.out-is;
          pos-is = h.pos-is;
          all = rw c.same-copies h.all;
          stack = c.stack;
          room = h.room;
          order = h.order;
          begins = h.begins;
          within = h.within;
          deep = omega (arith, h.deep);
          few = h.few;
          enough = h.enough;
          high = h.high;
        };
        first = c.first;
      }

  -- ---- by the code's tests

  module _ {out st : List ℕ} {i from need depth pos : ℕ} (h : Going s u o at t out st i from need depth pos) where
    abbrev Now : List (List Term) → Type 0
    Now gs = Stage s u o at t out st i from need depth pos gs h.done

    -- A term is to come: the first group has one.
    split : (P : Type 0) → 0 < need → ((x : Term) (ts : List Term) (gs : List (List Term)) → Now ((x ∷ ts) ∷ gs) → P) → P
    split P l f = by h.groups h.here h.first
      where
        by : (gs : List (List Term)) → Now gs → Open gs → P
        by [] a o = absurd o
        by ([] ∷ []) a o = absurd (omega (arith, a.need-is))
        by ([] ∷ (g ∷ gs)) a o = absurd o
        by ((x ∷ ts) ∷ gs) a o = f x ts gs a

    -- Its first record's kind is the first byte of its encoding.
    kind-is : (x : Term) (ts : List Term) (gs : List (List Term)) → Now ((x ∷ ts) ∷ gs) → kind_at s i ≡ get_or (flat ((x ∷ ts) ∷ gs) ++ behind s at t) 0 0
    kind-is x ts gs a =
        let q : 8 * i ≡ 8 * i + 0 = omega arith in
        ap (λ (p : ℕ). get_or s p 0) q ∙ sym (get_or-drop (8 * i) s 0 0) ∙ ap (λ (l : List ℕ). get_or l 0 0) a.bytes-are

    number_is : (n : ℕ) (ts : List Term) (gs : List (List Term)) → Now ((var n ∷ ts) ∷ gs) → record_number s i ≡ n
    number_is n ts gs a =
        record-number s i 1 n (flat (ts ∷ gs) ++ behind s at t)
        (a.bytes-are ∙ ap (λ (l : List ℕ). 1 ∷ 0 ∷ 0 ∷ 0 ∷ l) (simp append_assoc))
        a.plains.0.0

    module _ (l : 0 < need) where
      lam-is : (st' : List ℕ) → st' ≡ set st depth (need - 1) → kind_at s i ≡ 4 → (x : Term) (ts : List Term) (gs : List (List Term)) → Now ((x ∷ ts) ∷ gs)
          → Going s u o at t out st' (i + 1) from need (depth + 1) pos
      lam-is st' q k (var n) ts gs a = absurd (omega (arith, kind-is (var n) ts gs a))
      lam-is st' q k (fun n) ts gs a = absurd (omega (arith, kind-is (fun n) ts gs a))
      lam-is st' q k (con n) ts gs a = absurd (omega (arith, kind-is (con n) ts gs a))
      lam-is st' q k (lam n b) ts gs a = record { groups = (b ∷ []) ∷ (ts ∷ gs); done = h.done; here = at-lam n b ts gs a st' q; first = tt }
      lam-is st' q k (app x y) ts gs a = absurd (omega (arith, kind-is (app x y) ts gs a))
      lam-is st' q k (call_event n x y) ts gs a = absurd a.plains.0.0
      lam-is st' q k (emit n x y) ts gs a = absurd a.plains.0.0
      lam-is st' q k (sum x y) ts gs a = absurd (omega (arith, kind-is (sum x y) ts gs a))
      lam-is st' q k (branch z x y) ts gs a = absurd (omega (arith, kind-is (branch z x y) ts gs a))

      -- An abstraction.
      pub of-lam : kind_at s i ≡ 4 → (st' : List ℕ) → st' ≡ set st depth (need - 1) → Going s u o at t out st' (i + 1) from need (depth + 1) pos
      of-lam k st' q = split (Going s u o at t out st' (i + 1) from need (depth + 1) pos) l (lam-is st' q k)

      module _ (m : ℕ) (h5 : 5 ≤ kind_at s i) (e : m ≡ more (kind_at s i)) where
        more-is : (x : Term) (ts : List Term) (gs : List (List Term)) → Now ((x ∷ ts) ∷ gs) → Going s u o at t out st (i + 1) from (need + m) depth pos
        more-is (var n) ts gs a = absurd (omega (arith, kind-is (var n) ts gs a))
        more-is (fun n) ts gs a = absurd (omega (arith, kind-is (fun n) ts gs a))
        more-is (con n) ts gs a = absurd (omega (arith, kind-is (con n) ts gs a))
        more-is (lam n b) ts gs a = absurd (omega (arith, kind-is (lam n b) ts gs a))
        more-is (app x y) ts gs a =
            let p = a.plains in
            rw (e ∙ ap more (kind-is (app x y) ts gs a))
            (record { groups = (x ∷ (y ∷ ts)) ∷ gs; done = h.done; here = at_pair 5 app x y ts gs refl refl ((p.0.0.0, (p.0.0.1, p.0.1)), p.1) a; first = tt })
        more-is (call_event n x y) ts gs a = absurd a.plains.0.0
        more-is (emit n x y) ts gs a = absurd a.plains.0.0
        more-is (sum x y) ts gs a =
            let p = a.plains in
            rw (e ∙ ap more (kind-is (sum x y) ts gs a))
            (record { groups = (x ∷ (y ∷ ts)) ∷ gs; done = h.done; here = at_pair 9 sum x y ts gs refl refl ((p.0.0.0, (p.0.0.1, p.0.1)), p.1) a; first = tt })
        more-is (branch z x y) ts gs a =
            rw (e ∙ ap more (kind-is (branch z x y) ts gs a)) (record { groups = (z ∷ (x ∷ (y ∷ ts))) ∷ gs; done = h.done; here = at-branch z x y ts gs a; first = tt })

        -- An application, a sum or a branch.
        pub of-more : Going s u o at t out st (i + 1) from (need + m) depth pos
        of-more = split (Going s u o at t out st (i + 1) from (need + m) depth pos) l more-is

      -- A kind that is none of a leaf's, an abstraction's and an application's is a sum's or a branch's.
      later-is : 6 ≤ kind_at s i → (x : Term) (ts : List Term) (gs : List (List Term)) → Now ((x ∷ ts) ∷ gs) → (9 ≤ kind_at s i) × (kind_at s i ≤ 10)
      later-is k (var n) ts gs a = absurd (omega (arith, kind-is (var n) ts gs a))
      later-is k (fun n) ts gs a = absurd (omega (arith, kind-is (fun n) ts gs a))
      later-is k (con n) ts gs a = absurd (omega (arith, kind-is (con n) ts gs a))
      later-is k (lam n b) ts gs a = absurd (omega (arith, kind-is (lam n b) ts gs a))
      later-is k (app x y) ts gs a = absurd (omega (arith, kind-is (app x y) ts gs a))
      later-is k (call_event n x y) ts gs a = absurd a.plains.0.0
      later-is k (emit n x y) ts gs a = absurd a.plains.0.0
      later-is k (sum x y) ts gs a = (omega (arith, kind-is (sum x y) ts gs a), omega (arith, kind-is (sum x y) ts gs a))
      later-is k (branch z x y) ts gs a = (omega (arith, kind-is (branch z x y) ts gs a), omega (arith, kind-is (branch z x y) ts gs a))

      pub later : 6 ≤ kind_at s i → (9 ≤ kind_at s i) × (kind_at s i ≤ 10)
      later k = split ((9 ≤ kind_at s i) × (kind_at s i ≤ 10)) l (later-is k)

      module _ (k : kind_at s i ≤ 3) (w : record_number s i ≡ depth → kind_at s i ≡ 1 → ⊥) (d : ℕ) (q : d ≡ closed st (need - 1) depth) where
        kept-is : (x : Term) (ts : List Term) (gs : List (List Term)) → Now ((x ∷ ts) ∷ gs) → Going s u o at t out st (i + 1) from (need - 1) d pos
        kept-is (var n) ts gs a =
            let m = number_is n ts gs a in
            let z : n ≡ length gs → ⊥ = λ e. w (omega (arith, a.depth_is)) (kind-is (var n) ts gs a) in
            shut out st (i + 1) from (need - 1) depth pos ts gs h.done d (at_leaf 1 n (var n) ts gs refl (rw (ne_eqb n (length gs) z)) a) q
        kept-is (fun n) ts gs a = shut out st (i + 1) from (need - 1) depth pos ts gs h.done d (at_leaf 2 n (fun n) ts gs refl refl a) q
        kept-is (con n) ts gs a = shut out st (i + 1) from (need - 1) depth pos ts gs h.done d (at_leaf 3 n (con n) ts gs refl refl a) q
        kept-is (lam n b) ts gs a = absurd (omega (arith, kind-is (lam n b) ts gs a))
        kept-is (app x y) ts gs a = absurd (omega (arith, kind-is (app x y) ts gs a))
        kept-is (call_event n x y) ts gs a = absurd a.plains.0.0
        kept-is (emit n x y) ts gs a = absurd a.plains.0.0
        kept-is (sum x y) ts gs a = absurd (omega (arith, kind-is (sum x y) ts gs a))
        kept-is (branch z x y) ts gs a = absurd (omega (arith, kind-is (branch z x y) ts gs a))

        -- A leaf that is no use.
        pub of-kept : Going s u o at t out st (i + 1) from (need - 1) d pos
        of-kept = split (Going s u o at t out st (i + 1) from (need - 1) d pos) l kept-is

      module _ (w : (record_number s i ≡ depth) × (kind_at s i ≡ 1)) where
        used : (P : Type 0) → ((n : ℕ) (ts : List Term) (gs : List (List Term)) → Now ((var n ∷ ts) ∷ gs) → n ≡ depth → P) → P
        used P f = split P l by
          where
            by : (x : Term) (ts : List Term) (gs : List (List Term)) → Now ((x ∷ ts) ∷ gs) → P
            by (var n) ts gs a = f n ts gs a (sym (number_is n ts gs a) ∙ w.0)
            by (fun n) ts gs a = absurd (omega (arith, kind-is (fun n) ts gs a))
            by (con n) ts gs a = absurd (omega (arith, kind-is (con n) ts gs a))
            by (lam n b) ts gs a = absurd (omega (arith, kind-is (lam n b) ts gs a))
            by (app x y) ts gs a = absurd (omega (arith, kind-is (app x y) ts gs a))
            by (call_event n x y) ts gs a = absurd a.plains.0.0
            by (emit n x y) ts gs a = absurd a.plains.0.0
            by (sum x y) ts gs a = absurd (omega (arith, kind-is (sum x y) ts gs a))
            by (branch z x y) ts gs a = absurd (omega (arith, kind-is (branch z x y) ts gs a))

        -- A use.
        pub of-use : (out' : List ℕ) (q : ℕ) → out' ≡ put out pos (piece s u from i) → q ≡ pos + length (piece s u from i) → q ≤ length o
            → (d : ℕ) → d ≡ closed st (need - 1) depth → Going s u o at t out' st (i + 1) (i + 1) (need - 1) d q
        of-use out' q p m r d e =
            used (Going s u o at t out' st (i + 1) (i + 1) (need - 1) d q)
            (λ n ts gs a v. shut out' st (i + 1) (i + 1) (need - 1) depth q ts gs (h.done ++ piece s u from i) d (at-use n ts gs a v out' q p m r) e)

        -- A use with no room for it.
        pub of-full : length o < pos + length (piece s u from i) → length o < 0 + length (copied 0 u t)
        of-full m = used (length o < 0 + length (copied 0 u t)) (λ n ts gs a v. use-full n ts gs a v m)

    -- No term is to come: what was passed and not yet written is all that is left.
    ended : need ≤ 0 → h.done ++ passed s from i ≡ copied 0 u t
    ended z = by h.groups h.here h.first
      where
        by : (gs : List (List Term)) → Now gs → Open gs → h.done ++ passed s from i ≡ copied 0 u t
        by [] a o = absurd o
        by ([] ∷ []) a o = ap (λ (x : List ℕ). h.done ++ x) (sym (append-nil (passed s from i))) ∙ a.all
        by ([] ∷ (g ∷ gs)) a o = absurd o
        by ((x ∷ ts) ∷ gs) a o = absurd (omega (arith, a.need-is))

    pub of_end : need ≤ 0 → (r : Option ℕ) (out' : List ℕ) → WrittenIs (passed s from i) out pos r out' → length out ≡ length o → WrittenIs (copied 0 u t) o 0 r out'
    of_end z (Some q) out' g k =
        let e = ended z in
        let a = h.here in
        let p : pos ≡ 0 + length h.done = omega (arith, a.pos-is) in
        let w : List ℕ = passed s from i in (
          omega (arith, ap length e, length-append h.done w),
          omega (arith, g.1, k),
          g.2 ∙ ap₂ (λ (x : List ℕ) (y : ℕ). put x y w) a.out-is p ∙ put-put o 0 h.done (omega (arith, a.room)) w ∙ ap (put o 0) e,
        )
    of_end z None out' g k =
        let e = ended z in
        (omega (arith, ap length e, length-append h.done (passed s from i), h.here.pos-is), g.1 ∙ k)

  -- The loop begins.
  pub started : (st : List ℕ) → Lies s at t → Fits t → 1024 ≤ length st → Going s u o at t o st at at 1 0 0
  started st h f k =
      let p = records-some t in
      let none : 8 * at - 8 * at ≡ 0 = omega arith in
      let b : 8 * (at + records t) ≤ length s =
      omega (arith, ap length h.bytes, length-drop (8 * at) s, length-append (encode t) (behind s at t), encode-length t, length-drop (8 * (at + records t)) s) in
      record {
        groups = (t ∷ []) ∷ [];
        done = [];
        here = record {
          depth_is = refl;
          need-is = refl;
          bytes-are = h.bytes ∙ ap (λ (x : List ℕ). x ++ behind s at t) (sym (append-nil (encode t ++ []) ∙ append-nil (encode t)));
          plains = ((plain t h.bare f, tt), tt);
          out-is = sym (put-none o 0);
          pos-is = refl;
          all = rw (none, part_none s (8 * at)) (append-nil (copied 0 u t ++ []) ∙ append-nil (copied 0 u t));
          stack = (tt, tt);
          room = omega arith;
          order = omega arith;
          begins = omega arith;
          within = omega arith;
          deep = omega arith;
          few = h.few;
          enough = b;
          high = k;
        };
        first = tt;
      }
