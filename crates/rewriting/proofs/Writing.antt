-- The turns of the writing loop. Assumes nothing.
use mathlib.Core.List.{List, [], ◌++◌, append_assoc, append-nil}
use mathlib.Core.Path.{◌≡◌, refl, sym, ap, ◌∙◌}
use Prim.Native.Nat.{ℕ, suc, ◌+◌, ◌-◌, ◌*◌, ◌<◌, ◌≤◌}
use native.Mathlib.Omega.{arith}
use native.Mathlib.Nat.{sub-zero}
use lib.ListN.{length, length-append}
use Rattle.words.specs.Bytes.{part, part_none, part-append, part_length}
use Rattle.words.specs.Put.{put, put-none, put-put, put-length}
use Rattle.terms.specs.Record.{count, record_number}
use Rattle.rewriting.specs.Grown.{gain_at, commands, grown}
use Rattle.rewriting.proofs.Commands.{commands-none}

-- Two writes at the front, one after the other.
put_on : (old ds ws : List ℕ) {out out' : List ℕ} {at : ℕ} → out ≡ put old 0 ds → length ds ≡ at → at + length ws ≤ length old → out' ≡ put out at ws → out' ≡ put old 0 (ds ++ ws)
put_on old ds ws {at = at} e n l f =
    let q : at ≡ 0 + length ds = omega arith in
    f ∙ rw (e, q) (put-put old 0 ds (omega arith) ws)

-- The length of four lists in a row.
row-length : (a b c d : List ℕ) → length (a ++ (b ++ (c ++ d))) ≡ length a + (length b + (length c + length d))
row-length a b c d = omega (arith, length-append a (b ++ (c ++ d)), length-append b (c ++ d), length-append c d)

module _ (ms s old : List ℕ) where
  -- The records before i are written, all but those from byte `from` on.
  pub record Going (out : List ℕ) (from at i : ℕ) : Type 0 where
    pub done : List ℕ
    pub is : out ≡ put old 0 done
    pub size : length done ≡ at
    pub all : done ++ (part s from (8 * i - from) ++ grown ms s i (count s - i)) ≡ grown ms s 0 (count s)
    pub start : from ≤ 8 * i
    pub inside : i ≤ count s

  -- Nothing is written yet.
  pub begins : Going old 0 0 0
  begins = record { done = []; is = sym (put-none old 0); size = refl; all = rw (part_none s 0, sub-zero (count s)); start = omega arith; inside = omega arith }

  -- The output keeps its length.
  pub going-length : {out : List ℕ} {from at i : ℕ} → Going out from at i → length (grown ms s 0 (count s)) ≤ length old → length out ≡ length old
  going-length {from = from} {i = i} h fits =
      let n = length-append h.done (part s from (8 * i - from) ++ grown ms s i (count s - i)) in
      ap length h.is ∙ put-length old 0 h.done (omega (arith, ap length h.all))

  -- What is left, with one record more in the block.
  block_on : (from i : ℕ) → from ≤ 8 * i → i < count s
      → part s from (8 * i - from) ++ grown ms s i (count s - i)
      ≡ part s from (8 * (i + 1) - from) ++ (commands (gain_at ms s i) (record_number s i) ++ grown ms s (i + 1) (count s - (i + 1)))
  unfolding grown
  block_on from i l h =
      let n : count s - i ≡ suc (count s - (i + 1)) = omega arith in
      let q : 8 * (i + 1) - from ≡ (8 * i - from) + 8 = omega arith in
      let p : from + (8 * i - from) ≡ 8 * i = omega arith in
      rw (n, q, part-append s from (8 * i - from) 8, p)
      (sym (append_assoc (part s from (8 * i - from)) (part s (8 * i) 8) _))

  module _ {out : List ℕ} {from at i : ℕ} (h : Going out from at i) (l : i < count s) where
    -- What is written and what is left, with the commands of record i apart.
    turn : h.done ++ (part s from (8 * (i + 1) - from) ++ (commands (gain_at ms s i) (record_number s i) ++ grown ms s (i + 1) (count s - (i + 1)))) ≡ grown ms s 0 (count s)
    turn = ap (λ (x : List ℕ). h.done ++ x) (sym (block_on from i h.start l)) ∙ h.all

    -- How long the block is.
    block-length : length (part s from (8 * (i + 1) - from)) ≡ 8 * (i + 1) - from
    block-length = let p = h.start in part_length s from (8 * (i + 1) - from) (omega arith)

    -- There is room for the block and the commands after it.
    pub turn-fits : length (grown ms s 0 (count s)) ≤ length old → {m f : ℕ} → m ≡ gain_at ms s i → f ≡ record_number s i → at + (8 * (i + 1) - from) + length (commands m f) ≤ length out
    turn-fits fits is_m is_f =
        let c : List ℕ = commands (gain_at ms s i) (record_number s i) in
        let n = row-length h.done (part s from (8 * (i + 1) - from)) c (grown ms s (i + 1) (count s - (i + 1))) in
        rw (is_m, is_f) (omega (arith, ap length turn, n, block-length, h.size, going-length h fits))

    -- A record that gains nothing.
    pub goes_on : gain_at ms s i ≡ 0 → Going out from at (i + 1)
    goes_on z =
        record {
          done = h.done;
          is = h.is;
          size = h.size;
          all = rw (commands-none (gain_at ms s i) (record_number s i) z) at turn;
          start = let p = h.start in omega arith;
          inside = omega arith;
        }

    -- A record with commands after it: the block and the commands are written.
    pub writes-on : {m f p : ℕ} {out' out'' : List ℕ} → length (grown ms s 0 (count s)) ≤ length old → m ≡ gain_at ms s i → f ≡ record_number s i
        → out' ≡ put out at (part s from (8 * (i + 1) - from)) → out'' ≡ put out' (at + (8 * (i + 1) - from)) (commands m f)
        → p ≡ at + (8 * (i + 1) - from) + length (commands m f) → Going out'' (8 * (i + 1)) p (i + 1)
    writes-on {m} {f} {p} fits is_m is_f e e' q =
        let b : List ℕ = part s from (8 * (i + 1) - from) in
        let c : List ℕ = commands m f in
        let rest : List ℕ = grown ms s (i + 1) (count s - (i + 1)) in
        let w : h.done ++ (b ++ (c ++ rest)) ≡ grown ms s 0 (count s) = rw (is_m, is_f) turn in
        let n = row-length h.done b c rest in
        let k = ap length w in
        let z : 8 * (i + 1) - 8 * (i + 1) ≡ 0 = omega arith in
        let v : length (h.done ++ b) ≡ at + (8 * (i + 1) - from) = length-append h.done b ∙ omega (arith, block-length, h.size) in
        record {
          done = (h.done ++ b) ++ c;
          is = put_on old (h.done ++ b) c (put_on old h.done b h.is h.size (omega (arith, block-length, h.size)) e) v (omega (arith, block-length, h.size)) e';
          size = length-append (h.done ++ b) c ∙ omega arith;
          all = rw (z, part_none s (8 * (i + 1)), append_assoc (h.done ++ b) c rest, append_assoc h.done b (c ++ rest)) w;
          start = omega arith;
          inside = omega arith;
        }

  module _ {out : List ℕ} {from at i : ℕ} (h : Going out from at i) (l : count s ≤ i) (whole : length s ≡ 8 * count s) where
    -- The last block ends the whole.
    last : h.done ++ part s from (length s - from) ≡ grown ms s 0 (count s)
    unfolding grown
    last =
        let p = h.inside in
        let z : count s - i ≡ 0 = omega arith in
        let q : length s - from ≡ 8 * i - from = omega arith in
        let w : h.done ++ (part s from (8 * i - from) ++ []) ≡ grown ms s 0 (count s) = rw z at h.all in
        rw (q, ← (append-nil (part s from (8 * i - from)))) w

    -- How long it is.
    last-length : length (part s from (length s - from)) ≡ length s - from
    last-length = let p = h.start in let q = h.inside in part_length s from (length s - from) (omega arith)

    -- There is room for it.
    pub end_fits : length (grown ms s 0 (count s)) ≤ length old → at + (length s - from) ≤ length out
    end_fits fits = omega (arith, ap length last, length-append h.done (part s from (length s - from)), last-length, h.size, going-length h fits)

    -- Then all is written.
    pub ends : {out' : List ℕ} → length (grown ms s 0 (count s)) ≤ length old → out' ≡ put out at (part s from (length s - from)) → out' ≡ put old 0 (grown ms s 0 (count s))
    ends fits e = put_on old h.done (part s from (length s - from)) h.is h.size (omega (arith, end_fits fits, last-length, going-length h fits)) e ∙ ap (put old 0) last
