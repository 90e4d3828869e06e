-- `substitution::put` meets its contract: all of the bytes are written. Assumes nothing.
use mathlib.Core.List.{List, [], ◌∷◌}
use mathlib.Core.Path.{◌≡◌, refl, sym, ap, ◌∙◌}
use Prim.Native.Nat.{ℕ}
use native.Mathlib.Omega.{arith}
use lib.ListN.{length}
use Rattle.words.specs.Bytes.{bytes, part-all, bytes-part}
use Rattle.words.specs.Put.{put, put-none}
use Rattle.substitution.proofs.put.Goals as goal
use Rattle.substitution.proofs.put.Goals.{in-0, in-8, in_default}

nothing-put : (o : List ℕ) (p : ℕ) (xs : List ℕ) → length xs ≡ 0 → o ≡ put o p xs
nothing-put o p [] e = sym (put-none o p)
nothing-put o p (x ∷ xs) e = absurd (omega arith)

pub returns : goal.returns
returns c = (
  refl,
  omega arith,
  elim c.match-n.branch [
    | in-0 w ↦ w.out-is ∙ nothing-put _ _ _ w.in-0.is
    | in-8 w ↦ w.out-is
        ∙ w.write.ensures
        ∙ ap (put _ _) (ap (bytes 8) w.read.ensures ∙ bytes-part _ 0 8 (λ k. omega (arith, c.type_inv.bytes k)) (omega (arith, w.in-8.is)) ∙ part-all _ 8 (omega (arith, w.in-8.is)))
    | in_default w ↦ w.out-is ∙ (w.copy.ensures ∙ ap (put _ _) (part-all _ _ (omega arith)))
  ],
)
