-- The word for none is no record after a term. Assumes nothing.
use mathlib.Core.List.{List}
use mathlib.Core.Logic.{◌↔◌}
use mathlib.Core.Path.{◌≡◌, refl, ap}
use Prim.Native.Nat.{ℕ, ◌^◌, ◌<◌}
use native.Mathlib.Omega.{arith}
use lib.ListN.{length}
use Rattle.terms.specs.Walk.{pass_term}
use Rattle.std.specs.Prelude.{Option, Some, None}
use Rattle.terms.proofs.Pass.{pass-within}
use Rattle.answers.specs.Answers.{passed_word}

-- In a script that can be lent, it is answered exactly where no whole term begins.
pub no-term-exactly : (s : List ℕ) (i : ℕ) → length s < 2 ^ 64 → (passed_word (pass_term s i) ≡ 18446744073709551615) ↔ (pass_term s i ≡ None)
no-term-exactly s i l = (λ e. on (pass_term s i) refl e, λ e. ap passed_word e)
  where
    on : (p : Option ℕ) → pass_term s i ≡ p → passed_word p ≡ 18446744073709551615 → p ≡ None
    on (Some j) q e = let w = (pass-within s i j q).1 in absurd (omega arith)
    on None q e = refl
